-- Sets of condition variables, and which of them a wait is for.
use Rattle.std.specs.Prelude.{ℕ, ◌^◌, Bool, nat_lt, ◌==◌, ◌&&◌}
use Rattle.std.specs.Int.{bit_at}
use Rattle.ns_model.specs.declared.cvs.Cvs.{Cvs}
use Rattle.ns_model.specs.declared.cvs.Variables.{Variables}
use Rattle.ns_model.specs.declared.cvs.Variables.TheVariants.{Only, Any}

-- whether the variable is of the set: bit number `k` of its number is set
abbrev pub is_in : Cvs → ℕ → Bool
is_in cvs k = nat_lt k 8 && (bit_at cvs.0 k == 1)

-- whether a wait is for the variable
abbrev pub has : Variables → ℕ → Bool
has (Only j) k = j == k
has (Any cvs) k = is_in cvs k

-- whether it is for the variable and no other
abbrev pub is_just : Variables → ℕ → Bool
is_just (Only j) k = j == k
is_just (Any cvs) k = nat_lt k 8 && (cvs.0 == 2 ^ k)

-- whether it is for those of the set and no others
abbrev pub is_exactly : Variables → Cvs → Bool
is_exactly (Only j) cvs = nat_lt j 8 && (cvs.0 == 2 ^ j)
is_exactly (Any own) cvs = own.0 == cvs.0
