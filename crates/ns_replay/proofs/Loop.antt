-- What a loop has read, and what it still reads.
use Rattle.ns_replay.specs.Prelude.{Fault, ◌>>=◌}
use Rattle.std.proofs.Common.{List, Ok, Result, ◌++◌}

-- what was read before, and what is still read
abbrev pub with_front : {B : Type 0} → List B → Result (List B) Fault → Result (List B) Fault
with_front front read = read >>= λ ys. Ok (front ++ ys)
