-- The lock list, lists of seats, and how often a seat counts in the lists.
use Rattle.std.specs.Prelude.{Bool, List, None, Option, [], false, if◌then◌else◌, nat_lt, not, sum_by, ℕ, ◌&&◌, ◌++◌, ◌+◌, ◌||◌, ◌∷◌, ◌≡◌, ◌⊎◌}
use Rattle.ns_word.specs.Names.{AtLock, AtVariables, Bits, Home, Lists, Mode, Waiter, Write, has_condition, has_some, is_eligible, is_long, times_in, writes}
use Rattle.std.specs.List.{list_any}

-- somebody stands in the list of whom this holds
abbrev pub HasOne : {A : Type 0} → (A → Type 0) → List A → Type 0
HasOne P [] = ⊥
HasOne P (x ∷ xs) = P x ⊎ HasOne P xs

-- the waiter waits to write, without condition
abbrev pub IsPlainWriter : {C : Type 0} → Waiter C → Type 0
IsPlainWriter w = (w.mode ≡ Write) × (w.cond ≡ None)

-- what the word tells of a lock list
abbrev pub bits_of : {C : Type 0} → List (Waiter C) → Bits
bits_of lock = record {
  waiting = has_some lock;
  conditional = list_any has_condition lock;
  writer_waits = list_any (λ w. writes w && not (has_condition w)) lock;
  long = list_any is_long lock;
}

-- some waiter has no condition, or one that is true
abbrev pub has_eligible : {C : Type 0} → (C → Bool) → List (Waiter C) → Bool
has_eligible meets [] = false
has_eligible meets (w ∷ ws) = is_eligible meets w || has_eligible meets ws

-- the list with one more waiter, which has failed so often: at the front or at the back
abbrev pub queued : {C : Type 0} → ℕ → Mode → Option C → ℕ → Bool → List (Waiter C) → List (Waiter C)
queued seat mode cond tries front lock =
    if front then record { seat = seat; mode = mode; cond = cond; tries = tries; via = None } ∷ lock
    else lock ++ record { seat = seat; mode = mode; cond = cond; tries = tries; via = None } ∷ []

-- whether a seat stands where a wait does that has this home: in the lock list, or in any variable's. Which variables' need not be asked: one that waits for some stands in the lists of just those, or in none (`VariablesTell`)
abbrev pub stands_at : {C : Type 0} → ℕ → Home → Lists C → Bool
stands_at seat AtLock lists = nat_lt 0 (times_in seat lists.lock)
stands_at seat (AtVariables variables) lists = nat_lt 0 (sum_by (times_in seat) lists.cvs)

-- how often a seat counts in the lists: as often as it stands in the lock's, and once if it stands in some variable's, in however many of those
abbrev pub counts_in : {C : Type 0} → ℕ → Lists C → ℕ
counts_in seat lists = times_in seat lists.lock + (if nat_lt 0 (sum_by (times_in seat) lists.cvs) then 1 else 0)
