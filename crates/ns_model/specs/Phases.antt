-- Where a seat stands between its sections.
use Rattle.std.specs.Prelude.{ℕ, ◌+◌, zero, suc, Bool, true, false, ◌&&◌, if◌then◌else◌}
use Rattle.std.specs.Bool.{beq}
use Rattle.ns_model.specs.declared.event.Mode.{Mode}
use Rattle.ns_model.specs.declared.event.Mode.TheVariants.{Write, Read}
use Rattle.ns_model.specs.Cvs.{has}
use Rattle.ns_model.specs.declared.phase.Phase.{Phase}
use Rattle.ns_model.specs.declared.phase.Phase.TheVariants.{Waiting, Woken, Left}

-- whether the mode is that of a writer
abbrev pub is_write : Mode → Bool
is_write Write = true
is_write Read = false

-- it waits for the variable k
abbrev pub is_waiting : {C : Type 0} → ℕ → Phase C → Bool
is_waiting k (Waiting variables mode) = has variables k
is_waiting k _ = false

-- it waits for the variable k, as a writer or as a reader
abbrev pub is_waiting_as : {C : Type 0} → Bool → ℕ → Phase C → Bool
is_waiting_as writes k (Waiting variables mode) = has variables k && beq writes (is_write mode)
is_waiting_as writes k _ = false

-- a wake of one that waits, by the variable k
abbrev pub woken_phase : {C : Type 0} → ℕ → Phase C → Phase C
woken_phase k (Waiting variables mode) = Woken k mode
woken_phase k phase = phase

-- one that waits leaves
abbrev pub left_phase : {C : Type 0} → Phase C → Phase C
left_phase (Waiting variables mode) = Left variables mode
left_phase phase = phase

-- how many numbers below n the test is true of
unfoldable pub count_below : ℕ → (ℕ → Bool) → ℕ
count_below zero test = 0
count_below (suc n) test = count_below n test + (if test n then 1 else 0)

-- how many of the seats 0 to n - 1 the test is true of, given its number and phase
abbrev pub count_seats : {C : Type 0} → ℕ → (ℕ → Phase C → Bool) → (ℕ → Phase C) → ℕ
count_seats n test phases = count_below n (λ seat. test seat (phases seat))
