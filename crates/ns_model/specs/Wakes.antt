-- Which wakes are legal. They are said by counts over the 64 seats, so that they are decidable as they stand; the program counts by one loop for whichever seats.
use Rattle.std.specs.Prelude.{◌≡◌, ℕ, min, Bool, true, false, not, ◌&&◌, ◌⊎◌}
use Rattle.ns_model.specs.Cvs.{is_just, is_exactly}
use Rattle.ns_model.specs.declared.cvs.Cvs.{Cvs}
use Rattle.ns_model.specs.declared.phase.Phase.{Phase}
use Rattle.ns_model.specs.declared.phase.Phase.TheVariants.{Waiting}
use Rattle.ns_model.specs.declared.seats.Seats.{Seats}
use Rattle.ns_model.specs.Seats.{is_in}
use Rattle.ns_model.specs.Phases.{is_waiting, is_waiting_as, count_seats}

-- how many of the woken don't wait for k
abbrev pub woken_strangers : {C : Type 0} → ℕ → Seats → (ℕ → Phase C) → ℕ
woken_strangers k woken phases = count_seats 64 (λ seat phase. is_in woken seat && not (is_waiting k phase)) phases

-- how many of those that wait for k aren't woken
abbrev pub left_waiting : {C : Type 0} → ℕ → Seats → (ℕ → Phase C) → ℕ
left_waiting k woken phases = count_seats 64 (λ seat phase. not (is_in woken seat) && is_waiting k phase) phases

-- how many wait for k as writers, or as readers
abbrev pub waiting_as : {C : Type 0} → Bool → ℕ → (ℕ → Phase C) → ℕ
waiting_as writes k phases = count_seats 64 (λ seat phase. is_waiting_as writes k phase) phases

-- how many of those are woken
abbrev pub woken_as : {C : Type 0} → Bool → ℕ → Seats → (ℕ → Phase C) → ℕ
woken_as writes k woken phases = count_seats 64 (λ seat phase. is_in woken seat && is_waiting_as writes k phase) phases

-- A signal wakes only who waits, and at least one if there is one: one writer alone; or every reader, and with them one of the writers, if there are any.
pub record IsLegalSignal {C : Type 0} (k : ℕ) (woken : Seats) (phases : ℕ → Phase C) : Type 0 where
  pub no_stranger : woken_strangers k woken phases ≡ 0
  pub chosen : ((woken_as true k woken phases ≡ 1) × (woken_as false k woken phases ≡ 0))
      ⊎ ((woken_as true k woken phases ≡ min (waiting_as true k phases) 1) × (woken_as false k woken phases ≡ waiting_as false k phases))

-- A broadcast wakes only who waits, and all of them.
pub record IsLegalBroadcast {C : Type 0} (k : ℕ) (woken : Seats) (phases : ℕ → Phase C) : Type 0 where
  pub no_stranger : woken_strangers k woken phases ≡ 0
  pub nobody_left : left_waiting k woken phases ≡ 0

-- Only one that waits for k and no other leaves it.
abbrev pub IsLegalLeave : {C : Type 0} → ℕ → Phase C → Type 0
IsLegalLeave k (Waiting variables mode) = is_just variables k ≡ true
IsLegalLeave k _ = ⊥

-- Only one that waits for these and no others leaves them.
abbrev pub IsLegalLeaveAny : {C : Type 0} → Cvs → Phase C → Type 0
IsLegalLeaveAny cvs (Waiting variables mode) = is_exactly variables cvs ≡ true
IsLegalLeaveAny cvs _ = ⊥
