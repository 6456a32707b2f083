-- What is counted over the seats' views, and one of them among the others.
use Rattle.std.specs.Prelude.{Bool, List, None, Option, Some, [], false, if◌then◌else◌, not, ℕ, ◌++◌, ◌+◌, ◌==◌, ◌∷◌, ◌≡◌, ◌≢◌}
use Rattle.ns_word.specs.Names.{Held, Owed, SeatView, Walk, is_write, one_if, total}
use Rattle.ns_word.specs.Owed.{times_among}
use Rattle.ns_word.specs.Walks.{has_queues, is_queuing, calls_from_lock}

-- whether the section in hand, if there is one, is a write section
abbrev pub is_writing : {C : Type 0} {N : ℕ} → Option (Held C N) → Bool
is_writing None = false
is_writing (Some held) = is_write held.mode

-- whether the section in hand, if there is one, is a read section
abbrev pub is_reading : {C : Type 0} {N : ℕ} → Option (Held C N) → Bool
is_reading None = false
is_reading (Some held) = not (is_write held.mode)

-- how many have a write section in hand
abbrev pub writers : {C : Type 0} {N : ℕ} → List (SeatView C N) → ℕ
writers views = total (λ view. one_if (is_writing view.held)) views

-- how many have a read section in hand
abbrev pub readers : {C : Type 0} {N : ℕ} → List (SeatView C N) → ℕ
readers views = total (λ view. one_if (is_reading view.held)) views

-- how many have the queues
abbrev pub takers : {C : Type 0} {N : ℕ} → List (SeatView C N) → ℕ
takers views = total (λ view. one_if (has_queues view.walk)) views

-- how many have taken the queues to queue without a condition
abbrev pub queuers : {C : Type 0} {N : ℕ} → List (SeatView C N) → ℕ
queuers views = total (λ view. one_if (is_queuing view.walk)) views

-- the wakes that are owed, by all seats
abbrev pub owed_in : {C : Type 0} {N : ℕ} → List (SeatView C N) → List Owed
owed_in [] = []
owed_in (view ∷ views) = view.owed ++ owed_in views

-- how many wakes a seat is owed, by all seats
abbrev pub owed_to : {C : Type 0} {N : ℕ} → ℕ → List (SeatView C N) → ℕ
owed_to seat views = total (λ view. times_among seat view.owed) views

-- how many of those are of a seat that was taken from the lock list
abbrev pub called_to : {C : Type 0} {N : ℕ} → ℕ → List (SeatView C N) → ℕ
called_to seat views = total (λ view. if calls_from_lock view.walk then times_among seat view.owed else 0) views

-- the place of a seat in its call
abbrev pub walk_at : {C : Type 0} {N : ℕ} → ℕ → List (SeatView C N) → Option (Walk C)
walk_at seat [] = None
walk_at seat (view ∷ views) = if view.seat == seat then view.walk else walk_at seat views

-- no number stands twice
abbrev pub NoneIs : {C : Type 0} {N : ℕ} → ℕ → List (SeatView C N) → Type 0
NoneIs seat [] = Unit {0}
NoneIs seat (view ∷ views) = (view.seat ≢ seat) × NoneIs seat views

-- no two views are the same seat's
abbrev pub AreApart : {C : Type 0} {N : ℕ} → List (SeatView C N) → Type 0
AreApart [] = Unit {0}
AreApart (view ∷ views) = NoneIs view.seat views × AreApart views

-- each view stands at its seat's number, counted from here on
abbrev pub AreNumbered : {C : Type 0} {N : ℕ} → ℕ → List (SeatView C N) → Type 0
AreNumbered first [] = Unit {0}
AreNumbered first (view ∷ views) = (view.seat ≡ first) × AreNumbered (first + 1) views
