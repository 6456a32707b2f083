-- Which histories are legal, and what they leave.
use Rattle.std.specs.Prelude.{ℕ, ◌<◌, Bool, ◌==◌, if◌then◌else◌, List, [], ◌∷◌, filter, replicate}
use Rattle.ns_model.specs.declared.event.Event.{Event}
use Rattle.ns_model.specs.declared.event.Event.TheVariants.{Section, Signal, Broadcast, Leave, LeaveAny}
use Rattle.ns_model.specs.declared.phase.Phase.{Phase}
use Rattle.ns_model.specs.declared.phase.Phase.TheVariants.{Idle}
use Rattle.ns_model.specs.Seats.{is_in}
use Rattle.ns_model.specs.Phases.{woken_phase, left_phase}
use Rattle.ns_model.specs.Sections.{IsLegalSection, phase_after}
use Rattle.ns_model.specs.Wakes.{IsLegalSignal, IsLegalBroadcast, IsLegalLeave, IsLegalLeaveAny}

-- What a history leaves: the row, and each seat's phase. The phases are a function and no list, since they have no order; that no other seat's phase changes is then one line.
pub record Standing (C : Type 0) : Type 0 where
  pub row : List ℕ
  pub phases : ℕ → Phase C

-- the first row
abbrev pub first_row : ℕ → List ℕ
first_row N = replicate N 0

-- before any event
abbrev pub first_standing : {C : Type 0} → ℕ → Standing C
first_standing N = record { row = first_row N; phases = λ seat. Idle }

-- the caller of an event
abbrev pub who_of : {C : Type 0} {N : ℕ} → Event C N → ℕ
who_of (Section who mode entry before after exit) = who
who_of (Signal who k woken) = who
who_of (Broadcast who k woken) = who
who_of (Leave who k) = who
who_of (LeaveAny who cvs) = who

-- the event is legal where the events before it have left this standing
abbrev pub IsLegalEvent : {C : Type 0} {N : ℕ} → (C → List ℕ → Bool) → Standing C → Event C N → Type 0
IsLegalEvent holds now (Section who mode entry before after exit) = (who < 64) × IsLegalSection holds now.row (now.phases who) mode entry before after exit
IsLegalEvent holds now (Signal who k woken) = (who < 64) × IsLegalSignal k woken now.phases
IsLegalEvent holds now (Broadcast who k woken) = (who < 64) × IsLegalBroadcast k woken now.phases
IsLegalEvent holds now (Leave who k) = (who < 64) × IsLegalLeave k (now.phases who)
IsLegalEvent holds now (LeaveAny who cvs) = (who < 64) × IsLegalLeaveAny cvs (now.phases who)

-- what the event leaves of the row
abbrev pub row_next : {C : Type 0} {N : ℕ} → List ℕ → Event C N → List ℕ
row_next row (Section who mode entry before after exit) = after
row_next row (Signal who k woken) = row
row_next row (Broadcast who k woken) = row
row_next row (Leave who k) = row
row_next row (LeaveAny who cvs) = row

-- what the event leaves of a seat's phase
abbrev pub phase_next : {C : Type 0} {N : ℕ} → ℕ → Phase C → Event C N → Phase C
phase_next seat phase (Section who mode entry before after exit) = if who == seat then phase_after mode exit else phase
phase_next seat phase (Signal who k woken) = if is_in woken seat then woken_phase k phase else phase
phase_next seat phase (Broadcast who k woken) = if is_in woken seat then woken_phase k phase else phase
phase_next seat phase (Leave who k) = if who == seat then left_phase phase else phase
phase_next seat phase (LeaveAny who cvs) = if who == seat then left_phase phase else phase

-- what the event leaves of a standing
abbrev pub standing_next : {C : Type 0} {N : ℕ} → Standing C → Event C N → Standing C
standing_next now event = record { row = row_next now.row event; phases = λ seat. phase_next seat (now.phases seat) event }

-- what events leave of a standing, one after another
abbrev pub standing_from : {C : Type 0} {N : ℕ} → Standing C → List (Event C N) → Standing C
standing_from now [] = now
standing_from now (event ∷ events) = standing_from (standing_next now event) events

-- each event is legal after those before it
abbrev pub IsLegalFrom : {C : Type 0} {N : ℕ} → (C → List ℕ → Bool) → Standing C → List (Event C N) → Type 0
IsLegalFrom holds now [] = Unit {0}
IsLegalFrom holds now (event ∷ events) = IsLegalEvent holds now event × IsLegalFrom holds (standing_next now event) events

-- A legal history.
abbrev pub IsLegal : {C : Type 0} {N : ℕ} → (C → List ℕ → Bool) → List (Event C N) → Type 0
IsLegal {C} {N} holds history = IsLegalFrom holds (first_standing N) history

-- what a history leaves
abbrev pub standing_after : {C : Type 0} {N : ℕ} → List (Event C N) → Standing C
standing_after {C} {N} history = standing_from (first_standing N) history

-- the row after a history: what its last section left, or the first row
abbrev pub row_after : {C : Type 0} {N : ℕ} → List (Event C N) → List ℕ
row_after history = (standing_after history).row

-- a seat's phase after a history
abbrev pub phase_of : {C : Type 0} {N : ℕ} → List (Event C N) → ℕ → Phase C
phase_of history seat = (standing_after history).phases seat

-- the events of a history whose caller is the seat
abbrev pub own : {C : Type 0} {N : ℕ} → List (Event C N) → ℕ → List (Event C N)
own history seat = filter (λ event. who_of event == seat) history

-- each caller of the history is one of so many seats
abbrev pub IsBySeats : {C : Type 0} {N : ℕ} → ℕ → List (Event C N) → Type 0
IsBySeats seats [] = Unit {0}
IsBySeats seats (event ∷ events) = (who_of event < seats) × IsBySeats seats events
