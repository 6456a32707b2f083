-- What is to be known beside an act.
use Rattle.std.specs.Prelude.{List, None, Option, slice_index, slice_set, ℕ, ◌<◌, ◌≡◌}
use Rattle.ns_gate.specs.Names.{Acquire, Act, ArmFlag, Beside, Changed, IsPackable, JudgeMet, JudgeQuiet, LoadCell, LoadFlag, LoadWord, Look, MayShow, PayWake, Release, ReleaseReturning, Released, ReturnQueues, Returning, StoreCell, TakeQueues, Truths, WaitReturning, Waited, Walk, Word, before_in}
use Rattle.ns_gate.specs.Names.{owes_more, row_in}
use Rattle.ns_gate.specs.Calls.{SeatOf}
use Rattle.ns_gate.specs.Law.{GateView}
use Rattle.ns_gate.specs.Steps.{the, HasTurned, IsOwedNext, found_back}

-- The queues are in hand as they are put back for this, and what they then tell is known; the word last seen has a number.
pub record IsTurned {C : Type 0} {N : ℕ} (truths : Truths C) (returning : Returning C) (last : Word) (beside : Beside N) (me : SeatOf C N) : Type 0 where
  pub number : IsPackable last
  pub hand : HasTurned truths returning last beside.turned me
  pub finds : beside.finds ≡ found_back truths returning last me

-- the seat's own number is known
abbrev pub IsNumbered : {C : Type 0} {N : ℕ} → Beside N → GateView C N → Type 0
IsNumbered beside view = (beside.number ≡ view.at.seat) × (beside.number < 64)

-- the one is the other row, but for this cell
abbrev pub IsRowBut : ℕ → List ℕ → List ℕ → Type 0
IsRowBut i row whole = slice_set row i (slice_index whole i) ≡ whole

-- the act is an exchange of the lock word
abbrev pub IsOnWord : {C : Type 0} → Act C → Type 0
IsOnWord (Acquire aim arrival last) = Unit {0}
IsOnWord (TakeQueues taking last) = Unit {0}
IsOnWord (ReturnQueues change last) = Unit {0}
IsOnWord (Release releasing last) = Unit {0}
IsOnWord (ReleaseReturning releasing last) = Unit {0}
IsOnWord (WaitReturning wait again last) = Unit {0}
IsOnWord act = ⊥

-- What an act needs beside itself and the seat's number. None but loads begin a call.
abbrev pub Needs : {C : Type 0} {N : ℕ} → Truths C → Option (Walk C) → Act C → Beside N → SeatOf C N → Type 0
Needs truths begins LoadWord beside me = Unit {0}
Needs truths begins (Acquire aim arrival last) beside me = (begins ≡ None) × IsPackable last
Needs truths begins (TakeQueues taking last) beside me = (begins ≡ None) × IsPackable last
Needs truths begins (ReturnQueues change last) beside me = (begins ≡ None) × IsTurned truths (Changed change) last beside me
Needs truths begins (Release releasing last) beside me = (begins ≡ None) × IsPackable last
Needs truths begins (ReleaseReturning releasing last) beside me = (begins ≡ None) × IsTurned truths (Released releasing) last beside me
Needs truths begins (WaitReturning wait again last) beside me = (begins ≡ None) × IsTurned truths (Waited wait again) last beside me
Needs {C} {N} truths begins (LoadCell i) beside me = i < N
Needs {C} {N} truths begins (JudgeQuiet i) beside me = (i < N) × (beside.before ≡ before_in (the me.0).at.held) × IsRowBut i beside.row (row_in (the me.0).at.held)
Needs {C} {N} truths begins (JudgeMet i c) beside me = (i < N) × IsRowBut i beside.row (row_in (the me.0).at.held)
Needs {C} {N} truths begins (StoreCell i v) beside me = (begins ≡ None) × (i < N)
Needs truths begins ArmFlag beside me = begins ≡ None
Needs truths begins PayWake beside me = (begins ≡ None) × IsOwedNext beside.wake (the me.0).at.owed × (beside.wake.seat < 64) × (beside.finds ≡ owes_more (the me.0).at.owed)
Needs truths begins LoadFlag beside me = begins ≡ None
Needs truths begins (Look limits again) beside me = (begins ≡ None) × MayShow limits beside.shown
