-- When a test may make an act of a driven seat, and begin a call of it: what it asks as it runs.
use Rattle.std.specs.Prelude.{Bool, None, Option, Some, [], false, nat_le, nat_lt, not, true, ℕ, ◌&&◌, ◌==◌, ◌||◌, ◌∷◌}
use Rattle.ns_gate.specs.declared.perform.Beside.{Beside}
use Rattle.ns_gate.specs.Prelude.{Acquire, AcquireLoad, Act, ArmFlag, Cause, Expired, Found, GetLoad, InAcquire, InCells, InQueuing, InRelease, InShow, InSignal, InTry, InWait, JudgeMet, JudgeQuiet, Limits, Load, LoadCell, LoadFlag, LoadWord, Look, Mode, OnCondition, OnVariables, Owed, PayWake, Read, Reader, Release, SignalLoad, StoreCell, Subject, TakeQueues, TestLast, TryLoad, Walk, Word, Write, Writer}
use Rattle.ns_env.specs.declared.limits.Cause.TheVariants.{Notified}
use Rattle.ns_gate.specs.declared.queues.Turned.{Turned}
use Rattle.ns_model.specs.declared.cvs.Variables.TheVariants.{Only}
use Rattle.ns_word.specs.declared.cell_walk.CellPlace.TheVariants.{QuietLast, SetLoad}
use Rattle.ns_word.specs.declared.release_walk.ReleasePlace.TheVariants.{ReleaseLoad}
use Rattle.ns_word.specs.declared.show_walk.ShowPlace.TheVariants.{ShowLoad}
use Rattle.ns_word.specs.declared.wait.Aim.TheVariants.{ForLock}
use Rattle.ns_word.specs.declared.wait.Visit.TheVariants.{OnEntry}
use Rattle.ns_word.specs.declared.word.Arrival.TheVariants.{AsFresh}
use Rattle.std.specs.Option.{is_some}
use Rattle.ns_walk_tests.specs.declared.known.Known.{Known}
use Rattle.ns_walk_tests.specs.declared.known.Rows.TheVariants.{Are}
use Rattle.ns_walk_tests.specs.declared.known.Rows.{Rows}
use Rattle.ns_walk_tests.specs.declared.known.Section.{Section}

-- the cell as the section began, where it is known, by its rows
abbrev pub was_in : Rows → ℕ
was_in (Are before row) = before
was_in rows = 0

-- the cell as it stands, where it is known, by the section's rows
abbrev pub is_in : Rows → ℕ
is_in (Are before row) = row
is_in rows = 0

-- the cell as the section began that is in hand
abbrev pub was_known : Option Section → ℕ
was_known None = 0
was_known (Some section) = was_in section.rows

-- the cell as it stands in the section that is in hand
abbrev pub is_known : Option Section → ℕ
is_known None = 0
is_known (Some section) = is_in section.rows

-- the cell is known as it was and as it is
abbrev pub are_read : Rows → Bool
are_read (Are before row) = true
are_read rows = false

-- so it is of the section in hand
abbrev pub has_read : Option Section → Bool
has_read None = false
has_read (Some section) = are_read section.rows

-- the wake that is owed
abbrev pub owed_or_none : Option Owed → Owed
owed_or_none None = record { seat = 0; value = 0 }
owed_or_none (Some wake) = wake

-- what is told beside an act, where the hand has made this of the queues, and that is found once they are back
abbrev pub beside_of : Known → Turned → Found → Beside 1
beside_of known turned finds = record {
  number = known.number;
  before = was_known known.section ∷ [];
  row = is_known known.section ∷ [];
  shown = known.shown;
  turned = turned;
  wake = owed_or_none known.owed;
  finds = finds;
}

-- the word has a number
abbrev pub is_packable : Word → Bool
is_packable last = nat_le last.readers 64 && (not last.write || last.readers == 0)

-- the limits give what is shown
abbrev pub may_show : Limits → Option Cause → Bool
may_show limits None = true
may_show limits (Some Expired) = is_some limits.deadline
may_show limits (Some Notified) = is_some limits.note

-- An act may be made that puts no queues back: none but loads begin a call, a wake is one that is owed, and what is judged is known.
abbrev pub may_make : {C : Type 0} → Bool → Act C → Known → Bool
may_make begins LoadWord known = true
may_make begins (Acquire aim arrival last) known = not begins && is_packable last
may_make begins (TakeQueues taking last) known = not begins && is_packable last
may_make begins (Release releasing last) known = not begins && is_packable last
may_make begins (LoadCell i) known = nat_lt i 1
may_make begins (JudgeQuiet i) known = nat_lt i 1 && has_read known.section
may_make begins (JudgeMet i c) known = nat_lt i 1 && is_some known.section
may_make begins (StoreCell i v) known = not begins && nat_lt i 1
may_make begins ArmFlag known = not begins
may_make begins LoadFlag known = not begins
may_make begins PayWake known = not begins && is_some known.owed
may_make begins (Look limits again) known = not begins && may_show limits known.shown
may_make begins act known = false

-- the modes are one
abbrev pub is_same : Mode → Mode → Bool
is_same Write Write = true
is_same Read Read = true
is_same one other = false

-- the wait is for a condition
abbrev pub is_for_condition : {C : Type 0} → Subject C → Bool
is_for_condition (OnCondition c) = true
is_for_condition on = false

-- the wait is for one variable that there is
abbrev pub is_for_one : {C : Type 0} → Subject C → Bool
is_for_one (OnVariables (Only k)) = nat_lt k 4
is_for_one on = false

-- a seat without a section may begin this call
abbrev pub may_begin_free : {C : Type 0} → Walk C → Bool
may_begin_free (InTry mode TryLoad) = true
may_begin_free (InAcquire (ForLock mode) (AcquireLoad AsFresh)) = true
may_begin_free (InSignal waking k SignalLoad) = nat_lt k 4
may_begin_free (InShow ShowLoad) = true
may_begin_free walk = false

-- a seat with a section in this mode may begin this call
abbrev pub may_begin_in : {C : Type 0} → Walk C → Mode → Bool
may_begin_in (InRelease Writer ReleaseLoad) mode = is_same mode Write
may_begin_in (InRelease Reader ReleaseLoad) mode = is_same mode Read
may_begin_in (InCells (GetLoad i)) mode = nat_lt i 1
may_begin_in (InCells (SetLoad i v)) mode = is_same mode Write && nat_lt i 1
may_begin_in (InCells (QuietLast judging i)) mode = is_same mode Write && i == 0
may_begin_in (InWait wait (TestLast OnEntry i)) mode = is_same mode wait.mode && (i == 0 && is_for_condition wait.on)
may_begin_in (InWait wait (InQueuing false Load)) mode = is_same mode wait.mode && is_for_one wait.on
may_begin_in (InSignal waking k SignalLoad) mode = nat_lt k 4
may_begin_in (InShow ShowLoad) mode = true
may_begin_in walk mode = false

-- a seat of which this is known may begin the call
abbrev pub may_begin : {C : Type 0} → Walk C → Option Section → Bool
may_begin walk None = may_begin_free walk
may_begin walk (Some section) = may_begin_in walk section.mode

-- the wait is for a condition, or for one variable that there is
abbrev pub is_in_range : {C : Type 0} → Subject C → Bool
is_in_range on = is_for_condition on || is_for_one on
