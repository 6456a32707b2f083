-- What the answer of a call on the lock means. How a section is told in the history (`section_of`, `entry_of`) is the machine's; that it is told as it was, legality says.
use Rattle.std.specs.Prelude.{Bool, IsSome, List, None, Option, Some, [], false, slice_index, slice_set, true, ℕ, ◌∷◌, ◌≡◌, ◌⊎◌}
use Rattle.ns_word.specs.Names.{AfterAny, AfterCv, Answer, Answered, Any, AnyWait, Busy, Canceled, Cause, CondWait, CvWait, Cvs, Entry, Event, Expired, Held, Is, Limits, Locked, Met, Mode, Noisy, Notified, Number, OnCondition, OnVariables, Only, QuietWriter, Releasing, Reply, Request, Subject}
use Rattle.ns_word.specs.Names.{Succeeded, TimedOut, Truths, Variables, Waited, Waiter, Waking, WokenBy, is_met}
use Rattle.ns_model.specs.Cvs.{is_in}
use Rattle.ns_word.specs.Words.{mode_released}
use Rattle.ns_word.specs.Places.{IsLeft}
use Rattle.ns_word.specs.Steps.{MayShow, entry_of, section_of, taken_by, wake_of}
use Rattle.ns_model.specs.declared.event.Exit.TheVariants as TheExit
use Rattle.ns_model.specs.declared.event.Event.TheVariants as TheEvent
use Rattle.ns_word.specs.declared.request.Request.TheVariants as TheRequest

-- The course of a call: the section in hand as it began, what it has committed since, and what its last look has shown, if it has looked.
pub record Course (C : Type 0) (N : ℕ) : Type 0 where
  pub began : Option (Held C N)
  pub committed : List (Event C N)
  pub looked : Option (Option Cause)

-- a call that has made no step yet
abbrev pub course_from : {C : Type 0} {N : ℕ} → Option (Held C N) → Course C N
course_from held = record { began = held; committed = []; looked = None }

-- nothing has changed: the call has committed nothing, and the section in hand is the one that it began with
pub record Unchanged {C : Type 0} {N : ℕ} (course : Course C N) (held : Option (Held C N)) : Type 0 where
  pub same : held ≡ course.began
  pub silent : course.committed ≡ []

-- there is a section in hand, of which this holds
abbrev pub InHand : {C : Type 0} {N : ℕ} → Option (Held C N) → (Held C N → Type 0) → Type 0
InHand None P = ⊥
InHand (Some held) P = P held

-- ---- locks

-- a section that a call has just got: in this mode, at this row, said to begin plainly, and with nothing changed in it
abbrev pub new_section : {C : Type 0} {N : ℕ} → Mode → List ℕ → Held C N
new_section mode row = record { mode = mode; entry = Locked; before = row; row = row }

-- the lock was acquired, and a new section in the mode that was asked is in hand
pub record HasLocked {C : Type 0} {N : ℕ} (row : List ℕ) (mode : Mode) (course : Course C N) (held : Option (Held C N)) : Type 0 where
  pub section : held ≡ Some (new_section mode row)
  pub silent : course.committed ≡ []

-- ---- the row

-- a cell of the section that the call began with has been set to a value
pub record HasSet {C : Type 0} {N : ℕ} (i value : ℕ) (course : Course C N) (held : Option (Held C N)) : Type 0 where
  pub was : Held C N
  pub began : course.began ≡ Some was
  pub section : held ≡ Some (record was { row = slice_set was.row i value })
  pub silent : course.committed ≡ []

-- whether what the section in hand has changed since it began is quiet
abbrev pub IsQuietSection : {C : Type 0} {N : ℕ} → Truths C → Bool → Option (Held C N) → Type 0
IsQuietSection truths quiet held = InHand held (λ section. quiet ≡ truths.quiet section.before section.row)

-- ---- releases

-- the section that the call began with was committed, with its row as it left it, and nothing else; it isn't in hand any more. It was in the mode that the release is for, and quiet where that is declared
pub record HasReleased {C : Type 0} {N : ℕ} (truths : Truths C) (seat : ℕ) (releasing : Releasing) (course : Course C N) (held : Option (Held C N)) : Type 0 where
  pub was : Held C N
  pub began : course.began ≡ Some was
  pub mode : was.mode ≡ mode_released releasing
  pub declared : IsLeft truths releasing was
  pub left : held ≡ None
  pub committed : course.committed ≡ section_of truths.holds seat was TheExit.Plain ∷ []

-- ---- waits

-- A wait answers that it was ended early only by what it was given, and what its last look has shown.
abbrev pub MayAnswer : Limits → Option (Option Cause) → Answer → Type 0
MayAnswer limits looked Met = Unit {0}
MayAnswer limits looked TimedOut = IsSome limits.deadline × (looked ≡ Some (Some Expired))
MayAnswer limits looked Canceled = IsSome limits.note × (looked ≡ Some (Some Notified))

-- the section in hand is in this mode, and began at the row after the history, with nothing changed in it
pub record IsBack {C : Type 0} {N : ℕ} (row : List ℕ) (asked : Mode) (back : Held C N) : Type 0 where
  pub mode : back.mode ≡ asked
  pub before : back.before ≡ row
  pub cells : back.row ≡ row

-- a wait for a condition has left the section that it began with, whose row made the condition false, and has come back with another, which says just its answer
pub record HasWaited {C : Type 0} {N : ℕ} (truths : Truths C) (seat : ℕ) (row : List ℕ) (asked : Mode) (c : C) (course : Course C N) (answer : Answer) (back : Held C N) : Type 0 where
  pub was : Held C N
  pub began : course.began ≡ Some was
  pub mode : was.mode ≡ asked
  pub unmet : truths.holds c was.row ≡ false
  pub committed : course.committed ≡ section_of truths.holds seat was (CondWait c) ∷ []
  pub begins : IsBack row asked back
  pub entry : entry_of truths.holds back.before back.entry ≡ Waited c answer

-- A wait for a condition is over: a section in the mode in which it was called is in hand, and it answers that the condition was met exactly where it is true of that section's row. It has left no section, or has left one and come back.
pub record ConditionWaitMeans {C : Type 0} {N : ℕ} (truths : Truths C) (seat : ℕ) (row : List ℕ) (asked : Mode) (c : C) (limits : Limits) (course : Course C N) (answer : Answer) (back : Held C N) : Type 0 where
  pub mode : back.mode ≡ asked
  pub met : is_met answer ≡ truths.holds c back.row
  pub may : MayAnswer limits course.looked answer
  pub how : Unchanged course (Some back) ⊎ HasWaited truths seat row asked c course answer back

-- a wait for a variable that was ended early has told that it left; one that was woken, which is said by true, tells nothing
abbrev pub leave_told : {C : Type 0} {N : ℕ} → ℕ → ℕ → Bool → List (Event C N)
leave_told seat k true = []
leave_told seat k false = TheEvent.Leave seat k ∷ []

-- A wait for a variable is over: it has left the section that it began with, and has told that it left the variable exactly where it answers that it wasn't woken; it has come back with another section, which says just its answer.
pub record VariableWaitMeans {C : Type 0} {N : ℕ} (truths : Truths C) (seat : ℕ) (row : List ℕ) (asked : Mode) (k : ℕ) (limits : Limits) (course : Course C N) (answer : Answer) (back : Held C N) : Type 0 where
  pub was : Held C N
  pub began : course.began ≡ Some was
  pub mode : was.mode ≡ asked
  pub committed : course.committed ≡ section_of truths.holds seat was (CvWait k) ∷ leave_told seat k (is_met answer)
  pub may : MayAnswer limits course.looked answer
  pub begins : IsBack row asked back
  pub entry : entry_of truths.holds back.before back.entry ≡ AfterCv k answer

-- A wait for any variables of a set was ended, by a wake of one of them, or else by what it was given and its last look has shown.
abbrev pub MayEnd : Cvs → Limits → Option (Option Cause) → Option ℕ → Type 0
MayEnd cvs limits looked (Some k) = is_in cvs k ≡ true
MayEnd cvs limits looked None = (cause : Cause) × MayShow limits (Some cause) × (looked ≡ Some (Some cause))

-- such a wait that was ended early has told that it left; one that was woken tells nothing
abbrev pub leave_any_told : {C : Type 0} {N : ℕ} → ℕ → Cvs → Option ℕ → List (Event C N)
leave_any_told seat cvs (Some k) = []
leave_any_told seat cvs None = TheEvent.LeaveAny seat cvs ∷ []

-- A wait for any variables of a set is over: it has left the section that it began with, and has told that it left the set exactly where none of them woke it; it has come back with another section, which says just which of them has.
pub record AnyWaitMeans {C : Type 0} {N : ℕ} (truths : Truths C) (seat : ℕ) (row : List ℕ) (asked : Mode) (cvs : Cvs) (limits : Limits) (course : Course C N) (by : Option ℕ) (back : Held C N) : Type 0 where
  pub was : Held C N
  pub began : course.began ≡ Some was
  pub mode : was.mode ≡ asked
  pub committed : course.committed ≡ section_of truths.holds seat was (AnyWait cvs) ∷ leave_any_told seat cvs by
  pub may : MayEnd cvs limits course.looked by
  pub begins : IsBack row asked back
  pub entry : entry_of truths.holds back.before back.entry ≡ AfterAny by

-- a wait for a condition or for one variable is over
abbrev pub WaitMeans : {C : Type 0} {N : ℕ} → Truths C → ℕ → List ℕ → Mode → Subject C → Limits → Course C N → Answer → Held C N → Type 0
WaitMeans truths seat row mode (OnCondition c) limits course answer back = ConditionWaitMeans truths seat row mode c limits course answer back
WaitMeans truths seat row mode (OnVariables (Only k)) limits course answer back = VariableWaitMeans truths seat row mode k limits course answer back
WaitMeans truths seat row mode (OnVariables (Any cvs)) limits course answer back = ⊥

-- a wait for any of a set of variables is over, which nothing but the variable that woke it says
abbrev pub AnyMeans : {C : Type 0} {N : ℕ} → Truths C → ℕ → List ℕ → Mode → Subject C → Limits → Course C N → Option ℕ → Held C N → Type 0
AnyMeans truths seat row mode (OnVariables (Any cvs)) limits course by back = AnyWaitMeans truths seat row mode cvs limits course by back
AnyMeans truths seat row mode on limits course by back = ⊥

-- the entry says of a section that came back from a wait for these variables just what the wait has answered
abbrev pub IsSaidBy : {C : Type 0} → Variables → Reply → Entry C → Type 0
IsSaidBy (Only k) (Answered answer) entry = entry ≡ AfterCv k answer
IsSaidBy (Any cvs) (WokenBy by) entry = entry ≡ AfterAny by
IsSaidBy variables reply entry = ⊥

-- ---- calls that wake

-- one event was committed: whom the rule takes from some list of waiters. Which list that was, the law of the step says that takes them
pub record HasWoken {C : Type 0} {N : ℕ} (seat : ℕ) (waking : Waking) (k : ℕ) (course : Course C N) (held : Option (Held C N)) : Type 0 where
  pub same : held ≡ course.began
  pub waiters : List (Waiter C)
  pub committed : course.committed ≡ wake_of seat waking k (taken_by waking waiters) ∷ []

-- ---- every call

-- What an answer means of a call that was asked this, where the history has left this row: of the section in hand as the call began and as it is over, of what it has committed, and of what its looks have shown. A call has no other answers.
abbrev pub Means : {C : Type 0} {N : ℕ} → Truths C → ℕ → List ℕ → Request C → Course C N → Reply → Option (Held C N) → Type 0
Means truths seat row (TheRequest.Lock mode) course Succeeded held = HasLocked row mode course held
Means truths seat row (TheRequest.TryLock mode) course Succeeded held = HasLocked row mode course held
Means truths seat row (TheRequest.TryLock mode) course Busy held = Unchanged course held
Means truths seat row (TheRequest.Get i) course (Number value) held = Unchanged course held × InHand held (λ section. value ≡ slice_index section.row i)
Means truths seat row (TheRequest.Set i value) course Succeeded held = HasSet i value course held
Means truths seat row TheRequest.IsQuiet course (Is quiet) held = Unchanged course held × IsQuietSection truths quiet held
Means truths seat row (TheRequest.Release releasing) course Succeeded held = HasReleased truths seat releasing course held
Means truths seat row (TheRequest.Release QuietWriter) course Noisy held = Unchanged course held × IsQuietSection truths false held
Means truths seat row (TheRequest.Await wait) course (Answered answer) held = InHand held (λ back. WaitMeans truths seat row wait.mode wait.on wait.limits course answer back)
Means truths seat row (TheRequest.Await wait) course (WokenBy by) held = InHand held (λ back. AnyMeans truths seat row wait.mode wait.on wait.limits course by back)
Means truths seat row (TheRequest.Wake waking k) course Succeeded held = HasWoken seat waking k course held
Means truths seat row TheRequest.Show course Succeeded held = Unchanged course held
Means truths seat row request course reply held = ⊥
