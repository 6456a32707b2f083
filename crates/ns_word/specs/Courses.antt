-- How far a call on the lock has come, at each of its places.
use Rattle.std.specs.Prelude.{Bool, List, None, Option, Some, [], false, true, ℕ, ◌++◌, ◌∷◌, ◌≡◌}
use Rattle.ns_word.specs.Names.{Aim, Any, Cause, Event, ForLock, ForWait, Found, Held, InAcquire, InLeaving, InQueuing, InRelease, InSignal, InWait, Limits, LookIn, Looked, Next, NextIs, OnCondition, OnEntry, OnReturn, OnVariables, Only, Outcome, Pay, PayTheWoken, QueuePlace, ReleasePlace}
use Rattle.ns_word.specs.Names.{Releasing, Reply, Request, SignalPlace, Subject, TestCells, TestLast, Truths, Visit, Wait, WaitPlace, Waking, Walk, is_limited}
use Rattle.ns_word.specs.Asked.{asked_of}
use Rattle.ns_word.specs.Waits.{cause_in}
use Rattle.ns_word.specs.Places.{IsUnmet}
use Rattle.ns_word.specs.Steps.{exit_for, section_of}
use Rattle.ns_word.specs.Meanings.{Course, HasReleased, HasWoken, Means, Unchanged}
use Rattle.ns_model.specs.declared.event.Event.TheVariants as TheEvent

-- ---- how a step takes a course on

-- what the last look has shown, after a step that found this
abbrev pub looked_after : Found → Option (Option Cause) → Option (Option Cause)
looked_after (Looked shown) before = Some shown
looked_after found before = before

-- the course after a step of the call's own that found this and committed these events
abbrev pub course_after : {C : Type 0} {N : ℕ} → Found → List (Event C N) → Course C N → Course C N
course_after found commits course = record { began = course.began; committed = course.committed ++ commits; looked = looked_after found course.looked }

-- ---- what a place tells

-- a wait for variables that leaves early has told so, once something has ended it
abbrev pub left_by : {C : Type 0} {N : ℕ} → ℕ → Subject C → Option Cause → List (Event C N)
left_by seat (OnVariables (Only k)) (Some cause) = TheEvent.Leave seat k ∷ []
left_by seat (OnVariables (Any cvs)) (Some cause) = TheEvent.LeaveAny seat cvs ∷ []
left_by seat on ended = []

-- A wait has left the section that the call began with, of whose row its condition was false, if it is for one: that was committed, with what it waits for as its exit, and nothing else but that it left its variables early.
pub record HasLeft {C : Type 0} {N : ℕ} (truths : Truths C) (seat : ℕ) (wait : Wait C) (ended : Option Cause) (course : Course C N) : Type 0 where
  pub was : Held C N
  pub began : course.began ≡ Some was
  pub mode : was.mode ≡ wait.mode
  pub unmet : IsUnmet truths wait.on was.row
  pub committed : course.committed ≡ section_of truths.holds seat was (exit_for wait.on) ∷ left_by seat wait.on ended

-- A cause that a place keeps is the one that the last look has shown; a place that keeps none says nothing of it. Only the last look's answer is kept, since a wait answers by that, and queues for a condition only behind a look that showed nothing.
abbrev pub KeptFits : Option (Option Cause) → Option Cause → Type 0
KeptFits looked None = Unit {0}
KeptFits looked (Some cause) = looked ≡ Some (Some cause)

-- a wait that something may end early has looked before it queues for a condition, and its last look showed nothing
abbrev pub HasLookedFor : {C : Type 0} → Subject C → Limits → Option (Option Cause) → Type 0
HasLookedFor (OnCondition c) limits looked = is_limited limits ≡ true → looked ≡ Some None
HasLookedFor (OnVariables variables) limits looked = Unit {0}

-- so it is at each place before it queues but the look itself
abbrev pub QueuesAfter : {C : Type 0} → Wait C → QueuePlace → Option (Option Cause) → Type 0
QueuesAfter wait LookIn looked = Unit {0}
QueuesAfter wait place looked = HasLookedFor wait.on wait.limits looked

-- the wait has come back, or is about to acquire so that it does, and this came of it
pub record IsComing {C : Type 0} {N : ℕ} (truths : Truths C) (seat : ℕ) (wait : Wait C) (outcome : Outcome) (course : Course C N) : Type 0 where
  pub left : HasLeft truths seat wait (cause_in outcome) course
  pub shown : KeptFits course.looked (cause_in outcome)

-- a wait tests its condition as the call begins, or after it came back
abbrev pub TestsSoFar : {C : Type 0} {N : ℕ} → Truths C → ℕ → Wait C → Visit → Course C N → Option (Held C N) → Type 0
TestsSoFar truths seat wait OnEntry course held = Unchanged course held
TestsSoFar truths seat wait (OnReturn outcome) course held = IsComing truths seat wait outcome course

-- a wait is about to queue for the first time, or again after it came back and found its condition false
abbrev pub QueuesSoFar : {C : Type 0} {N : ℕ} → Truths C → ℕ → Wait C → Bool → Course C N → Option (Held C N) → Type 0
QueuesSoFar truths seat wait false course held = Unchanged course held
QueuesSoFar truths seat wait true course held = HasLeft truths seat wait None course

-- a wait: before it has queued it has changed nothing, and from then on it has left its section; what ends it early its last look has shown
abbrev pub WaitSoFar : {C : Type 0} {N : ℕ} → Truths C → ℕ → Wait C → WaitPlace → Course C N → Option (Held C N) → Type 0
WaitSoFar truths seat wait (TestCells visit i) course held = TestsSoFar truths seat wait visit course held
WaitSoFar truths seat wait (TestLast visit i) course held = TestsSoFar truths seat wait visit course held
WaitSoFar truths seat wait (InQueuing again place) course held = QueuesSoFar truths seat wait again course held × QueuesAfter wait place course.looked
WaitSoFar truths seat wait (InLeaving cause place) course held = HasLeft truths seat wait None course × (course.looked ≡ Some (Some cause))
WaitSoFar truths seat wait place course held = HasLeft truths seat wait None course

-- an acquire for a lock has changed nothing; one for a wait comes back
abbrev pub AcquireSoFar : {C : Type 0} {N : ℕ} → Truths C → ℕ → Aim C → Course C N → Option (Held C N) → Type 0
AcquireSoFar truths seat (ForLock mode) course held = Unchanged course held
AcquireSoFar truths seat (ForWait wait outcome) course held = IsComing truths seat wait outcome course

-- a release has changed nothing until it owes wakes alone: then it has released
abbrev pub ReleaseSoFar : {C : Type 0} {N : ℕ} → Truths C → ℕ → Releasing → ReleasePlace → Course C N → Option (Held C N) → Type 0
ReleaseSoFar truths seat releasing Pay course held = HasReleased truths seat releasing course held
ReleaseSoFar truths seat releasing place course held = Unchanged course held

-- a call that wakes has changed nothing until it owes wakes alone: then it has committed its event
abbrev pub SignalSoFar : {C : Type 0} {N : ℕ} → ℕ → Waking → ℕ → SignalPlace → Course C N → Option (Held C N) → Type 0
SignalSoFar seat waking k PayTheWoken course held = HasWoken seat waking k course held
SignalSoFar seat waking k place course held = Unchanged course held

-- How far a call has come, by its place: before it commits anything it has changed nothing, and from then on the place tells what it has committed.
abbrev pub SoFar : {C : Type 0} {N : ℕ} → Truths C → ℕ → Course C N → Walk C → Option (Held C N) → Type 0
SoFar truths seat course (InAcquire aim place) held = AcquireSoFar truths seat aim course held
SoFar truths seat course (InRelease releasing place) held = ReleaseSoFar truths seat releasing place course held
SoFar truths seat course (InWait wait place) held = WaitSoFar truths seat wait place course held
SoFar truths seat course (InSignal waking k place) held = SignalSoFar seat waking k place course held
SoFar truths seat course walk held = Unchanged course held

-- ---- where a step leads

-- a call that goes on is still the one that was asked
pub record GoesOn {C : Type 0} {N : ℕ} (truths : Truths C) (seat : ℕ) (request : Request C) (course : Course C N) (walk : Walk C) (held : Option (Held C N)) : Type 0 where
  pub asked : asked_of walk ≡ request
  pub so_far : SoFar truths seat course walk held

-- where a step leads a call that was asked to do this: it goes on, whether or not the step found what to go on with, or its answer means what it says, where the history has left this row
abbrev pub CallGoes : {C : Type 0} {N : ℕ} → Truths C → ℕ → List ℕ → Request C → Course C N → Next (Walk C) Reply → Option (Held C N) → Type 0
CallGoes truths seat row request course next held = NextIs (λ walk. GoesOn truths seat request course walk held) (λ reply. Means truths seat row request course reply held) next
