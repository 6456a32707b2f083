-- How far the parts of a wait have come, and what it tells once it is over.
use Rattle.std.specs.Prelude.{Bool, Err, List, None, Ok, Option, Result, Some, [], false, ℕ, ◌++◌, ◌∷◌, ◌≡◌, ◌⊎◌}
use Rattle.ns_monitor.specs.Names.{Answer, Answered, Await, AwaitWakeInWait, Canceled, Cause, CondWait, Ended, EnvEvent, Expired, HasAnswered, Held, InHand, InLeaving, InQueuing, InWait, IsAtPlace, IsBack, LeaveLoad, Load, LookAnswers, Met, Note, Notified, Outcome, SeatOf}
use Rattle.ns_monitor.specs.Names.{TimedOut, Truths, Wait, Woken, answer_of, entry_of, is_met, row_after, section_of, the}
use Rattle.ns_model.specs.declared.event.Entry.TheVariants.{Waited}
use Rattle.ns_monitor.specs.Known.{Known}
use Rattle.ns_monitor.specs.Several.{HasSeenTrue}
use Rattle.ns_monitor.specs.Standing.{IsWoken}

-- this is so of what has ended a wait early, if anything has
abbrev pub IfEnded : Outcome → (Cause → Type 0) → Type 0
IfEnded (Woken by) so = Unit {0}
IfEnded (Ended cause) so = so cause

-- a wait has found this value in its flag, which isn't set any more, or its last look has shown this cause to leave
abbrev pub WokenOrEnded : {C : Type 0} {N : ℕ} → Truths C → Wait C → Result ℕ Cause → SeatOf C N → Type 0
WokenOrEnded truths wait (Ok flag) me = IsWoken truths (InWait wait AwaitWakeInWait) flag me
WokenOrEnded truths wait (Err cause) me = IsAtPlace truths (InWait wait (InLeaving cause LeaveLoad)) me

-- a wait has left its section: it waits to be woken, owes nobody a wake, and has seen a history in which its own events are just its own
pub record HasLeftToWait {C : Type 0} {N : ℕ} (truths : Truths C) (wait : Wait C) (me : SeatOf C N) : Type 0 where
  pub waits : IsAtPlace truths (InWait wait AwaitWakeInWait) me
  pub owes : (the me.0).at.owed ≡ []
  pub true_to : HasSeenTrue truths me

-- this is so of what a wait answers that has ended it early, if it answers that
abbrev pub IfAnswered : Answer → (Cause → Type 0) → Type 0
IfAnswered Met so = Unit {0}
IfAnswered TimedOut so = so Expired
IfAnswered Canceled so = so Notified

-- a wait that is about to queue goes on to it, with its section as it was, or its look has shown this cause, which it answers; one that begins leaves its section as it was then too
abbrev pub QueuesOrEnds : {C : Type 0} {N : ℕ} → Truths C → Wait C → Bool → Option Cause → SeatOf C N → SeatOf C N → Type 0
QueuesOrEnds truths wait again None me now = IsAtPlace truths (InWait wait (InQueuing again Load)) now × ((the now.0).at.held ≡ (the me.0).at.held)
QueuesOrEnds truths wait again (Some cause) me now = HasAnswered truths (Await wait) (Answered (answer_of cause)) now × (again ≡ false → (the now.0).at.held ≡ (the me.0).at.held)

-- ---- as its caller sees it

-- Nothing was released: the caller's own events and its section are as they were.
pub record HasStayed {C : Type 0} {N : ℕ} (old new : Known C N) : Type 0 where
  pub mine : new.mine ≡ old.mine
  pub held : new.held ≡ old.held

-- The section that was in hand, of whose row the condition was false, was committed, with the condition as its exit; and one in the same mode is in hand, at the row after all that the caller has seen, with nothing changed in it, which says just this answer of the wait.
pub record HasComeBack {C : Type 0} {N : ℕ} (truths : Truths C) (c : C) (answer : Answer) (was back : Held C N) (old new : Known C N) : Type 0 where
  pub unmet : truths.holds c was.row ≡ false
  pub mine : new.mine ≡ old.mine ++ section_of truths.holds old.seat was (CondWait c) ∷ []
  pub begins : IsBack (row_after new.seen) was.mode back
  pub entry : entry_of truths.holds back.before back.entry ≡ Waited c answer

-- A wait for a condition is over with this answer: a section in the same mode is in hand, and the answer is 'met' exactly where the condition is true of its row. Nothing was released, or the section was left and another came back.
pub record WaitTells {C : Type 0} {N : ℕ} (truths : Truths C) (c : C) (answer : Answer) (was back : Held C N) (old new : Known C N) : Type 0 where
  pub mode : back.mode ≡ was.mode
  pub met : is_met answer ≡ truths.holds c back.row
  pub how : HasStayed old new ⊎ HasComeBack truths c answer was back old new

-- the same of the sections in hand before and after
abbrev pub HasWaitedFor : {C : Type 0} {N : ℕ} → Truths C → C → Answer → Known C N → Known C N → Type 0
HasWaitedFor truths c answer old new = InHand old.held (λ was. InHand new.held (λ back. WaitTells truths c answer was back old new))

-- What ended a wait early, of the history of clock and notes that its seat had seen and the one that it has: a note that was given is notified, or a deadline that was given has come, at a point between, where the note wasn't notified.
abbrev pub EndedBy : Option Note → Option ℕ → List EnvEvent → List EnvEvent → Answer → Type 0
EndedBy given deadline old new Met = Unit {0}
EndedBy given deadline old new TimedOut = LookAnswers given deadline old new (Some TimedOut)
EndedBy given deadline old new Canceled = LookAnswers given deadline old new (Some Canceled)

-- A look at the note and the deadline that were given, if they were, has shown neither: at a point between, the note wasn't notified, and the deadline hadn't come.
pub record HadLooked (given : Option Note) (deadline : Option ℕ) (old new : List EnvEvent) : Type 0 where
  pub none : LookAnswers given deadline old new None
