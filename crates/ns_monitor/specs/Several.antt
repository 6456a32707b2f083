-- Waits for any of several condition variables, as their caller sees them: begun, still waiting, and come back.
use Rattle.std.specs.Prelude.{List, None, Option, Some, [], true, ℕ, ◌++◌, ◌<◌, ◌∷◌, ◌≡◌, ◌≤◌}
use Rattle.ns_monitor.specs.Names.{AfterAny, Any, AnyWait, AwaitWakeInWait, BeginsWith, Cvs, Event, Held, InHand, InWait, IsAtPlace, IsBack, IsLawful, IsTrueToHistory, Limits, LockState, Mode, OnVariables, SeatOf, SeatView, Truths, Wait, Walk, entry_of, is_in, leave_any_told, own_of, row_after}
use Rattle.ns_monitor.specs.Names.{section_of, the, wait_first}
use Rattle.ns_monitor.specs.Known.{Known}

-- What may end such a wait early: its caller, at any time. A deadline of 0 has always come.
abbrev pub at_will : Limits
at_will = record { deadline = Some 0; note = None }

-- what a wait in this mode is for any of these variables
abbrev pub waits_for_any : {C : Type 0} → Mode → Cvs → Wait C
waits_for_any mode cvs = record { mode = mode; on = OnVariables (Any cvs); limits = at_will }

-- such a wait, over a row of N cells
abbrev pub any_waiting : {C : Type 0} → ℕ → Mode → Cvs → Walk C
any_waiting N mode cvs = wait_first N (waits_for_any mode cvs)

-- some variables that there are
abbrev pub AreSome : Cvs → Type 0
AreSome cvs = (1 ≤ cvs.0) × (cvs.0 < 16)

-- what contracts see of a wait in progress: what its caller knows, and the variables
pub record WaitKnown (C : Type 0) (N : ℕ) : Type 0 where
  pub known : Known C N
  pub cvs : Cvs

-- what a seat has seen is a legal history by the seats that there are, in which its own events are just its own
abbrev pub HasSeenTrue : {C : Type 0} {N : ℕ} → Truths C → SeatOf C N → Type 0
HasSeenTrue truths me = IsTrueToHistory truths (the me.0).seat_count (the me.0).at.seat (the me.0).told.seen (the me.0).told.mine

-- the same, as contracts see it
abbrev pub KnowsTruly : {C : Type 0} {N : ℕ} → Truths C → Known C N → Type 0
KnowsTruly truths known = IsTrueToHistory truths known.seat_count known.seat known.seen known.mine

-- a seat waits so: it stands where it waits to be woken, and owes nobody a wake
pub record IsWaitingForAny {C : Type 0} {N : ℕ} (truths : Truths C) (mode : Mode) (cvs : Cvs) (me : SeatOf C N) : Type 0 where
  pub at : IsAtPlace truths (InWait (waits_for_any mode cvs) AwaitWakeInWait) me
  pub true_to : HasSeenTrue truths me
  pub owes : (the me.0).at.owed ≡ []
  pub are : AreSome cvs

-- The caller has begun to wait for these variables: the section that was in hand was committed, with the wait for them as its exit, and nothing else; nothing is in hand. What it has seen begins with
-- what it had seen, and is a legal history by the seats that there are, in which its own events are just its own. It has begun that call, in which it waits to be woken; and it owes no wake, and carries nothing.
pub record HasBegunToWait {C : Type 0} {N : ℕ} (truths : Truths C) (mode : Mode) (cvs : Cvs) (old : Known C N) (new : WaitKnown C N) : Type 0 where
  pub variables : new.cvs ≡ cvs
  pub monitor : new.known.monitor ≡ old.monitor
  pub seat_count : new.known.seat_count ≡ old.seat_count
  pub seat : new.known.seat ≡ old.seat
  pub begins : BeginsWith new.known.seen old.seen
  pub begun : new.known.begun ≡ old.begun ++ any_waiting N mode cvs ∷ []
  pub mine : InHand old.held (λ was. new.known.mine ≡ old.mine ++ section_of truths.holds old.seat was (AnyWait cvs) ∷ [])
  pub true_to : KnowsTruly truths new.known
  pub call : new.known.call ≡ Some (InWait (waits_for_any mode cvs) AwaitWakeInWait)
  pub held : new.known.held ≡ None
  pub owes : new.known.owed ≡ []
  pub empty : new.known.carries ≡ []

-- It waits on: nothing of it has changed but what it has seen, which is such a history.
pub record WaitsOn {C : Type 0} {N : ℕ} (truths : Truths C) (old new : WaitKnown C N) : Type 0 where
  pub variables : new.cvs ≡ old.cvs
  pub monitor : new.known.monitor ≡ old.known.monitor
  pub seat_count : new.known.seat_count ≡ old.known.seat_count
  pub seat : new.known.seat ≡ old.known.seat
  pub begins : BeginsWith new.known.seen old.known.seen
  pub begun : new.known.begun ≡ old.known.begun
  pub mine : new.known.mine ≡ old.known.mine
  pub true_to : KnowsTruly truths new.known
  pub call : new.known.call ≡ old.known.call
  pub held : new.known.held ≡ old.known.held
  pub owes : new.known.owed ≡ []
  pub empty : new.known.carries ≡ []

-- At one moment between what the caller had seen and what it has seen now, the lock was in a lawful state in which the caller stood where it waits, and nobody had woken it: its flag stood at 1. Its own events were just those that it had done.
pub record HasStoodUnwoken {C : Type 0} {N : ℕ} (truths : Truths C) (old new : Known C N) : Type 0 where
  pub history : List (Event C N)
  pub state : LockState C N
  pub lawful : IsLawful truths old.seat_count history state
  pub unwoken : state.flags old.seat ≡ 1
  pub after : BeginsWith history old.seen
  pub before : BeginsWith new.seen history
  pub own : own_of history old.seat ≡ old.mine
  pub front : List (SeatView C N)
  pub view : SeatView C N
  pub back : List (SeatView C N)
  pub there : state.views ≡ front ++ view ∷ back
  pub seat : view.seat ≡ old.seat
  pub stands : view.walk ≡ old.call

-- It waits still: it waits on, and nobody had woken it at some moment since.
pub record WaitsStill {C : Type 0} {N : ℕ} (truths : Truths C) (old new : WaitKnown C N) : Type 0 where
  pub on : WaitsOn truths old new
  pub stood : HasStoodUnwoken truths old.known new.known

-- one of the variables has woken it, or none has
abbrev pub IsByOneOf : Cvs → Option ℕ → Type 0
IsByOneOf cvs None = Unit {0}
IsByOneOf cvs (Some k) = is_in cvs k ≡ true

-- the section in hand is in this mode, at the row after all that its caller has seen, with nothing changed in it, and says just which variable has woken it, or that none has
pub record SaysWoken {C : Type 0} {N : ℕ} (truths : Truths C) (row : List ℕ) (mode : Mode) (by : Option ℕ) (back : Held C N) : Type 0 where
  pub begins : IsBack row mode back
  pub entry : entry_of truths.holds back.before back.entry ≡ AfterAny by

-- The wait is over: a wake of this variable, which is one of its own, has ended it, and nothing was committed since; or it was left before any wake took it, and that was committed, and nothing else.
-- A section is in hand that says so. What its caller has seen is a legal history by the seats that there are, in which its own events are just its own; it is in no call, and owes no wake, and carries nothing.
pub record HasComeBackFromAny {C : Type 0} {N : ℕ} (truths : Truths C) (mode : Mode) (by : Option ℕ) (old : WaitKnown C N) (new : Known C N) : Type 0 where
  pub monitor : new.monitor ≡ old.known.monitor
  pub seat_count : new.seat_count ≡ old.known.seat_count
  pub seat : new.seat ≡ old.known.seat
  pub begins : BeginsWith new.seen old.known.seen
  pub begun : new.begun ≡ old.known.begun
  pub mine : new.mine ≡ old.known.mine ++ leave_any_told old.known.seat old.cvs by
  pub among : IsByOneOf old.cvs by
  pub back : InHand new.held (SaysWoken truths (row_after new.seen) mode by)
  pub true_to : IsTrueToHistory truths new.seat_count new.seat new.seen new.mine
  pub over : new.call ≡ None
  pub owes : new.owed ≡ []
  pub empty : new.carries ≡ []
