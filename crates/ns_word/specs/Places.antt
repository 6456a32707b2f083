-- What a place in a call needs of its seat, and what an act needs.
use Rattle.std.specs.Prelude.{Bool, IsSome, List, None, Option, Some, [], false, true, ℕ, ◌+◌, ◌<◌, ◌∷◌, ◌≡◌, ◌≤◌}
use Rattle.ns_word.specs.Names.{Acquire, AcquireExchange, AcquirePlace, Act, Aim, Any, ArmFlag, AsFresh, AwaitWake, CameBack, CellPlace, Change, Ended, ForLock, ForWait, GetLoad, Held, InAcquire, InCells, InLeaving, InQueuing, InRelease, InShow, InSignal, InTry, InWait, JudgeMet, JudgeQuiet}
use Rattle.ns_word.specs.Names.{LeavePlace, LeaveSelf, LoadCell, LoadFlag, LoadToScan, LoadWord, Locked, Look, LookIn, Mode, Nothing, OnCondition, OnEntry, OnReturn, OnVariables, Only, Opening, Outcome, Owed, Pay, PayWake, QueuePlace, QueueSelf, QuietCells, QuietLast, QuietWriter, Reader, Release}
use Rattle.ns_word.specs.Names.{ReleaseExchange, ReleaseLoad, ReleasePlace, ReleaseReturning, Releasing, ReturnQueues, ScanAndRelease, ScanCells, SetLoad, SetStore, ShowPlace, SignalPlace, StoreCell, Subject, Take, TakeQueues, TakeToLeave, TakeToQueue, TakeToScan, TakeToShow, TakeToWake, TestCells}
use Rattle.ns_word.specs.Names.{TestLast, Truths, TryAcquire, TryPlace, Variables, Visit, Wait, WaitPlace, WaitReturning, WakeWaiters, Walk, Woken, Write, Writer, times}
use Rattle.ns_word.specs.Words.{mode_released, may_acquire, needs_scan}
use Rattle.ns_word.specs.Waits.{OutcomeFits, cause_in, mode_for}
use Rattle.ns_word.specs.Answers.{place_cause_kept}
use Rattle.ns_word.specs.Steps.{MayShow, Part}

-- a section in this mode is in hand
abbrev pub HasMode : {C : Type 0} {N : ℕ} → Mode → Option (Held C N) → Type 0
HasMode mode None = ⊥
HasMode mode (Some held) = held.mode ≡ mode

-- How a section began is settled: it came back from no wait; or from one for a condition that something has ended, or whose condition is true of the row that the section began at; or from one for variables, and what came of that goes with them.
abbrev pub IsSettledBy : {C : Type 0} → (C → List ℕ → Bool) → List ℕ → Opening C → Type 0
IsSettledBy holds before (CameBack (OnCondition c) (Woken by)) = holds c before ≡ true
IsSettledBy {C} holds before (CameBack (OnVariables variables) outcome) = OutcomeFits {C = C} (OnVariables variables) outcome
IsSettledBy holds before Locked = Unit {0}
IsSettledBy holds before (CameBack (OnCondition c) (Ended cause)) = Unit {0}

-- so it is of the section in hand, if there is one; an open one isn't committed
abbrev pub IsSettled : {C : Type 0} {N : ℕ} → Truths C → Option (Held C N) → Type 0
IsSettled truths None = Unit {0}
IsSettled truths (Some held) = IsSettledBy truths.holds held.before held.entry

-- what is declared of the section that is left
abbrev pub IsLeft : {C : Type 0} {N : ℕ} → Truths C → Releasing → Held C N → Type 0
IsLeft truths QuietWriter held = truths.quiet held.before held.row ≡ true
IsLeft truths Writer held = Unit {0}
IsLeft truths Reader held = Unit {0}

-- a section that may be left so is in hand: in its mode, settled, and quiet where that is declared
abbrev pub CanLeave : {C : Type 0} {N : ℕ} → Truths C → Releasing → Option (Held C N) → Type 0
CanLeave truths releasing None = ⊥
CanLeave truths releasing (Some held) = (held.mode ≡ mode_released releasing) × IsLeft truths releasing held × IsSettledBy truths.holds held.before held.entry

-- the section in hand came back from this wait, and nothing has changed in it: it goes by what came of the wait
pub record ComesBack {C : Type 0} {N : ℕ} (wait : Wait C) (outcome : Outcome) (held : Held C N) : Type 0 where
  pub entry : held.entry ≡ CameBack wait.on outcome
  pub cells : held.row ≡ held.before
  pub fits : OutcomeFits wait.on outcome

-- the wait is for a condition
abbrev pub IsForCondition : {C : Type 0} → Subject C → Type 0
IsForCondition (OnCondition c) = Unit {0}
IsForCondition (OnVariables variables) = ⊥

-- variables that there are: one of a number below 4, or some of those
abbrev pub AreVariables : Variables → Type 0
AreVariables (Only k) = k < 4
AreVariables (Any cvs) = (1 ≤ cvs.0) × (cvs.0 < 16)

-- the wait's condition is false of a row, if it is for one; variables are ones that there are
abbrev pub IsUnmet : {C : Type 0} → Truths C → Subject C → List ℕ → Type 0
IsUnmet truths (OnCondition c) row = truths.holds c row ≡ false
IsUnmet truths (OnVariables variables) row = AreVariables variables

-- a wait tests its condition: as the call begins, or with the section that it came back with
abbrev pub Tests : {C : Type 0} {N : ℕ} → Truths C → Wait C → Visit → Option (Held C N) → Type 0
Tests truths wait visit None = ⊥
Tests truths wait OnEntry (Some held) = (held.mode ≡ wait.mode) × IsSettledBy truths.holds held.before held.entry
Tests truths wait (OnReturn outcome) (Some held) = (held.mode ≡ wait.mode) × ComesBack wait outcome held

-- a wait is about to queue: its condition, if it is for one, is false of the section in hand, which is settled, or which it came back with if it queues again
pub record MayWait {C : Type 0} {N : ℕ} (truths : Truths C) (wait : Wait C) (again : Bool) (held : Held C N) : Type 0 where
  pub mode : held.mode ≡ wait.mode
  pub unmet : IsUnmet truths wait.on held.row
  pub settled : again ≡ false → IsSettledBy truths.holds held.before held.entry
  pub back : again ≡ true → IsForCondition wait.on × ComesBack wait (Woken None) held

-- a wait that is about to queue has a section in its own mode, of whose row its condition is false; one that queues again has not changed the row
abbrev pub CanWait : {C : Type 0} {N : ℕ} → Truths C → Wait C → Bool → Option (Held C N) → Type 0
CanWait truths wait again None = ⊥
CanWait truths wait again (Some held) = MayWait truths wait again held

-- what came of a wait that comes back goes with what it is for, and it was ended only by a cause that it was given
abbrev pub AimFits : {C : Type 0} → Aim C → Type 0
AimFits (ForLock mode) = Unit {0}
AimFits (ForWait wait outcome) = OutcomeFits wait.on outcome × MayShow wait.limits (cause_in outcome)

-- what a try has seen
abbrev pub TryFits : Mode → TryPlace → Type 0
TryFits mode (TryAcquire last) = may_acquire mode AsFresh last ≡ true
TryFits mode place = Unit {0}

-- what an acquire has seen, and how often it has failed at most
abbrev pub AcquireFits : {C : Type 0} → Aim C → AcquirePlace → Type 0
AcquireFits aim (AcquireExchange arrival last) = may_acquire (mode_for aim) arrival last ≡ true
AcquireFits aim (TakeToQueue arrival last) = (last.spin ≡ false) × (may_acquire (mode_for aim) arrival last ≡ false)
AcquireFits aim (AwaitWake tries) = tries ≤ 30
AcquireFits aim place = Unit {0}

-- A release has its section in hand until it owes wakes alone.
abbrev pub ReleaseFits : {C : Type 0} {N : ℕ} → Truths C → Releasing → ReleasePlace → Option (Held C N) → Type 0
ReleaseFits truths releasing (ReleaseExchange last) held = CanLeave truths releasing held × (needs_scan releasing last ≡ false)
ReleaseFits truths releasing (TakeToScan last) held = CanLeave truths releasing held × (last.spin ≡ false) × (needs_scan releasing last ≡ true)
ReleaseFits {C} {N} truths releasing (ScanCells last i) held = CanLeave truths releasing held × (i < N)
ReleaseFits truths releasing Pay held = held ≡ None
ReleaseFits truths releasing ReleaseLoad held = CanLeave truths releasing held
ReleaseFits truths releasing (ScanAndRelease last) held = CanLeave truths releasing held

-- A call on the row has a section in hand, in write mode but for a read, and names a cell of it.
abbrev pub CellFits : {C : Type 0} {N : ℕ} → CellPlace → Option (Held C N) → Type 0
CellFits {C} {N} (GetLoad i) held = IsSome held × (i < N)
CellFits {C} {N} (SetLoad i v) held = HasMode Write held × (i < N)
CellFits {C} {N} (SetStore i v) held = HasMode Write held × (i < N)
CellFits {C} {N} (QuietCells judging i) held = HasMode Write held × (i + 1 < N)
CellFits {C} {N} (QuietLast judging i) held = HasMode Write held × (i + 1 ≡ N)

-- what a wait has seen that is about to queue; one for variables doesn't look then
abbrev pub QueueFits : {C : Type 0} → ℕ → Subject C → QueuePlace → Type 0
QueueFits N on LookIn = IsForCondition on
QueueFits N on (Take last) = last.spin ≡ false
QueueFits N on (LoadToScan last i) = i < N
QueueFits N on place = Unit {0}

-- variables that there are, if it is for variables
abbrev pub IsInRange : {C : Type 0} → Subject C → Type 0
IsInRange (OnCondition c) = Unit {0}
IsInRange (OnVariables variables) = AreVariables variables

-- what a call that wakes has seen
abbrev pub SignalFits : SignalPlace → Type 0
SignalFits (TakeToWake last) = last.spin ≡ false
SignalFits place = Unit {0}

-- what a call that shows has seen
abbrev pub ShowFits : ShowPlace → Type 0
ShowFits (TakeToShow last) = last.spin ≡ false
ShowFits place = Unit {0}

-- what a wait has seen that leaves
abbrev pub LeaveFits : LeavePlace → Type 0
LeaveFits (TakeToLeave last) = last.spin ≡ false
LeaveFits place = Unit {0}

-- A place in a wait goes with the section in hand, and with the word last seen.
abbrev pub WaitFits : {C : Type 0} {N : ℕ} → Truths C → Wait C → WaitPlace → Option (Held C N) → Type 0
WaitFits {C} {N} truths wait (TestCells visit i) held = Tests truths wait visit held × (i + 1 < N) × IsForCondition wait.on
WaitFits {C} {N} truths wait (TestLast visit i) held = Tests truths wait visit held × (i + 1 ≡ N) × IsForCondition wait.on
WaitFits {C} {N} truths wait (InQueuing again place) held = CanWait truths wait again held × QueueFits N wait.on place
WaitFits truths wait (InLeaving cause place) held = (held ≡ None) × LeaveFits place × IsInRange wait.on
WaitFits truths wait place held = (held ≡ None) × IsInRange wait.on

-- A place in a call goes with the section in hand, and with the word last seen; a wait keeps only a cause that it was given. Between calls the section in hand is settled.
abbrev pub PlaceFits : {C : Type 0} {N : ℕ} → Truths C → Option (Walk C) → Option (Held C N) → Type 0
PlaceFits truths None held = IsSettled truths held
PlaceFits truths (Some (InTry mode place)) held = (held ≡ None) × TryFits mode place
PlaceFits truths (Some (InAcquire aim place)) held = (held ≡ None) × AcquireFits aim place × AimFits aim
PlaceFits truths (Some (InRelease releasing place)) held = ReleaseFits truths releasing place held
PlaceFits truths (Some (InCells place)) held = CellFits place held × IsSettled truths held
PlaceFits truths (Some (InWait wait place)) held = WaitFits truths wait place held × MayShow wait.limits (place_cause_kept place)
PlaceFits truths (Some (InSignal waking k place)) held = SignalFits place × (k < 4) × IsSettled truths held
PlaceFits truths (Some (InShow place)) held = ShowFits place × IsSettled truths held

-- the lists that the walk names are ones that there are
abbrev pub HasList : {C : Type 0} → Walk C → Type 0
HasList (InWait wait place) = IsInRange wait.on
HasList (InSignal waking k place) = k < 4
HasList walk = Unit {0}

-- a wake is owed, to one of so many seats
abbrev pub OwesOne : ℕ → List Owed → Type 0
OwesOne seats [] = ⊥
OwesOne seats (wake ∷ rest) = wake.seat < seats

-- a seat that puts itself in stands nowhere yet, and a list is one that there is
abbrev pub ChangeFits : {C : Type 0} {N : ℕ} → ℕ → Change → Part C N → Type 0
ChangeFits seat (QueueSelf mode arrival) part = times seat part.lists ≡ 0
ChangeFits seat (WakeWaiters waking k) part = k < 4
ChangeFits seat (LeaveSelf home) part = Unit {0}
ChangeFits seat Nothing part = Unit {0}

-- What an act needs, that it may be made by one of so many seats on its part of the state.
abbrev pub ActFits : {C : Type 0} {N : ℕ} → Truths C → ℕ → ℕ → Act C → Part C N → Type 0
ActFits truths seats seat LoadWord part = Unit {0}
ActFits truths seats seat (Acquire aim arrival last) part = (part.held ≡ None) × (may_acquire (mode_for aim) arrival last ≡ true) × (part.word.readers < 64)
ActFits truths seats seat (TakeQueues taking last) part = last.spin ≡ false
ActFits truths seats seat (ReturnQueues change last) part = (seat < seats) × ChangeFits seat change part
ActFits truths seats seat (Release releasing last) part = CanLeave truths releasing part.held
ActFits truths seats seat (ReleaseReturning releasing last) part = CanLeave truths releasing part.held × (part.owed ≡ [])
ActFits truths seats seat (WaitReturning wait again last) part = CanWait truths wait again part.held × (part.owed ≡ []) × (seat < seats) × (times seat part.lists ≡ 0)
ActFits {C} {N} truths seats seat (LoadCell i) part = i < N
ActFits {C} {N} truths seats seat (JudgeQuiet i) part = HasMode Write part.held × (i < N)
ActFits {C} {N} truths seats seat (JudgeMet i c) part = IsSome part.held × (i < N)
ActFits {C} {N} truths seats seat (StoreCell i v) part = HasMode Write part.held × (i < N)
ActFits truths seats seat ArmFlag part = seat < seats
ActFits truths seats seat PayWake part = OwesOne seats part.owed
ActFits truths seats seat LoadFlag part = seat < seats
ActFits truths seats seat (Look limits again) part = Unit {0}
