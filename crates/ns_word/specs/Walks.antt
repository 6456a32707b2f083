-- What each place in a call wants next, where what its step found leads it, and what the place tells.
use Rattle.std.specs.Prelude.{Bool, None, Option, Some, false, if◌then◌else◌, is_some, nat_lt, not, true, ℕ, ◌&&◌, ◌+◌, ◌-◌, ◌==◌, ◌||◌}
use Rattle.ns_word.specs.Names.{Acquire, AcquireExchange, AcquireLoad, AcquirePlace, Act, Aim, Answered, Any, Arm, ArmFlag, ArmToWait, Arrival, AsFresh, AwaitWake, AwaitWakeInWait, AwaitWakeToLeave, Busy, Cause, Cell, CellPlace, Cond, Done, Ended, Flag, ForLock, ForWait, Found, GetLoad, Idle}
use Rattle.ns_word.specs.Names.{InAcquire, InCells, InLeaving, InQueuing, InRelease, InShow, InSignal, InTry, InWait, Is, JudgeMet, JudgeQuiet, Judging, Leave, LeaveLoad, LeavePlace, LeaveSelf, Left, Load, LoadCell, LoadFlag, LoadToScan, LoadWord, Look, LookIn, LookOut, Looked, Made, Met, Mode}
use Rattle.ns_word.specs.Names.{Next, Noisy, Nothing, Number, On, OnCondition, OnEntry, OnReturn, OnVariables, Only, Outcome, Paid, Pay, PayInWait, PayTheWoken, PayWake, Phase, Queue, QueuePlace, QueueSelf, QueueToWait, Quiet, QuietCells, QuietLast, QuietWriter, Release, ReleaseExchange}
use Rattle.ns_word.specs.Names.{ReleaseLoad, ReleasePlace, ReleaseReturning, Releasing, Reply, ReturnQueues, ReturnShown, Saw, ScanAndRelease, ScanCells, Scanned, SetLoad, SetStore, ShowLoad, ShowPlace, SignalLoad, SignalPlace, StoreCell, Subject, Succeeded, Take, TakeQueues, TakeToLeave}
use Rattle.ns_word.specs.Names.{TakeToQueue, TakeToScan, TakeToShow, TakeToWake, TestCells, TestLast, Tested, ToChange, ToQueue, ToRelease, ToTell, TryAcquire, TryLoad, TryPlace, Variables, Visit, Wait, WaitPlace, WaitReturning, Waiting, WakeAndReturn, WakeWaiters, Waking, Walk, Woke, Woken}
use Rattle.ns_word.specs.Names.{WokenBy, Word, is_limited}
use Rattle.ns_word.specs.Words.{is_woken, tries_of, may_acquire, needs_scan, word_taken}
use Rattle.ns_word.specs.Owed.{is_from_lock}
use Rattle.ns_word.specs.Waits.{answer_of, answer_of_wait, arrival_of, home_of, mode_for, outcome_taken, phase_for, variable_in, woken_by}
use Rattle.ns_model.specs.declared.phase.Phase.TheVariants as ThePhase

-- ---- what a place wants

-- the step that a try's place wants
abbrev pub want_trying : {C : Type 0} → Mode → TryPlace → Act C
want_trying mode TryLoad = LoadWord
want_trying mode (TryAcquire last) = Acquire (ForLock mode) AsFresh last

-- the step that an acquire's place wants
abbrev pub want_acquiring : {C : Type 0} → Aim C → AcquirePlace → Act C
want_acquiring aim (AcquireLoad arrival) = LoadWord
want_acquiring aim (AcquireExchange arrival last) = Acquire aim arrival last
want_acquiring aim (TakeToQueue arrival last) = TakeQueues (ToQueue (mode_for aim) arrival) last
want_acquiring aim (Arm arrival last) = ArmFlag
want_acquiring aim (Queue arrival last) = ReturnQueues (QueueSelf (mode_for aim) arrival) last
want_acquiring aim (AwaitWake tries) = LoadFlag

-- the step that a release's place wants
abbrev pub want_releasing : {C : Type 0} → Releasing → ReleasePlace → Act C
want_releasing releasing ReleaseLoad = LoadWord
want_releasing releasing (ReleaseExchange last) = Release releasing last
want_releasing releasing (TakeToScan last) = TakeQueues ToChange last
want_releasing releasing (ScanCells last i) = LoadCell i
want_releasing releasing (ScanAndRelease last) = ReleaseReturning releasing last
want_releasing releasing Pay = PayWake

-- the step that the place of a call on the row wants
abbrev pub want_in_cells : {C : Type 0} → CellPlace → Act C
want_in_cells (GetLoad i) = LoadCell i
want_in_cells (SetLoad i v) = LoadCell i
want_in_cells (SetStore i v) = StoreCell i v
want_in_cells (QuietCells judging i) = LoadCell i
want_in_cells (QuietLast judging i) = JudgeQuiet i

-- the step that a wait wants that is about to queue
abbrev pub want_queuing : {C : Type 0} → Wait C → Bool → QueuePlace → Act C
want_queuing wait again LookIn = Look wait.limits again
want_queuing wait again Load = LoadWord
want_queuing wait again (Take last) = TakeQueues ToChange last
want_queuing wait again (ArmToWait last) = ArmFlag
want_queuing wait again (LoadToScan last i) = LoadCell i
want_queuing wait again (QueueToWait last) = WaitReturning wait again last

-- the step that a wait wants that leaves
abbrev pub want_leaving : {C : Type 0} → Wait C → LeavePlace → Act C
want_leaving wait LeaveLoad = LoadWord
want_leaving wait (TakeToLeave last) = TakeQueues ToChange last
want_leaving wait (Leave last) = ReturnQueues (LeaveSelf (home_of wait.on)) last
want_leaving wait AwaitWakeToLeave = LoadFlag

-- the step that tells of a condition
abbrev pub judge_of : {C : Type 0} → Subject C → ℕ → Act C
judge_of (OnCondition c) i = JudgeMet i c
judge_of (OnVariables variables) i = LoadCell i

-- the step that the place of a wait wants
abbrev pub want_waiting : {C : Type 0} → Wait C → WaitPlace → Act C
want_waiting wait (TestCells visit i) = LoadCell i
want_waiting wait (TestLast visit i) = judge_of wait.on i
want_waiting wait (InQueuing again place) = want_queuing wait again place
want_waiting wait PayInWait = PayWake
want_waiting wait AwaitWakeInWait = LoadFlag
want_waiting wait LookOut = Look wait.limits false
want_waiting wait (InLeaving cause place) = want_leaving wait place

-- the step that a call wants that wakes
abbrev pub want_signaling : {C : Type 0} → Waking → ℕ → SignalPlace → Act C
want_signaling waking k SignalLoad = LoadWord
want_signaling waking k (TakeToWake last) = TakeQueues ToChange last
want_signaling waking k (WakeAndReturn last) = ReturnQueues (WakeWaiters waking k) last
want_signaling waking k PayTheWoken = PayWake

-- the step that a call wants that shows the lock
abbrev pub want_showing : {C : Type 0} → ShowPlace → Act C
want_showing ShowLoad = LoadWord
want_showing (TakeToShow last) = TakeQueues ToChange last
want_showing (ReturnShown last) = ReturnQueues Nothing last

-- the step that the place wants
abbrev pub want_of : {C : Type 0} → Walk C → Act C
want_of (InTry mode place) = want_trying mode place
want_of (InAcquire aim place) = want_acquiring aim place
want_of (InRelease releasing place) = want_releasing releasing place
want_of (InCells place) = want_in_cells place
want_of (InWait wait place) = want_waiting wait place
want_of (InSignal waking k place) = want_signaling waking k place
want_of (InShow place) = want_showing place

-- ---- the decisions

-- An acquire's decision by the word last seen: acquire if it may, else idle while another has the queues, else queue.
abbrev pub acquire_by : {C : Type 0} → Aim C → Arrival → Word → Next (Walk C) Reply
acquire_by aim arrival word =
    if may_acquire (mode_for aim) arrival word then On (InAcquire aim (AcquireExchange arrival word))
    else if word.spin then Idle (InAcquire aim (AcquireLoad arrival))
    else On (InAcquire aim (TakeToQueue arrival word))

-- A release's decision by the word last seen: release if no scan is needed, else idle while another has the queues, else scan.
abbrev pub release_by : {C : Type 0} → Releasing → Word → Next (Walk C) Reply
release_by releasing word =
    if not (needs_scan releasing word) then On (InRelease releasing (ReleaseExchange word))
    else if word.spin then Idle (InRelease releasing ReleaseLoad)
    else On (InRelease releasing (TakeToScan word))

-- where a call goes that judges the section and has loaded so many of N cells
abbrev pub quiet_place : ℕ → Judging → ℕ → CellPlace
quiet_place N judging loaded = if nat_lt loaded (N - 1) then QuietCells judging loaded else QuietLast judging (N - 1)

-- where it goes once it has judged the section
abbrev pub after_judging : {C : Type 0} → Judging → Bool → Next (Walk C) Reply
after_judging ToTell quiet = Done (Is quiet)
after_judging ToRelease quiet = if quiet then On (InRelease QuietWriter ReleaseLoad) else Done Noisy

-- where a release with the queues goes that has loaded so many of N cells
abbrev pub scan_place : ℕ → Word → ℕ → ReleasePlace
scan_place N last loaded = if nat_lt loaded N then ScanCells last loaded else ScanAndRelease last

-- where a release goes that owes wakes, or none
abbrev pub pay_releasing : {C : Type 0} → Releasing → Bool → Next (Walk C) Reply
pay_releasing releasing owes = if owes then On (InRelease releasing Pay) else Done Succeeded

-- where a wait goes that tests its condition and has loaded so many of N cells
abbrev pub test_place : {C : Type 0} → ℕ → Wait C → Visit → ℕ → Walk C
test_place N wait visit loaded = if nat_lt loaded (N - 1) then InWait wait (TestCells visit loaded) else InWait wait (TestLast visit (N - 1))

-- what a wait for these variables answers of which this came: one for a set tells which of them has woken it
abbrev pub reply_for : Variables → Outcome → Reply
reply_for (Only k) outcome = Answered (answer_of_wait outcome)
reply_for (Any cvs) outcome = WokenBy (variable_in outcome)

-- where a wait goes that has come back: one for a condition tests it, and one for variables is over
abbrev pub back_with : {C : Type 0} → ℕ → Subject C → Wait C → Outcome → Next (Walk C) Reply
back_with N (OnCondition c) wait outcome = On (test_place N wait (OnReturn outcome) 0)
back_with N (OnVariables variables) wait outcome = Done (reply_for variables outcome)

-- where an acquire goes that was made
abbrev pub acquired_for : {C : Type 0} → ℕ → Aim C → Next (Walk C) Reply
acquired_for N (ForLock mode) = Done Succeeded
acquired_for N (ForWait wait outcome) = back_with N wait.on wait outcome

-- a wait has to go on waiting, unless a look shows something
abbrev pub look_or_queue : {C : Type 0} → Wait C → Bool → Next (Walk C) Reply
look_or_queue wait again = if is_limited wait.limits then On (InWait wait (InQueuing again LookIn)) else On (InWait wait (InQueuing again Load))

-- where a wait goes whose condition is false: one that came back because it was ended early answers that
abbrev pub unmet_by : {C : Type 0} → Wait C → Visit → Next (Walk C) Reply
unmet_by wait OnEntry = look_or_queue wait false
unmet_by wait (OnReturn (Woken by)) = look_or_queue wait true
unmet_by wait (OnReturn (Ended cause)) = Done (Answered (answer_of cause))

-- where a wait that is about to queue goes by the word last seen
abbrev pub queue_by : {C : Type 0} → Wait C → Bool → Word → Next (Walk C) Reply
queue_by wait again word = if word.spin then Idle (InWait wait (InQueuing again Load)) else On (InWait wait (InQueuing again (Take word)))

-- where a wait with the queues goes that loads cells for its scan and has loaded so many of N
abbrev pub load_place : ℕ → Word → ℕ → QueuePlace
load_place N last loaded = if nat_lt loaded N then LoadToScan last loaded else QueueToWait last

-- where a wait goes that has the queues and has set its flag: one for variables loads the row where some waiter has a condition; another has loaded it
abbrev pub armed_place : {C : Type 0} → ℕ → Subject C → Word → QueuePlace
armed_place N (OnCondition c) last = QueueToWait last
armed_place N (OnVariables variables) last = if last.cond then load_place N last 0 else QueueToWait last

-- where a wait goes that has queued, and owes wakes or none
abbrev pub pay_waiting : {C : Type 0} → Wait C → Bool → Next (Walk C) Reply
pay_waiting wait owes = if owes then On (InWait wait PayInWait) else On (InWait wait AwaitWakeInWait)

-- where a wait goes that waits to be woken, and wasn't yet
abbrev pub rest_or_look : {C : Type 0} → Wait C → Next (Walk C) Reply
rest_or_look wait = if is_limited wait.limits then On (InWait wait LookOut) else Idle (InWait wait AwaitWakeInWait)

-- where a wait that leaves goes by the word last seen
abbrev pub leave_by : {C : Type 0} → Wait C → Cause → Word → Next (Walk C) Reply
leave_by wait cause word = if word.spin then Idle (InWait wait (InLeaving cause LeaveLoad)) else On (InWait wait (InLeaving cause (TakeToLeave word)))

-- the first place of a call that judges the section, over a row of N cells
abbrev pub quiet_first : {C : Type 0} → ℕ → Judging → Walk C
quiet_first N judging = InCells (quiet_place N judging 0)

-- where a call that wakes goes by the word last seen
abbrev pub signal_by : {C : Type 0} → Waking → ℕ → Word → Next (Walk C) Reply
signal_by waking k word = if word.spin then Idle (InSignal waking k SignalLoad) else On (InSignal waking k (TakeToWake word))

-- where a call that wakes goes that owes wakes, or none
abbrev pub pay_woken : {C : Type 0} → Waking → ℕ → Bool → Next (Walk C) Reply
pay_woken waking k owes = if owes then On (InSignal waking k PayTheWoken) else Done Succeeded

-- where a call that shows goes by the word last seen
abbrev pub show_by : {C : Type 0} → Word → Next (Walk C) Reply
show_by word = if word.spin then Idle (InShow ShowLoad) else On (InShow (TakeToShow word))

-- the first place of a wait for this: one for a condition tests it
abbrev pub first_for : {C : Type 0} → ℕ → Subject C → Wait C → Walk C
first_for N (OnCondition c) wait = test_place N wait OnEntry 0
first_for N (OnVariables variables) wait = InWait wait (InQueuing false Load)

-- the first place of a wait
abbrev pub wait_first : {C : Type 0} → ℕ → Wait C → Walk C
wait_first N wait = first_for N wait.on wait

-- ---- where what was found leads

-- where a try goes; here and in each group, what no step of the place finds leaves it there
abbrev pub got_trying : {C : Type 0} → Mode → TryPlace → Found → Next (Walk C) Reply
got_trying mode TryLoad (Saw word) = if may_acquire mode AsFresh word then On (InTry mode (TryAcquire word)) else Done Busy
got_trying mode (TryAcquire last) (Saw word) = Done Busy
got_trying mode (TryAcquire last) Made = Done Succeeded
got_trying mode place found = On (InTry mode place)

-- where an acquire goes
abbrev pub got_acquiring : {C : Type 0} → ℕ → Aim C → AcquirePlace → Found → Next (Walk C) Reply
got_acquiring N aim (AcquireLoad arrival) (Saw word) = acquire_by aim arrival word
got_acquiring N aim (AcquireExchange arrival last) (Saw word) = acquire_by aim arrival word
got_acquiring N aim (AcquireExchange arrival last) Made = acquired_for N aim
got_acquiring N aim (TakeToQueue arrival last) (Saw word) = acquire_by aim arrival word
got_acquiring N aim (TakeToQueue arrival last) Made = On (InAcquire aim (Arm arrival (word_taken (ToQueue (mode_for aim) arrival) last)))
got_acquiring N aim (Arm arrival last) Made = On (InAcquire aim (Queue arrival last))
got_acquiring N aim (Queue arrival last) (Saw word) = On (InAcquire aim (Queue arrival word))
got_acquiring N aim (Queue arrival last) Made = On (InAcquire aim (AwaitWake (tries_of arrival)))
got_acquiring N aim (AwaitWake tries) (Flag v) = if v == 1 then Idle (InAcquire aim (AwaitWake tries)) else On (InAcquire aim (AcquireLoad (arrival_of tries v)))
got_acquiring N aim place found = On (InAcquire aim place)

-- where a release goes
abbrev pub got_releasing : {C : Type 0} → ℕ → Releasing → ReleasePlace → Found → Next (Walk C) Reply
got_releasing N releasing ReleaseLoad (Saw word) = release_by releasing word
got_releasing N releasing (ReleaseExchange last) (Saw word) = release_by releasing word
got_releasing N releasing (ReleaseExchange last) Made = Done Succeeded
got_releasing N releasing (TakeToScan last) (Saw word) = release_by releasing word
got_releasing N releasing (TakeToScan last) Made =
    On (InRelease releasing (if last.cond then scan_place N (word_taken ToChange last) 0 else ScanAndRelease (word_taken ToChange last)))
got_releasing N releasing (ScanCells last i) (Cell v) = On (InRelease releasing (scan_place N last (i + 1)))
got_releasing N releasing (ScanAndRelease last) (Saw word) = On (InRelease releasing (ScanAndRelease word))
got_releasing N releasing (ScanAndRelease last) (Scanned owes tests) = pay_releasing releasing owes
got_releasing N releasing Pay (Paid owes) = pay_releasing releasing owes
got_releasing N releasing place found = On (InRelease releasing place)

-- where a call on the row goes
abbrev pub got_in_cells : {C : Type 0} → ℕ → CellPlace → Found → Next (Walk C) Reply
got_in_cells N (GetLoad i) (Cell v) = Done (Number v)
got_in_cells N (SetLoad i v) (Cell w) = On (InCells (SetStore i v))
got_in_cells N (SetStore i v) Made = Done Succeeded
got_in_cells N (QuietCells judging i) (Cell v) = On (InCells (quiet_place N judging (i + 1)))
got_in_cells N (QuietLast judging i) (Quiet is_quiet) = after_judging judging is_quiet
got_in_cells N place found = On (InCells place)

-- where a wait goes that is about to queue
abbrev pub got_queuing : {C : Type 0} → ℕ → Wait C → Bool → QueuePlace → Found → Next (Walk C) Reply
got_queuing N wait again LookIn (Looked None) = On (InWait wait (InQueuing again Load))
got_queuing N wait again LookIn (Looked (Some cause)) = Done (Answered (answer_of cause))
got_queuing N wait again Load (Saw word) = queue_by wait again word
got_queuing N wait again (Take last) (Saw word) = queue_by wait again word
got_queuing N wait again (Take last) Made = On (InWait wait (InQueuing again (ArmToWait (word_taken ToChange last))))
got_queuing N wait again (ArmToWait last) Made = On (InWait wait (InQueuing again (armed_place N wait.on last)))
got_queuing N wait again (LoadToScan last i) (Cell v) = On (InWait wait (InQueuing again (load_place N last (i + 1))))
got_queuing N wait again (QueueToWait last) (Saw word) = On (InWait wait (InQueuing again (QueueToWait word)))
got_queuing N wait again (QueueToWait last) (Scanned owes tests) = pay_waiting wait owes
got_queuing N wait again place found = On (InWait wait (InQueuing again place))

-- where a wait goes that leaves
abbrev pub got_leaving : {C : Type 0} → Wait C → Cause → LeavePlace → Found → Next (Walk C) Reply
got_leaving wait cause LeaveLoad (Saw word) = leave_by wait cause word
got_leaving wait cause (TakeToLeave last) (Saw word) = leave_by wait cause word
got_leaving wait cause (TakeToLeave last) Made = On (InWait wait (InLeaving cause (Leave (word_taken ToChange last))))
got_leaving wait cause (Leave last) (Saw word) = On (InWait wait (InLeaving cause (Leave word)))
got_leaving wait cause (Leave last) (Left stood) =
    if stood then On (InAcquire (ForWait wait (Ended cause)) (AcquireLoad AsFresh)) else On (InWait wait (InLeaving cause AwaitWakeToLeave))
got_leaving wait cause AwaitWakeToLeave (Flag v) =
    if v == 1 then Idle (InWait wait (InLeaving cause AwaitWakeToLeave)) else On (InAcquire (ForWait wait (outcome_taken wait.on cause v)) (AcquireLoad (arrival_of 0 v)))
got_leaving wait cause place found = On (InWait wait (InLeaving cause place))

-- where a wait goes
abbrev pub got_waiting : {C : Type 0} → ℕ → Wait C → WaitPlace → Found → Next (Walk C) Reply
got_waiting N wait (TestCells visit i) (Cell v) = On (test_place N wait visit (i + 1))
got_waiting N wait (TestLast visit i) (Tested is_met) = if is_met then Done (Answered Met) else unmet_by wait visit
got_waiting N wait (InQueuing again place) found = got_queuing N wait again place found
got_waiting N wait PayInWait (Paid owes) = pay_waiting wait owes
got_waiting N wait AwaitWakeInWait (Flag v) = if v == 1 then rest_or_look wait else On (InAcquire (ForWait wait (woken_by wait.on v)) (AcquireLoad (arrival_of 0 v)))
got_waiting N wait LookOut (Looked None) = Idle (InWait wait AwaitWakeInWait)
got_waiting N wait LookOut (Looked (Some cause)) = On (InWait wait (InLeaving cause LeaveLoad))
got_waiting N wait (InLeaving cause place) found = got_leaving wait cause place found
got_waiting N wait place found = On (InWait wait place)

-- where a call that wakes goes
abbrev pub got_signaling : {C : Type 0} → Waking → ℕ → SignalPlace → Found → Next (Walk C) Reply
got_signaling waking k SignalLoad (Saw word) = signal_by waking k word
got_signaling waking k (TakeToWake last) (Saw word) = signal_by waking k word
got_signaling waking k (TakeToWake last) Made = On (InSignal waking k (WakeAndReturn (word_taken ToChange last)))
got_signaling waking k (WakeAndReturn last) (Saw word) = On (InSignal waking k (WakeAndReturn word))
got_signaling waking k (WakeAndReturn last) (Woke owes) = pay_woken waking k owes
got_signaling waking k PayTheWoken (Paid owes) = pay_woken waking k owes
got_signaling waking k place found = On (InSignal waking k place)

-- where a call that shows goes
abbrev pub got_showing : {C : Type 0} → ShowPlace → Found → Next (Walk C) Reply
got_showing ShowLoad (Saw word) = show_by word
got_showing (TakeToShow last) (Saw word) = show_by word
got_showing (TakeToShow last) Made = On (InShow (ReturnShown (word_taken ToChange last)))
got_showing (ReturnShown last) (Saw word) = On (InShow (ReturnShown word))
got_showing (ReturnShown last) Made = Done Succeeded
got_showing place found = On (InShow place)

-- where a place goes with what its step found, over a row of N cells
abbrev pub got_of : {C : Type 0} → ℕ → Walk C → Found → Next (Walk C) Reply
got_of N (InTry mode place) found = got_trying mode place found
got_of N (InAcquire aim place) found = got_acquiring N aim place found
got_of N (InRelease releasing place) found = got_releasing N releasing place found
got_of N (InCells place) found = got_in_cells N place found
got_of N (InWait wait place) found = got_waiting N wait place found
got_of N (InSignal waking k place) found = got_signaling waking k place found
got_of N (InShow place) found = got_showing place found

-- ---- what a place in a call tells of its seat

-- how a seat waits: in which mode, what for, unless it is for the lock alone, and how often it has failed
pub record Stance (C : Type 0) : Type 0 where
  pub mode : Mode
  pub on : Option (Subject C)
  pub tries : ℕ

-- an acquire has the queues, to queue, which the word tells already
abbrev pub acquire_has_queues : AcquirePlace → Bool
acquire_has_queues (Arm arrival last) = true
acquire_has_queues (Queue arrival last) = true
acquire_has_queues place = false

-- a release has the queues
abbrev pub release_has_queues : ReleasePlace → Bool
release_has_queues (ScanCells last i) = true
release_has_queues (ScanAndRelease last) = true
release_has_queues place = false

-- a wait has the queues, to put itself in, or to take itself out
abbrev pub wait_has_queues : WaitPlace → Bool
wait_has_queues (InQueuing again (ArmToWait last)) = true
wait_has_queues (InQueuing again (LoadToScan last i)) = true
wait_has_queues (InQueuing again (QueueToWait last)) = true
wait_has_queues (InLeaving cause (Leave last)) = true
wait_has_queues place = false

-- a call that wakes has the queues
abbrev pub signal_has_queues : SignalPlace → Bool
signal_has_queues (WakeAndReturn last) = true
signal_has_queues place = false

-- a call that shows has the queues
abbrev pub show_has_queues : ShowPlace → Bool
show_has_queues (ReturnShown last) = true
show_has_queues place = false

-- it has the queues
abbrev pub has_queues : {C : Type 0} → Option (Walk C) → Bool
has_queues (Some (InAcquire aim place)) = acquire_has_queues place
has_queues (Some (InRelease releasing place)) = release_has_queues place
has_queues (Some (InWait wait place)) = wait_has_queues place
has_queues (Some (InSignal waking k place)) = signal_has_queues place
has_queues (Some (InShow place)) = show_has_queues place
has_queues walk = false

-- it has taken the queues to queue, which the word tells already, and doesn't stand in the list yet
abbrev pub is_queuing : {C : Type 0} → Option (Walk C) → Bool
is_queuing (Some (InAcquire aim place)) = acquire_has_queues place
is_queuing walk = false

-- it has set its flag, and doesn't stand in the list yet
abbrev pub has_armed : {C : Type 0} → Option (Walk C) → Bool
has_armed (Some (InAcquire aim (Queue arrival last))) = true
has_armed (Some (InWait wait (InQueuing again (LoadToScan last i)))) = true
has_armed (Some (InWait wait (InQueuing again (QueueToWait last)))) = true
has_armed walk = false

-- the wait stands in a list, or was taken from it and hasn't seen its flag cleared
abbrev pub place_awaits : WaitPlace → Bool
place_awaits PayInWait = true
place_awaits AwaitWakeInWait = true
place_awaits LookOut = true
place_awaits (InLeaving cause place) = true
place_awaits place = false

-- how it waits: it stands in a list, or was taken from it and hasn't seen its flag cleared
abbrev pub waits_in : {C : Type 0} → Option (Walk C) → Option (Stance C)
waits_in (Some (InAcquire aim (AwaitWake tries))) = Some (record { mode = mode_for aim; on = None; tries = tries })
waits_in (Some (InWait wait place)) = if place_awaits place then Some (record { mode = wait.mode; on = Some wait.on; tries = 0 }) else None
waits_in walk = None

-- whether a seat at the place waits: it has queued, and has not loaded its flag as clear nor taken itself out
abbrev pub awaits : {C : Type 0} → Option (Walk C) → Bool
awaits walk = is_some (waits_in walk)

-- it is about to pay a wake
abbrev pub pays : {C : Type 0} → Option (Walk C) → Bool
pays (Some (InRelease releasing Pay)) = true
pays (Some (InWait wait PayInWait)) = true
pays (Some (InSignal waking k PayTheWoken)) = true
pays walk = false

-- an acquire of one that was woken from the lock list, and has neither acquired nor taken the queues since
abbrev pub is_arrival_woken : AcquirePlace → Bool
is_arrival_woken (AcquireLoad arrival) = is_woken arrival
is_arrival_woken (AcquireExchange arrival last) = is_woken arrival
is_arrival_woken (TakeToQueue arrival last) = is_woken arrival
is_arrival_woken place = false

-- it was woken from the lock list, and has neither acquired nor taken the queues since
abbrev pub was_woken : {C : Type 0} → Option (Walk C) → Bool
was_woken (Some (InAcquire aim place)) = is_arrival_woken place
was_woken walk = false

-- whether the wakes that it pays are those of seats taken from the lock list
abbrev pub calls_from_lock : {C : Type 0} → Option (Walk C) → Bool
calls_from_lock (Some (InSignal waking k place)) = false
calls_from_lock walk = true

-- It was taken from the lock list, and neither acquired nor queued again after that: it acquires as woken, or waits, with its flag cleared so or so many wakes owed to it of seats that were taken there.
abbrev pub is_on_way : {C : Type 0} → Option (Walk C) → ℕ → ℕ → Bool
is_on_way walk flag owed = was_woken walk || (awaits walk && (is_from_lock flag || nat_lt 0 owed))

-- the phase of a seat with no section in hand, by its place; one that waits for variables may have been woken since
pub record Expected (C : Type 0) : Type 0 where
  pub phase : Phase C
  pub may_be_woken : Bool

abbrev pub expected_for : {C : Type 0} → Subject C → Mode → Expected C
expected_for (OnCondition c) mode = record { phase = Cond c mode; may_be_woken = false }
expected_for (OnVariables variables) mode = record { phase = Waiting variables mode; may_be_woken = true }

abbrev pub phase_by : {C : Type 0} → Option (Walk C) → Expected C
phase_by (Some (InAcquire aim place)) = record { phase = phase_for aim; may_be_woken = false }
phase_by (Some (InWait wait place)) = expected_for wait.on wait.mode
phase_by walk = record { phase = ThePhase.Idle; may_be_woken = false }
