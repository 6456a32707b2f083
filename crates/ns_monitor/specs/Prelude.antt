-- The names that contracts, proofs and the crates above cite, passed on from one place. Declares nothing.
pub use Rattle.ns_monitor.specs.Begun.{HasBegun}
pub use Rattle.ns_monitor.specs.Known.{AreNew, AreOfOneHistory, EndsAs, Grows, HasLearned, HasLocked, HasSeenMore, HasUnlocked, Known, known_of, new_seat}
pub use Rattle.ns_monitor.specs.Limits.{HasLookedOn, IsLooking, LookShows}
pub use Rattle.ns_monitor.specs.Looks.{may_show, none_shown, nothing_named, same_looker, shown_at_will, shown_since, still_looking, then_looker}
pub use Rattle.ns_monitor.specs.Names.{Acquire, AcquireLoad, Acquiring, Act, Aim, Answer, Answered, AnyWait, AnyWaitMeans, Arm, ArmFlag, ArmToWait, Arrival, AsFresh, Await, AwaitWake, AwaitWakeInWait, AwaitWakeToLeave, BeginsWith, Bits, Broadcasting, Busy, CameByGuess, CanLeave, CanStep, Canceled}
pub use Rattle.ns_monitor.specs.Names.{Bounded, HasComeBy, HasGuessedTo, HasMade, HasMadeSteps, HasTried, HasTurned, HasWorked, found_back}
pub use Rattle.ns_monitor.specs.Names.{Carries, Cause, Cell, CellFits, Change, Changed, Changing, CondWait, ConditionWaitMeans, Course, CvWait, Cvs, Done, Effect, Ended, EnvEvent, EnvKnown, Event, Expired, Flag, ForLock, ForWait, Found, GateView, Get, Going, HasAnswered, HasLeft, HasMode}
pub use Rattle.ns_monitor.specs.Names.{HasReached, HasSince, HasStepped, HasUnchangedQueues, HasWaited, Held, Home, Idle, InAcquire, InCells, InHand, InLeaving, InQueuing, InRelease, InShow, InSignal, InTry, InWait, Is, IsAtPlace, IsAtRest, IsFirst, IsForVariables, IsInRange, IsLawful, IsMade}
pub use Rattle.ns_monitor.specs.Names.{IsOrderly, IsOwedNext, IsPackable, IsQuiet, IsSettled, IsTold, IsWide, JudgeMet, JudgeQuiet, Leave, LeaveLoad, LeaveSelf, Leaving, Limits, Lists, Load, LoadCell, LoadFlag, LoadToScan, LoadWord, LockState, Look, LookIn, LookOut, Looked, Made, MayEnd, Met, Mode}
pub use Rattle.ns_monitor.specs.Names.{Next, Note, Notified, Number, On, OnCondition, OnEntry, OnReturn, OnVariables, Outcome, Owed, OwesBelow, Paid, Part, PayWake, Performed, PlaceFits, Queue, QueueSelf, QueueToWait, Quiet, QuietCells, QuietLast, QuietWriter, Read, Reader, Release, ReleaseLoad}
pub use Rattle.ns_monitor.specs.Names.{ReleaseReturning, Released, Releasing, Reply, Request, ReturnQueues, ReturnShown, Returning, Saw, ScanAndRelease, ScanCells, Scanning, SeatHasLearned, SeatOf, SeatView, SectionFits, Set, SetStore, ShowLoad, SignalLoad, Signaling, Sought, StoreCell, Subject}
pub use Rattle.ns_monitor.specs.Names.{Succeeded, TableId, TakeQueues, TakeToShow, Taking, TestCells, TestLast, Tested, Tests, TimedOut, ToChange, ToQueue, ToRelease, ToTell, ToWait, Told, Truths, TryAcquire, TryLock, Turned, Unchanged, VariableWaitMeans, Visit, Wait, WaitMeans, WaitReturning}
pub use Rattle.ns_monitor.specs.Names.{Waited, Waiter, WakeAndReturn, WakeWaiters, Waking, Walk, WantsNext, Woke, Woken, WokenBy, Word, Write, Writer, act_returning, answer_of, answer_of_wait, armed_place, arrival_of, asked_of, awaits, back_with, before_in, begins_with_reader, bits_of, called_by}
pub use Rattle.ns_monitor.specs.Names.{called_of, carried_by, change_found, changed, first_of, found_returned, fresh, fresh_seat, got_of, got_queuing, has_condition, has_queues, has_some, held_after, held_by, home_of, is_eligible, is_held, is_limited, is_met, is_satisfied, judge_of, leave_any_told}
pub use Rattle.ns_monitor.specs.Names.{leave_told, left_of, lists_returned, lists_scanned, lists_woken, load_place, look_or_queue, may_acquire, meets_at, mode_released, moves, new_section, outcome_taken, owed_woken, owes_more, own_of, part_of, pay_releasing, pay_waiting, pay_woken, pays}
pub use Rattle.ns_monitor.specs.Names.{place_after, quiet_place, reads, release_has_queues, request_for, rest, rest_of, rest_or_look, row_after, row_in, scan_place, scanned_writer, seats_of, section_of, show_by, some_returned, sought_at, standing_after, stands_at, taken_by, taken_from, taken_set}
pub use Rattle.ns_monitor.specs.Names.{test_place, the, times, tried, unmet_by, variable_in, view_in, wait_first, wait_has_queues, waits_at, wake_by, wake_of, wake_told, wakes_of, want_of, with_lock, woken_by, woken_nobody, woken_of, word_taken, writes}
pub use Rattle.ns_monitor.specs.Polls.{IfStill, IfWoken}
pub use Rattle.ns_monitor.specs.Saved.{AreSaved, HasSaved, IsFresh, IsFreshIn, IsQuietFor, saved_after, value_before}
pub use Rattle.ns_monitor.specs.Scans.{FindsReaders, HasScanned, MayEnter, MayScan, entered, paying_at, ready_at, returning_for}
pub use Rattle.ns_monitor.specs.Several.{AreSome, HasBegunToWait, HasComeBackFromAny, HasSeenTrue, HasStoodUnwoken, IsByOneOf, IsWaitingForAny, SaysWoken, WaitKnown, WaitsOn, WaitsStill, any_waiting, at_will, waits_for_any}
pub use Rattle.ns_monitor.specs.Shows.{HasStood, HasTakenToShow, ShowsState}
pub use Rattle.ns_monitor.specs.Standing.{AcquiresBy, Decides, HasSeenCleared, SleepsAt, GoesBy, HasMadeStepsTo, HasPaid, HasPutBack, IsWoken, PaysAt, PutsBackAt, HasAcquired, HasBegunBy, HasGoneBehind, HasInHand, HasTakenAt, IsNumberOf, MayGoAlone, OwesTheWoken, Pays, PutsBack, ReleasesBy, Sleeps, WentAtOnce, WentOrTook, going_act, going_at, going_of, gone_to, may_go, returning_at}
pub use Rattle.ns_monitor.specs.Standing.{returning_of, scanning_at, taken_at, taking_at, taking_for}
pub use Rattle.ns_monitor.specs.Tests.{AreRead, HasGone, HasLoaded, HasMadeReady, HasRow, HasTested, IsReady, MayTest, ScansAs, StandsAt, lacks_row, loading, loading_at, tested_by}
pub use Rattle.ns_monitor.specs.Variables.{HasComeBackFrom, HasWaitedForVariable, HasWoken, wake_event}
pub use Rattle.ns_monitor.specs.Waits.{EndedBy, HadLooked, HasComeBack, HasLeftToWait, HasStayed, HasWaitedFor, IfAnswered, IfEnded, QueuesOrEnds, WaitTells, WokenOrEnded}
pub use Rattle.ns_monitor.specs.Wakes.{HasReturnedWoken, HasTakenToWake, HasWokenInHand}
pub use Rattle.ns_monitor.specs.Walks.{getting, judging, limits_of, locking, queuing_first, releasing_by, setting, showing, trying, variable_waiting, waiting, waits_by, waits_for_variable, waking_by}
pub use Rattle.ns_word.specs.Prelude.{IsForCondition}
