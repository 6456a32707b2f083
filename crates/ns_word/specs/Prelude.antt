-- The names that contracts, proofs and the crates above cite, passed on from one place. Declares nothing.
pub use Rattle.ns_word.specs.Answers.{cause_by, cause_kept, comes_back, has_come_back, is_back, place_cause_kept, place_has_come_back}
pub use Rattle.ns_word.specs.Asked.{asked_in_cells, asked_of, asked_to_judge}
pub use Rattle.ns_word.specs.Begins.{Begins, BeginsIf, IsFirst, IsForVariables, SeatStep, free_word, fresh_state, fresh_views, view_in}
pub use Rattle.ns_word.specs.Bits.{value_of_bit, word_with}
pub use Rattle.ns_word.specs.Codec.{IsBad, IsPackable, bit, is_set, number_of}
pub use Rattle.ns_word.specs.Courses.{AcquireSoFar, CallGoes, HasLeft, HasLookedFor, IsComing, KeptFits, QueuesAfter, QueuesSoFar, ReleaseSoFar, SignalSoFar, SoFar, TestsSoFar, WaitSoFar, course_after, left_by, looked_after}
pub use Rattle.ns_word.specs.Encoded.{encoded}
pub use Rattle.ns_word.specs.Finds.{IsLook, before_in, content_at, exchanged, found_of, owes_more, row_in, scanned}
pub use Rattle.ns_word.specs.Lawful.{AllFalseTrue, DesigOnItsWay, EachFits, HeldFits, IdleWaitersFalse, IsEither, IsExpected, IsLawful, IsNamed, IsToldSo, NamesOn, NobodyCouldGoOn, OneHistory, OneWriter, OwesAs, ReadersCounted, SectionFits, SpinHeldOnce, TakenTold, ToldOn, VariableWaiterFits}
pub use Rattle.ns_word.specs.Lawful.{VariablesTell, ViewFits, WaiterFits, WaiterNames, WaitersOwn, WaitersPlaced, WakeTells, WordsSeen, bits_in, cond_on, is_armed, is_unwoken, lock_stance, phase_before}
pub use Rattle.ns_word.specs.Lists.{HasOne, IsPlainWriter, bits_of, counts_in, has_eligible, queued, stands_at}
pub use Rattle.ns_word.specs.Meanings.{AnyWaitMeans, ConditionWaitMeans, Course, HasLocked, HasReleased, HasWoken, InHand, IsQuietSection, IsSaidBy, MayAnswer, MayEnd, Means, Unchanged, VariableWaitMeans, course_from, leave_any_told, leave_told, new_section}
pub use Rattle.ns_word.specs.Names.{Acquire, AcquireExchange, AcquireLoad, AcquirePlace, Act, Aim, Answer, Answered, Any, AnyWait, AreWaiting, Arm, ArmFlag, ArmToWait, Arrival, AsFresh, AsWoken, AtLock, AtVariables, Await, AwaitWake, AwaitWakeInWait, AwaitWakeToLeave, BeginsWith, Broadcasting, Busy}
pub use Rattle.ns_word.specs.Names.{CameBack, Canceled, Cause, Cell, CellPlace, Change, Cond, CondWait, Cv, CvWait, Cvs, Done, Ended, EntryFits, Event, Every, Exit, ExitFits, Expired, Flag, ForLock, ForWait, Found, Get, GetLoad, HaveSeats, Held, Home, Idle, InAcquire, InCells, InLeaving, InQueuing}
pub use Rattle.ns_word.specs.Names.{InRelease, InShow, InSignal, InTry, InWait, Is, IsBySeats, IsLegal, IsLegalEvent, IsLegalLeave, IsLegalLeaveAny, IsOrderly, IsQuiet, JudgeMet, JudgeQuiet, Judging, Leave, LeaveAny, LeaveLoad, LeavePlace, LeaveSelf, Left, Limits, Lists, Load, LoadCell, LoadFlag}
pub use Rattle.ns_word.specs.Names.{LoadToScan, LoadWord, Lock, Locked, Look, LookIn, LookOut, Looked, Made, Met, Mode, ModeFits, Next, Noisy, Notified, Number, On, OnCondition, OnEntry, OnReturn, OnVariables, Only, Opening, Outcome, Owed, Paid, Pay, PayInWait, PayTheWoken, PayWake, Phase, Plain}
pub use Rattle.ns_word.specs.Names.{Queue, QueuePlace, QueueSelf, QueueToWait, Quiet, QuietCells, QuietKeeps, QuietLast, QuietWriter, Read, Reader, Release, ReleaseExchange, ReleaseLoad, ReleasePlace, ReleaseReturning, Releasing, Reply, Request, ReturnQueues, ReturnShown, Saw, ScanAndRelease}
pub use Rattle.ns_word.specs.Names.{ScanCells, Scanned, SeatView, Seats, Set, SetLoad, SetStore, Show, ShowLoad, ShowPlace, SignalLoad, SignalPlace, Signaling, Standing, StoreCell, Subject, Succeeded, Take, TakeQueues, TakeToLeave, TakeToQueue, TakeToScan, TakeToShow, TakeToWake, Taking, TestCells}
pub use Rattle.ns_word.specs.Names.{TestLast, Tested, TimedOut, ToChange, ToQueue, ToRelease, ToTell, Truths, TryAcquire, TryLoad, TryLock, TryPlace, Variables, Visit, Wait, WaitFor, WaitPlace, WaitReturning, Waited, Waiter, Waiting, WaitsAmong, Wake, WakeAndReturn, WakeWaiters, Waking, Walk, Woke}
pub use Rattle.ns_word.specs.Names.{Woken, WokenBy, Word, Write, Writer, beside, cvs_without, first_row, first_standing, has, has_condition, has_some, is_eligible, is_in, is_limited, is_long, is_met, is_of, is_satisfied, is_waiting, is_write, left_of, left_phase, named_for, one_if, outside, own, phase_after}
pub use Rattle.ns_word.specs.Names.{phase_of, place_after, reads, row_after, seats_of, standing_after, standing_next, taken_set, tests_of, times, times_in, waiters_of, who_of, with_each, with_waiters, without, without_in, woken_of, woken_phase, woken_phases, writes}
pub use Rattle.ns_word.specs.Owed.{Tells, called_by, called_of, is_from_lock, times_among, value_of, variable_told, wake_by, wakes_of}
pub use Rattle.ns_word.specs.Places.{ActFits, AimFits, AreVariables, CanLeave, CanWait, CellFits, ComesBack, HasList, HasMode, IsForCondition, IsInRange, IsLeft, IsSettled, IsSettledBy, IsUnmet, MayWait, OwesOne, PlaceFits, QueueFits, ReleaseFits, Tests, WaitFits}
pub use Rattle.ns_word.specs.Progress.{cost_of, counts, steps_left}
pub use Rattle.ns_word.specs.Rests.{AllRest, HasReason, IsIdleLook, is_idle, rests_at}
pub use Rattle.ns_word.specs.Seen.{HasNumber, word_seen}
pub use Rattle.ns_word.specs.Stands.{AreCalled, IsFoundLeaving, QueuesFor, WaitsFor, waiter}
pub use Rattle.ns_word.specs.Steps.{Effect, LockState, MayShow, Part, Step, acquire_hand, change_commits, change_found, changed, entry_for, entry_of, exit_for, flags_with, held_after, held_by, in_hand, kept_by, leave_of, meets_at, moved_to, moves, newly_held, opening_by, opening_for, owed_after}
pub use Rattle.ns_word.specs.Steps.{part_of, release_hand, section_of, signal_hand, taken_by, wait_hand, waited_in, waits_at, wake_of, with_lock}
pub use Rattle.ns_word.specs.Told.{AreBy, IsLed, IsTold, LedBy, Told, calls_of, nothing_told, told_after, walk_over}
pub use Rattle.ns_word.specs.Turns.{Rounds, Run, Turn, counted, paid}
pub use Rattle.ns_word.specs.Views.{AreApart, AreNumbered, NoneIs, called_to, is_reading, is_writing, owed_in, owed_to, queuers, readers, takers, walk_at, writers}
pub use Rattle.ns_word.specs.Waits.{IsWokenBy, OutcomeFits, answer_of, answer_of_wait, arrival_of, cause_in, home_of, mode_for, outcome_taken, phase_by_wake, phase_for, phase_kept, variable_in, woken_by}
pub use Rattle.ns_word.specs.Walks.{Stance, acquire_by, acquire_has_queues, acquired_for, after_judging, armed_place, awaits, back_with, calls_from_lock, expected_for, first_for, got_acquiring, got_in_cells, got_leaving, got_of, got_queuing, got_releasing, got_showing, got_signaling, got_trying}
pub use Rattle.ns_word.specs.Walks.{got_waiting, has_armed, has_queues, is_arrival_woken, is_on_way, is_queuing, judge_of, leave_by, load_place, look_or_queue, pay_releasing, pay_waiting, pay_woken, pays, phase_by, place_awaits, queue_by, quiet_first, quiet_place, release_by, release_has_queues}
pub use Rattle.ns_word.specs.Walks.{reply_for, rest_or_look, scan_place, show_by, signal_by, test_place, unmet_by, wait_first, wait_has_queues, waits_in, want_acquiring, want_in_cells, want_leaving, want_of, want_queuing, want_releasing, want_showing, want_signaling, want_trying}
pub use Rattle.ns_word.specs.Walks.{want_waiting, was_woken}
pub use Rattle.ns_word.specs.Words.{is_held, is_woken, may_acquire, mode_released, needs_scan, releasing_of, tries_of, word_acquired, word_released, word_released_returning, word_returned, word_taken}
pub use Rattle.ns_word.specs.declared.number.Bit.{Bit}
unfoldable pub use Rattle.ns_word.specs.Codec.{word_of}
