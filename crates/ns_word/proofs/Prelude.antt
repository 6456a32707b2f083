-- The names that proofs cite, of specs and of what stands below, passed on from one place. Declares nothing.
pub use Rattle.ns_model.proofs.Histories.{legal_append, standing_from-append}
pub use Rattle.ns_model.proofs.Tallies.{every-append, every_join, every_map, every_parts, one_most, total_amid}
pub use Rattle.ns_model.specs.Tallies.{total}
pub use Rattle.ns_queue.proofs.Bounds.{list_small}
pub use Rattle.ns_queue.proofs.Outside.{broadcast_outside, gone_each, gone_outside, gone_those, signal_outside, times_outside}
pub use Rattle.ns_queue.proofs.Parts.{below_in, four_kept, lists_without, once_in, read_apart, read_back, times_at_most}
pub use Rattle.ns_queue.proofs.Seats.{few, none_without, own_times, room_for, times_in-append, times_in-cons}
pub use Rattle.ns_queue.proofs.Seeking.{goes_along}
pub use Rattle.ns_queue.proofs.Taken.{every_signaled, in_list, in_stands, not_in_list, times_signaled}
pub use Rattle.ns_queue.proofs.Vias.{every_filter, every_woken}
pub use Rattle.ns_queue.proofs.Wakes.{broadcast_legal, signal_legal, stands_waiting, stands_waits}
pub use Rattle.ns_queue.specs.Sizes.{queues_fit, row_small}
pub use Rattle.ns_word.specs.Asked.{request_for}
pub use Rattle.ns_word.specs.Meanings.{HasWaited, IsBack}
pub use Rattle.ns_word.specs.Prelude.{Acquire, AcquireExchange, AcquireLoad, AcquirePlace, AcquireSoFar, Act, ActFits, Aim, AimFits, AllFalseTrue, Answer, Answered, Any, AnyWait, AnyWaitMeans, AreApart, AreBy, AreCalled, AreNumbered, AreVariables, AreWaiting, Arm, ArmFlag, ArmToWait, Arrival}
pub use Rattle.ns_word.specs.Prelude.{AsFresh, AsWoken, AtLock, AtVariables, Await, AwaitWake, AwaitWakeInWait, AwaitWakeToLeave, Begins, BeginsIf, BeginsWith, Bit, Broadcasting, Busy, CallGoes, CameBack, CanLeave, CanWait, Canceled, Cause, Cell, CellFits, CellPlace, Change, ComesBack, Cond}
pub use Rattle.ns_word.specs.Prelude.{CondWait, ConditionWaitMeans, Course, Cv, CvWait, Cvs, DesigOnItsWay, Done, EachFits, Effect, Ended, EntryFits, Event, Every, Exit, ExitFits, Expired, Flag, ForLock, ForWait, Found, Get, GetLoad, HasLeft, HasList, HasLocked, HasLookedFor, HasMode, HasNumber}
pub use Rattle.ns_word.specs.Prelude.{HasOne, HasReleased, HasWoken, HaveSeats, Held, HeldFits, Home, Idle, IdleWaitersFalse, InAcquire, InCells, InHand, InLeaving, InQueuing, InRelease, InShow, InSignal, InTry, InWait, Is, IsBySeats, IsComing, IsEither, IsExpected, IsFirst, IsForCondition}
pub use Rattle.ns_word.specs.Prelude.{IsForVariables, IsFoundLeaving, IsInRange, IsLawful, IsLed, IsLeft, IsLegal, IsLegalEvent, IsLegalLeave, IsLegalLeaveAny, IsLook, IsNamed, IsOrderly, IsPackable, IsPlainWriter, IsQuiet, IsQuietSection, IsSaidBy, IsSettled, IsSettledBy, IsTold, IsToldSo, IsUnmet}
pub use Rattle.ns_word.specs.Prelude.{IsWokenBy, JudgeMet, JudgeQuiet, Judging, KeptFits, Leave, LeaveAny, LeaveLoad, LeavePlace, LeaveSelf, LedBy, Left, Limits, Lists, Load, LoadCell, LoadFlag, LoadToScan, LoadWord, Lock, LockState, Locked, Look, LookIn, LookOut, Looked, Made, MayAnswer, MayEnd}
pub use Rattle.ns_word.specs.Prelude.{MayShow, MayWait, Means, Met, Mode, ModeFits, NamesOn, Next, NobodyCouldGoOn, Noisy, NoneIs, Notified, Number, On, OnCondition, OnEntry, OnReturn, OnVariables, OneHistory, OneWriter, Only, Opening, Outcome, OutcomeFits, Owed, OwesAs, OwesOne, Paid, Part, Pay}
pub use Rattle.ns_word.specs.Prelude.{PayInWait, PayTheWoken, PayWake, Phase, PlaceFits, Plain, Queue, QueueFits, QueuePlace, QueueSelf, QueueToWait, QueuesAfter, QueuesFor, QueuesSoFar, Quiet, QuietCells, QuietKeeps, QuietLast, QuietWriter, Read, Reader, ReadersCounted, Release, ReleaseExchange}
pub use Rattle.ns_word.specs.Prelude.{ReleaseFits, ReleaseLoad, ReleasePlace, ReleaseReturning, ReleaseSoFar, Releasing, Reply, Request, ReturnQueues, ReturnShown, Saw, ScanAndRelease, ScanCells, Scanned, SeatStep, SeatView, Seats, SectionFits, Set, SetLoad, SetStore, Show, ShowLoad, ShowPlace}
pub use Rattle.ns_word.specs.Prelude.{SignalLoad, SignalPlace, SignalSoFar, Signaling, SoFar, SpinHeldOnce, Stance, Standing, Step, StoreCell, Subject, Succeeded, Take, TakeQueues, TakeToLeave, TakeToQueue, TakeToScan, TakeToShow, TakeToWake, TakenTold, Taking, Tells, TestCells, TestLast, Tested}
pub use Rattle.ns_word.specs.Prelude.{Tests, TestsSoFar, TimedOut, ToChange, ToQueue, ToRelease, ToTell, Told, ToldOn, Truths, TryAcquire, TryLoad, TryLock, TryPlace, Unchanged, VariableWaitMeans, VariableWaiterFits, Variables, VariablesTell, ViewFits, Visit, Wait, WaitFits, WaitFor, WaitPlace}
pub use Rattle.ns_word.specs.Prelude.{WaitReturning, WaitSoFar, Waited, Waiter, WaiterFits, WaiterNames, WaitersOwn, WaitersPlaced, Waiting, WaitsAmong, WaitsFor, Wake, WakeAndReturn, WakeTells, WakeWaiters, Waking, Walk, Woke, Woken, WokenBy, Word, WordsSeen, Write, Writer, acquire_by}
pub use Rattle.ns_word.specs.Prelude.{acquired_for, after_judging, answer_of, answer_of_wait, armed_place, arrival_of, asked_in_cells, asked_of, asked_to_judge, awaits, back_with, before_in, beside, bit, bits_in, bits_of, called_by, called_of, called_to, calls_from_lock, calls_of, cause_by}
pub use Rattle.ns_word.specs.Prelude.{cause_in, cause_kept, change_commits, change_found, changed, comes_back, cond_on, content_at, counts_in, course_after, course_from, cvs_without, encoded, entry_for, entry_of, exchanged, exit_for, expected_for, first_for, first_row, first_standing, flags_with}
pub use Rattle.ns_word.specs.Prelude.{found_of, fresh_state, fresh_views, got_acquiring, got_in_cells, got_leaving, got_of, got_queuing, got_releasing, got_showing, got_signaling, got_trying, got_waiting, has, has_armed, has_come_back, has_condition, has_eligible, has_queues, has_some, held_after}
pub use Rattle.ns_word.specs.Prelude.{home_of, is_armed, is_arrival_woken, is_back, is_eligible, is_from_lock, is_held, is_in, is_limited, is_long, is_met, is_of, is_on_way, is_queuing, is_reading, is_satisfied, is_set, is_unwoken, is_waiting, is_woken, is_write, is_writing, judge_of, kept_by}
pub use Rattle.ns_word.specs.Prelude.{leave_any_told, leave_by, leave_of, leave_told, left_by, left_of, left_phase, load_place, lock_stance, look_or_queue, looked_after, may_acquire, meets_at, mode_for, mode_released, moved_to, moves, named_for, needs_scan, new_section, newly_held, nothing_told}
pub use Rattle.ns_word.specs.Prelude.{number_of, one_if, opening_by, opening_for, outcome_taken, outside, owed_after, owed_in, owed_to, owes_more, own, part_of, pay_releasing, pay_waiting, pay_woken, pays, phase_after, phase_before, phase_by, phase_by_wake, phase_for, phase_kept, phase_of}
pub use Rattle.ns_word.specs.Prelude.{place_after, place_awaits, place_cause_kept, place_has_come_back, queue_by, queued, queuers, quiet_first, quiet_place, readers, reads, release_by, releasing_of, reply_for, rest_or_look, row_after, row_in, scan_place, scanned, seats_of, section_of, show_by}
pub use Rattle.ns_word.specs.Prelude.{signal_by, standing_after, standing_next, stands_at, taken_by, taken_set, takers, test_place, times, times_among, times_in, told_after, tries_of, unmet_by, value_of, value_of_bit, variable_in, variable_told, view_in, wait_first, wait_hand, waited_in, waiter}
pub use Rattle.ns_word.specs.Prelude.{waiters_of, waits_at, waits_in, wake_by, wake_of, wakes_of, walk_at, walk_over, want_acquiring, want_in_cells, want_leaving, want_of, want_queuing, want_releasing, want_showing, want_signaling, want_trying, want_waiting, was_woken, who_of, with_each, with_lock}
pub use Rattle.ns_word.specs.Prelude.{with_waiters, without, without_in, woken_by, woken_of, woken_phase, woken_phases, word_acquired, word_released, word_released_returning, word_returned, word_seen, word_taken, word_with, writers, writes}
pub use Rattle.ns_word.specs.Steps.{signal_hand}
pub use Rattle.ns_word.specs.Walks.{Expected}
pub use Rattle.std.proofs.Common.{ap, arith, refl, rules, sym, true, ◌∙◌}
pub use Rattle.std.proofs.lemmas.Bool.{and_cases, and_parts, both_ways, cases_Bool, cases_eq, cases_lt, false_from_ne_true, not-false, not-true, or_cases, or_parts, or_right}
pub use Rattle.std.proofs.lemmas.List.{get_or-map, get_or-replicate, length-map, length-replicate, map_more, take_more}
pub use Rattle.std.proofs.lemmas.List.Elements.{All-append, All-nil, All-push, filter-append}
pub use Rattle.std.proofs.lemmas.List.Sums.{get_or-le-sum_by, sum_by-cons}
pub use Rattle.std.proofs.lemmas.Nat.Bits.{bit_at-lt, bit_at-zero, bit_at_above, bit_at_cat_low, same_from_bits_below}
pub use Rattle.std.specs.Bool.{OnTrue, beq}
pub use Rattle.std.specs.Int.{bit_at}
pub use Rattle.std.specs.List.{filter, list_any, sum_by}
pub use denote.Param.{number}
unfoldable pub use Rattle.ns_word.specs.Prelude.{word_of}
