-- The names that proofs cite, of specs and of what stands below, passed on from one place. Declares nothing.
pub use Rattle.ns_gate.proofs.Bounds.{come_by}
pub use Rattle.ns_gate.proofs.Calls.{begins, can_go, goes, goes_on, since, since_itself, since_then, works}
pub use Rattle.ns_gate.proofs.Findings.{cell_in_hand, does}
pub use Rattle.ns_gate.proofs.Keeps.{hand_of}
pub use Rattle.ns_gate.proofs.Prelude.{list_fits, list_small, view_fits, waiter_fits}
pub use Rattle.ns_gate.proofs.Stays.{HasKeptItsQueues, effect_of, nowhere_now, stays_arming, stays_by, stays_itself, stays_through, still_carries}
pub use Rattle.ns_gate.proofs.Wakes.{found_nobody, found_sole, moves_nobody, orderly_now, owes_the_woken, still_woken, takes_nobody, woken_found}
pub use Rattle.ns_monitor.proofs.Room.{in_room}
pub use Rattle.ns_monitor.specs.Names.{Bounded, HasComeBy, HasGuessedTo, HasMade, HasMadeSteps, HasTried, HasTurned, HasWorked, limits_by}
pub use Rattle.ns_monitor.specs.Prelude.{Acquire, AcquireLoad, AcquiresBy, Acquiring, Act, Aim, Answer, Answered, AnyWait, AnyWaitMeans, AreNew, AreRead, AreSaved, AreSome, Arm, ArmFlag, ArmToWait, Arrival, AsFresh, Await, AwaitWake, AwaitWakeInWait, AwaitWakeToLeave, BeginsWith, Bits, Broadcasting}
pub use Rattle.ns_monitor.specs.Prelude.{Busy, CameByGuess, CanLeave, CanStep, Canceled, Carries, Cause, Cell, CellFits, Change, Changed, Changing, CondWait, ConditionWaitMeans, Course, CvWait, Cvs, Decides, Done, Effect, Ended, EndedBy, EnvEvent, EnvKnown, Event, Expired, Flag, ForLock, ForWait}
pub use Rattle.ns_monitor.specs.Prelude.{FindsReaders, Found, GateView, Get, Going, Grows, HadLooked, HasAcquired, HasAnswered, HasBegun, HasBegunBy, HasBegunToWait, HasComeBack, HasComeBackFrom, HasComeBackFromAny, HasGone, HasGoneBehind, HasInHand, HasLearned, HasLeft, HasLoaded, HasLocked, HasLookedOn, GoesBy, HasPutBack, HasSeenCleared, HasTakenToWake, SleepsAt, HasMadeStepsTo, PaysAt, PutsBackAt}
pub use Rattle.ns_monitor.specs.Prelude.{HasMode, HasReached, HasReturnedWoken, HasRow, HasSaved, HasScanned, HasSeenMore, HasSeenTrue, HasSince, HasStayed, HasStepped, HasStood, HasStoodUnwoken, HasTakenAt, HasTested, HasUnchangedQueues, HasUnlocked, HasWaited, HasWaitedFor, HasWaitedForVariable}
pub use Rattle.ns_monitor.specs.Prelude.{HasWoken, HasWokenInHand, Held, Home, Idle, IfAnswered, IfEnded, InAcquire, InCells, InHand, InLeaving, InQueuing, InRelease, InShow, InSignal, InTry, InWait, Is, IsAtPlace, IsAtRest, IsByOneOf, IsFirst, IsForVariables, IsFresh, IsFreshIn, IsInRange}
pub use Rattle.ns_monitor.specs.Prelude.{IsLawful, IsNumberOf, IsOrderly, IsOwedNext, IsPackable, IsQuiet, IsQuietFor, IsReady, IsSettled, IsTold, IsWaitingForAny, IsWide, JudgeMet, JudgeQuiet, Known, Leave, LeaveLoad, LeaveSelf, Leaving, Limits, Lists, Load, LoadCell, LoadFlag, LoadToScan}
pub use Rattle.ns_monitor.specs.Prelude.{LoadWord, LockState, Look, LookIn, LookOut, LookShows, Looked, Made, MayEnd, MayEnter, MayGoAlone, MayScan, Met, Mode, Next, Note, Notified, Number, On, OnCondition, OnEntry, OnReturn, OnVariables, Outcome, Owed, OwesBelow, OwesTheWoken, Paid, Part, PayWake}
pub use Rattle.ns_monitor.specs.Prelude.{Pays, Performed, PlaceFits, PutsBack, Queue, QueueSelf, QueueToWait, QueuesOrEnds, Quiet, QuietCells, QuietLast, QuietWriter, Read, Reader, ReleaseLoad, ReleaseReturning, Released, Releasing, Reply, Request, ReturnQueues, ReturnShown, Returning, Saw}
pub use Rattle.ns_monitor.specs.Prelude.{SaysWoken, ScanAndRelease, ScanCells, Scanning, ScansAs, SeatHasLearned, SeatOf, SeatView, SectionFits, Set, SetStore, ShowLoad, SignalLoad, Signaling, Sleeps, Sought, StandsAt, StoreCell, Subject, Succeeded, TableId, TakeQueues, TakeToShow, Taking}
pub use Rattle.ns_monitor.specs.Prelude.{TestCells, TestLast, Tested, Tests, TimedOut, ToChange, ToQueue, ToRelease, ToTell, ToWait, Told, Truths, TryAcquire, TryLock, Turned, Unchanged, VariableWaitMeans, Visit, Wait, WaitKnown, WaitMeans, WaitReturning, WaitTells, Waited, Waiter, WaitsOn}
pub use Rattle.ns_monitor.specs.Prelude.{WaitsStill, WakeAndReturn, WakeWaiters, Waking, Walk, WantsNext, WentAtOnce, Woke, Woken, WokenBy, Word, Write, Writer, act_returning, answer_of, answer_of_wait, any_waiting, armed_place, arrival_of, asked_of, at_will, awaits, back_with, before_in}
pub use Rattle.ns_monitor.specs.Prelude.{begins_with_reader, bits_of, called_by, called_of, carried_by, change_found, changed, entered, first_of, found_back, found_returned, fresh, fresh_seat, getting, going_act, going_at, going_of, gone_to, got_of, got_queuing, has_condition, has_queues, has_some}
pub use Rattle.ns_monitor.specs.Prelude.{held_after, held_by, home_of, is_eligible, is_held, is_limited, is_met, is_satisfied, judge_of, judging, known_of, lacks_row, leave_any_told, leave_told, left_of, limits_of, lists_returned, lists_scanned, lists_woken, load_place, loading}
pub use Rattle.ns_monitor.specs.Prelude.{loading_at, locking, look_or_queue, may_acquire, may_go, meets_at, mode_released, moves, new_seat, new_section, outcome_taken, owed_woken, owes_more, own_of, part_of, pay_releasing, pay_waiting, pay_woken, paying_at, pays, place_after, queuing_first}
pub use Rattle.ns_monitor.specs.Prelude.{quiet_place, reads, ready_at, release_has_queues, releasing_by, request_for, rest, rest_of, rest_or_look, returning_at, returning_for, returning_of, row_after, row_in, saved_after, scan_place, scanned_writer, scanning_at, seats_of, section_of, setting}
pub use Rattle.ns_monitor.specs.Prelude.{show_by, showing, some_returned, sought_at, standing_after, stands_at, taken_at, taken_by, taken_from, taken_set, taking_at, taking_for, test_place, tested_by, the, times, tried, trying, unmet_by, value_before, variable_in, view_in, wait_first}
pub use Rattle.ns_monitor.specs.Prelude.{wait_has_queues, waits_at, waits_by, waits_for_any, waits_for_variable, wake_by, wake_event, wake_of, wake_told, wakes_of, waking_by, want_of, with_lock, woken_by, woken_nobody, woken_of, word_taken, writes}
pub use Rattle.ns_note.proofs.Prelude.{HasLooked, all_new, begins_itself, begins_through, new_more, numbered_first, numbered_rest}
pub use Rattle.ns_note.proofs.Rests.{made_grows}
pub use Rattle.ns_word.proofs.Hands.{free_scanned}
pub use Rattle.ns_word.proofs.Scans.{are_called, as_many}
pub use Rattle.ns_word.specs.declared.request.Request.TheVariants.{Release}
pub use Rattle.std.proofs.Common.{None, Some, ap, arith, refl, rules, subst, sym}
pub use Rattle.std.proofs.lemmas.Bool.{cases_Bool, cases_eq, cond-false, cond-true, cond_both}
pub use Rattle.std.proofs.lemmas.Grind.{same_number_lists}
pub use Rattle.std.proofs.lemmas.List.{drop_all, drop_more}
pub use Rattle.std.specs.List.{list_any}
pub use denote.Param.{number}
