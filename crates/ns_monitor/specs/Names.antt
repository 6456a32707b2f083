-- The names of crates below and of this crate's own types, passed on from one place. Declares nothing.
pub use Rattle.ns_gate.specs.Prelude.{Acquire, AcquireLoad, Act, Answered, Arm, ArmFlag, Arrival, Await, AwaitWakeInWait, BeginsWith, Bits, Broadcasting, Busy, CameByGuess, CanLeave, CanStep, Carries, Cause, Cell, Change, Course, Done, Effect, Event, Expired, Flag, ForWait, Found, GateView, GetLoad}
pub use Rattle.ns_gate.specs.Prelude.{Bounded, HasComeBy, HasGuessedTo, HasMade, HasMadeSteps, HasTried, HasTurned, HasWorked, found_back}
pub use Rattle.ns_gate.specs.Prelude.{HasAnswered, HasLearned as SeatHasLearned, HasMadeBoth, HasMode, HasReached, HasSince, HasStepped, HasUnchangedQueues, Held, Idle, InAcquire, InCells, InHand, InLeaving, InQueuing, InRelease, InShow, InSignal, InTry, InWait, Is, IsAtPlace, IsAtRest, IsFirst}
pub use Rattle.ns_gate.specs.Prelude.{IsInRange, IsLawful, IsMade, IsOrderly, IsOwedNext, IsPackable, IsQuiet, IsSettled, IsTold, IsTrueToHistory, IsWide, JudgeMet, JudgeQuiet, Leave, LeaveLoad, LeaveSelf, Limits, Lists, Load, LoadCell, LoadFlag, LoadWord, LockState, Look, Looked, Made, MayShow}
pub use Rattle.ns_gate.specs.Prelude.{Mode, Next, On, OnCondition, OnVariables, Owed, OwesBelow, Paid, Part, Pay, PayInWait, PayWake, Performed, PlaceFits, Queue, QueueSelf, QueueToWait, Quiet, QuietWriter, Read, Reader, Release, ReleaseReturning, Releasing, Request, ReturnQueues, ReturnShown, Saw}
pub use Rattle.ns_gate.specs.Prelude.{ScanAndRelease, SeatOf, SeatView, SectionFits, ShowsLists, SignalLoad, Signaling, Sought, StandsNowhere, StoreCell, Subject, Succeeded, TableId, TakeQueues, Taking, TestLast, Tested, ToChange, ToQueue, Told, Truths, TryLoad, TryLock, Wait, WaitReturning, Waiter}
pub use Rattle.ns_gate.specs.Prelude.{WakeAndReturn, WakeWaiters, Waking, Walk, WantsNext, Woke, Word, Write, Writer, act_returning, asked_of, awaits, before_in, begins_with_reader, bits_of, called_by, called_of, carried_by, change_found, changed, first_of, found_returned, fresh, fresh_seat, got_of}
pub use Rattle.ns_gate.specs.Prelude.{has_queues, has_some, held_after, is_held, is_limited, judge_of, left_of, lists_returned, lists_scanned, lists_woken, look_or_queue, meets_at, mode_for, mode_released, moves, owed_woken, owes_more, own_of, part_of, pays, place_after, rest, rest_of, row_after}
pub use Rattle.ns_gate.specs.Prelude.{row_in, scanned_writer, seats_of, section_of, some_returned, sought_at, standing_after, stands_at, taken_by, taken_from, taken_set, the, times, tried, view_in, wait_first, waits_at, wake_told, wakes_of, want_of, woken_nobody, woken_of, word_taken, writes}
pub use Rattle.ns_gate.specs.declared.queues.Returning.{Returning}
pub use Rattle.ns_gate.specs.declared.queues.Returning.TheVariants.{Changed, Released, Waited}
pub use Rattle.ns_gate.specs.declared.queues.Turned.{Turned}
pub use Rattle.ns_model.proofs.Beginnings.{begins_itself, begins_through}
pub use Rattle.ns_model.specs.Cvs.{is_in}
pub use Rattle.ns_monitor.specs.declared.going.Going.{Going}
pub use Rattle.ns_monitor.specs.declared.going.Going.TheVariants.{Acquiring, Changing, Leaving}
pub use Rattle.ns_monitor.specs.declared.scanning.Scanning.{Scanning}
pub use Rattle.ns_monitor.specs.declared.scanning.Scanning.TheVariants.{ToRelease, ToWait}
pub use Rattle.ns_monitor.specs.declared.several.AnyPoll.{AnyPoll}
pub use Rattle.ns_monitor.specs.declared.several.AnyPoll.TheVariants.{Still}
pub use Rattle.ns_monitor.specs.declared.showing.DebugState.{DebugState}
pub use Rattle.ns_note.specs.Answers.{limits_by}
pub use Rattle.ns_note.specs.Names.{AreNewBy, AreOfOneHistoryBy, EnvEvent, HasLooked, Sight}
pub use Rattle.ns_note.specs.Prelude.{EnvKnown, LookAnswers}
pub use Rattle.ns_note.specs.declared.note.Note.{Note}
pub use Rattle.ns_queue.specs.Names.{room}
pub use Rattle.ns_word.specs.Asked.{request_for}
pub use Rattle.ns_word.specs.Meanings.{HasWaited, IsBack, WaitMeans}
pub use Rattle.ns_word.specs.Names.{AfterAny, AfterCv, Broadcast, Signal}
pub use Rattle.ns_word.specs.Prelude.{Answer, Any, AnyWait, AnyWaitMeans, Canceled, CellFits, CondWait, ConditionWaitMeans, CvWait, Cvs, HasLeft, IsForVariables, MayEnd, Met, Notified, Only, Seats, Tests, TimedOut, Unchanged, VariableWaitMeans, acquire_by, acquired_for, answer_of, answer_of_wait}
pub use Rattle.ns_word.specs.Prelude.{armed_place, arrival_of, back_with, entry_of, got_queuing, has_condition, held_by, home_of, is_eligible, is_met, is_satisfied, leave_any_told, leave_told, load_place, may_acquire, needs_scan, new_section, outcome_taken, pay_releasing, pay_waiting, pay_woken}
pub use Rattle.ns_word.specs.Prelude.{quiet_first, quiet_place, reads, release_by, release_has_queues, rest_or_look, scan_place, show_by, test_place, unmet_by, variable_in, wait_has_queues, wake_by, wake_of, with_lock, woken_by}
pub use Rattle.ns_word.specs.declared.acquire_walk.AcquirePlace.TheVariants.{AcquireExchange, AwaitWake, TakeToQueue}
pub use Rattle.ns_word.specs.declared.act.Change.TheVariants.{Nothing}
pub use Rattle.ns_word.specs.declared.cell_walk.CellPlace.TheVariants.{QuietCells, QuietLast, SetLoad, SetStore}
pub use Rattle.ns_word.specs.declared.cell_walk.Judging.TheVariants.{ToTell}
pub use Rattle.ns_word.specs.declared.release_walk.ReleasePlace.{ReleasePlace}
pub use Rattle.ns_word.specs.declared.release_walk.ReleasePlace.TheVariants.{ReleaseExchange, ReleaseLoad, ScanCells, TakeToScan}
pub use Rattle.ns_word.specs.declared.request.Request.TheVariants.{Get, Set}
pub use Rattle.ns_word.specs.declared.show_walk.ShowPlace.TheVariants.{ShowLoad, TakeToShow}
pub use Rattle.ns_word.specs.declared.signal_walk.SignalPlace.TheVariants.{TakeToWake}
pub use Rattle.ns_word.specs.declared.try_walk.TryPlace.TheVariants.{TryAcquire}
pub use Rattle.ns_word.specs.declared.wait.Aim.{Aim}
pub use Rattle.ns_word.specs.declared.wait.Aim.TheVariants.{ForLock}
pub use Rattle.ns_word.specs.declared.wait.Home.{Home}
pub use Rattle.ns_word.specs.declared.wait.Home.TheVariants.{AtLock}
pub use Rattle.ns_word.specs.declared.wait.LeavePlace.TheVariants.{AwaitWakeToLeave, TakeToLeave}
pub use Rattle.ns_word.specs.declared.wait.Outcome.{Outcome}
pub use Rattle.ns_word.specs.declared.wait.Outcome.TheVariants.{Ended, Woken}
pub use Rattle.ns_word.specs.declared.wait.QueuePlace.TheVariants.{ArmToWait, LoadToScan, LookIn, Take}
pub use Rattle.ns_word.specs.declared.wait.Visit.{Visit}
pub use Rattle.ns_word.specs.declared.wait.Visit.TheVariants.{OnEntry, OnReturn}
pub use Rattle.ns_word.specs.declared.wait.WaitPlace.TheVariants.{LookOut, TestCells}
pub use Rattle.ns_word.specs.declared.walk.Reply.{Reply}
pub use Rattle.ns_word.specs.declared.walk.Reply.TheVariants.{Number, WokenBy}
pub use Rattle.ns_word.specs.declared.word.Arrival.TheVariants.{AsFresh}
pub use denote.Builtin.{u64}
pub use denote.Param.{layout}
pub use denote.RattleType.{RattleType}
pub use mir.Syntax.{Ty, ty_array, ty_array_p, ty_bool, ty_const, ty_enum, ty_float, ty_int, ty_named, ty_param, ty_ptr, ty_ref, ty_struct, ty_unit}
pub use mir.Table.{array_at}
