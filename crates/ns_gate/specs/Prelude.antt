-- The names that contracts, proofs and the crates above cite, passed on from one place. Declares nothing.
pub use Rattle.atomic_table.specs.Seated.{TableId}
pub use Rattle.ns_env.specs.Prelude.{IsMade}
pub use Rattle.ns_gate.specs.Bounds.{Bounded, HasComeBy, HasMadeSteps, HasGuessedTo, HasMade, HasTried, HasWorked}
pub use Rattle.ns_gate.specs.Calls.{HasAnswered, HasReached, HasSince, IsAtPlace, IsAtRest, IsTrueToHistory, IsWide, OwesBelow, SeatOf}
pub use Rattle.ns_gate.specs.Endings.{EndsAs}
pub use Rattle.ns_gate.specs.Law.{AtHome, Fits, GateView, HasCome, Holds, Homes, IsRuled, RefusesGate, Shows, Underlying, Views, fresh, fresh_seat, is_seat, no_lists, number_of_seat}
pub use Rattle.ns_gate.specs.Lending.{lends_lists}
pub use Rattle.ns_gate.specs.Meetings.{HasLearned, HaveLearned, HaveMet, ShareTheLock, sight_of}
pub use Rattle.ns_gate.specs.Names.{Acquire, Act, ActFits, Allows, ArePair, ArmFlag, Arrival, BeginsIf, BeginsWith, Bits, Broadcasting, CallGoes, CanLeave, CanWait, Cause, Cell, Change, Changed, Course, Cv, Done, Effect, Event, Every, Final, Flag, Foremost, Found, GetLoad, Ghosts, HasMode, HasRoom}
pub use Rattle.ns_gate.specs.Names.{HasSight, HaveSeats, Held, Idle, InAcquire, InCells, InLeaving, InQueuing, InRelease, InShow, InSignal, InTry, InWait, IsBySeats, IsBySums, IsFirst, IsLawful, IsOne, IsOrderly, IsPackable, IsSettled, IsTold, JudgeMet, JudgeQuiet, Leave, LeaveSelf, Limits, Lists}
pub use Rattle.ns_gate.specs.Names.{LoadCell, LoadFlag, LoadWord, Lock, LockState, Look, Looked, Made, MayShow, Me, Mode, Next, Nobody, On, OnCondition, OnVariables, OneWriter, Owed, OwesOne, Paid, Part, Pay, PayInWait, PayTheWoken, PayWake, PlaceFits, Queue, QueueSelf, QueueToWait, Quiet}
pub use Rattle.ns_gate.specs.Names.{QuietKeeps, QuietWriter, Read, Reader, Release, ReleaseReturning, Released, Releasing, Reply, Request, ReturnQueues, ReturnShown, Returning, Saw, ScanAndRelease, SeatStep, SeatView, SectionFits, Seen, Signaling, SoFar, Sought, Standing, Step, StoreCell, Subject}
pub use Rattle.ns_gate.specs.Names.{TableAct, TakeQueues, Taking, TestLast, Tested, ToChange, ToQueue, Told, Truths, TryLoad, Turned, Valid, ViewFits, WaitReturning, Waited, Waiter, WakeAndReturn, WakeWaiters, Waking, Walk, Woke, Word, Write, Writer, asked_of, awaits, before_in, begins_with_reader}
pub use Rattle.ns_gate.specs.Names.{bits_of, called_by, called_of, calls_of, carried_after, change_commits, change_found, changed, course_after, course_from, cvs_without, encoded, exchanged, exit_for, first_of, flags_with, foremost_of, found_of, fresh_state, fresh_views, gives, got_of, has_queues}
pub use Rattle.ns_gate.specs.Names.{has_some, held_after, homes_after, is_held, is_of, is_reading, is_write, is_writing, judge_of, keeps_slots, kept_by, left_by_writer, left_of, meets_at, mode_for, moved_to, moves, newly_held, number_of, one_if, opening, outside, owed_after, owes_more, own_of}
pub use Rattle.ns_gate.specs.Names.{part_of, pays, place_after, readers, releasing_of, rest, rest_of, room_fits, row_after, row_in, scanned, seats_of, section_of, sole_of, standing_after, stands_at, taken_by, taken_set, takers, takes, tests_of, times, times_in, told_after, total, value_of, view_in}
pub use Rattle.ns_gate.specs.Names.{waited_in, waiters_of, wakes_of, want_of, with_waiters, without, woken_of, word_acquired, word_released, word_released_returning, word_returned, word_taken, writers, writes}
pub use Rattle.ns_gate.specs.Performing.{IsNumbered, IsOnWord, IsTurned, Needs}
pub use Rattle.ns_gate.specs.Showing.{ShowsLists}
pub use Rattle.ns_gate.specs.Steps.{CameByGuess, CanStep, Carries, HasGuessed, HasLooked, HasMadeBoth, HasStepped, HasTurned, HasUnchangedQueues, IsExchange, IsLoad, IsOwedNext, IsPlainExchange, IsStoreOf, MayBegin, MayExchange, MayGuess, MayLoad, MayStore, Performed, PerformedBoth, PerformedWith}
pub use Rattle.ns_gate.specs.Steps.{StandsNowhere, WantsNext, act_by, act_of, act_returning, carried_by, content_by, course_by, first_said, found_back, found_returned, lists_returned, lists_scanned, made_by, next_owed, some_returned, the, tried, tried_for, walk_by, word_at, word_returning}
pub use Rattle.ns_gate.specs.Wakes.{lists_left, lists_woken, owed_woken, scanned_writer, sought_at, taken_from, turned_to, turned_woken, wake_told, without_each, woken_nobody, woken_sole}
pub use Rattle.ns_word.specs.Prelude.{Expired, InHand, IsInRange, is_limited, look_or_queue, mode_released, wait_first, waits_at}
pub use Rattle.ns_word.specs.declared.acquire_walk.AcquirePlace.TheVariants.{AcquireLoad, Arm}
pub use Rattle.ns_word.specs.declared.request.Request.TheVariants.{Await, IsQuiet, TryLock}
pub use Rattle.ns_word.specs.declared.signal_walk.SignalPlace.TheVariants.{SignalLoad}
pub use Rattle.ns_word.specs.declared.wait.Aim.TheVariants.{ForWait}
pub use Rattle.ns_word.specs.declared.wait.LeavePlace.TheVariants.{LeaveLoad}
pub use Rattle.ns_word.specs.declared.wait.QueuePlace.TheVariants.{Load}
pub use Rattle.ns_word.specs.declared.wait.Wait.{Wait}
pub use Rattle.ns_word.specs.declared.wait.WaitPlace.TheVariants.{AwaitWakeInWait}
pub use Rattle.ns_word.specs.declared.walk.Reply.TheVariants.{Answered, Busy, Is, Succeeded}
unfoldable pub use Rattle.ns_word.specs.Codec.{word_of}
