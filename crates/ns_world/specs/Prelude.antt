-- The names that contracts, proofs and the crates above cite, passed on from one place. Declares nothing.
pub use Rattle.ns_counters.specs.Asks.{IsLoad}
pub use Rattle.ns_counters.specs.Prelude.{WantFits, word_left}
pub use Rattle.ns_counters.specs.declared.object.Place.{Place}
pub use Rattle.ns_word.specs.Prelude.{IsBySeats, IsLegal, entry_of, may_acquire, mode_for, opening_by, opening_for, want_queuing, want_waiting}
pub use Rattle.ns_world.specs.Among.{BeginsToWait, IsFew, MayGoOn, NamesFew, asks_for_any, at_will, cause_of, place_told, reply_for, reply_told, shown_by, waits_for_any, waits_then, woken_by}
pub use Rattle.ns_world.specs.Asks.{EndsCall, EnvSays, GoesInCall, IsNoLook, env_state, note_at, plain_of}
pub use Rattle.ns_world.specs.Calls.{CallFits, CallInRange, NamesAll, SectionFits, finds, mode_of, mode_waited, object_start, start_of}
pub use Rattle.ns_world.specs.Commits.{Commits, IsEvent, expected}
pub use Rattle.ns_world.specs.Doings.{asking_of, is_call, operating_of, placed, there, walk_of}
pub use Rattle.ns_world.specs.Looked.{LookStep, RoundLeads, SeatLooks, Sees}
pub use Rattle.ns_world.specs.Looks.{LookFits, LooksAt, came_back, doing_after, doing_at, doing_by, look_in, looks_at, note_asked}
pub use Rattle.ns_world.specs.Meanings.{AnswersCall, AnswersOfLock, AnswersTo, Happens, IsUnfinished, Meanwhile, PlaceBy, WasShown, asks_of, done_by, done_in, happened, held_at, limits_for, limits_of, nothing_done}
pub use Rattle.ns_world.specs.Moves.{AreEnvBy, AreObjectsBy, BeginFault, GoesRound, Looks, NotesSteps, ObjectsSteps, SeatMakes, WholeBegins, WholeFault, WholeMoves, WholeStarts, WholeStep, notes_by, objects_by}
pub use Rattle.ns_world.specs.Names.{Acquire, Act, ActFits, Add, Advance, Advancing, Answer, Any, AnyAnswers, AnyMeans, AnyWait, AreAmong, AreBy, AreNumbered, AreThere, AreVariables, ArmFlag, Arrival, Asked, AtLock, AtRest, AtSomePoint, AtVariables, Await, BeginsWith, Bits, Broadcast, Broadcasting, Call}
pub use Rattle.ns_world.specs.Names.{CallGoes, CanLeave, CanWait, Cause, Change, ChangeFits, ClockLoad, CounterWait, Course, Cv, CvWait, Cvs, Doing, Done, Effect, EnvAct, EnvActFits, EnvCourse, EnvEffect, EnvEnd, EnvEvent, EnvFound, EnvGoes, EnvGoesOn, EnvPlain, EnvRequest, EnvSoFar, EnvWalk, Event}
pub use Rattle.ns_world.specs.Names.{Every, Expired, Expiry, ExpiryLoad, Fault, Finished, FirstClock, ForIsNotified, ForLook, ForNoteWait, Found, Get, GoesOn, HasList, HasMode, HaveShownNothing, Held, Home, IfMade, InCells, InHand, InQueuing, InRound, InWait, IsFirst, IsFirstAsk, IsInRange, IsLater}
pub use Rattle.ns_world.specs.Names.{IsLawful, IsLawfulEnv, IsLawfulObjects, IsLow, IsNotified, IsReady, IsSettled, IsUnmet, Item, Items, KeptLock, LeaveSelf, Left, Limits, Line, Lists, Load, LoadFlag, Lock, LockState, Look, LookBy, LookMeans, LookOver, Looked, LooksByLimits, LooksByRound, Made, MayEnd}
pub use Rattle.ns_world.specs.Names.{MayShow, MayWait, Means, Mode, NewNote, Next, NextLoad, NoSuchSeat, NoteLoad, NoteStanding, NoteWait, Nothing, Notify, Notifying, Number, ObjectEffect, ObjectEvent, ObjectGoes, ObjectReply, ObjectSoFar, ObjectStanding, ObjectWalk, ObjectWords, OfLock, OfNotes}
pub use Rattle.ns_world.specs.Names.{OfObjects, On, OnCondition, OnEntry, OnLock, OnNotes, OnObjects, OnVariable, OnVariables, Once, Only, OutOfMemory, Over, Owed, OwesOne, Part, Past, PayWake, PlaceFits, Plain, QueueSelf, QuietCells, QuietKeeps, QuietLast, RLock, RUnlock, Read, Reader, Release}
pub use Rattle.ns_world.specs.Names.{ReleaseReturning, Releasing, Reply, Request, ReturnQueues, Round, RoundGo, RoundNext, RoundOver, RoundPlace, RoundShows, RoundSoFar, Saw, Scanned, Seat, SeatView, Set, Setup, Shows, Signal, Signaling, SoFar, Started, Step, StepFits, Subject, TakeQueues, TestCells, TestLast}
pub use Rattle.ns_world.specs.Names.{ToRelease, Truths, TryLock, TryRLock, Turn, Unlock, UnlockQuiet, Value, Wait, WaitAny, WaitFor, WaitMeans, WaitReturning, Waiter, WakeWaiters, Waking, Walk, WalkFits, WalkReply, Went, WereThere, Woke, Word, Write, Writer, asked_of, bits_of, by_round, called_by}
pub use Rattle.ns_world.specs.Names.{called_of, change_commits, changed, counts_in, course_after, course_from, cvs_without, env_after, env_asked_of, env_course_after, env_course_at, env_got_of, env_own, env_want_of, exit_for, fresh_plain, fresh_views, got_of, has_armed, has_queues, has_some}
pub use Rattle.ns_world.specs.Names.{have_variable, held_after, in_hand, is_among, is_due, is_held, is_in, is_over, is_there, is_unwoken, items_of, leave_of, left_of, looked_after, meets_at, most, moved_to, no_note, object_asked, object_got, object_place, objects_after, objects_own, outcome}
pub use Rattle.ns_world.specs.Names.{owed_to, own, passed, past_and, place_after, releasing_of, round_got, row_after, section_of, shown_of, standing_of, stands_at, state_of, stopped, taken_by, taken_set, tests_of, times, times_among, times_in, up_to, wait_first, waited_in, waiters_of, wakes_of}
pub use Rattle.ns_world.specs.Names.{walk_at, walk_in, want_of, with_waiters, woken_of, word_at, word_released, word_released_returning, word_returned}
pub use Rattle.ns_world.specs.Objects.{ObjectLeads, Operates, fresh_words, object_step_of}
pub use Rattle.ns_world.specs.Performs.{Acts, Leaves, MakesAct, MayMake, Performs, RefusesAct, StaysThere, flag_at, leaves_by, lock_part, step_of, tests_after, view_of}
pub use Rattle.ns_world.specs.Replies.{step_after, told as reply_of_lock}
pub use Rattle.ns_world.specs.Runs.{Advances, AdvancesBy, AdvancesSeen, Counts, EndUntold, GoesOnOrBegins, Halts, HaltsFor, IsCounted, IsFinished, ListFits, Progress, Stops, StopsFor, TurnFault, TurnOf, Turned, TurnsBy, TurnsOf, TurnsWith, Watched, calls_of, is_end, item_of, lists_of, progress, progressed, rest_of, so_far, tests_at, word_items}
pub use Rattle.ns_world.specs.Shows.{hand_of, lists_by, lists_shown, wakes_by, wakes_owed}
pub use Rattle.ns_world.specs.Whole.{DoingFits, HasLedTo, HaveLedTo, IsLawfulWhole, LedTo, NeedsSection, WaitsFor, Whole, WholeIsBusy, WholeIsIdle, fresh_seat, fresh_seats, fresh_whole, holds, in_call, is_of, lock_of, notes_of, objects_of, part_in, whole_busy, whole_of}
pub use Rattle.ns_world.specs.World.{RefusesWorld, kept}
