-- The names that proofs cite, of specs and of what stands below, passed on from one place. Declares nothing.
pub use Rattle.ns_counters.proofs.Courses.{RoundGoes, any_on, later_and, nothing_on, operates_on, round_by, round_makes_none, round_on, so_far_on}
pub use Rattle.ns_counters.proofs.Listed.{first_of_all, first_place, low_if_among, lower, none_among, rest_of_all, some_among}
pub use Rattle.ns_counters.proofs.Needs.{may_step}
pub use Rattle.ns_counters.proofs.NewObjects.{new_lawful}
pub use Rattle.ns_counters.proofs.Objects.{own-append, own_all as objects_own_all, own_none}
pub use Rattle.ns_counters.proofs.Placed.{Fit, StaysAsked, led_more, put_keeps, stays_asked, there_more}
pub use Rattle.ns_counters.proofs.Prelude.{ObjectEffect, begins_itself, begins_through, made_begins, object_want, round_want}
pub use Rattle.ns_counters.proofs.Rounds.{last_nothing, later_itself, later_through}
pub use Rattle.ns_counters.proofs.WalkLaw.{left_is, operates_keeps}
pub use Rattle.ns_counters.specs.Asks.{IsLoad}
pub use Rattle.ns_counters.specs.declared.object.Place.TheVariants.{Free}
pub use Rattle.ns_env.proofs.Acts.{env_own_all, env_own_none}
pub use Rattle.ns_env.proofs.Asks.{keeps_env, set_here, set_there}
pub use Rattle.ns_env.proofs.Begins.{begins_env, fresh_lawful}
pub use Rattle.ns_env.proofs.Chains.{looked_shows}
pub use Rattle.ns_env.proofs.Courses.{begins_course, others_leave_course, step_takes_on}
pub use Rattle.ns_env.proofs.Keeps.{outcome_by}
pub use Rattle.ns_env.proofs.Ranges.{asks_in_range}
pub use Rattle.ns_model.proofs.Environments.{env_own-append}
pub use Rattle.ns_queue.proofs.Seats.{some_there}
pub use Rattle.ns_queue.proofs.Shown.{each_shown}
pub use Rattle.ns_queue.specs.Names.{Ghosts, HasRoom, room, small_by}
pub use Rattle.ns_queue.specs.Sizes.{queues_room}
pub use Rattle.ns_queue.specs.contracts.queues.Queues.{the_row as queues_row}
pub use Rattle.ns_word.proofs.Acts.{act_fits, has_list, stands_nowhere, view_fits}
pub use Rattle.ns_word.proofs.Asked.{asked_stays, quiet_asks, test_asks}
pub use Rattle.ns_word.proofs.Calls.{looks_by_asked}
pub use Rattle.ns_word.proofs.Courses.{begins_unchanged, takes_on}
pub use Rattle.ns_word.proofs.Dispatch.{keeps}
pub use Rattle.ns_word.proofs.Enters.{are_some}
pub use Rattle.ns_word.proofs.Numbers.{begin_at, number_at, numbers_stay, set_again, set_same, split_at, step_at}
pub use Rattle.ns_word.proofs.Prelude.{IsLawful, Lock, Step as Steps, Variables, few, list_small, one_most, times_in-cons}
pub use Rattle.ns_word.proofs.Ranges.{placed_below}
pub use Rattle.ns_word.proofs.Scans.{are_called, as_many, some_called, some_seats}
pub use Rattle.ns_word.proofs.Starts.{begins, lawful_fresh, quiet_is_first, wait_is_first}
pub use Rattle.ns_word.proofs.ToldAfter.{own_all, own_append, own_append as own_row_append, own_none as own_row_none, step_by}
pub use Rattle.ns_word.proofs.Waits.{unqueued}
pub use Rattle.ns_word.specs.declared.act.Change.TheVariants.{Nothing}
pub use Rattle.ns_world.specs.Among.{BeginsToWait, NamesFew}
pub use Rattle.ns_world.specs.Prelude.{Acquire, Act, ActFits, Add, Advance, Advances, Advancing, Answer, AnswersCall, AnswersOfLock, AnswersTo, Any, AnyAnswers, AnyMeans, AnyWait, AreAmong, AreBy, AreEnvBy, AreNumbered, AreObjectsBy, AreThere, AreVariables, ArmFlag, Arrival, Asked, AtLock, AtRest}
pub use Rattle.ns_world.specs.Prelude.{AtSomePoint, AtVariables, Await, BeginsWith, Bits, Broadcast, Broadcasting, Call, CallFits, CallGoes, CallInRange, CanLeave, CanWait, Cause, Change, ChangeFits, ClockLoad, Commits, CounterWait, Counts, Course, Cv, CvWait, Cvs, Doing, DoingFits, Done, Effect}
pub use Rattle.ns_world.specs.Prelude.{EndUntold, EnvAct, EnvActFits, EnvCourse, EnvEffect, EnvEnd, EnvEvent, EnvFound, EnvGoes, EnvGoesOn, EnvPlain, EnvRequest, EnvSoFar, EnvWalk, Event, Every, Expired, Expiry, ExpiryLoad, Fault, Finished, FirstClock, ForIsNotified, ForLook, ForNoteWait, Found}
pub use Rattle.ns_world.specs.Prelude.{Get, GoesOn, GoesOnOrBegins, GoesRound, Happens, HasLedTo, HasList, HasMode, HaveLedTo, HaveShownNothing, Held, Home, IfMade, InCells, InHand, InQueuing, InRound, InWait, IsCounted, IsFew, IsFinished, IsFirst, IsFirstAsk, IsInRange, IsLater, IsLawfulEnv}
pub use Rattle.ns_world.specs.Prelude.{IsLawfulObjects, IsLawfulWhole, IsLow, IsNotified, IsReady, IsSettled, IsUnfinished, IsUnmet, Items, KeptLock, LeaveSelf, Leaves, LedTo, Left, Limits, Line, ListFits, Lists, Load, LoadFlag, LockState, Look, LookBy, LookFits, LookMeans, LookOver, Looked, Looks, LooksAt}
pub use Rattle.ns_world.specs.Prelude.{LooksByLimits, LooksByRound, Made, MakesAct, MayEnd, MayGoOn, MayShow, MayWait, Means, Meanwhile, Mode, NamesAll, NeedsSection, NewNote, Next, NextLoad, NoSuchSeat, NoteLoad, NoteStanding, NoteWait, NotesSteps, Notify, Notifying, Number, ObjectEvent, ObjectGoes}
pub use Rattle.ns_world.specs.Prelude.{ObjectLeads, ObjectReply, ObjectSoFar, ObjectStanding, ObjectWalk, ObjectWords, ObjectsSteps, OfLock, OfNotes, OfObjects, On, OnCondition, OnEntry, OnLock, OnNotes, OnObjects, OnVariable, OnVariables, Once, Only, Operates, OutOfMemory, Over, Owed, OwesOne}
pub use Rattle.ns_world.specs.Prelude.{Part, Past, PayWake, Performs, PlaceBy, PlaceFits, Plain, Progress, QueueSelf, QuietCells, QuietKeeps, QuietLast, RLock, RUnlock, Read, Reader, Release, ReleaseReturning, Releasing, Reply, Request, ReturnQueues, Round, RoundGo, RoundLeads, RoundNext, RoundOver}
pub use Rattle.ns_world.specs.Prelude.{RoundPlace, RoundShows, RoundSoFar, Saw, Scanned, Seat, SeatLooks, SeatMakes, SeatView, Sees, Set, Setup, Shows, Signal, Signaling, SoFar, Started, StaysThere, Step, StepFits, Stops, StopsFor, Subject, TakeQueues, TestCells, TestLast, ToRelease, Truths, TryLock, TryRLock, Turn, TurnFault}
pub use Rattle.ns_world.specs.Prelude.{TurnOf, Turned, TurnsOf, TurnsWith, Unlock, UnlockQuiet, Value, WaitAny, WaitFor, WaitFor as Wait, WaitMeans, WaitReturning, Waiter, WaitsFor, WakeWaiters, Waking, Walk, WalkFits, WalkReply, WasShown, Went, WereThere, Whole, WholeBegins, WholeFault}
pub use Rattle.ns_world.specs.Prelude.{WholeIsBusy, WholeIsIdle, WholeMoves, WholeStarts, WholeStep, Woke, Word, Write, Writer, asked_of, asking_of, asks_for_any, asks_of, at_will, bits_of, by_round, called_by, called_of, calls_of, came_back, cause_of, change_commits, changed, counts_in}
pub use Rattle.ns_world.specs.Prelude.{course_after, course_from, cvs_without, doing_after, doing_at, doing_by, done_by, done_in, env_after, env_asked_of, env_course_after, env_course_at, env_got_of, env_own, env_state, env_want_of, exit_for, expected, finds, flag_at, fresh_seat}
pub use Rattle.ns_world.specs.Prelude.{fresh_seats, fresh_views, fresh_whole, got_of, hand_of, happened, has_armed, has_queues, has_some, have_variable, held_after, held_at, in_call, is_among, is_call, is_due, is_end, is_held, is_in, is_of, is_over, is_there, is_unwoken, items_of, kept, leave_of, leaves_by, left_of}
pub use Rattle.ns_world.specs.Prelude.{limits_for, limits_of, lists_by, lock_of, lock_part, look_in, looked_after, looks_at, meets_at, mode_of, mode_waited, most, moved_to, no_note, note_asked, note_at, notes_by, notes_of, nothing_done, object_asked, object_got, object_place, object_start, object_step_of}
pub use Rattle.ns_world.specs.Prelude.{objects_after, objects_by, objects_of, objects_own, operating_of, outcome, owed_to, own, part_in, passed, past_and, place_after, place_told, placed, plain_of, progress, progressed, releasing_of, reply_of_lock, reply_told, rest_of, round_got, row_after}
pub use Rattle.ns_world.specs.Prelude.{section_of, shown_by, shown_of, standing_of, stands_at, start_of, state_of, step_after, step_of, stopped, taken_by, taken_set, tests_after, tests_at, tests_of, there, times, times_among, times_in, up_to, view_of, wait_first, waited_in, waiters_of}
pub use Rattle.ns_world.specs.Prelude.{waits_for_any, waits_then, wakes_by, wakes_of, wakes_owed, walk_at, walk_in, walk_of, want_of, whole_busy, whole_of, with_waiters, woken_by, woken_of, word_at, word_items, word_released, word_released_returning, word_returned}
pub use Rattle.ns_world.specs.Prelude.{EnvSays, GoesInCall, IsNoLook}
pub use Rattle.ns_world.specs.Replies.{env_told}
pub use Rattle.ns_world.specs.Runs.{AdvancesBy, AdvancesSeen, Halts, HaltsFor, Item, TurnsBy, Watched, item_of, lists_of, so_far, tests_told, watched}
pub use Rattle.ns_world.specs.contracts.world.World.{the_row as world_row}
pub use Rattle.ns_world.specs.declared.world.World.TheInside.{Inside}
pub use Rattle.std.proofs.Common.{[], ap, arith, false, map, refl, replicate, slice_get, sym, take}
pub use Rattle.std.proofs.Math.Bool.{or-false, or-true}
pub use Rattle.std.proofs.Math.Seq.{take-length}
pub use Rattle.std.proofs.lemmas.Bool.{cases_eq, cases_lt, false≢true}
pub use Rattle.std.proofs.lemmas.Bool.Decides.{nat_tests}
pub use Rattle.std.proofs.lemmas.List.{append-nil, append_assoc, drop_all, get_or-set_other, get_or-set_same, length-append, length-map, length-set, map-set, replicate-append-replicate, replicate_more, take-append-drop, take_more}
pub use Rattle.std.proofs.lemmas.List.Concat.{flat_map-append}
pub use Rattle.std.proofs.lemmas.List.Elements.{All-head, All-nil, All-tail}
pub use Rattle.std.proofs.lemmas.Option.{same_Some, slice_get-get_or, slice_get-map, slice_get_past, slice_get_within}
pub use Rattle.std.proofs.lemmas.Result.{err_from_is_err_and}
pub use Rattle.std.specs.List.{list_all}
pub use Rattle.std.specs.Mem.{FitsInMemory}
pub use Rattle.std.specs.Option.{option_map_or}
pub use Rattle.std.specs.declared.result.Result.{Result}
pub use Rattle.std.specs.declared.result.Result.TheVariants.{Err, Ok}
pub use denote.Param.{copied, layout, number, param, value_of}
pub use denote.RattleType.{RattleType}
