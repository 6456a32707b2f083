-- The names of crates below and of this crate's own types, passed on from one place. Declares nothing.
pub use Rattle.ns_counters.specs.Items.{AreAmong, have_variable}
pub use Rattle.ns_counters.specs.Meanings.{ObjectMeans}
pub use Rattle.ns_counters.specs.Names.{EnvAct, EnvEnd, EnvFound, EnvWalk, ForIsNotified, NoteLoad, NoteWord}
pub use Rattle.ns_counters.specs.Prelude.{AnyAnswers, AreAsAsked, AreThere, AtSomePoint, EnvEvent, EnvPlain, EnvState, HaveShownNothing, IsLater, IsLawful, IsLawfulEnv, IsLawfulObjects, IsLow, IsReady, NoteStanding, ObjectEffect, ObjectGoes, ObjectSoFar, ObjectStanding, ObjectState, Past, RoundShows}
pub use Rattle.ns_counters.specs.Prelude.{RoundSoFar, StepFits, WalkFits, WereThere, by_round, env_after, env_got_of, first_words, is_among, is_due, is_there, item_at, items_of, most, object_asked, object_got, object_place, object_want, object_who, objects_after, objects_own, padded, past_and}
pub use Rattle.ns_counters.specs.Prelude.{place_in, round_got, setup_of, standing_of, state_of, walk_in, word_at}
pub use Rattle.ns_counters.specs.declared.items.Item.{Item}
pub use Rattle.ns_counters.specs.declared.items.Item.TheVariants.{OnVariable}
pub use Rattle.ns_counters.specs.declared.items.Items.{Items}
pub use Rattle.ns_counters.specs.declared.object.ObjectEvent.{ObjectEvent}
pub use Rattle.ns_counters.specs.declared.object.Setup.{Setup}
pub use Rattle.ns_counters.specs.declared.reply.ObjectReply.{ObjectReply}
pub use Rattle.ns_counters.specs.declared.round.ObjectFound.{ObjectFound}
pub use Rattle.ns_counters.specs.declared.round.Round.{Round}
pub use Rattle.ns_counters.specs.declared.round.RoundNext.{RoundNext}
pub use Rattle.ns_counters.specs.declared.round.RoundNext.TheVariants.{RoundGo, RoundOver}
pub use Rattle.ns_counters.specs.declared.round.RoundPlace.{RoundPlace}
pub use Rattle.ns_counters.specs.declared.round.RoundPlace.TheVariants.{FirstClock}
pub use Rattle.ns_counters.specs.declared.walk.ObjectWalk.{ObjectWalk}
pub use Rattle.ns_counters.specs.declared.walk.ObjectWalk.TheVariants.{AddLoad, DoneLoad, InRound, OnceLoad, ValueLoad, WaitMark}
pub use Rattle.ns_env.specs.Meanings.{EnvGoesOn, EnvMeans, LookMeans}
pub use Rattle.ns_env.specs.Names.{no_note}
pub use Rattle.ns_env.specs.Prelude.{EnvActFits, EnvCourse, EnvEffect, EnvGoes, EnvSoFar, IfMade, IsFirstAsk, NextIs, Shows, env_asked_of, env_course_after, env_course_at, env_own, env_want_of, env_who, fresh_plain, is_over, outcome, passed, place_after, stopped, up_to}
pub use Rattle.ns_env.specs.declared.next.Next.{Next}
pub use Rattle.ns_env.specs.declared.next.Next.TheVariants.{On}
pub use Rattle.ns_env.specs.declared.reply.EnvReply.{EnvReply}
pub use Rattle.ns_env.specs.declared.request.EnvRequest.{EnvRequest}
pub use Rattle.ns_env.specs.declared.walk.Chain.TheVariants.{ForLook, ForNoteWait}
pub use Rattle.ns_env.specs.declared.walk.EnvEnd.TheVariants.{LookOver, Over}
pub use Rattle.ns_env.specs.declared.walk.EnvWalk.TheVariants.{Advancing, ClockLoad, ExpiryLoad, NextLoad, Notifying}
pub use Rattle.ns_queue.specs.Names.{HasRoom, room, room_enough, small_by}
pub use Rattle.ns_queue.specs.Prelude.{shown_of}
pub use Rattle.ns_word.specs.Courses.{GoesOn}
pub use Rattle.ns_word.specs.Meanings.{AnyMeans, WaitMeans}
pub use Rattle.ns_word.specs.Places.{ChangeFits}
pub use Rattle.ns_word.specs.Prelude.{ActFits, Answer, Any, AreBy, AreNumbered, AreVariables, BeginsWith, CallGoes, CanLeave, CanWait, Cause, Course, Cv, Cvs, Effect, Event, Every, Expired, HasList, HasMode, InHand, IsFirst, IsInRange, IsSettled, IsUnmet, Limits, Lists, LockState, MayEnd, MayShow}
pub use Rattle.ns_word.specs.Prelude.{MayWait, Means, Mode, Only, OwesOne, Part, PlaceFits, Plain, QuietKeeps, Read, SoFar, Truths, Waiter, Write, asked_of, bits_of, called_by, called_of, change_commits, changed, counts_in, course_after, course_from, cvs_without, exit_for, fresh_state, fresh_views}
pub use Rattle.ns_word.specs.Prelude.{got_of, has_armed, has_queues, has_some, held_after, in_hand, is_held, is_in, is_unwoken, leave_of, left_of, looked_after, meets_at, moved_to, owed_to, own, quiet_first, releasing_of, row_after, section_of, stands_at, taken_by, taken_set, tests_of, times}
pub use Rattle.ns_word.specs.Prelude.{times_among, times_in, wait_first, waited_in, waiters_of, wakes_of, walk_at, want_of, with_waiters, woken_of, word_released, word_released_returning, word_returned}
pub use Rattle.ns_word.specs.declared.acquire_walk.AcquirePlace.TheVariants.{AcquireLoad}
pub use Rattle.ns_word.specs.declared.act.Act.{Act}
pub use Rattle.ns_word.specs.declared.act.Act.TheVariants.{Acquire, ArmFlag, LoadFlag, Look, PayWake, Release, ReleaseReturning, ReturnQueues, TakeQueues, WaitReturning}
pub use Rattle.ns_word.specs.declared.act.Change.{Change}
pub use Rattle.ns_word.specs.declared.act.Change.TheVariants.{LeaveSelf, QueueSelf, WakeWaiters}
pub use Rattle.ns_word.specs.declared.act.Found.{Found}
pub use Rattle.ns_word.specs.declared.act.Found.TheVariants.{Left, Looked, Made, Saw, Scanned, Woke}
pub use Rattle.ns_word.specs.declared.act.Waking.{Waking}
pub use Rattle.ns_word.specs.declared.act.Waking.TheVariants.{Broadcasting, Signaling}
pub use Rattle.ns_word.specs.declared.cell_walk.CellPlace.TheVariants.{GetLoad, QuietCells, QuietLast, SetLoad}
pub use Rattle.ns_word.specs.declared.cell_walk.Judging.TheVariants.{ToRelease}
pub use Rattle.ns_word.specs.declared.owed.Owed.{Owed}
pub use Rattle.ns_word.specs.declared.release_walk.ReleasePlace.TheVariants.{ReleaseLoad}
pub use Rattle.ns_word.specs.declared.request.Request.{Request}
pub use Rattle.ns_word.specs.declared.request.Request.TheVariants.{Await}
pub use Rattle.ns_word.specs.declared.signal_walk.SignalPlace.TheVariants.{SignalLoad}
pub use Rattle.ns_word.specs.declared.try_walk.TryPlace.TheVariants.{TryLoad}
pub use Rattle.ns_word.specs.declared.view.Held.{Held}
pub use Rattle.ns_word.specs.declared.view.SeatView.{SeatView}
pub use Rattle.ns_word.specs.declared.wait.Aim.TheVariants.{ForLock}
pub use Rattle.ns_word.specs.declared.wait.Home.{Home}
pub use Rattle.ns_word.specs.declared.wait.Home.TheVariants.{AtLock, AtVariables}
pub use Rattle.ns_word.specs.declared.wait.QueuePlace.TheVariants.{Load}
pub use Rattle.ns_word.specs.declared.wait.Subject.{Subject}
pub use Rattle.ns_word.specs.declared.wait.Subject.TheVariants.{OnCondition, OnVariables}
pub use Rattle.ns_word.specs.declared.wait.Visit.TheVariants.{OnEntry}
pub use Rattle.ns_word.specs.declared.wait.Wait.{Wait as WaitFor}
pub use Rattle.ns_word.specs.declared.wait.WaitPlace.TheVariants.{InQueuing, TestCells, TestLast}
pub use Rattle.ns_word.specs.declared.walk.Reply.{Reply as WalkReply}
pub use Rattle.ns_word.specs.declared.walk.Reply.TheVariants.{WokenBy}
pub use Rattle.ns_word.specs.declared.walk.Walk.{Walk}
pub use Rattle.ns_word.specs.declared.walk.Walk.TheVariants.{InAcquire, InCells, InRelease, InSignal, InTry, InWait}
pub use Rattle.ns_word.specs.declared.word.Arrival.{Arrival}
pub use Rattle.ns_word.specs.declared.word.Arrival.TheVariants.{AsFresh}
pub use Rattle.ns_word.specs.declared.word.Bits.{Bits}
pub use Rattle.ns_word.specs.declared.word.Releasing.{Releasing}
pub use Rattle.ns_word.specs.declared.word.Releasing.TheVariants.{QuietWriter, Reader, Writer}
pub use Rattle.ns_word.specs.declared.word.Word.{Word}
pub use Rattle.ns_world.specs.declared.call.Asked.{Asked}
pub use Rattle.ns_world.specs.declared.call.Asked.TheVariants.{OfLock, OfNotes, OfObjects}
pub use Rattle.ns_world.specs.declared.call.Call.{Call}
pub use Rattle.ns_world.specs.declared.call.Call.TheVariants.{Add, Advance, Broadcast, CounterWait, CvWait, Done, Expiry, Get, IsNotified, Lock, NewNote, NoteWait, Notify, Once, RLock, RUnlock, Set, Signal, TryLock, TryRLock, Unlock, UnlockQuiet, Value, Wait, WaitAny}
pub use Rattle.ns_world.specs.declared.environment.Environment.{Environment}
pub use Rattle.ns_world.specs.declared.fault.Fault.{Fault}
pub use Rattle.ns_world.specs.declared.fault.Fault.TheVariants.{NoSuchSeat, OutOfMemory, StepLimit, TooManySeats}
pub use Rattle.ns_world.specs.declared.lock.Lock.{Lock as KeptLock}
pub use Rattle.ns_world.specs.declared.objects.AnyWait.{AnyWait}
pub use Rattle.ns_world.specs.declared.objects.Objects.{Objects as ObjectWords}
pub use Rattle.ns_world.specs.declared.reply.Reply.{Reply}
pub use Rattle.ns_world.specs.declared.reply.Reply.TheVariants.{Already, Answered, Is, Noisy, NotesFull, Number, Ran, Refused, Succeeded}
pub use Rattle.ns_world.specs.declared.schedule.Line.{Line}
pub use Rattle.ns_world.specs.declared.schedule.Turn.{Turn}
pub use Rattle.ns_world.specs.declared.seat.Doing.{Doing}
pub use Rattle.ns_world.specs.declared.seat.Doing.TheVariants.{AtRest, LooksByLimits, LooksByRound, OnLock, OnNotes, OnObjects}
pub use Rattle.ns_world.specs.declared.seat.Seat.{Seat}
pub use Rattle.ns_world.specs.declared.step.Begun.{Begun}
pub use Rattle.ns_world.specs.declared.step.Begun.TheVariants.{Busy, Misuse, Started}
pub use Rattle.ns_world.specs.declared.step.Step.{Step}
pub use Rattle.ns_world.specs.declared.step.Step.TheVariants.{Finished, Idle, Nothing, Went}
pub use Rattle.ns_world.specs.declared.wanted.Look.{Look as LookBy}
