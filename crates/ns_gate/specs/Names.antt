-- The names of crates below and of this crate's own types, passed on from one place. Declares nothing.
pub use Rattle.atomic_table.specs.Table.{Act as TableAct, Allows, Final, Me, Seen, State as TableState, Valid, carried_after, gives, homes_after, keeps as keeps_slots, opening, rest, takes}
pub use Rattle.ns_env.specs.Prelude.{NextIs}
pub use Rattle.ns_env.specs.declared.next.Next.{Next}
pub use Rattle.ns_env.specs.declared.next.Next.TheVariants.{Done, Idle, On}
pub use Rattle.ns_seats.specs.declared.fault.Fault.{Fault}
pub use Rattle.ns_seats.specs.declared.fault.Fault.TheVariants.{OutOfMemory, TooManySeats}
pub use Rattle.ns_gate.specs.declared.perform.Beside.{Beside}
pub use Rattle.ns_gate.specs.declared.queues.Returning.{Returning}
pub use Rattle.ns_gate.specs.declared.queues.Returning.TheVariants.{Changed, Released, Waited}
pub use Rattle.ns_gate.specs.declared.queues.Turned.{Turned}
pub use Rattle.ns_gate.specs.declared.showing.ShownLists.{ShownLists}
pub use Rattle.ns_queue.specs.Names.{Ghosts, HasRoom}
pub use Rattle.ns_queue.specs.Prelude.{begins_with_reader, foremost_of, left_by_writer, shown_of, sole_of, sought_of, total}
pub use Rattle.ns_queue.specs.Sizes.{queues_fit as room_fits}
pub use Rattle.ns_queue.specs.contracts.queues.Queues.{the_row as queues_row}
pub use Rattle.ns_queue.specs.declared.scan.Foremost.{Foremost}
pub use Rattle.ns_queue.specs.declared.scan.Foremost.TheVariants.{Nobody}
pub use Rattle.ns_queue.specs.declared.scan.Sought.{Sought}
pub use Rattle.ns_seats.specs.Meetings.{HaveLearned as HaveLearnedBy, Holds as HoldsBy, IsBySums}
pub use Rattle.ns_seats.specs.Sights.{AreOfOneHistory, HasSight, Sight}
pub use Rattle.ns_seats.specs.Views.{ArePair, IsOne, Views as ViewsOf, first_of, is_numbered, numbered, rest_of, tally, the_or}
pub use Rattle.ns_word.specs.Prelude.{ActFits, BeginsIf, BeginsWith, CallGoes, CanLeave, CanWait, Cause, Course, Cv, Effect, Event, Every, HasMode, HaveSeats, IsBySeats, IsFirst, IsLawful, IsLegal, IsLook, IsOrderly, IsPackable, IsSettled, IsTold, Limits, Lists, Lock, LockState, MayShow, Means}
pub use Rattle.ns_word.specs.Prelude.{Mode, OneWriter, OwesOne, Part, PlaceFits, QuietKeeps, Read, SeatStep, SectionFits, SoFar, Standing, Step, Told, Truths, ViewFits, Waiter, Write, asked_of, awaits, before_in, bits_of, called_by, called_of, calls_of, change_commits, change_found, changed}
pub use Rattle.ns_word.specs.Prelude.{content_at, course_after, course_from, cvs_without, encoded, exchanged, exit_for, flags_with, found_of, fresh_state, fresh_views, got_of, has_queues, has_some, held_after, is_held, is_of, is_reading, is_write, is_writing, judge_of, kept_by, left_of, meets_at}
pub use Rattle.ns_word.specs.Prelude.{mode_for, moved_to, moves, newly_held, nothing_told, number_of, one_if, outside, owed_after, owes_more, own as own_of, part_of, pays, place_after, readers, releasing_of, row_after, row_in, scanned, seats_of, section_of, standing_after, stands_at, taken_by}
pub use Rattle.ns_word.specs.Prelude.{taken_set, takers, tests_of, times, times_in, told_after, value_of, view_in, waited_in, waiters_of, wakes_of, want_of, with_lock, with_waiters, without, woken_of, word_acquired, word_released, word_released_returning, word_returned, word_taken, writers, writes}
pub use Rattle.ns_word.specs.declared.acquire_walk.AcquirePlace.TheVariants.{Queue}
pub use Rattle.ns_word.specs.declared.act.Act.{Act}
pub use Rattle.ns_word.specs.declared.act.Act.TheVariants.{Acquire, ArmFlag, JudgeMet, JudgeQuiet, LoadCell, LoadFlag, LoadWord, Look, PayWake, Release, ReleaseReturning, ReturnQueues, StoreCell, TakeQueues, WaitReturning}
pub use Rattle.ns_word.specs.declared.act.Change.{Change}
pub use Rattle.ns_word.specs.declared.act.Change.TheVariants.{LeaveSelf, QueueSelf, WakeWaiters}
pub use Rattle.ns_word.specs.declared.act.Found.{Found}
pub use Rattle.ns_word.specs.declared.act.Found.TheVariants.{Cell, Flag, Left, Looked, Made, Paid, Quiet, Saw, Scanned, Tested, Woke}
pub use Rattle.ns_word.specs.declared.act.Waking.{Waking}
pub use Rattle.ns_word.specs.declared.act.Waking.TheVariants.{Broadcasting, Signaling}
pub use Rattle.ns_word.specs.declared.cell_walk.CellPlace.TheVariants.{GetLoad}
pub use Rattle.ns_word.specs.declared.owed.Owed.{Owed}
pub use Rattle.ns_word.specs.declared.release_walk.ReleasePlace.TheVariants.{Pay, ScanAndRelease}
pub use Rattle.ns_word.specs.declared.request.Request.{Request}
pub use Rattle.ns_word.specs.declared.show_walk.ShowPlace.TheVariants.{ReturnShown}
pub use Rattle.ns_word.specs.declared.signal_walk.SignalPlace.TheVariants.{PayTheWoken, WakeAndReturn}
pub use Rattle.ns_word.specs.declared.try_walk.TryPlace.TheVariants.{TryLoad}
pub use Rattle.ns_word.specs.declared.view.Held.{Held}
pub use Rattle.ns_word.specs.declared.view.SeatView.{SeatView}
pub use Rattle.ns_word.specs.declared.wait.LeavePlace.TheVariants.{Leave}
pub use Rattle.ns_word.specs.declared.wait.QueuePlace.TheVariants.{QueueToWait}
pub use Rattle.ns_word.specs.declared.wait.Subject.{Subject}
pub use Rattle.ns_word.specs.declared.wait.Subject.TheVariants.{OnCondition, OnVariables}
pub use Rattle.ns_word.specs.declared.wait.WaitPlace.TheVariants.{InLeaving, InQueuing, PayInWait, TestLast}
pub use Rattle.ns_word.specs.declared.walk.Reply.{Reply}
pub use Rattle.ns_word.specs.declared.walk.Walk.{Walk}
pub use Rattle.ns_word.specs.declared.walk.Walk.TheVariants.{InAcquire, InCells, InRelease, InShow, InSignal, InTry, InWait}
pub use Rattle.ns_word.specs.declared.word.Arrival.{Arrival}
pub use Rattle.ns_word.specs.declared.word.Bits.{Bits}
pub use Rattle.ns_word.specs.declared.word.Releasing.{Releasing}
pub use Rattle.ns_word.specs.declared.word.Releasing.TheVariants.{QuietWriter, Reader, Writer}
pub use Rattle.ns_word.specs.declared.word.Taking.{Taking}
pub use Rattle.ns_word.specs.declared.word.Taking.TheVariants.{ToChange, ToQueue}
pub use Rattle.ns_word.specs.declared.word.Word.{Word}
pub use denote.RattleType.{RattleType}
pub use mathlib.Core.Option.{none, some}
