-- The names of crates below and of this crate's own types, passed on from one place. Declares nothing.
pub use Rattle.ns_env.specs.Prelude.{BeginsWith, NextIs, place_after}
pub use Rattle.ns_env.specs.Walks.{is_limited}
pub use Rattle.ns_env.specs.declared.limits.Cause.{Cause}
pub use Rattle.ns_env.specs.declared.limits.Cause.TheVariants.{Expired, Notified}
pub use Rattle.ns_env.specs.declared.limits.Limits.{Limits}
pub use Rattle.ns_env.specs.declared.next.Next.{Next}
pub use Rattle.ns_env.specs.declared.next.Next.TheVariants.{Done, Idle, On}
pub use Rattle.ns_model.specs.Histories.{IsBySeats, IsLegal, IsLegalEvent, Standing, first_row, first_standing, own, phase_of, row_after, standing_after, standing_next, who_of}
pub use Rattle.ns_model.specs.Phases.{left_phase}
pub use Rattle.ns_model.specs.Sections.{EntryFits, ExitFits, ModeFits, is_met, phase_after}
pub use Rattle.ns_model.specs.Truths.{QuietKeeps, Truths}
pub use Rattle.ns_model.specs.Wakes.{IsLegalLeave, IsLegalLeaveAny}
pub use Rattle.ns_model.specs.declared.cvs.Variables.TheVariants.{Any, Only}
pub use Rattle.ns_model.specs.declared.event.Answer.{Answer}
pub use Rattle.ns_model.specs.declared.event.Answer.TheVariants.{Canceled, Met, TimedOut}
pub use Rattle.ns_model.specs.declared.event.Entry.{Entry}
pub use Rattle.ns_model.specs.declared.event.Entry.TheVariants.{AfterAny, AfterCv, Waited}
pub use Rattle.ns_model.specs.declared.event.Event.{Event}
pub use Rattle.ns_model.specs.declared.event.Event.TheVariants.{Broadcast, LeaveAny, Section, Signal}
pub use Rattle.ns_model.specs.declared.event.Exit.{Exit}
pub use Rattle.ns_model.specs.declared.event.Exit.TheVariants.{AnyWait, CondWait, CvWait, Plain}
pub use Rattle.ns_model.specs.declared.event.Mode.TheVariants.{Read, Write}
pub use Rattle.ns_queue.specs.Names.{Variables, is_write, woken_phase}
pub use Rattle.ns_queue.specs.Prelude.{AreWaiting, Cond, Cvs, Every, HaveSeats, IsOrderly, Lists, Mode, Phase, Seats, WaitFor, Waiting, WaitsAmong, beside, cvs_without, has, has_condition, has_some, is_eligible, is_in, is_long, is_of, is_satisfied, is_waiting, left_of, named_for, one_if, outside, reads}
pub use Rattle.ns_queue.specs.Prelude.{seats_of, signaled_of, taken_set, tests_of, times, times_in, total, unsignaled_of, waiters_of, with_each, with_waiters, without, without_in, woken_of, writes}
pub use Rattle.ns_queue.specs.Wakes.{woken_phases}
pub use Rattle.ns_queue.specs.declared.waiter.Waiter.{Waiter}
pub use Rattle.ns_queue.specs.declared.waiter.Which.TheVariants.{Cv, Lock}
pub use Rattle.ns_word.specs.declared.acquire_walk.AcquirePlace.{AcquirePlace}
pub use Rattle.ns_word.specs.declared.acquire_walk.AcquirePlace.TheVariants.{AcquireExchange, AcquireLoad, Arm, AwaitWake, Queue, TakeToQueue}
pub use Rattle.ns_word.specs.declared.act.Act.{Act}
pub use Rattle.ns_word.specs.declared.act.Act.TheVariants.{Acquire, ArmFlag, JudgeMet, JudgeQuiet, LoadCell, LoadFlag, LoadWord, Look, PayWake, Release, ReleaseReturning, ReturnQueues, StoreCell, TakeQueues, WaitReturning}
pub use Rattle.ns_word.specs.declared.act.Change.{Change}
pub use Rattle.ns_word.specs.declared.act.Change.TheVariants.{LeaveSelf, Nothing, QueueSelf, WakeWaiters}
pub use Rattle.ns_word.specs.declared.act.Found.{Found}
pub use Rattle.ns_word.specs.declared.act.Found.TheVariants.{Cell, Flag, Left, Looked, Made, Paid, Quiet, Saw, Scanned, Tested, Woke}
pub use Rattle.ns_word.specs.declared.act.Waking.{Waking}
pub use Rattle.ns_word.specs.declared.act.Waking.TheVariants.{Broadcasting, Signaling}
pub use Rattle.ns_word.specs.declared.cell_walk.CellPlace.{CellPlace}
pub use Rattle.ns_word.specs.declared.cell_walk.CellPlace.TheVariants.{GetLoad, QuietCells, QuietLast, SetLoad, SetStore}
pub use Rattle.ns_word.specs.declared.cell_walk.Judging.{Judging}
pub use Rattle.ns_word.specs.declared.cell_walk.Judging.TheVariants.{ToRelease, ToTell}
pub use Rattle.ns_word.specs.declared.number.Bit.{Bit}
pub use Rattle.ns_word.specs.declared.owed.Owed.{Owed}
pub use Rattle.ns_word.specs.declared.release_walk.ReleasePlace.{ReleasePlace}
pub use Rattle.ns_word.specs.declared.release_walk.ReleasePlace.TheVariants.{Pay, ReleaseExchange, ReleaseLoad, ScanAndRelease, ScanCells, TakeToScan}
pub use Rattle.ns_word.specs.declared.request.Request.{Request}
pub use Rattle.ns_word.specs.declared.request.Request.TheVariants.{Await, Get, IsQuiet, Set, Show, TryLock, Wake}
pub use Rattle.ns_word.specs.declared.show_walk.ShowPlace.{ShowPlace}
pub use Rattle.ns_word.specs.declared.show_walk.ShowPlace.TheVariants.{ReturnShown, ShowLoad, TakeToShow}
pub use Rattle.ns_word.specs.declared.signal_walk.SignalPlace.{SignalPlace}
pub use Rattle.ns_word.specs.declared.signal_walk.SignalPlace.TheVariants.{PayTheWoken, SignalLoad, TakeToWake, WakeAndReturn}
pub use Rattle.ns_word.specs.declared.try_walk.TryPlace.{TryPlace}
pub use Rattle.ns_word.specs.declared.try_walk.TryPlace.TheVariants.{TryAcquire, TryLoad}
pub use Rattle.ns_word.specs.declared.view.Held.{Held}
pub use Rattle.ns_word.specs.declared.view.Opening.{Opening}
pub use Rattle.ns_word.specs.declared.view.Opening.TheVariants.{CameBack, Locked}
pub use Rattle.ns_word.specs.declared.view.SeatView.{SeatView}
pub use Rattle.ns_word.specs.declared.wait.Aim.{Aim}
pub use Rattle.ns_word.specs.declared.wait.Aim.TheVariants.{ForLock, ForWait}
pub use Rattle.ns_word.specs.declared.wait.Home.{Home}
pub use Rattle.ns_word.specs.declared.wait.Home.TheVariants.{AtLock, AtVariables}
pub use Rattle.ns_word.specs.declared.wait.LeavePlace.{LeavePlace}
pub use Rattle.ns_word.specs.declared.wait.LeavePlace.TheVariants.{AwaitWakeToLeave, Leave, LeaveLoad, TakeToLeave}
pub use Rattle.ns_word.specs.declared.wait.Outcome.{Outcome}
pub use Rattle.ns_word.specs.declared.wait.Outcome.TheVariants.{Ended, Woken}
pub use Rattle.ns_word.specs.declared.wait.QueuePlace.{QueuePlace}
pub use Rattle.ns_word.specs.declared.wait.QueuePlace.TheVariants.{ArmToWait, Load, LoadToScan, LookIn, QueueToWait, Take}
pub use Rattle.ns_word.specs.declared.wait.Subject.{Subject}
pub use Rattle.ns_word.specs.declared.wait.Subject.TheVariants.{OnCondition, OnVariables}
pub use Rattle.ns_word.specs.declared.wait.Visit.{Visit}
pub use Rattle.ns_word.specs.declared.wait.Visit.TheVariants.{OnEntry, OnReturn}
pub use Rattle.ns_word.specs.declared.wait.Wait.{Wait}
pub use Rattle.ns_word.specs.declared.wait.WaitPlace.{WaitPlace}
pub use Rattle.ns_word.specs.declared.wait.WaitPlace.TheVariants.{AwaitWakeInWait, InLeaving, InQueuing, LookOut, PayInWait, TestCells, TestLast}
pub use Rattle.ns_word.specs.declared.walk.Reply.{Reply}
pub use Rattle.ns_word.specs.declared.walk.Reply.TheVariants.{Answered, Busy, Is, Noisy, Number, Succeeded, WokenBy}
pub use Rattle.ns_word.specs.declared.walk.Walk.{Walk}
pub use Rattle.ns_word.specs.declared.walk.Walk.TheVariants.{InAcquire, InCells, InRelease, InShow, InSignal, InTry, InWait}
pub use Rattle.ns_word.specs.declared.word.Arrival.{Arrival}
pub use Rattle.ns_word.specs.declared.word.Arrival.TheVariants.{AsFresh, AsWoken}
pub use Rattle.ns_word.specs.declared.word.Bits.{Bits}
pub use Rattle.ns_word.specs.declared.word.Releasing.{Releasing}
pub use Rattle.ns_word.specs.declared.word.Releasing.TheVariants.{QuietWriter, Reader, Writer}
pub use Rattle.ns_word.specs.declared.word.Taking.{Taking}
pub use Rattle.ns_word.specs.declared.word.Taking.TheVariants.{ToChange, ToQueue}
pub use Rattle.ns_word.specs.declared.word.Word.{Word}
pub use Rattle.std.specs.Prelude.{Bool, None, Option, Some, false, true, ℕ}
