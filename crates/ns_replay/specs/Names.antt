-- The names of crates below and of this crate's own types, passed on from one place. Declares nothing.
pub use Rattle.ns_counters.specs.Items.{no_items, with_item}
pub use Rattle.ns_counters.specs.Names.{CounterFault}
pub use Rattle.ns_counters.specs.declared.items.Item.TheVariants.{OnCounter, OnNote}
pub use Rattle.ns_model.specs.Truths.{truths}
pub use Rattle.ns_model.specs.declared.counter.CounterFault.TheVariants.{AfterWait, Over, Under}
pub use Rattle.ns_model.specs.declared.event.Entry.TheVariants.{Plain}
pub use Rattle.ns_model.specs.declared.event.Event.TheVariants.{Leave}
pub use Rattle.ns_queue.specs.declared.waiter.Shown.{Shown}
pub use Rattle.ns_replay.specs.declared.condition.AtLeast.{AtLeast}
pub use Rattle.ns_replay.specs.declared.condition.ScriptCondition.{ScriptCondition}
pub use Rattle.ns_replay.specs.declared.fault.Fault.{Fault}
pub use Rattle.ns_replay.specs.declared.fault.Fault.TheVariants.{BadScript, NotJson, OutOfMemory, Read, StepLimit, TooMany, Write}
pub use Rattle.ns_replay.specs.declared.objects.Declared.{Declared}
pub use Rattle.ns_replay.specs.declared.options.Options.{Options}
pub use Rattle.ns_replay.specs.declared.path.ScriptPath.{ScriptPath}
pub use Rattle.ns_replay.specs.declared.script.Script.{Script}
pub use Rattle.ns_replay.specs.declared.streams.Got.{Got}
pub use Rattle.ns_replay.specs.declared.streams.Got.TheVariants.{Bytes, Failed, Interrupted}
pub use Rattle.ns_word.specs.Names.{AfterAny, AfterCv, AnyWait, Canceled, CondWait, Entry, Exit, LeaveAny, Met, Seats, Section, TimedOut, Waited}
pub use Rattle.ns_world.specs.Calls.{IsMoment, IsNoteNumber, IsVariable}
pub use Rattle.ns_world.specs.Prelude.{Answer, CallInRange, Cvs, Event, Item, Items, Limits, ListFits, Mode, OnVariable, StopsFor, Truths, Turned, Whole, Word, fresh_whole, is_end, is_in, lists_shown, rest_of, shown_of, wakes_owed, whole_busy, whole_of}
pub use Rattle.ns_world.specs.Runs.{RunFault, Runs, RunsSeen, Sees, start}
pub use Rattle.ns_world.specs.World.{Kept}
pub use Rattle.ns_world.specs.declared.call.Call.{Call}
pub use Rattle.ns_world.specs.declared.call.Call.TheVariants.{Add, Advance, Broadcast, CounterWait, CvWait, Done, Expiry, Get, IsNotified, Lock, NewNote, NoteWait, Notify, Once, RLock, RUnlock, Set, Signal, TryLock, TryRLock, Unlock, UnlockQuiet, Value, Wait, WaitAny}
pub use Rattle.ns_world.specs.declared.fault.Fault.{Fault as WorldFault}
pub use Rattle.ns_world.specs.declared.reply.Reply.{Reply}
pub use Rattle.ns_world.specs.declared.reply.Reply.TheVariants.{Already, Answered, Busy, Is, Misuse, Noisy, NotesFull, Number, Ran, Refused, Succeeded}
pub use Rattle.ns_world.specs.declared.schedule.Line.{Line}
pub use Rattle.ns_world.specs.declared.schedule.Turn.{Turn}
pub use Rattle.serde_json.specs.Data.{Data, Members, item, member, no_members}
pub use Rattle.serde_json.specs.Find.{as_array, as_number, as_object, as_str, as_u64, get}
pub use Rattle.serde_json.specs.Read.{read}
pub use Rattle.serde_json.specs.View.{items_of, members_view, view}
