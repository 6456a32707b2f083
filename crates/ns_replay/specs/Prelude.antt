-- The names that contracts, proofs and the crates above cite, passed on from one place. Declares nothing.
pub use Rattle.ns_replay.specs.Calls.{long_call_of, plain_call_of, repeats_of, short_call_of}
pub use Rattle.ns_replay.specs.Condition.{script_truths}
pub use Rattle.ns_replay.specs.Faults.{Fails, Gives, each_from, fault_of_world, need, ◌>>=◌}
pub use Rattle.ns_replay.specs.Names.{Add, Advance, BadScript, Broadcast, Call, CallInRange, CounterWait, CvWait, Data, Declared, Done, Expiry, Fault, Get, IsMoment, IsNoteNumber, IsNotified, IsVariable, Items, Limits, Line, ListFits, NewNote, NotJson, NoteWait, Notify, Once, OutOfMemory, Read}
pub use Rattle.ns_replay.specs.Names.{RunFault, Runs, Script, ScriptCondition, ScriptPath, Seats, Set, Signal, StepLimit, StopsFor, TooMany, Turn, Turned, Value, Wait, WaitAny, Whole, WorldFault, as_array, as_number, as_str, as_u64, fresh_whole, get, is_end, is_in, items_of, lists_shown}
pub use Rattle.ns_replay.specs.Names.{members_view, no_items, read, rest_of, shown_of, start, view, wakes_owed, whole_busy, whole_of, with_item}
pub use Rattle.ns_replay.specs.Objects.{items_behind, items_in, one_more}
pub use Rattle.ns_replay.specs.Replaying.{Answers, Ended, HasRun, IsRefused, IsRunFault, IsToldTo, IsText, RunsTo, WasRead, world_for}
pub use Rattle.ns_replay.specs.Runnable.{IsRunnable, IsShort}
pub use Rattle.ns_replay.specs.Script.{Plan, any_variables, are_known, at_most, is_known, json_read, list_of, plan_of, words_of}
pub use Rattle.ns_replay.specs.Streams.{Counts, stuck_by}
pub use Rattle.ns_replay.specs.Text.{after_comma, cell_text, event_text, history_text, left_text, lefts_text, line_text, lines_text, numbers_text, row_text, seat_text, state_text, variables_text, waiter_text, wake_text}
pub use Rattle.ns_replay.specs.Transfer.{Collects, Gave, IsAskedEnough, IsEnough, IsFine, IsReadFault, IsWriteFault, WritesFront, ends_for, max_bytes, max_piece}
pub use Rattle.ns_replay.specs.Waits.{at_least_of, bounded_cell_of}
pub use Rattle.ns_replay.specs.Words.{below, moment_of, moment_or_none_of, note_or_none_of, or_none, parts}
unfoldable pub use Rattle.ns_replay.specs.Calls.{actor_of, add_of, brief_call_of, call_of, turn_of}
unfoldable pub use Rattle.ns_replay.specs.Objects.{any_wait_of, item_of}
unfoldable pub use Rattle.ns_replay.specs.Replaying.{plan_from}
unfoldable pub use Rattle.ns_replay.specs.Script.{call_at, calls_at, counter_at, counters_of, json_of, list_in, members_of, onces_of, plan_in, schedule_of, script_of, threads_of, turn_at, variables_of, version_of}
unfoldable pub use Rattle.ns_replay.specs.Text.{seats_below, text_of}
unfoldable pub use Rattle.ns_replay.specs.Waits.{condition_of, limits_of, note_limit_of, variable_wait_of, wait_of}
unfoldable pub use Rattle.ns_replay.specs.Words.{change_of, number_of}
