-- The names that proofs cite, of specs and of what stands below, passed on from one place. Declares nothing.
pub use Rattle.ns_replay.specs.Prelude.{Answers, BadScript, Call, Collects, Counts, Data, Ended, Fails, Fault, Gave, IsEnough, IsRefused, IsRunFault, IsRunnable, IsShort, IsText, Line, ListFits, NotJson, OutOfMemory, Plan, Read, RunFault, Runs, RunsTo, Script, ScriptCondition, ScriptPath, Seats}
pub use Rattle.ns_replay.specs.Prelude.{StepLimit, StopsFor, TooMany, Turn, Turned, WasRead, Whole, WorldFault, after_comma, are_known, as_array, cell_text, each_from, event_text, fault_of_world, fresh_whole, history_text, is_end, is_in, is_known, items_behind, items_in, items_of, json_read}
pub use Rattle.ns_replay.specs.Prelude.{left_text, lefts_text, line_text, lines_text, list_of, lists_shown, max_bytes, max_piece, members_view, numbers_text, plan_of, read, rest_of, row_text, script_truths, seat_text, shown_of, start, state_text, stuck_by, variables_text, view, waiter_text}
pub use Rattle.ns_replay.specs.Prelude.{wake_text, wakes_owed, whole_busy, whole_of, world_for}
pub use Rattle.ns_world.proofs.Fresh.{length_seats, none_busy}
pub use Rattle.ns_world.proofs.Turns.{turns_stay}
pub use Rattle.serde_json.specs.declared.value.Value.{Value}
pub use Rattle.std.proofs.Common.{append-nil, arith, flat_map, length, map, refl, rules, string_bytes, sym}
pub use Rattle.std.proofs.KnownBytes.{Appends-trans, Consumes-trans, Keeps-refl}
pub use Rattle.std.proofs.lemmas.Bool.Decides.{nat_tests}
pub use Rattle.std.proofs.lemmas.Grind.{flat_map-append}
pub use Rattle.std.proofs.lemmas.Iterator.Consumers.{map_from_collect}
pub use Rattle.std.proofs.lemmas.Iterator.Splits.{YieldsList-from_str_split}
pub use Rattle.std.proofs.lemmas.List.{length-map, take_rest}
pub use Rattle.std.proofs.lemmas.List.Elements.{All-append, All-cons, All-from_recursion, All-nil, All-replicate, filter-append, recursion_from_All}
pub use Rattle.std.proofs.lemmas.Result.{err_from_is_err_and}
pub use Rattle.std.proofs.lemmas.Str.{IsUtf8-from_is_utf8, is_utf8-from_IsUtf8}
pub use Rattle.std.proofs.lemmas.Str.Parse.{IsNumeralModel, numerals_by_value, parse_plain, tells_all_ascii_digits}
pub use Rattle.std.specs.Global.{Vec}
pub use Rattle.std.specs.Io.KnownBytes.{Appends, Consumes}
pub use Rattle.std.specs.List.{AllByRecursion, list_all, range_with_len}
pub use Rattle.std.specs.Result.{OkIff, result_ok}
pub use Rattle.std.specs.Str.{all_ascii_digits, is_utf8}
pub use Rattle.std.specs.Str.Parse.{ParsesUnsigned, digits_value}
pub use Rattle.std.specs.declared.alloc.Global.{Global}
unfoldable pub use Rattle.ns_replay.specs.Prelude.{call_at, calls_at, counter_at, json_of, list_in, number_of, plan_from}
unfoldable pub use Rattle.ns_replay.specs.Prelude.{script_of, seats_below, text_of, turn_at}
