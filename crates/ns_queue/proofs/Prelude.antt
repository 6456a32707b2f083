-- The names that proofs cite, of specs and of what stands below, passed on from one place. Declares nothing.
pub use Rattle.ns_model.proofs.Counts.{count_never, count_only, count_same, count_split}
pub use Rattle.ns_model.proofs.Sets.{in_more, none_in, same_seats}
pub use Rattle.ns_queue.proofs.Bounds.{at_most, bytes_136, bytes_72, entry_at, entry_there, last_in, less_within, more_fits, neither, offset_fits, on_none, one_down, one_fits, one_in, place_fits, room_at, seat_place, still_in, told_no, told_yes}
pub use Rattle.ns_queue.specs.Prelude.{Anybody, AreWaiting, ArrayVec, Asked, Cond, Counts, Cv, Cvs, DoCount, Every, HaveSeats, Holds, Hops, Idle, IsLegalBroadcast, IsLegalSignal, IsList, IsOrderly, IsRow, IsRuns, Left, Lists, Lock, MadeUpTo, Mode, Nobody, Phase, Reader, Readers, ReadersAndWriter}
pub use Rattle.ns_queue.specs.Prelude.{RunLinks, RunsOn, Seats, Shown, Sought, StandRuns, WaitFor, Waiter, Waiting, WaitsAmong, Wanted, Which, Woken, Writer, ahead, asked_by, asked_for, asked_of, asking, begins_with_reader, behind, beside, counts_less, counts_more, counts_of, cvs_without, ended}
pub use Rattle.ns_queue.specs.Prelude.{first_seat, foremost_of, from, goes_on, has, has_condition, has_some, head_of, in_front, is_alike, is_eligible, is_in, is_long, is_of, is_satisfied, is_waiting, is_waiting_as, is_wanted, joins, last_run, last_seat, left_by_writer, left_of, marked, named_for, one_if}
pub use Rattle.ns_queue.specs.Prelude.{outside, place_of, readers_and_a_writer, reads, runs_after, runs_of, seated, seats_of, shown_of, signal_marks, signaled_of, sole_of, sought_of, sought_seat, started, taken_set, tests_of, tests_on, tests_seeking, times, times_in, total, unmarked, unsignaled_of}
pub use Rattle.ns_queue.specs.Prelude.{via_in, waiters_of, waiting_as, wanted_after, with_each, with_waiters, without, without_all, without_in, woken_as, woken_of, woken_strangers, writes, writes_plainly}
pub use Rattle.ns_queue.specs.Rings.{AreCounts}
pub use Rattle.std.proofs.Common.{[], arith, falls, false, length, not, refl, sym, true}
pub use Rattle.std.proofs.Math.Bool.{or_comm}
pub use Rattle.std.proofs.Math.Seq.{drop-cons}
pub use Rattle.std.proofs.lemmas.Bool.{cases_Bool, cases_eq, cases_lt, ltb_from_iff}
pub use Rattle.std.proofs.lemmas.List.{get_or-map, get_or-replicate, get_or_default, get_or_past, length-map, length-replicate, map-append, map-set, take-append-le, take_more}
pub use Rattle.std.proofs.lemmas.List.Edits.{map_over_more}
pub use Rattle.std.proofs.lemmas.List.Filters.{FiltersInPlace, FiltersInPlace-all, FiltersInPlace-more_here, FiltersInPlace-more_no, FiltersInPlace-more_set}
pub use Rattle.std.proofs.lemmas.List.Sums.{count_by-le-length, count_by_more_no, get_or-le-sum_by, sum_by-append, sum_by-cons, sum_by-set, sum_by-take-drop, sum_by_more, sum_by_more_le}
pub use Rattle.std.proofs.lemmas.Map.Steps.{length-le_from_distinct_below}
pub use Rattle.std.specs.Bool.{beq}
pub use Rattle.std.specs.List.{count_by, filter, list_any, refill, sum_by}
pub use Rattle.std.specs.Option.{option_copied, option_map}
pub use borrow.Author.Rules.{scaled_Fits}
unfoldable pub use Rattle.ns_queue.specs.Prelude.{gather}
