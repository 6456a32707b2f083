-- The names that contracts, proofs and the crates above cite, passed on from one place. Declares nothing.
pub use Rattle.arrayvec.specs.ArrayVec.{array_vec_len}
pub use Rattle.ns_queue.specs.Marks.{is_wanted, marked, signal_marks, unmarked, wanted_after}
pub use Rattle.ns_queue.specs.Names.{Anybody, ArrayVec, Cond, Counts, Cv, Cvs, Every, Idle, IsLegalBroadcast, IsLegalSignal, Left, Lock, Mode, Nobody, Phase, Reader, Readers, ReadersAndWriter, Seats, Shown, Sought, Waiter, Waiting, Wanted, Which, Woken, Writer, has, is_in, is_waiting, is_waiting_as}
pub use Rattle.ns_queue.specs.Names.{one_if, total, waiting_as, woken_as, woken_strangers}
pub use Rattle.ns_queue.specs.Queues.{IsList, IsOrderly, Lists, beside, cvs_without, named_for, times, waiters_of, with_each, with_waiters, without}
pub use Rattle.ns_queue.specs.Rings.{AreCounts, DoCount, Holds, Hops, IsRow, ahead, behind, counts_less, counts_more, counts_of, first_seat, from, last_seat, seated, via_in, without_all, writes_plainly}
pub use Rattle.ns_queue.specs.Runs.{IsRuns, MadeUpTo, RunLinks, RunsOn, StandRuns, head_of, joins, last_run, place_of, sought_of, sought_seat}
pub use Rattle.ns_queue.specs.Scans.{Asked, asked_of, begins_with_reader, ended, foremost_of, goes_on, is_alike, is_eligible, is_satisfied, left_by_writer, left_of, runs_after, runs_of, started, tests_of, woken_of}
pub use Rattle.ns_queue.specs.Signals.{readers_and_a_writer, signaled_of, sole_of, taken_set, unsignaled_of}
pub use Rattle.ns_queue.specs.Tests.{asked_by, asked_for, asking, in_front, tests_on, tests_seeking}
pub use Rattle.ns_queue.specs.Waiters.{HaveSeats, has_condition, has_some, is_long, is_of, outside, reads, seats_of, shown_of, times_in, without_in, writes}
pub use Rattle.ns_queue.specs.Wakes.{AreWaiting, WaitFor, WaitsAmong}
unfoldable pub use Rattle.ns_queue.specs.Rings.{gather}
