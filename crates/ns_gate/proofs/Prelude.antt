-- The names that proofs cite, of specs and of what stands below, passed on from one place. Declares nothing.
pub use Rattle.ns_env.proofs.Asks.{set_here, set_there}
pub use Rattle.ns_gate.proofs.Hands.{beside_fits, has_slot, now_in_hand, queues_fit, was_in_hand}
pub use Rattle.ns_gate.specs.Prelude.{Acquire, Act, ActFits, Allows, ArePair, ArmFlag, Arrival, AtHome, BeginsIf, BeginsWith, Bits, Broadcasting, Bounded, CallGoes, CameByGuess, CanLeave, CanStep, CanWait, Carries, Cause, Cell, Change, Changed, Course, Cv, Done, Effect, EndsAs, Event, Every, Final, Fits}
pub use Rattle.ns_gate.specs.Prelude.{Flag, Foremost, Found, GateView, GetLoad, HasCome, HasComeBy, HasGuessed, HasLearned, HasLooked, HasMadeBoth, HasMode, HasReached, HasSight, HasSince, HasStepped, HasTurned, HaveLearned, HaveMet, HaveSeats, Held, Holds, Homes, Idle, InAcquire, InCells, InLeaving, InQueuing}
pub use Rattle.ns_gate.specs.Prelude.{InRelease, InShow, InSignal, InTry, InWait, IsAtPlace, IsAtRest, IsBySeats, IsBySums, IsExchange, IsLawful, IsLoad, IsOnWord, IsOne, IsOrderly, IsOwedNext, IsPackable, IsPlainExchange, IsRuled, IsSettled, IsStoreOf, IsTold, IsTrueToHistory, IsWide, JudgeMet}
pub use Rattle.ns_gate.specs.Prelude.{JudgeQuiet, Leave, LeaveSelf, Limits, Lists, LoadCell, LoadFlag, LoadWord, Lock, LockState, Look, Looked, Made, MayBegin, MayExchange, MayGuess, MayLoad, MayShow, MayStore, Me, Mode, Needs, Next, Nobody, On, OnCondition, OnVariables, OneWriter, Owed, OwesBelow}
pub use Rattle.ns_gate.specs.Prelude.{OwesOne, Paid, Part, Pay, PayInWait, PayTheWoken, PayWake, Performed, PerformedBoth, PerformedWith, PlaceFits, Queue, QueueSelf, QueueToWait, Quiet, QuietKeeps, Read, Release, ReleaseReturning, Released, Releasing, Reply, Request, ReturnQueues, ReturnShown}
pub use Rattle.ns_gate.specs.Prelude.{Returning, Saw, ScanAndRelease, SeatOf, SeatStep, SeatView, SectionFits, Seen, ShareTheLock, Shows, ShowsLists, Signaling, SoFar, Sought, Standing, Step, StoreCell, Subject, TableAct, TableId, TakeQueues, Taking, TestLast, Tested, ToChange, ToQueue, Told}
pub use Rattle.ns_gate.specs.Prelude.{Truths, TryLoad, Turned, Underlying, Valid, ViewFits, Views, Wait, WaitReturning, Waited, Waiter, WakeAndReturn, WakeWaiters, Waking, Walk, WantsNext, Woke, Word, Write, Writer, act_by, act_of, act_returning, asked_of, awaits, before_in, begins_with_reader}
pub use Rattle.ns_gate.specs.Prelude.{bits_of, called_by, called_of, calls_of, carried_after, carried_by, change_commits, change_found, changed, content_by, course_after, course_by, course_from, cvs_without, encoded, exchanged, exit_for, first_of, flags_with, foremost_of, found_back, found_of, found_returned}
pub use Rattle.ns_gate.specs.Prelude.{fresh, fresh_seat, fresh_state, fresh_views, gives, got_of, has_queues, has_some, held_after, homes_after, is_held, is_of, is_reading, is_seat, is_write, is_writing, judge_of, keeps_slots, kept_by, left_by_writer, left_of, lists_left, lists_scanned, lists_woken}
pub use Rattle.ns_gate.specs.Prelude.{made_by, meets_at, mode_for, moved_to, moves, newly_held, next_owed, no_lists, number_of, number_of_seat, one_if, opening, outside, owed_after, owed_woken, owes_more, own_of, part_of, pays, place_after, readers, releasing_of, rest, rest_of, row_after, row_in}
pub use Rattle.ns_gate.specs.Prelude.{scanned, seats_of, section_of, sight_of, sole_of, sought_at, standing_after, stands_at, taken_by, taken_from, taken_set, takers, takes, tests_of, the, times, times_in, told_after, total, tried_for, turned_to, value_of, view_in, waited_in, waiters_of, waits_at}
pub use Rattle.ns_gate.specs.Prelude.{wake_told, wakes_of, walk_by, want_of, with_waiters, without, without_each, woken_nobody, woken_of, woken_sole, word_acquired, word_at, word_released, word_released_returning, word_returned, word_returning, word_taken, writers, writes}
pub use Rattle.ns_gate.specs.Steps.{PutsBack}
pub use Rattle.ns_model.proofs.Beginnings.{begins_itself, begins_through}
pub use Rattle.ns_model.proofs.Tallies.{Others, every_at, every_both, every_put, others_both, others_map, others_none, others_of, total_at, total_none, total_set}
pub use Rattle.ns_queue.proofs.Marking.{drop_step}
pub use Rattle.ns_queue.proofs.Outside.{same_each}
pub use Rattle.ns_queue.proofs.Prelude.{in_more, none_in, told_no}
pub use Rattle.ns_queue.proofs.Shown.{each_shown}
pub use Rattle.ns_queue.proofs.Taken.{sole_is}
pub use Rattle.ns_queue.specs.Room.{list_fits, waiter_fits}
pub use Rattle.ns_queue.specs.declared.scan.Foremost.TheVariants.{Reader}
pub use Rattle.ns_seats.proofs.AtOnce.{GoesOn, at_once}
pub use Rattle.ns_seats.proofs.Meetings.{cuts, glues, learns as joined_learn, meets}
pub use Rattle.ns_seats.proofs.Numbered.{one_of_each}
pub use Rattle.ns_seats.proofs.Sights.{one_history}
pub use Rattle.ns_seats.proofs.Views.{one_is, pair_of}
pub use Rattle.ns_word.proofs.Acts.{act_fits, stands_nowhere, view_fits}
pub use Rattle.ns_word.proofs.Codes.{decoded}
pub use Rattle.ns_word.proofs.Courses.{begins_unchanged, takes_on}
pub use Rattle.ns_word.proofs.Numbers.{begin_at, set_same, split_at, step_at}
pub use Rattle.ns_word.proofs.Prelude.{below_in, gone_those, list_small, lists_without, none_without, once_in, one_most, own_times, times_in-cons, times_signaled}
pub use Rattle.ns_word.proofs.Ranges.{lists_orderly}
pub use Rattle.ns_word.proofs.Seen.{found_fits, packable}
pub use Rattle.ns_word.proofs.Starts.{lawful_fresh}
pub use Rattle.ns_word.proofs.ToldAfter.{begins_if, own_append, seat_in, seat_step_by, seat_step_tells, seat_steps_keep, told_first, told_there}
pub use Rattle.ns_word.specs.declared.wait.Aim.{Aim}
pub use Rattle.std.proofs.Common.{arith, inl, refl, subst, sym}
pub use Rattle.std.proofs.Math.Bool.{and-true}
pub use Rattle.std.proofs.lemmas.Bool.{cases_Bool, cases_eq}
pub use Rattle.std.proofs.lemmas.List.{get_or-replicate, length-replicate, set-get_or}
pub use Rattle.std.proofs.lemmas.List.Elements.{filter-append}
pub use Rattle.std.proofs.lemmas.Option.{slice_get_within}
pub use Rattle.std.specs.Bool.{OnFalse, OnTrue}
pub use Rattle.std.specs.Int.{bit_at}
pub use Rattle.std.specs.Mem.Slots.{slots_items}
pub use Rattle.std.specs.Option.{option_map}
pub use denote.Param.{number}
pub use lib.ListN.{get_elem?}
pub use mathlib.Core.Option.{none, some, some-injective, some-ne-none}
pub use prog.Atomic.{either}
unfoldable pub use Rattle.ns_gate.specs.Prelude.{word_of}
