-- The lemmas that many proofs cite, passed on from one place. Declares nothing.
pub use Rattle.ns_queue.proofs.Asking.{Enters, Knows, alike_none, asking_most, knows_asked, knows_entered, met_entered, taken_asked}
pub use Rattle.ns_queue.proofs.Hops.{first_hop, last_hop, seated_first, seated_here, seated_none, seated_rest, stands_not}
pub use Rattle.ns_queue.proofs.Inside.{list_at, list_there, lock_left, lock_more, shape}
pub use Rattle.ns_queue.proofs.Marking.{drop_step, every_marked, filter_marks, times_in-filter, times_parted}
pub use Rattle.ns_queue.proofs.Meaning.{signal_parts}
pub use Rattle.ns_queue.proofs.Orders.{free_beside, orderly_less}
pub use Rattle.ns_queue.proofs.Parts.{below_in, each_beside, each_less, each_more, lock_without}
pub use Rattle.ns_queue.proofs.Places.{ahead_out, cut_at, found, from_none, own, parted, row_at, row_front, row_low, row_own, row_parts, row_rest, row_without, seated_low, seated_stands, smaller, split, standing, stepped, without_is}
pub use Rattle.ns_queue.proofs.Ringed.{last_low, links_are, place_low, places_low, row_of}
pub use Rattle.ns_queue.proofs.Seats.{at_most_one, few, found_in, low_of, none_without, own_times, some_more, stands_low, times_in-append, times_in-cons, times_in_push}
pub use Rattle.ns_queue.proofs.Seeking.{Unmet, alike_unmet, all_sought, answered, counted, few_sought, front_most, front_no, front_yes, goes_along, nobody_taken, seeking_alike, seeking_found, seeking_other, tests_found, unmet_of}
