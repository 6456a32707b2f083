-- The lemmas that most proofs of steps cite, passed on from one place. Declares nothing.
pub use Rattle.ns_word.proofs.CountsIn.{OnceInEach, counts_gone, counts_lock, counts_none, counts_others, counts_somewhere, counts_taken, counts_there, cvs_left, gone_from, left_at, moved_at, once_left, once_taken, out_of_cvs, out_of_lock, outside_same, some_list, taken_at}
pub use Rattle.ns_word.proofs.Enters.{HasEntered, counts_entered, entered_at, once_entered, one_has, stander, times_other, variable_low}
pub use Rattle.ns_word.proofs.Groups.{Groups, Homed, Known, Safe, groups_of, lawful_by}
pub use Rattle.ns_word.proofs.Leaving.{left_event, left_is_legal, left_next, left_told, not_left}
pub use Rattle.ns_word.proofs.Listed.{every_apart, every_cut, listed_left, listed_queued, listed_without, none_of}
pub use Rattle.ns_word.proofs.Scans.{calls_tell, filter_eligible, none_eligible, one_set, queued_eligible, some_queued, some_seat, some_wakes, tells_clear, tells_few, tells_from, times_others, times_queued, times_scan, times_seats, times_wakes, times_without, wakes_tell, woken_none, writer_eligible}
pub use Rattle.ns_word.proofs.Stepping.{effect_at, place_at, step_fits}
pub use Rattle.ns_word.proofs.Views.{IsSameOrWoken, Move, apart_moves, apart_parts, called_most, each_moves, each_woken, news, none_parts, olds, owed_at, stance_same, stance_stays, view_of, view_with, walk_here, walk_is, walk_stays, walk_was}
