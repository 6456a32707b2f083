use Rattle.ns_world.proofs.Prelude.{false, is_in, is_of, option_map_or, slice_get}
use Rattle.ns_world.proofs.Busy.{AreFirst}
use Rattle.ns_world.proofs.seats.all_of.Given as goal

-- the seats so far
abbrev pub invariant-loop-at : goal.invariant-loop-at
invariant-loop-at g l = AreFirst (λ n. option_map_or (is_of l.sort) (slice_get l.seats n) false) l.at (λ seat. is_in l.all seat)
