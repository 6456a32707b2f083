use Rattle.std.proofs.Common.{drop, map, ℕ, ◌<◌, ◌||◌, ◌≡◌}
use Rattle.ns_counters.proofs.Prelude.{is_among, is_in}
use Rattle.ns_counters.proofs.items.variables_in.Given as goal

abbrev pub invariant-loop-item : goal.invariant-loop-item
invariant-loop-item g l = (l.cvs.0 < 256) × ((k : ℕ) → (is_in l.cvs k || is_among k (map g.T.AsItem.item (drop l.item-index l.fn.items))) ≡ is_among k (map g.T.AsItem.item l.fn.items))
