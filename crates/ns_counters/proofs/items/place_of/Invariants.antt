use Rattle.std.proofs.Common.{drop, map, ◌+◌, ◌≡◌}
use Rattle.ns_counters.proofs.Prelude.{place_in}
use Rattle.ns_counters.proofs.items.place_of.Given as goal

abbrev pub invariant-loop-i : goal.invariant-loop-i
invariant-loop-i g l = place_in l.fn.k (map g.T.AsItem.item l.fn.items) ≡ l.i + place_in l.fn.k (map g.T.AsItem.item (drop l.i l.fn.items))
