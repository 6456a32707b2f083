use Rattle.std.proofs.Common.{length, slice_index, ℕ, ◌+◌, ◌<◌, ◌≡◌}
use Rattle.ns_gate.proofs.Prelude.{get_elem?, slots_items, some}
use Rattle.ns_gate.proofs.closed.cells.Given as goal

abbrev pub invariant-loop-i : goal.invariant-loop-i
invariant-loop-i g l = (length l.row ≡ g.row.N) × ((k : ℕ) → k < l.i → get_elem? (slots_items l.closed.words) (k + 1) ≡ some (slice_index l.row k))
