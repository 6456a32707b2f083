use Rattle.std.proofs.Common.{take, true, ◌≡◌}
use Rattle.ns_world.proofs.Prelude.{is_there, items_of, list_all, note_at}
use Rattle.ns_world.proofs.call.are_there.Given as goal

-- there is each of those so far
abbrev pub invariant-loop-item : goal.invariant-loop-item
invariant-loop-item l = list_all (is_there l.setup (note_at l.notes)) (take l.item-index (items_of l.items)) ≡ true
