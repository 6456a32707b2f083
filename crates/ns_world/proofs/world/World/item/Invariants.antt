use Rattle.std.proofs.Common.{[], ◌-◌, ◌∷◌}
use Rattle.ns_world.proofs.Prelude.{AdvancesSeen, IsCounted, item_of, lists_of, watched, whole_of}
use Rattle.ns_world.proofs.world.World.item.Given as goal

-- the item goes on
abbrev pub invariant-loop-step : goal.invariant-loop-step
invariant-loop-step g l = record {
  advances : AdvancesSeen g.C.Condition.means g.O.Observer.sees (lists_of l.lists) l.limit (watched l.fn.self l.fn.tally l.fn.observer) (item_of l.word ∷ []) (item_of l.word ∷ []) (watched l.self l.tally l.observer);
  counted : IsCounted (whole_of g.C.Condition.means l.self) l.tally.over;
}

abbrev pub decreases-loop-step : goal.decreases-loop-step
decreases-loop-step g l = l.limit - l.tally.turns
