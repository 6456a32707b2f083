use Rattle.ns_world.proofs.Prelude.{AdvancesSeen, IsCounted, [], lists_of, take, watched, whole_of}
use Rattle.ns_world.specs.Runs.{items_of}
use Rattle.ns_world.proofs.world.World.follow.Given as goal

-- the words so far
abbrev pub invariant-loop-word : goal.invariant-loop-word
invariant-loop-word g l = record {
  advances : AdvancesSeen g.C.Condition.means g.O.Observer.sees (lists_of l.lists) l.limit (watched l.fn.self l.fn.tally l.fn.observer) (items_of (take l.word-index l.schedule)) [] (watched l.self l.tally l.observer);
  counted : IsCounted (whole_of g.C.Condition.means l.self) l.tally.over;
}
