use Rattle.ns_world.proofs.Prelude.{AdvancesSeen, IsCounted, [], item_of, lists_of, replicate, watched, whole_of}
use Rattle.ns_world.proofs.world.World.schedule_word.Given as goal

-- the items so far
abbrev pub invariant-loop : goal.invariant-loop
invariant-loop g l = record {
  advances : AdvancesSeen g.C.Condition.means g.O.Observer.sees (lists_of l.lists) l.limit (watched l.fn.self l.fn.tally l.fn.observer) (replicate l.counter (item_of l.word)) [] (watched l.self l.tally l.observer);
  counted : IsCounted (whole_of g.C.Condition.means l.self) l.tally.over;
}
