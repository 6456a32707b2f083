use Rattle.std.proofs.Common.{length, map, ◌-◌, ◌≤◌}
use Rattle.ns_outcomes.proofs.Prelude.{Drew, IsCounted, script_truths, stage_of, whole_of}
use Rattle.ns_outcomes.proofs.drawing.draw_turns.Given as goal

-- the turns so far
abbrev pub invariant-loop-thread : goal.invariant-loop-thread
invariant-loop-thread l = record {
  drew : Drew (map (λ calls. calls.items) l.threads) l.limit l.fn.draws (stage_of l.fn.drawing) l.fn.drawing.tally.turns l.drawing.words.items l.draws (stage_of l.drawing) l.drawing.tally.turns;
  counted : IsCounted (whole_of script_truths l.drawing.world) l.drawing.tally.over;
  few : length l.drawing.standings.items ≤ 64;
}

abbrev pub decreases-loop-thread : goal.decreases-loop-thread
decreases-loop-thread l = l.limit - l.drawing.tally.turns
