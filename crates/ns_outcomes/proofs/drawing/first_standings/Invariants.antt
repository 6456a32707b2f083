use Rattle.std.proofs.Common.{map, ◌≡◌}
use Rattle.ns_outcomes.proofs.Prelude.{first_standing, progress, range_with_len, script_truths, whole_of}
use Rattle.ns_outcomes.proofs.drawing.first_standings.Given as goal

abbrev pub invariant-loop-thread : goal.invariant-loop-thread
invariant-loop-thread l = l.standings.items ≡ map (first_standing (map (λ calls. calls.items) l.threads) (progress (whole_of script_truths l.world) l.tally.over l.tally.lines.items)) (range_with_len 0 l.thread)
