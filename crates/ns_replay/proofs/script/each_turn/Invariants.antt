use Rattle.std.proofs.Common.{drop, map, ◌≡◌}
use Rattle.ns_replay.proofs.Prelude.{each_from, turn_at}
use Rattle.ns_replay.proofs.Loop.{with_front}
use Rattle.ns_replay.proofs.script.each_turn.Given as goal

abbrev pub invariant-loop-number : goal.invariant-loop-number
invariant-loop-number l = with_front (l.turns.items) (each_from (turn_at l.threads) l.number (map (λ x. x.now) (drop l.number l.words))) ≡ each_from (turn_at l.threads) 0 (map (λ x. x.now) l.words)
