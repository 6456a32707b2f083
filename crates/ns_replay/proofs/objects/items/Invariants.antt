use Rattle.std.proofs.Common.{drop, map, ◌≡◌}
use Rattle.ns_replay.proofs.Prelude.{items_behind, items_in}
use Rattle.ns_replay.proofs.objects.items.Given as goal

-- the objects so far, and behind them those of the words that are left
abbrev pub invariant-loop-word : goal.invariant-loop-word
invariant-loop-word l = items_behind l.declared l.items (map (λ x. x.now) (drop l.word-index l.words)) ≡ items_in l.declared (map (λ x. x.now) l.words)
