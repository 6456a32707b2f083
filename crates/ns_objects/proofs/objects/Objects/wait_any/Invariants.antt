use Rattle.std.proofs.Common.{ℕ, ◌≡◌}
use Rattle.ns_objects.proofs.Prelude.{EnvGrows, Grows, HaveShownNothing, WasReady, any_of, past_of}
use Rattle.ns_objects.proofs.objects.Objects.wait_any.Given as goal

-- each round so far has shown nothing
abbrev pub invariant-loop : goal.invariant-loop
invariant-loop g l = (goal.iterator-loop g).can_next l.iterator' × (goal.iterator-loop g).is_finite l.iterator' × Grows l.fn.seat l.seat × (l.seat.mine ≡ l.fn.seat.mine) × EnvGrows l.fn.watch l.watch × (l.watch.mine ≡ l.fn.watch.mine)
    × ((rounds : ℕ) × HaveShownNothing (λ so point item. WasReady l.fn.seat.setup so point (any_of item)) l.items l.deadline rounds (past_of (l.fn.seat, l.fn.watch)) (past_of (l.seat, l.watch)))
