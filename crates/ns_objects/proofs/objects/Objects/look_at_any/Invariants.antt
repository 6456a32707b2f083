use Rattle.std.proofs.Common.{false, take, ◌≡◌}
use Rattle.ns_objects.proofs.Prelude.{EnvGrows, Grows, InTurn, WasReady, past_of}
use Rattle.ns_objects.proofs.objects.Objects.look_at_any.Given as goal

-- behind the look at the clock each item so far was unready, in order
abbrev pub invariant-loop-i : goal.invariant-loop-i
invariant-loop-i g l = Grows l.fn.seat l.seat × (l.seat.mine ≡ l.fn.seat.mine) × EnvGrows l.initial.watch l.watch × (l.watch.mine ≡ l.fn.watch.mine)
    × InTurn (λ point item. WasReady l.fn.seat.setup false point (g.T.Looked.any item)) (past_of (l.fn.seat, l.initial.watch)) (past_of (l.seat, l.watch)) (take l.i l.items)
