use Rattle.std.proofs.Common.{ap, arith, ◌+◌, ◌∙◌}
use Rattle.ns_gate.proofs.Prelude.{PayWake}
use Rattle.ns_gate.proofs.Bounds.{come_by}
use Rattle.ns_gate.proofs.Findings.{owed_next}
use Rattle.ns_gate.proofs.bound.Bound.pay_wake.Goals as goal

pub store_at-requires : goal.store_at-requires
store_at-requires g c = let below = c.requires.owed.1 in let seat = c.from.ensures in let paid = ap (λ w. w.value) (owed_next c.args.wake _ c.requires.owed.0) in
    (omega arith, (omega (arith, below, seat), record { act = PayWake; can = c.requires.can; stores = omega (arith, paid); there = ap (λ n. n + (g.row.N + 1)) seat ∙ ap (λ w. w.seat + (g.row.N + 1)) (owed_next c.args.wake _ c.requires.owed.0) }))

pub wake_one-requires : goal.wake_one-requires
wake_one-requires g c = let wide = c.gate.invariant.0 in let below = c.requires.owed.1 in let seat = c.from.ensures in omega (arith, wide, below, seat)

pub returns : goal.returns
returns g c = come_by _ _ (c.store_at.ensures PayWake c.requires.can) (λ did. did.made)
