use Rattle.std.proofs.Common.{ap, arith, refl, ◌+◌}
use Rattle.ns_gate.proofs.Prelude.{StoreCell}
use Rattle.ns_gate.proofs.Bounds.{come_by}
use Rattle.ns_gate.proofs.bound.Bound.store_cell.Goals as goal

pub store_at-requires : goal.store_at-requires
store_at-requires g c = let cell = c.requires.cell in let is = c.from.ensures in
    (omega arith, (omega (arith, cell, is), record { act = StoreCell c.args.i c.args.value; can = c.requires.can; stores = refl; there = ap (λ n. n + 1) is }))

pub returns : goal.returns
returns g c = come_by _ _ (c.store_at.ensures (StoreCell c.args.i c.args.value) c.requires.can) (λ did. did.made)
