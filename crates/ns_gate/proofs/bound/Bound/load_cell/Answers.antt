use Rattle.std.proofs.Common.{ap, arith, ◌+◌}
use Rattle.ns_gate.proofs.Prelude.{LoadCell}
use Rattle.ns_gate.proofs.Bounds.{come_by}
use Rattle.ns_gate.proofs.bound.Bound.load_cell.Goals as goal

pub load_at-requires : goal.load_at-requires
load_at-requires g c = let cell = c.requires.cell in let is = c.from.ensures in
    (omega arith, (omega (arith, cell, is), record { act = LoadCell c.args.i; can = c.requires.can; loads = tt; there = ap (λ n. n + 1) is }))

pub returns : goal.returns
returns g c = come_by _ _ (c.load_at.ensures (LoadCell c.args.i) c.requires.can) (λ did. did.made)
