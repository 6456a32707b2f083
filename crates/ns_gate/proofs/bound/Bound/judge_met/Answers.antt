use Rattle.std.proofs.Common.{ap, arith, ◌+◌}
use Rattle.ns_gate.proofs.Prelude.{JudgeMet}
use Rattle.ns_gate.proofs.Bounds.{come_by}
use Rattle.ns_gate.proofs.Findings.{met_cell}
use Rattle.ns_gate.proofs.bound.Bound.judge_met.Goals as goal

pub load_at-requires : goal.load_at-requires
load_at-requires g c = let cell = c.requires.cell in let is = c.from-tested_cell.ensures in
    (omega arith, (omega (arith, cell, is), record { act = JudgeMet c.args.i c.args._condition; can = c.requires.can; loads = tt; there = ap (λ n. n + 1) is }))

pub returns : goal.returns
returns g c = let loaded = c.load_at.ensures (JudgeMet c.args.i c.args._condition) c.requires.can in record { did = come_by _ _ loaded (λ did. did.made); cell = met_cell _ _ c.args.i _ c.args._condition _ _ loaded.by }
