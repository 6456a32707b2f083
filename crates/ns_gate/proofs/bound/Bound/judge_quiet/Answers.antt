use Rattle.std.proofs.Common.{ap, arith, ◌+◌}
use Rattle.ns_gate.proofs.Prelude.{JudgeQuiet}
use Rattle.ns_gate.proofs.Bounds.{come_by}
use Rattle.ns_gate.proofs.Findings.{quiet_cell}
use Rattle.ns_gate.proofs.bound.Bound.judge_quiet.Goals as goal

pub load_at-requires : goal.load_at-requires
load_at-requires g c = let cell = c.requires.cell in let is = c.from-quiet_cell.ensures in
    (omega arith, (omega (arith, cell, is), record { act = JudgeQuiet c.args.i; can = c.requires.can; loads = tt; there = ap (λ n. n + 1) is }))

pub returns : goal.returns
returns g c = let loaded = c.load_at.ensures (JudgeQuiet c.args.i) c.requires.can in record { did = come_by _ _ loaded (λ did. did.made); cell = quiet_cell _ _ c.args.i _ _ _ loaded.by }
