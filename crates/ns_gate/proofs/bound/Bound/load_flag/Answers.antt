use Rattle.ns_gate.proofs.Prelude.{LoadFlag, arith}
use Rattle.ns_gate.proofs.Bounds.{come_by}
use Rattle.ns_gate.proofs.Findings.{small_flag}
use Rattle.ns_gate.proofs.bound.Bound.load_flag.Goals as goal

pub load_at-requires : goal.load_at-requires
load_at-requires g c = (omega arith, (c.own_flag-flag.ensures.1, record { act = LoadFlag; can = c.requires; loads = tt; there = c.own_flag-flag.ensures.0 }))

pub overflow_cast-result : goal.overflow_cast-result
overflow_cast-result g c = let small = small_flag _ _ _ _ (c.load_at.ensures LoadFlag c.requires).by.made in omega (arith, small)

pub returns : goal.returns
returns g c = come_by _ _ (c.load_at.ensures LoadFlag c.requires) (λ did. did.made)
