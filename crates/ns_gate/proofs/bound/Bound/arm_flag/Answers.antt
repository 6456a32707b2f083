use Rattle.ns_gate.proofs.Prelude.{ArmFlag, arith}
use Rattle.ns_gate.proofs.Bounds.{come_by}
use Rattle.ns_gate.proofs.bound.Bound.arm_flag.Goals as goal

pub store_at-requires : goal.store_at-requires
store_at-requires g c = (omega arith, (c.own_flag-flag.ensures.1, record { act = ArmFlag; can = c.requires; stores = omega arith; there = c.own_flag-flag.ensures.0 }))

pub returns : goal.returns
returns g c = come_by _ _ (c.store_at.ensures ArmFlag c.requires) (λ did. did.made)
