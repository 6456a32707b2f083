use Rattle.ns_gate.proofs.Prelude.{arith}
use Rattle.ns_gate.proofs.bound.Bound.park_timeout.Goals as goal

pub park_timeout-requires : goal.park_timeout-requires
park_timeout-requires g c = let wide = c.gate.invariant.0 in let below = c.own_flag-flag.ensures.1 in omega (arith, wide, below)
