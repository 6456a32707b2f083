use Rattle.std.proofs.Common.{arith, ◌∙◌}
use Rattle.ns_gate.proofs.Starts.{begins_with}
use Rattle.ns_gate.proofs.gate.Gate.new.Goals as goal

pub new-requires : goal.new-requires
new-requires g c = begins_with _ _ _ _ _ _ (omega arith) (c.as_slice.ensures.value ∙ c.in_ok-words.ensures) c.in_ok-slots.ensures

pub no_waiters-requires : goal.no_waiters-requires
no_waiters-requires g c = omega arith
