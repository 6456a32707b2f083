use Rattle.ns_gate.proofs.waking.take_waiters.Goals as goal

pub returns-in-Signaling : goal.returns-in-Signaling
returns-in-Signaling g c = record { taken = rw c.in-Signaling.is c.take_signal.ensures.taken; left = rw c.in-Signaling.is c.take_signal.ensures.left; orderly = c.take_signal.ensures.orderly }

pub returns-in-Broadcasting : goal.returns-in-Broadcasting
returns-in-Broadcasting g c = record { taken = rw c.in-Broadcasting.is c.take_all.ensures.taken; left = rw c.in-Broadcasting.is c.take_all.ensures.left; orderly = c.take_all.ensures.orderly }
