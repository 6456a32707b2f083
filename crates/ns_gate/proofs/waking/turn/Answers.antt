use Rattle.ns_gate.proofs.waking.turn.Goals as goal

pub append-requires : goal.append-requires
append-requires g c = (g.met.C.Queueable.parts_fit.queues, (c.requires.below, (c.requires.once c.if-held.true, c.requires.free c.if-held.true)))
