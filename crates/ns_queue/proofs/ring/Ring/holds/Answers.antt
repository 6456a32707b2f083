use Rattle.std.proofs.Common.{◌∙◌}
use Rattle.ns_queue.proofs.Prelude.{option_copied}
use Rattle.ns_queue.proofs.Ringed.{mapped_some, tells}
use Rattle.ns_queue.proofs.ring.Ring.holds.Goals as goal

pub returns : goal.returns
returns g c = record { stands = tells c.args.seat c.args.self.now (option_copied c.get.result) c.is_some.result c.get.ensures.waiter (c.is_some.ensures ∙ mapped_some _ c.get.result); orderly = c.get.ensures.orderly }
