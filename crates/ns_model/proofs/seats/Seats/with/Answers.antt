use Rattle.ns_model.proofs.Prelude.{w64}
use Rattle.ns_model.proofs.Sets.{bit_set}
use Rattle.ns_model.proofs.seats.Seats.with.Goals as goal

pub returns : goal.returns
returns c = λ n. bit_set w64 c.args.self.0 c.args.seat n c.requires
