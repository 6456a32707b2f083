use Rattle.ns_world.proofs.Prelude.{ap}
use Rattle.ns_world.proofs.Fresh.{no_notes}
use Rattle.ns_world.proofs.environment.Environment.new.Goals as goal

pub returns : goal.returns
returns c = ap (λ notes. record { clock = 0; next = 0; notes = notes }) no_notes
