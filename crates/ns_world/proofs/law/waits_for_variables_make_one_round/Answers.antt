use Rattle.ns_world.proofs.Direct.{one_round_only}
use Rattle.ns_world.proofs.law.waits_for_variables_make_one_round.Goals as goal

pub returns : goal.returns
returns g c = one_round_only
