use Rattle.ns_world.proofs.Laws.{steps_led}
use Rattle.ns_world.proofs.law.steps_extend_the_histories.Goals as goal

pub returns : goal.returns
returns g c = steps_led
