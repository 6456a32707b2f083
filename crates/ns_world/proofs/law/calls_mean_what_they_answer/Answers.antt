use Rattle.ns_world.proofs.Underway.{calls_mean}
use Rattle.ns_world.proofs.law.calls_mean_what_they_answer.Goals as goal

pub returns : goal.returns
returns g c = λ n seat before begun last after earlier call reply run. calls_mean n seat before begun last after earlier call reply run.lawful run.led run.begins run.begun_lawful run.meanwhile run.finish
