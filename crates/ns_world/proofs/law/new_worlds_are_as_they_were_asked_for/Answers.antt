use Rattle.std.proofs.Common.{refl}
use Rattle.ns_counters.proofs.NewObjects.{new_asked}
use Rattle.ns_world.proofs.Fresh.{new_led}
use Rattle.ns_world.proofs.law.new_worlds_are_as_they_were_asked_for.Goals as goal

pub returns-clause-asked : goal.returns-clause-asked
returns-clause-asked g c = λ truths seats counters onces. new_asked seats counters onces

pub returns-clause-untouched : goal.returns-clause-untouched
returns-clause-untouched g c = λ truths seats counters onces few short cells values. (refl, new_led _ _ truths seats counters onces few short cells values)
