use Rattle.ns_env.proofs.Asks.{keeps_env}
use Rattle.ns_env.proofs.law.asking_keeps_the_law.Goals as goal

pub returns : goal.returns
returns c = λ events more old new seat found step lawful. keeps_env events more old new seat found step lawful
