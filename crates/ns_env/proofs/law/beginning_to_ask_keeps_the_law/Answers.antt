use Rattle.ns_env.proofs.Begins.{begins_env}
use Rattle.ns_env.proofs.law.beginning_to_ask_keeps_the_law.Goals as goal

pub returns : goal.returns
returns c = λ events old new seat walk begins lawful. begins_env events old new seat walk begins lawful
