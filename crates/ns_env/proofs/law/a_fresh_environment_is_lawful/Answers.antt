use Rattle.ns_env.proofs.Begins.{fresh_lawful}
use Rattle.ns_env.proofs.law.a_fresh_environment_is_lawful.Goals as goal

pub returns : goal.returns
returns c = λ seats. fresh_lawful seats
