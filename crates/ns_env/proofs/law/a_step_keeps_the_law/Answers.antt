use Rattle.ns_env.proofs.Acts.{acted_lawful}
use Rattle.ns_env.proofs.law.a_step_keeps_the_law.Goals as goal

pub returns : goal.returns
returns c = λ seats others plain history view act few law fits can. acted_lawful seats others plain history view few law fits act can
