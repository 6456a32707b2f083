use Rattle.ns_env.proofs.Acts.{has_acted, acted_fits}
use Rattle.ns_env.proofs.law.a_step_tells_its_caller.Goals as goal

pub returns : goal.returns
returns c = λ seats others plain history view act few law fits can. (has_acted seats others plain history view few law fits act can, acted_fits seats others plain history view few law fits act can)
