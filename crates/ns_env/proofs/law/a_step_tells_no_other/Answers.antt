use Rattle.ns_env.proofs.Acts.{others_fit}
use Rattle.ns_env.proofs.law.a_step_tells_no_other.Goals as goal

pub returns : goal.returns
returns c = λ seats others plain history view other act few law fits can apart theirs. others_fit seats others plain history view few law fits act can other apart theirs
