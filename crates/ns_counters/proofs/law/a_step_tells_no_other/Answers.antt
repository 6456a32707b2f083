use Rattle.ns_counters.proofs.Acts.{others_fit}
use Rattle.ns_counters.proofs.law.a_step_tells_no_other.Goals as goal

pub returns : goal.returns
returns c = λ setup words history view other act law fits can apart theirs. others_fit setup words history law view fits act can other apart theirs
