use Rattle.ns_counters.proofs.Acts.{has_acted, acted_fits}
use Rattle.ns_counters.proofs.law.a_step_tells_its_caller.Goals as goal

pub returns : goal.returns
returns c = λ setup words history view act law fits can. (has_acted setup words history law view fits act can, acted_fits setup words history law view fits act can)
