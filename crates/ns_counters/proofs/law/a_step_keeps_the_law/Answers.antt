use Rattle.ns_counters.proofs.Acts.{acted_lawful}
use Rattle.ns_counters.proofs.law.a_step_keeps_the_law.Goals as goal

pub returns : goal.returns
returns c = λ setup words history view act law fits can. acted_lawful setup words history law view fits act can
