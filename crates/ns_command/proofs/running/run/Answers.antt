use Rattle.ns_command.proofs.Heeded.{heeds}
use Rattle.ns_command.proofs.running.run.Goals as goal

pub returns-in-Err-clause-heeded : goal.returns-in-Err-clause-heeded
returns-in-Err-clause-heeded g c = heeds _ _ c.answered.result c.in-Err.ensures.err c.answered.ensures.told
