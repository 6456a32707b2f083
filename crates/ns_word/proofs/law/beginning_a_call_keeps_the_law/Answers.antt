use Rattle.ns_word.proofs.Starts.{begins}
use Rattle.ns_word.proofs.law.beginning_a_call_keeps_the_law.Goals as goal

pub returns : goal.returns
returns g c = λ seats history old new view walk step lawful. begins g.C.Condition.means seats history old view walk new step lawful
