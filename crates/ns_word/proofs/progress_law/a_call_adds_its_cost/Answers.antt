use Rattle.ns_word.proofs.Turns.{call_costs}
use Rattle.ns_word.proofs.progress_law.a_call_adds_its_cost.Goals as goal

pub returns : goal.returns
returns g c = λ old new view walk begins. call_costs g.C.Condition.means old new view walk begins
