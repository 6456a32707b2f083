use Rattle.ns_word.proofs.Causes.{stays_kept}
use Rattle.ns_word.proofs.call_law.a_kept_cause_is_answered.Goals as goal

pub returns : goal.returns
returns g c = λ walk found cause wait cond asked on keeps. stays_kept cause g.row.N walk found wait cond asked on keeps
