use Rattle.ns_word.proofs.Starts.{lawful_fresh}
use Rattle.ns_word.proofs.law.a_fresh_lock_is_lawful.Goals as goal

pub returns : goal.returns
returns g c = λ seats few. lawful_fresh g.row.C.Denot g.row.N g.C.Condition.means seats few
