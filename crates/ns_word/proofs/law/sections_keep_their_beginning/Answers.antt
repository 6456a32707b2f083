use Rattle.ns_word.proofs.Answers.{keep_beginning}
use Rattle.ns_word.proofs.Kept.{stays_out}
use Rattle.ns_word.proofs.law.sections_keep_their_beginning.Goals as goal

pub returns : goal.returns
returns g c = λ old new view found commits was held step n p q.
    let of = g.C.Condition.means in
    let same = keep_beginning of old new view found commits was held step n p q in
    (same.0, same.1, same.2, stays_out of old new view found commits was step n p)
