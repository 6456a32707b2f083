use Rattle.ns_word.proofs.Prelude.{sym, ◌∙◌}
use Rattle.ns_word.proofs.Same.{same_word}
use Rattle.ns_word.proofs.word.Word.is_same.Goals as goal

pub returns-clause-same : goal.returns-clause-same
returns-clause-same c = λ same. same_word c.args.self c.args.other (sym c.eq.ensures ∙ same)
