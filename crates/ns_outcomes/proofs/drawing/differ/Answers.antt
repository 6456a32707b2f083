use Rattle.std.proofs.Common.{sym}
use Rattle.std.proofs.lemmas.Bool.{not-true}
use Rattle.ns_outcomes.proofs.Runs.{not_false}
use Rattle.ns_outcomes.proofs.drawing.differ.Goals as goal

pub returns-clause-same : goal.returns-clause-same
returns-clause-same c = λ e. sym (c.is_same.ensures.same (not_false _ (sym e)))

pub returns-clause-other : goal.returns-clause-other
returns-clause-other c = λ e is. c.is_same.ensures.another (not-true _ e) (sym is)
