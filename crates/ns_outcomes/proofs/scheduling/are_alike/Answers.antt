use Rattle.ns_outcomes.proofs.Prelude.{rules}
use Rattle.ns_outcomes.proofs.Runs.{not_false, number_same, pointwise_other, pointwise_same}
use Rattle.ns_outcomes.proofs.scheduling.are_alike.Goals as goal

pub returns-clause-same : goal.returns-clause-same
returns-clause-same c = λ same. record {
  counters = pointwise_same _ number_same _ _ (not_false _ c.if-ne.ensures);
  onces = c.if-one-other.false;
  cvs = number_same _ _ same;
  schedule = pointwise_same _ (λ a b t. search rules) _ _ (not_false _ c.if-ne-2.ensures);
}

pub returns-then-ne-2-clause-other : goal.returns-then-ne-2-clause-other
returns-then-ne-2-clause-other c = λ e like. pointwise_other _ (λ a. search rules) _ _ c.if-ne-2.ensures like.schedule
