use Rattle.ns_outcomes.proofs.Prelude.{answers_always, rules}
use Rattle.ns_outcomes.proofs.Tallies.{in_order, tallied}
use Rattle.ns_outcomes.proofs.tallying.Counts.found.Goals as goal

pub returns : goal.returns
returns c =
    let order = in_order _ (c.in_ok-sort_by_key.ensures.sorted (λ f. (record { 0 = f.count }, f.first)) (answers_always _ _ _ (λ f a r g h. search rules))) in
    let moved = rw c.in_ok-found.ensures.ok at c.sort_by_key.ensures.permutation in
    tallied c.args.self c.sort_by_key.new.self.items c.listed.ensures.ordered moved order
