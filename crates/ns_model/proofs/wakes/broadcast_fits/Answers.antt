use Rattle.std.proofs.Common.{eq-eqb, eqb-true, sym, ◌∙◌}
use Rattle.ns_model.proofs.wakes.broadcast_fits.Goals as goal

pub returns-then-count-eq0 : goal.returns-then-count-eq0
returns-then-count-eq0 g c = let left = c.count-then-count-eq0 in
    (λ yes. record { no_stranger = sym c.count.ensures ∙ c.if-count-eq0.true; nobody_left = sym left.ensures ∙ eqb-true left.result 0 yes }, λ legal. eq-eqb left.result 0 (left.ensures ∙ legal.nobody_left))
