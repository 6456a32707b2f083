use Rattle.std.proofs.Common.{sym, ◌∙◌}
use Rattle.ns_model.proofs.Prelude.{IsLegal, first_standing}
use Rattle.ns_model.proofs.Histories.{legal_at, legal_more}
use Rattle.ns_model.proofs.history.legal.Goals as goal

pub returns-then-not-event_fits : goal.returns-then-not-event_fits
returns-then-not-event_fits g c =
    let holds = g.C.Condition.means.holds in
    let h = c.args.history.now in (
      λ no. absurd (cc),
      λ (whole : IsLegal holds h).
          let here = legal_at holds (first_standing g.row.N) h c.loop-i.i c.index-history-i.result c.loop-i-test.true whole in
          sym c.if-not-event_fits.true ∙ c.event_fits.ensures.1 (rw (← c.index-history-i.is) at here),
    )

pub loop-i-preserved : goal.loop-i-preserved
loop-i-preserved g c =
    legal_more g.C.Condition.means.holds (first_standing g.row.N) c.args.history.now c.loop-i.i c.index-history-i.result c.loop-i-test.true c.loop-i.invariant
    (rw (← c.index-history-i.is) (c.event_fits.ensures.0 c.if-not-event_fits.false))
