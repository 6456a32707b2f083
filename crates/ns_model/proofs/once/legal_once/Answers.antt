use Rattle.std.proofs.Common.{sym, ◌∙◌}
use Rattle.ns_model.proofs.Prelude.{IsLegalOnce, IsLegalOnceEvent, Unused, once_next}
use Rattle.ns_model.proofs.Courses.{legal_at}
use Rattle.ns_model.proofs.once.legal_once.Goals as goal

pub returns-then-not-allows : goal.returns-then-not-allows
returns-then-not-allows c =
    let h = c.args.history.now in (
      λ no. absurd (cc),
      λ (whole : IsLegalOnce h).
          let here = legal_at IsLegalOnceEvent once_next Unused h c.loop-event.event-index _ c.loop-event-test.true whole in
          sym c.if-not-allows.true ∙ c.allows.ensures.1 (rw c.loop-event.invariant.0 here),
    )
