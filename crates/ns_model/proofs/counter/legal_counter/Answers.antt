use Rattle.std.proofs.Common.{sym, ◌∙◌}
use Rattle.ns_model.proofs.Prelude.{IsLegalCounter, IsLegalCounterEvent, counter_next, first_counter}
use Rattle.ns_model.proofs.Courses.{legal_at, legal_step}
use Rattle.ns_model.proofs.counter.legal_counter.Goals as goal

pub returns-then-not-allows : goal.returns-then-not-allows
returns-then-not-allows c =
    let first = first_counter c.args.start in
    let h = c.args.history.now in (
      λ no. absurd (cc),
      λ (whole : IsLegalCounter c.args.start h).
          let here = legal_at IsLegalCounterEvent counter_next first h c.loop-event.event-index _ c.loop-event-test.true whole in
          sym c.if-not-allows.true ∙ c.allows.ensures.1 (rw (c.loop-event.invariant.0) here),
    )

pub loop-event-preserved : goal.loop-event-preserved
loop-event-preserved c =
    let step = legal_step IsLegalCounterEvent counter_next (first_counter c.args.start) c.loop-event.now c.args.history.now c.loop-event.event-index _ c.loop-event-test.true c.loop-event.invariant (c.allows.ensures.0 c.if-not-allows.false) in
    (c.after-now.ensures ∙ step.0, step.1)
