use Rattle.ns_outcomes.proofs.Prelude.{err_from_is_err_and, lists_fit, plan_of, stage_of}
use Rattle.ns_outcomes.proofs.Begun.{begun_stops, own_fault}
use Rattle.ns_outcomes.proofs.drawing.draw.Goals as goal

pub draw_turns-requires-clause-lists : goal.draw_turns-requires-clause-lists
draw_turns-requires-clause-lists c = rw c.deref.ensures.value (lists_fit c.args.script.now.threads.items c.requires.short)

pub returns-in_err-draw_turns-clause-err : goal.returns-in_err-draw_turns-clause-err
returns-in_err-draw_turns-clause-err c =
    let p = err_from_is_err_and c.from_residual-in_err-draw_turns.result c.from_residual-in_err-draw_turns.ensures.1 in
    let drawing = c.in_ok-drawing.drawing in
    rw (p.1, p.2) (begun_stops c.args.limit (plan_of c.args.script.now) c.args.seed (stage_of drawing) drawing.tally.turns c.in_err-draw_turns.field-0.0 c.in_ok-drawing.ensures.ok (rw (c.deref.ensures.value, c.seed_from_u64-draws.ensures) at c.in_err-draw_turns.ensures.err))

pub returns-in_err-drawing-clause-err : goal.returns-in_err-drawing-clause-err
returns-in_err-drawing-clause-err c =
    let p = err_from_is_err_and c.from_residual.result c.from_residual.ensures.1 in
    rw (p.1, p.2) (own_fault c.args.limit (plan_of c.args.script.now) c.args.seed c.in_err-drawing.field-0.0 c.in_err-drawing.ensures.err)
