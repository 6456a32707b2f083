use Rattle.std.proofs.Common.{rules, subst, sym, ◌∙◌}
use Rattle.ns_note.proofs.Prelude.{Grows, MoveClock}
use Rattle.ns_note.proofs.Rests.{rests, grew, adds_by}
use Rattle.ns_note.proofs.Allowed.{moves}
use Rattle.ns_note.proofs.env.Env.advance.Goals as goal

pub fetch_max-requires : goal.fetch_max-requires
fetch_max-requires c = (search rules, search rules, moves _ _ _ _ _ _ c.seat.invariant.0.one c.seat.invariant.0.idle c.requires.moment)

pub invariant_of-seat : goal.invariant_of-seat
invariant_of-seat c = let t = c.fetch_max.ensures.2 in rests _ _ _ c.seat.inside.seat.me _ c.seat.invariant.0.empty c.seat.invariant.1 t.0 t.1 (t.2.acted.making ∙ c.seat.invariant.0.idle) (adds_by (MoveClock c.args.to) _ _ _ t.2)

pub returns-clause-grows : goal.returns-clause-grows
returns-clause-grows c = subst (Grows c.args.seat.now) (sym c.ring.ensures) (grew _ _ _ _ _ _ c.seat.view_is c.fetch_max.ensures.0 (adds_by (MoveClock c.args.to) _ _ _ c.fetch_max.ensures.2.2))
