use Rattle.std.proofs.Common.{Option, subst, sym, ℕ, ◌∙◌}
use Rattle.ns_world.proofs.Prelude.{Held, InRound, MayGoOn, NamesFew, ObjectLeads, ObjectWalk}
use Rattle.ns_world.proofs.Looking.{waits_is}
use Rattle.ns_world.proofs.among.step_objects.Goals as goal

few_if : {C : Type 0} {N : ℕ} (held : Option (Held C N)) (walk : ObjectWalk) → MayGoOn held walk → NamesFew walk
few_if held (InRound round place) may = may.0
few_if held walk may = tt

pub waits_then-requires : goal.waits_then-requires
waits_then-requires g c = few_if c.args.seat.now.held c.args.walk c.requires.may

pub begin_wait-requires : goal.begin_wait-requires
begin_wait-requires g c =
    let is = waits_is c.args.walk c.operate-next.result c.in-Some.round (sym c.waits_then.ensures ∙ c.in-Some.is) in
    let may = subst (MayGoOn c.args.seat.now.held) is.2 c.requires.may in
    (g.met.C.Seated.seat_fits, (c.requires.row, (may.2 is.4, (may.0, (may.1, is.4)))))

pub returns-in-Some : goal.returns-in-Some
returns-in-Some g c = (
  c.operate-next.result,
  c.operate-next.ensures c.args.seat.now.number,
  subst (λ round. ObjectLeads round c.operate-next.result c.args.seat.now c.begin_wait.new.seat c.begin_wait.result) (sym c.in-Some.is ∙ c.waits_then.ensures) c.begin_wait.ensures,
)

pub returns-in-None : goal.returns-in-None
returns-in-None g c = (
  c.operate-next.result,
  c.operate-next.ensures c.args.seat.now.number,
  subst (λ round. ObjectLeads round c.operate-next.result c.args.seat.now c.settle.new.seat c.settle.result) (sym c.in-None.is ∙ c.waits_then.ensures) (c.settle.ensures.seat, c.settle.ensures.step),
)

pub settle-requires : goal.settle-requires
settle-requires g c = g.met.C.Seated.seat_fits
