use Rattle.std.proofs.Common.{[], ap, refl, subst, sym, ◌∙◌}
use Rattle.ns_world.proofs.Prelude.{LooksByLimits, SeatLooks, Went, plain_of}
use Rattle.ns_world.proofs.Looking.{LookLeads, look_leads, look_loads}
use Rattle.ns_world.proofs.looks.look.Goals as goal
use Rattle.ns_env.specs.declared.next.Next.TheVariants as TheNext

pub load-found-requires-clause-loads : goal.load-found-requires-clause-loads
load-found-requires-clause-loads g c = let fits = c.requires.looks in rw c.want.ensures (look_loads fits.0 c.args.place fits.2)

pub load-found-requires-clause-fits : goal.load-found-requires-clause-fits
load-found-requires-clause-fits g c = rw c.want.ensures c.requires.fits

pub unreachable-requires-in-Idle : goal.unreachable-requires-in-Idle
unreachable-requires-in-Idle g c =
    let fits = c.requires.looks in
    subst (λ next. LookLeads fits.0 next) (sym c.got.ensures ∙ c.in-Idle.is) (look_leads fits.0 c.args.place fits.2 0 (plain_of c.args.env.now) (plain_of c.args.env.now) c.load-found.result [] (rw c.want.ensures at (c.load-found.ensures 0)))

pub unreachable-requires : goal.unreachable-requires
unreachable-requires g c =
    let fits = c.requires.looks in
    subst (λ next. LookLeads fits.0 next) (sym c.got.ensures ∙ c.in-Done-Over.is ∙ ap TheNext.Done c.in-Done-Over.field-0-is)
    (look_leads fits.0 c.args.place fits.2 0 (plain_of c.args.env.now) (plain_of c.args.env.now) c.load-found.result [] (rw c.want.ensures at (c.load-found.ensures 0)))

pub returns-in-On : goal.returns-in-On
returns-in-On g c = record {
  found = c.load-found.result;
  effect = rw c.want.ensures at (c.load-found.ensures c.args.seat.now.number);
  goes = subst (λ next. SeatLooks next c.args.seat.now c.args.walk (record c.args.seat.now { doing = LooksByLimits c.args.walk c.in-On.next }) Went) (sym c.in-On.is ∙ c.got.ensures) (refl, refl);
}

pub returns-in-Done-LookOver : goal.returns-in-Done-LookOver
returns-in-Done-LookOver g c = record {
  found = c.load-found.result;
  effect = rw c.want.ensures at (c.load-found.ensures c.args.seat.now.number);
  goes = subst (λ next. SeatLooks next c.args.seat.now c.args.walk c.see.new.seat c.see.result) (sym (c.in-Done-LookOver.is ∙ ap TheNext.Done c.in-Done-LookOver.field-0-is) ∙ c.got.ensures) c.see.ensures;
}

pub see-requires : goal.see-requires
see-requires g c = (g.met.C.Seated.seat_fits, tt)
