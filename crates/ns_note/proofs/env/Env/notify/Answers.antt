use Rattle.std.proofs.Common.{arith, rules, subst, sym, ℕ, ◌+◌, ◌-◌, ◌∙◌}
use Rattle.ns_note.proofs.Prelude.{EnvKnown, Grows, IsMade, NotifyNote}
use Rattle.ns_note.proofs.Rests.{rests, grew, adds_by}
use Rattle.ns_note.proofs.Allowed.{marks}
use Rattle.ns_note.proofs.env.Env.notify.Goals as goal

pub fetch_or-requires : goal.fetch_or-requires
fetch_or-requires c = (
  search rules,
  search rules,
  marks _ _ _ _ _ c.from.result c.seat.invariant.0.one c.seat.invariant.0.idle (let below = c.args.note.in_range in omega arith)
      (subst (λ (z : EnvKnown × ℕ). IsMade z.0.seen z.1) (λ i. (sym c.seat.view_is i, sym c.from.ensures i)) c.requires.made),
)

pub invariant_of-seat : goal.invariant_of-seat
invariant_of-seat c = let t = c.fetch_or.ensures.2 in rests _ _ _ c.seat.inside.seat.me _ c.seat.invariant.0.empty c.seat.invariant.1 t.0 t.1 (t.2.acted.making ∙ c.seat.invariant.0.idle) (adds_by (NotifyNote ((c.from.result + 2) - 2)) _ _ _ t.2)

pub returns-clause-grows : goal.returns-clause-grows
returns-clause-grows c = subst (Grows c.args.seat.now) (sym c.ring.ensures) (grew _ _ _ _ _ _ c.seat.view_is c.fetch_or.ensures.0 (adds_by (NotifyNote ((c.from.result + 2) - 2)) _ _ _ c.fetch_or.ensures.2.2))
