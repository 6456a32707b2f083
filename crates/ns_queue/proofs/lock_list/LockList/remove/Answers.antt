use Rattle.ns_queue.proofs.Prelude.{refl, sym, times_in, told_no, told_yes}
use Rattle.ns_queue.proofs.Seats.{none_without}
use Rattle.ns_queue.proofs.lock_list.LockList.remove.Goals as goal

pub returns-then-not-holds-clause-removed : goal.returns-then-not-holds-clause-removed
returns-then-not-holds-clause-removed g c =
    let out = told_no c.holds.result (times_in c.args.seat c.self.inside.ring) c.if-not-holds.true c.holds.ensures.stands.1 in
    rw (← c.self.view_is) (sym (none_without c.args.seat c.self.inside.ring out))

pub invariant_of-self : goal.invariant_of-self
invariant_of-self g c = c.mend.ensures

pub returns : goal.returns
returns g c =
    let here = told_yes c.holds.result _ c.if-not-holds.false c.holds.ensures.stands.0 in
    rw (← c.self.view_is) (record { stood = (λ yes. here, λ stands. refl); removed = c.remove.ensures; absent = tt })

pub prev-before-requires : goal.prev-before-requires
prev-before-requires g c = (g.met.C.Queueable.parts_fit.ring, told_yes c.holds.result _ c.if-not-holds.false c.holds.ensures.stands.0)

pub next-behind-requires : goal.next-behind-requires
next-behind-requires g c = (g.met.C.Queueable.parts_fit.ring, told_yes c.holds.result _ c.if-not-holds.false c.holds.ensures.stands.0)

pub remove-requires : goal.remove-requires
remove-requires g c = (g.met.C.Queueable.parts_fit.ring, told_yes c.holds.result _ c.if-not-holds.false c.holds.ensures.stands.0)

pub mend-requires : goal.mend-requires
mend-requires g c = (
  g.met.C.Queueable.parts_fit.ring,
  record {
    was = c.self.inside.ring;
    row = c.holds.ensures.orderly;
    stood = told_yes c.holds.result _ c.if-not-holds.false c.holds.ensures.stands.0;
    left = c.remove.ensures;
    before_is = c.prev-before.ensures;
    next_is = c.next-behind.ensures.place;
    runs = c.self.invariant;
  },
)

pub returns-then-not-holds-clause-absent : goal.returns-then-not-holds-clause-absent
returns-then-not-holds-clause-absent g c = refl
