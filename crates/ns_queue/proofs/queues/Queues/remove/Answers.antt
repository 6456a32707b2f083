use Rattle.std.proofs.Common.{arith, map, refl, ◌∙◌}
use Rattle.ns_queue.proofs.Prelude.{neither, sum_by, times_in, told_no, told_yes}
use Rattle.ns_queue.proofs.Bases.{lock_left, lock_without, low_of, shape}
use Rattle.ns_queue.proofs.Outside.{all_below, without_one}
use Rattle.ns_queue.proofs.queues.Queues.remove.Goals as goal

pub invariant_of-self : goal.invariant_of-self
invariant_of-self g c = lock_left _ _ _ c.args.seat c.self.invariant c.remove.ensures.removed

pub invariant_of-self-then-not-stands_in_any : goal.invariant_of-self-then-not-stands_in_any
invariant_of-self-then-not-stands_in_any g c = lock_left _ _ _ c.args.seat c.self.invariant c.remove.ensures.removed

pub invariant_of-self-2 : goal.invariant_of-self-2
invariant_of-self-2 g c = lock_left _ _ _ c.args.seat c.self.invariant c.remove.ensures.removed

pub none-requires : goal.none-requires
none-requires g c = tt

pub with-requires : goal.with-requires
with-requires g c =
    let here = told_yes c.stands_in_any.result _ c.if-not-stands_in_any.false c.stands_in_any.ensures.0 in
    low_of (sum_by (times_in c.args.seat) (map (λ u. u.items) c.self.inside.cvs)) c.args.seat (all_below c.self.inside.lock c.self.inside.cvs c.self.invariant c.args.seat) here

pub returns-then-remove : goal.returns-then-remove
returns-then-remove g c =
    let here = told_yes c.remove.result _ c.if-remove.true c.remove.ensures.stood.0 in
    record {
      stood = rw (← c.self.view_is) (λ yes. omega (arith, here), λ stands. refl);
      removed = rw (← c.self.view_is, c.remove.ensures.removed, lock_without (shape c.self.inside.lock c.self.inside.cvs) c.args.seat c.self.invariant here) refl;
      absent = tt;
    }

pub returns-then-not-stands_in_any : goal.returns-then-not-stands_in_any
returns-then-not-stands_in_any g c = record {
  stood = rw (← c.self.view_is) (neither _ _ (told_no c.remove.result _ c.if-remove.false c.remove.ensures.stood.1) (told_no c.stands_in_any.result _ c.if-not-stands_in_any.true c.stands_in_any.ensures.1));
  removed = tt;
  absent = rw (rw c.if-remove.false at c.remove.ensures.absent) c.self.view_is;
}

pub returns : goal.returns
returns g c =
    let here = told_yes c.stands_in_any.result _ c.if-not-stands_in_any.false c.stands_in_any.ensures.0 in
    record {
      stood = rw (← c.self.view_is) (λ t. omega (arith, here), λ stands. refl);
      removed = rw (← c.self.view_is) (c.drop_from_variables.ensures ∙ without_one (shape c.self.inside.lock c.self.inside.cvs) c.remove.new.self c.args.seat c.none.result c.with.result c.none.ensures c.with.ensures c.remove.ensures.removed);
      absent = tt;
    }
