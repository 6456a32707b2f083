use Rattle.std.proofs.Common.{IfNone, None, OnSome, Option, Some, ap, arith, refl, sym, ◌∙◌}
use Rattle.ns_gate.proofs.Prelude.{TableId, has_slot, lists_woken, now_in_hand, queues_fit, the, was_in_hand, woken_sole}
use Rattle.ns_gate.proofs.bound.Bound.wake_sole_in_hand.Goals as goal

-- what is so where it is told so, tells more
on_some : {A P Q : Type 0} (o : Option A) → OnSome o P → (P → Q) → OnSome o Q
on_some None p so = tt
on_some (Some a) p so = so p

if_none : {A P Q : Type 0} (o : Option A) → IfNone o P → (P → Q) → IfNone o Q
if_none None p so = so p
if_none (Some a) p so = tt

pub slot_mut-requires : goal.slot_mut-requires
slot_mut-requires g c = (◌∙◌ {A = TableId} c.self.invariant.0 (sym c.gate.view_is), has_slot _ _ (rw (← c.self.view_is) at c.requires.has))

pub lists-queues-requires : goal.lists-queues-requires
lists-queues-requires g c = (omega arith, queues_fit g.row.C g.row.N g.met.C.Condition.has_room g.C.Condition)

pub wake_sole-requires : goal.wake_sole-requires
wake_sole-requires g c = (queues_fit g.row.C g.row.N g.met.C.Condition.has_room g.C.Condition, c.requires.variable)

pub returns : goal.returns
returns g c =
    let waking = c.args._waking in let k = c.args.k in let held = c.args.held in
    let me = c.self.inside.seat.now.me in
    let stood = (the me.0).stood in
    let has = rw (← c.self.view_is) at c.requires.has in
    let was = was_in_hand stood _ _ me.1 has c.slot_mut.ensures.value c.lists-queues.ensures.value in
    rw (← c.self.view_is) record {
      worked = record { gate = refl; lent = refl; by = refl };
      orderly = rw was at c.wake_sole.ensures.orderly;
      sole = c.wake_sole.ensures.sole ∙ ap (woken_sole waking k held) was;
      lists = on_some c.wake_sole.result c.wake_sole.ensures.lists (λ left. now_in_hand stood _ _ me.1 has (left ∙ ap (lists_woken waking k held) was));
      same = if_none c.wake_sole.result c.wake_sole.ensures.same (λ kept. now_in_hand stood _ _ me.1 has (kept ∙ was));
    }
