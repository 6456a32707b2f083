use Rattle.std.proofs.Common.{Bool, None, ap, refl, subst, sym, ◌∙◌, ◌≡◌}
use Rattle.ns_monitor.proofs.Prelude.{HasWokenInHand, HasReached, InSignal, IsOrderly, WakeAndReturn, has_some, pay_woken, in_room, list_fits, list_small, number, owed_woken, taken_from, the, wakes_of, works}
use Rattle.ns_monitor.proofs.Bounds.{gone_itself, gone_then, gone_working}
use Rattle.ns_monitor.proofs.Wakes.{hand_made, pays_woken}
use Rattle.ns_gate.specs.Prelude.{PayTheWoken}
use Rattle.ns_word.specs.declared.request.Request.TheVariants as TheRequest
use Rattle.ns_monitor.proofs.waking.wake_waiters.Given.{Over}
use Rattle.ns_monitor.proofs.waking.wake_waiters.Goals.{Joined-moved, else-moved, then-moved}
use Rattle.ns_monitor.proofs.waking.wake_waiters.Goals as goal

pub return_woken-moved-requires : goal.return_woken-moved-requires
return_woken-moved-requires g c = let t = g.C.Condition.means in let taken = c.requires.taken in let made = c.wake_in_hand-taken in let e = made.ensures in let me = c.args.seat.now.me in let now = made.new.self.me in let same = e.worked.by in in_room (record { variable = c.requires.variable; packs = taken.packs; at = works t (InSignal c.args.call.waking c.args.call.k (WakeAndReturn c.args.word)) me now taken.at refl same; orderly = subst IsOrderly (λ i. (the (sym same i)).stood) e.orderly; taken = c.as_slice.ensures.value ∙ (e.taken ∙ (λ i. taken_from c.args.call.waking c.args.call.k (the (sym same i)).stood)); hand = subst (λ held. HasWokenInHand c.args.call.waking c.args.call.k held made.result.1 now) c.is_held-held.ensures (hand_made c.args.call.waking c.args.call.k c.is_held-held.result made.result.1 me now same e.lists (λ i. (e.turned i).some) (λ i. (e.turned i).bits)) })

-- those to whom it pays are those to whom it owes a wake
paid : (g : Over) (c : Joined-moved g) → c.if-moved.owed.items ≡ owed_woken c.args.call.waking c.args.call.k c.return_woken-moved.result (the c.wake_in_hand-taken.new.self.me.0).stood
paid g c = let made = c.wake_in_hand-taken in let waking = c.args.call.waking in let k = c.args.call.k in let same = made.ensures.worked.by in
    let owed = λ (b : Bool). owed_woken waking k b (the made.new.self.me.0).stood in
    let taken = made.ensures.taken ∙ (λ i. taken_from waking k (the (sym same i)).stood) in
    elim c.if-moved.branch [
      | then-moved w ↦ (λ i. (w.owed-is i).items) ∙ (w.new-owed.ensures ∙ ap owed (sym w.if-moved.true))
      | else-moved w ↦ (λ i. (w.owed-is i).items) ∙ (w.wakes-owed.ensures ∙ (ap (wakes_of k) (w.as_slice-else-moved.ensures.value ∙ taken) ∙ ap owed (sym w.if-moved.false)))
    ]

-- it stands where it pays what it owes
stands : (g : Over) (c : Joined-moved g) → HasReached g.C.Condition.means (TheRequest.Wake c.args.call.waking c.args.call.k) (pay_woken c.args.call.waking c.args.call.k (has_some (the c.return_woken-moved.new.seat.me.0).at.owed)) c.return_woken-moved.new.seat.me
stands g c = pays_woken g.C.Condition.means c.args.call.waking c.args.call.k c.return_woken-moved.result (the c.wake_in_hand-taken.new.self.me.0).stood c.return_woken-moved.new.seat.me c.return_woken-moved.ensures.so

pub pay-requires : goal.pay-requires
pay-requires g c = let after = (goal.at.pay-requires g c).Joined-moved in in_room (record { walk = InSignal c.args.call.waking c.args.call.k PayTheWoken; pays = record { pays = refl; free = refl; more = refl }; at = stands g after }, c.return_woken-moved.ensures.so.owed ∙ sym (paid g after))

pub returns : goal.returns
returns g c = record {
  since = gone_then None _ _ _ (gone_then None _ _ _ (gone_working None _ _ _ (gone_itself c.args.seat.now) c.wake_in_hand-taken.ensures.worked) c.return_woken-moved.ensures.since) c.pay.ensures.since;
  so = c.pay.ensures.so.paid (InSignal c.args.call.waking c.args.call.k PayTheWoken) (record { pays = refl; free = refl; more = refl }) (stands g (goal.at.returns g c).Joined-moved);
}

pub wake_in_hand-taken-requires : goal.wake_in_hand-taken-requires
wake_in_hand-taken-requires g c = in_room (list_small _ (list_fits g.row.C (number g.row.N) g.met.C.Condition.has_room), (c.requires.taken.taken, c.requires.variable))

pub as_slice-requires : goal.as_slice-requires
as_slice-requires g c = list_small _ (list_fits g.row.C (number g.row.N) g.met.C.Condition.has_room)

pub as_slice-requires-else-moved : goal.as_slice-requires-else-moved
as_slice-requires-else-moved g c = list_small _ (list_fits g.row.C (number g.row.N) g.met.C.Condition.has_room)
