use Rattle.std.proofs.Common.{None, ap, not, refl, subst, sym, ◌∙◌, ◌≡◌}
use Rattle.ns_monitor.proofs.Prelude.{HasMadeSteps, Carries, HasKeptItsQueues, HasReturnedWoken, HasWokenInHand, InSignal, IsAtPlace, IsOrderly, WakeAndReturn, in_room, is_held, lists_woken, taken_from, the, works}
use Rattle.ns_monitor.proofs.Bounds.{gone_by, gone_itself, gone_then, gone_working}
use Rattle.ns_monitor.proofs.Wakes.{by_both, by_one, can_return, hand_kept, hand_made, is_returned, misses_return}
use Rattle.ns_monitor.proofs.waking.return_woken.Given.{Over}
use Rattle.ns_monitor.proofs.waking.return_woken.Goals.{In-Err}
use Rattle.ns_monitor.proofs.waking.return_woken.Goals as goal

pub loop-init : goal.loop-init
loop-init g c = (tt, tt, c.requires.packs, gone_itself c.args.seat.now, refl, c.requires.at, c.requires.hand)

pub exchange_to_return-requires : goal.exchange_to_return-requires
exchange_to_return-requires g c = let t = g.C.Condition.means in let inv = c.loop.invariant in let hand = inv.6 in
    in_room (inv.2, (can_return t c.args.call.waking c.args.call.k c.loop.word c.loop.seat.me inv.5, record { carries = hand.carries; some = hand.some; bits = hand.bits }))

pub returns-in-Ok : goal.returns-in-Ok
returns-in-Ok g c = record {
  since = gone_then None _ _ _ c.loop.invariant.3 (gone_by c.in-Ok.ensures.did);
  so = let t = g.C.Condition.means in let inv = c.loop.invariant in let now = c.exchange_to_return.new.self.me in
      subst (λ held. HasReturnedWoken t c.args.call.waking c.args.call.k held (the c.args.seat.now.me.0).stood now) (sym c.is_held.ensures)
      (is_returned t c.args.call.waking c.args.call.k c.loop.word c.loop.turned (the c.args.seat.now.me.0).stood c.loop.seat.me now inv.5 inv.6 inv.4 c.in-Ok.ensures.did.by);
}

-- ---- another step came between

missed : (g : Over) (c : In-Err g) → IsAtPlace g.C.Condition.means (InSignal c.args.call.waking c.args.call.k (WakeAndReturn c.in-Err.other)) c.exchange_to_return.new.self.me × HasKeptItsQueues c.loop.seat.me c.exchange_to_return.new.self.me
missed g c = misses_return g.C.Condition.means c.args.call.waking c.args.call.k c.loop.word c.in-Err.other c.loop.seat.me c.exchange_to_return.new.self.me c.loop.invariant.5 c.in-Err.ensures.did.by

gone : (g : Over) (c : In-Err g) → HasMadeSteps None c.args.seat.now c.exchange_to_return.new.self
gone g c = gone_then None _ _ _ c.loop.invariant.3 (gone_by c.in-Err.ensures.did)

-- what is in hand is for the word that was seen before
kept : (g : Over) (c : In-Err g) → HasWokenInHand c.args.call.waking c.args.call.k (is_held c.loop.word) c.loop.turned c.exchange_to_return.new.self.me
kept g c = hand_kept c.args.call.waking c.args.call.k (is_held c.loop.word) c.loop.turned c.loop.seat.me c.exchange_to_return.new.self.me (missed g c).1 c.loop.invariant.6

pub turn_in_hand-turned-requires : goal.turn_in_hand-turned-requires
turn_in_hand-turned-requires g c = let after = (goal.at.turn_in_hand-turned-requires g c).In-Err in let now = c.exchange_to_return.new.self.me in let held = c.is_held-held.result in
    let stood = sym ((missed g after).1.stood ∙ c.loop.invariant.4) in
    let other : is_held c.loop.word ≡ not held = sym c.is_held-in-Err.ensures ∙ sym (by_one c.is_held-in-Err.result held c.if-is_held-held.true) in in_room (c.requires.variable, (subst IsOrderly stood c.requires.orderly, (c.requires.taken ∙ ap (taken_from c.args.call.waking c.args.call.k) stood, subst (λ b. Carries (lists_woken c.args.call.waking c.args.call.k b (the now.0).stood) now) other (kept g after).carries)))

pub loop-preserved-then-is_held-held : goal.loop-preserved-then-is_held-held
loop-preserved-then-is_held-held g c = let t = g.C.Condition.means in let after = (goal.at.loop-preserved-then-is_held-held g c).In-Err in let me = c.exchange_to_return.new.self.me in let turn = c.turn_in_hand-turned in let now = turn.new.self.me in let same = turn.ensures.worked.by in (
  tt,
  tt,
  c.in-Err.ensures.word,
  gone_working None _ _ _ (gone g after) turn.ensures.worked,
  (λ i. (the (same i)).stood) ∙ ((missed g after).1.stood ∙ c.loop.invariant.4),
  works t (InSignal c.args.call.waking c.args.call.k (WakeAndReturn c.in-Err.other)) me now (missed g after).0 refl same,
  subst (λ held. HasWokenInHand c.args.call.waking c.args.call.k held turn.result now) c.is_held-held.ensures (hand_made c.args.call.waking c.args.call.k c.is_held-held.result turn.result me now same turn.ensures.lists (λ i. (turn.ensures.turned i).some) (λ i. (turn.ensures.turned i).bits)),
)

pub loop-preserved : goal.loop-preserved
loop-preserved g c = let after = (goal.at.loop-preserved g c).In-Err in let now = c.exchange_to_return.new.self.me in (
  tt,
  tt,
  c.in-Err.ensures.word,
  gone g after,
  (missed g after).1.stood ∙ c.loop.invariant.4,
  (missed g after).0,
  subst (λ held. HasWokenInHand c.args.call.waking c.args.call.k held c.loop.turned now) (sym c.is_held-in-Err.ensures ∙ by_both c.is_held-in-Err.result c.is_held-held.result c.if-is_held-held.false ∙ c.is_held-held.ensures) (kept g after),
)
