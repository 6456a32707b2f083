use Rattle.std.proofs.Common.{None, refl, subst, sym, ◌∙◌}
use Rattle.ns_monitor.proofs.Prelude.{HasMadeSteps, HasWokenInHand, InSignal, IsOrderly, WakeAndReturn, found_sole, in_room, taken_from, the, works}
use Rattle.ns_monitor.proofs.Bounds.{gone_itself, gone_then, gone_working}
use Rattle.ns_monitor.proofs.Wakes.{hand_made, taken_still}
use Rattle.ns_monitor.proofs.waking.wake_some.Given.{Over}
use Rattle.ns_monitor.proofs.waking.wake_some.Goals.{After-wake_sole_in_hand}
use Rattle.ns_monitor.proofs.waking.wake_some.Goals as goal

-- behind the look whether just one waits
since_look : (g : Over) (c : After-wake_sole_in_hand g) → HasMadeSteps None c.args.seat.now c.wake_sole_in_hand.new.self
since_look g c = gone_working None _ _ _ (gone_itself c.args.seat.now) c.wake_sole_in_hand.ensures.worked

pub wake_sole-requires : goal.wake_sole-requires
wake_sole-requires g c = let t = g.C.Condition.means in let waking = c.args.call.waking in let k = c.args.call.k in let taken = c.requires.taken in let look = c.wake_sole_in_hand in let e = c.in-Some.ensures in let me = c.args.seat.now.me in let now = look.new.self.me in let same = e.worked.by in
    let held = c.is_held-held.result in let found = found_sole waking k held (the me.0).stood c.in-Some.sole c.in-Some.made (sym e.sole) in
    let by = subst (λ b. HasWokenInHand waking k b c.in-Some.made now) c.is_held-held.ensures (hand_made waking k held c.in-Some.made me now same e.lists found.1 found.2) in
    let stands = works t (InSignal waking k (WakeAndReturn c.args.word)) me now taken.at refl same in
    in_room (record { variable = c.requires.variable; packs = taken.packs; at = stands; orderly = subst IsOrderly (λ i. (the (sym same i)).stood) e.orderly; taken = sym ((λ i. taken_from waking k (the (same i)).stood) ∙ found.0); hand = by })

pub returns-in-Some : goal.returns-in-Some
returns-in-Some g c = record {
  since = gone_then None _ _ _ (since_look g (goal.at.returns-in-Some g c).After-wake_sole_in_hand) c.wake_sole.ensures.since;
  so = c.wake_sole.ensures.so;
}

pub wake_waiters-requires : goal.wake_waiters-requires
wake_waiters-requires g c = let t = g.C.Condition.means in let look = c.wake_sole_in_hand in let e = c.in-None.ensures in let me = c.args.seat.now.me in let now = look.new.self.me in
    in_room (c.requires.variable, taken_still t c.args.call.waking c.args.call.k c.args.word me me now c.requires.taken e.worked.by e.same)

pub returns-in-None : goal.returns-in-None
returns-in-None g c = record {
  since = gone_then None _ _ _ (since_look g (goal.at.returns-in-None g c).After-wake_sole_in_hand) c.wake_waiters.ensures.since;
  so = c.wake_waiters.ensures.so;
}
