use Rattle.std.proofs.Common.{Some, sym, ◌∙◌}
use Rattle.ns_monitor.proofs.Prelude.{HasMadeSteps, found_nobody, in_room, is_held, taken_from, takes_nobody, the, waking_by, woken_nobody}
use Rattle.ns_monitor.proofs.Bounds.{gone_then, gone_working}
use Rattle.ns_monitor.proofs.Wakes.{hand_of_nobody, nobody_woken, taken_still}
use Rattle.ns_monitor.proofs.waking.wake.Given.{Over}
use Rattle.ns_monitor.proofs.waking.wake.Goals.{After-wake_nobody_in_hand}
use Rattle.ns_monitor.proofs.waking.wake.Goals as goal

-- behind the look at the list of the variable
since_look : (g : Over) (c : After-wake_nobody_in_hand g) → HasMadeSteps (Some (waking_by c.args.call.waking c.args.call.k)) c.args.seat.now c.wake_nobody_in_hand.new.self
since_look g c = gone_working _ _ _ _ c.take-word.ensures.since c.wake_nobody_in_hand.ensures.worked

pub return_woken-requires : goal.return_woken-requires
return_woken-requires g c = let t = g.C.Condition.means in let took = c.take-word in let look = c.wake_nobody_in_hand in let e = look.ensures in let me = took.new.seat.me in let now = look.new.self.me in let nobody = sym e.nobody ∙ c.in-Some.is in
    let still = taken_still t c.args.call.waking c.args.call.k took.result c.args.seat.now.me me now took.ensures.so e.worked.by e.has in
    let none = (takes_nobody c.args.call.waking c.args.call.k (the me.0).stood (found_nobody c.args.call.k (the me.0).stood c.in-Some.made nobody).0).0 in
    let hand = hand_of_nobody c.args.call.waking c.args.call.k (is_held took.result) c.in-Some.made me now e.worked.by e.has nobody in
    in_room (record { variable = c.requires.variable; packs = still.packs; at = still.at; orderly = still.orderly; taken = sym none ∙ (λ i. taken_from c.args.call.waking c.args.call.k (the (sym e.worked.by i)).stood); hand = hand })

pub returns-in-Some : goal.returns-in-Some
returns-in-Some g c = record {
  since = gone_then (Some (waking_by c.args.call.waking c.args.call.k)) _ _ _ (since_look g (goal.at.returns-in-Some g c).After-wake_nobody_in_hand) c.return_woken.ensures.since;
  so = let e = c.wake_nobody_in_hand.ensures in let now = c.wake_nobody_in_hand.new.self.me in
      let nobody = (λ i. woken_nobody c.args.call.k (the (e.worked.by i)).stood) ∙ (sym e.nobody ∙ c.in-Some.is) in
      nobody_woken g.C.Condition.means c.args.call.waking c.args.call.k c.return_woken.result (the now.0).stood c.in-Some.made c.return_woken.new.seat.me nobody c.return_woken.ensures.so;
}

pub wake_some-requires : goal.wake_some-requires
wake_some-requires g c = let t = g.C.Condition.means in let took = c.take-word in let look = c.wake_nobody_in_hand in let e = look.ensures in
    in_room (c.requires.variable, taken_still t c.args.call.waking c.args.call.k took.result c.args.seat.now.me took.new.seat.me look.new.self.me took.ensures.so e.worked.by e.has)

pub returns : goal.returns
returns g c = record {
  since = gone_then (Some (waking_by c.args.call.waking c.args.call.k)) _ _ _ (since_look g (goal.at.returns g c).After-wake_nobody_in_hand) c.wake_some.ensures.since;
  so = c.wake_some.ensures.so;
}
