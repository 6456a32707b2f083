use Rattle.std.proofs.Common.{[], ap, map, rules, sym, ◌++◌, ◌∙◌, ◌∷◌}
use Rattle.ns_queue.proofs.Prelude.{ahead, length-map, map-append, shown_of}
use Rattle.ns_queue.proofs.Places.{ahead_few, from_none, own, stepped}
use Rattle.ns_queue.proofs.gather.shown_ring.Goals as goal

pub loop-waiter-init : goal.loop-waiter-init
loop-waiter-init g c = rw (c.new-all.ensures, c.front-at.ensures.place) (ap (map shown_of) (sym (own c.args.ring.now).1))

pub push-requires : goal.push-requires
push-requires g c =
    let few = ahead_few c.loop-waiter.at c.args.ring.now c.in-Some.waiter.now c.get.ensures.orderly (sym c.in-Some.ensures.waiter) in
    (search rules, rw c.loop-waiter.invariant (rw (length-map (ahead c.loop-waiter.at c.args.ring.now) shown_of) few))

pub loop-waiter-preserved : goal.loop-waiter-preserved
loop-waiter-preserved g c =
    let s = stepped c.loop-waiter.at c.args.ring.now c.in-Some.waiter.now c.next-at.result c.get.ensures.orderly (sym c.in-Some.ensures.waiter) c.next-at.ensures.place in
    let xs = ahead c.loop-waiter.at c.args.ring.now in
    c.push.ensures.items ∙ ap (λ vs. vs ++ c.shown.result ∷ []) c.loop-waiter.invariant ∙ ap (λ v. map shown_of xs ++ v ∷ []) c.shown.ensures
    ∙ sym (map-append shown_of xs (c.in-Some.waiter.now ∷ [])) ∙ ap (map shown_of) (sym s.ahead_is)

pub returns : goal.returns
returns g c = c.loop-waiter.invariant ∙ ap (map shown_of) (from_none c.loop-waiter.at c.args.ring.now (sym c.in_default.ensures.waiter)).1
