use Rattle.std.proofs.Common.{[], ap, sym, ◌++◌, ◌∙◌, ◌∷◌}
use Rattle.ns_queue.proofs.Places.{ahead_few, from_none, own, stepped}
use Rattle.ns_queue.proofs.gather.gathered.Goals as goal

pub loop-waiter-init : goal.loop-waiter-init
loop-waiter-init g c = rw (c.new-all.ensures, c.front-at.ensures.place) (sym (own c.args.ring.now).1)

pub push-requires : goal.push-requires
push-requires g c = (
  g.met.C.Queueable.parts_fit.list,
  rw c.loop-waiter.invariant (ahead_few c.loop-waiter.at c.args.ring.now c.in-Some.waiter.now c.get.ensures.orderly (sym c.in-Some.ensures.waiter)),
)

pub loop-waiter-preserved : goal.loop-waiter-preserved
loop-waiter-preserved g c =
    let s = stepped c.loop-waiter.at c.args.ring.now c.in-Some.waiter.now c.next-at.result c.get.ensures.orderly (sym c.in-Some.ensures.waiter) c.next-at.ensures.place in
    c.push.ensures.items ∙ ap (λ vs. vs ++ c.in-Some.waiter.now ∷ []) c.loop-waiter.invariant ∙ sym s.ahead_is

pub returns : goal.returns
returns g c = c.loop-waiter.invariant ∙ (from_none c.loop-waiter.at c.args.ring.now (sym c.in_default.ensures.waiter)).1
