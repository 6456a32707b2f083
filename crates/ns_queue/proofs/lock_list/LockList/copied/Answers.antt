use Rattle.std.proofs.Common.{[], ap, sym, ◌++◌, ◌∙◌, ◌∷◌}
use Rattle.ns_queue.proofs.Places.{ahead_free, from_none, own, stepped}
use Rattle.ns_queue.proofs.lock_list.LockList.copied.Goals as goal

pub loop-waiter-init : goal.loop-waiter-init
loop-waiter-init g c = rw (c.new-copy.ensures, c.front-at.ensures.place) (sym (own c.self.inside.ring).1)

pub push_back-requires : goal.push_back-requires
push_back-requires g c =
    let free = ahead_free c.loop-waiter.at c.self.inside.ring c.in-Some.waiter.now c.front-at.ensures.orderly (sym c.in-Some.ensures.waiter) in
    (g.met.C.Queueable.parts_fit.lock, (free.0, rw c.loop-waiter.invariant free.1))

pub loop-waiter-preserved : goal.loop-waiter-preserved
loop-waiter-preserved g c =
    let s = stepped c.loop-waiter.at c.self.inside.ring c.in-Some.waiter.now c.next-at.result c.front-at.ensures.orderly (sym c.in-Some.ensures.waiter) c.next-at.ensures.place in
    c.push_back.ensures ∙ ap (λ vs. vs ++ c.in-Some.waiter.now ∷ []) c.loop-waiter.invariant ∙ sym s.ahead_is

pub returns : goal.returns
returns g c = rw (← c.self.view_is) (c.loop-waiter.invariant ∙ (from_none c.loop-waiter.at c.self.inside.ring (sym c.in_default.ensures.waiter)).1)
