use Rattle.ns_queue.proofs.Prelude.{arith, false, option_copied, sym, true}
use Rattle.ns_queue.proofs.Making.{head_low, joins_told, made_begun, made_ends, made_joins, made_stops, run_read}
use Rattle.ns_queue.proofs.Places.{seated_low}
use Rattle.ns_queue.proofs.remake.remake.Goals.{then-not-joins+else-heads-at, else-not-joins}
use Rattle.ns_queue.proofs.remake.remake.Goals as goal

pub bounds-lasts-head : goal.bounds-lasts-head
bounds-lasts-head g c = head_low g.C.Condition.means.same _ _ _ _ _ c.args.ring.now c.get.ensures.orderly c.loop-waiter.invariant

pub bounds-heads-at : goal.bounds-heads-at
bounds-heads-at g c = let low = seated_low c.loop-waiter.at c.args.ring.now c.in-Some.waiter.now c.get.ensures.orderly (sym c.in-Some.ensures.waiter) in omega (arith, low)

pub returns-then-heads-at : goal.returns-then-heads-at
returns-then-heads-at g c =
    let same = g.C.Condition.means.same in
    let m = c.loop-waiter.invariant in
    let read = run_read same c.loop-waiter.head c.loop-waiter.at c.args.ring.now c.get.ensures.orderly m.head_is in
    let begins = joins_told same c.joins.result c.in-Some.waiter.now (option_copied c.get-in-Some.result) _ _ false c.joins.ensures c.get-in-Some.ensures.waiter read c.if-not-joins.true in
    made_stops same c.loop-waiter.heads c.loop-waiter.lasts c.loop-waiter.head c.loop-waiter.before c.loop-waiter.at c.args.ring.now c.in-Some.waiter.now c.get.ensures.orderly (sym c.in-Some.ensures.waiter) begins c.if-heads-at.true m

pub bounds-heads-at-in-Some : goal.bounds-heads-at-in-Some
bounds-heads-at-in-Some g c = let low = seated_low c.loop-waiter.at c.args.ring.now c.in-Some.waiter.now c.get.ensures.orderly (sym c.in-Some.ensures.waiter) in omega (arith, low)

pub loop-waiter-preserved : goal.loop-waiter-preserved
loop-waiter-preserved g c =
    let same = g.C.Condition.means.same in
    let m = c.loop-waiter.invariant in
    let w = c.in-Some.waiter.now in
    let ws = c.args.ring.now in
    let read = run_read same c.loop-waiter.head c.loop-waiter.at ws c.get.ensures.orderly m.head_is in
    elim c.if-not-joins.branch [
      | then-not-joins+else-heads-at u ↦
          let begins = joins_told same c.joins.result w (option_copied c.get-in-Some.result) _ _ false c.joins.ensures c.get-in-Some.ensures.waiter read u.if-not-joins.true in
          made_begun same c.loop-waiter.heads c.loop-waiter.lasts c.if-not-joins.lasts c.loop-waiter.head c.if-not-joins.head c.loop-waiter.before c.loop-waiter.at c.next-at.result ws w c.get.ensures.orderly (sym c.in-Some.ensures.waiter) c.next-at.ensures.place begins u.head-is u.lasts-is m
      | else-not-joins u ↦
          let goes = joins_told same c.joins.result w (option_copied c.get-in-Some.result) _ _ true c.joins.ensures c.get-in-Some.ensures.waiter read u.if-not-joins.false in
          rw (u.head-is, u.lasts-is) (made_joins same c.loop-waiter.heads c.loop-waiter.lasts c.loop-waiter.head c.loop-waiter.before c.loop-waiter.at c.next-at.result ws w c.get.ensures.orderly (sym c.in-Some.ensures.waiter) c.next-at.ensures.place goes m)
    ]

pub bounds-lasts-head-2 : goal.bounds-lasts-head-2
bounds-lasts-head-2 g c = head_low g.C.Condition.means.same _ _ _ _ _ c.args.ring.now c.get.ensures.orderly c.loop-waiter.invariant

pub returns : goal.returns
returns g c = made_ends g.C.Condition.means.same c.loop-waiter.heads c.loop-waiter.lasts c.loop-waiter.head c.loop-waiter.before c.loop-waiter.at c.args.ring.now c.get.ensures.orderly (sym c.in_default.ensures.waiter) c.loop-waiter.invariant
