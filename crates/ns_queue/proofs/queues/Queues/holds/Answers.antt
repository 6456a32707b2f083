use Rattle.ns_queue.proofs.Prelude.{arith, on_none, times_in, told_no, told_yes}
use Rattle.ns_queue.proofs.queues.Queues.holds.Goals as goal

pub returns-then-holds : goal.returns-then-holds
returns-then-holds g c =
    let here = told_yes c.holds.result _ c.if-holds.true c.holds.ensures.stands.0 in
    rw (← c.self.view_is) (record { stands = (λ yes. omega (arith, here), λ stands. c.if-holds.true); nowhere = rw c.if-holds.true tt; orderly = c.self.invariant })

pub returns-else-holds : goal.returns-else-holds
returns-else-holds g c =
    let out = told_no c.holds.result (times_in c.args.seat c.self.inside.lock) c.if-holds.false c.holds.ensures.stands.1 in
    rw (← c.self.view_is) (record {
      stands = (λ t. let any = c.stands_in_any.ensures.0 t in omega (arith, any, out), λ m. c.stands_in_any.ensures.1 (omega (arith, m, out)));
      nowhere = on_none c.stands_in_any.result _ (λ m. c.stands_in_any.ensures.1 (omega (arith, m, out)));
      orderly = c.self.invariant;
    })
