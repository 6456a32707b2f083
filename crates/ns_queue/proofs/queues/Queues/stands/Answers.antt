use Rattle.std.proofs.Common.{ap, nat_lt, ◌∙◌}
use Rattle.ns_queue.proofs.Prelude.{ltb_from_iff, times_in}
use Rattle.ns_queue.proofs.queues.Queues.stands.Goals as goal

pub returns-in-Lock : goal.returns-in-Lock
returns-in-Lock g c = record { stands = rw (c.in-Lock.is, ← c.self.view_is) (ltb_from_iff c.holds.ensures.stands); orderly = rw (← c.self.view_is) c.self.invariant }

pub returns-in-Cv : goal.returns-in-Cv
returns-in-Cv g c = record {
  stands = rw c.in-Cv.is (ltb_from_iff c.stands_in.ensures ∙ ap (λ ws. nat_lt 0 (times_in c.args.seat ws)) c.variable.ensures.list);
  orderly = c.variable.ensures.orderly;
}
