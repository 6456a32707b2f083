use Rattle.std.proofs.Common.{ap, nat_lt, sym, ◌∙◌}
use Rattle.ns_queue.proofs.Prelude.{has_condition, is_long, writes_plainly}
use Rattle.ns_queue.proofs.Ringed.{any_counted}
use Rattle.ns_queue.proofs.lock_list.LockList.bits.Goals as goal

pub returns-clause-conditional : goal.returns-clause-conditional
returns-clause-conditional g c = rw (← c.self.view_is) (ap (λ k. nat_lt 0 k.conditional) c.counts-counts.ensures ∙ sym (any_counted has_condition c.self.inside.ring))

pub returns-clause-writer_waits : goal.returns-clause-writer_waits
returns-clause-writer_waits g c = rw (← c.self.view_is) (ap (λ k. nat_lt 0 k.plain_writers) c.counts-counts.ensures ∙ sym (any_counted writes_plainly c.self.inside.ring))

pub returns-clause-long : goal.returns-clause-long
returns-clause-long g c = rw (← c.self.view_is) (ap (λ k. nat_lt 0 k.long) c.counts-counts.ensures ∙ sym (any_counted is_long c.self.inside.ring))
