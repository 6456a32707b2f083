use Rattle.ns_queue.proofs.Prelude.{one_in, refl}
use Rattle.ns_queue.proofs.counts.without_one.Goals as goal

pub overflow_sub-result : goal.overflow_sub-result
overflow_sub-result g c = c.requires.one

pub overflow_sub-result-2 : goal.overflow_sub-result-2
overflow_sub-result-2 g c = one_in _ _ _ _ c.requires.conditional c.one_if.ensures c.is_some-conditional.ensures

pub overflow_sub-result-4 : goal.overflow_sub-result-4
overflow_sub-result-4 g c = one_in _ _ _ _ c.requires.long c.one_if-3.ensures refl

pub is_write-writes-requires : goal.is_write-writes-requires
is_write-writes-requires g c = tt

pub one_if-requires : goal.one_if-requires
one_if-requires g c = tt

pub one_if-requires-2 : goal.one_if-requires-2
one_if-requires-2 g c = tt

pub one_if-requires-3 : goal.one_if-requires-3
one_if-requires-3 g c = tt
