use Rattle.ns_queue.proofs.Prelude.{more_fits, one_fits}
use Rattle.ns_queue.proofs.counts.with_one.Goals as goal

pub overflow_add-result : goal.overflow_add-result
overflow_add-result g c = one_fits c.args.counts.len c.requires.room

pub overflow_add-result-2 : goal.overflow_add-result-2
overflow_add-result-2 g c = more_fits _ c.args.counts.len _ _ c.requires.kinds.conditional c.requires.room c.one_if.ensures

pub overflow_add-result-3 : goal.overflow_add-result-3
overflow_add-result-3 g c = more_fits _ c.args.counts.len _ _ c.requires.kinds.plain_writers c.requires.room c.one_if-2.ensures

pub overflow_add-result-4 : goal.overflow_add-result-4
overflow_add-result-4 g c = more_fits _ c.args.counts.len _ _ c.requires.kinds.long c.requires.room c.one_if-3.ensures

pub is_write-writes-requires : goal.is_write-writes-requires
is_write-writes-requires g c = tt

pub one_if-requires : goal.one_if-requires
one_if-requires g c = tt

pub one_if-requires-2 : goal.one_if-requires-2
one_if-requires-2 g c = tt

pub one_if-requires-3 : goal.one_if-requires-3
one_if-requires-3 g c = tt
