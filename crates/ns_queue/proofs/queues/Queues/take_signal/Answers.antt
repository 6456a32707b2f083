use Rattle.std.proofs.Common.{ap, ◌∙◌}
use Rattle.ns_queue.proofs.Prelude.{cvs_without, signaled_of, taken_set}
use Rattle.ns_queue.proofs.Taken.{below_signaled}
use Rattle.ns_queue.proofs.queues.Queues.take_signal.Goals as goal

pub taken_set-requires : goal.taken_set-requires
taken_set-requires g c = rw (c.as_slice.ensures.value, c.signaled-taken.ensures) (below_signaled c.variable.result.now c.variable.ensures.below)

pub returns : goal.returns
returns g c =
    let taken = c.signaled-taken.ensures ∙ ap signaled_of c.variable.ensures.list in
    record { taken = taken; left = c.drop_from_variables.ensures ∙ ap (λ set. cvs_without set c.args.self.now) (c.taken_set.ensures ∙ ap taken_set (c.as_slice.ensures.value ∙ taken)); orderly = c.variable.ensures.orderly }
