use Rattle.std.proofs.Common.{ap, ◌∙◌}
use Rattle.ns_queue.proofs.Prelude.{cvs_without, taken_set}
use Rattle.ns_queue.proofs.queues.Queues.take_all.Goals as goal

pub taken_set-requires : goal.taken_set-requires
taken_set-requires g c = rw c.as_slice.ensures.value c.copied_list-all.ensures.below

pub returns : goal.returns
returns g c =
    let taken = c.copied_list-all.ensures.list in
    record { taken = taken; left = c.drop_from_variables.ensures ∙ ap (λ set. cvs_without set c.args.self.now) (c.taken_set.ensures ∙ ap taken_set (c.as_slice.ensures.value ∙ taken)); orderly = c.copied_list-all.ensures.orderly }
