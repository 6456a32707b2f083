use Rattle.std.proofs.Common.{ap, map, ◌∙◌}
use Rattle.ns_queue.proofs.Prelude.{shown_of}
use Rattle.ns_queue.proofs.queues.Queues.shown.Goals as goal

pub returns-in-Lock : goal.returns-in-Lock
returns-in-Lock g c = record { shown = rw c.in-Lock.is (rw (← c.self.view_is) c.shown.ensures.shown); orderly = rw (← c.self.view_is) c.self.invariant }

pub returns-in-Cv : goal.returns-in-Cv
returns-in-Cv g c = record { shown = rw c.in-Cv.is (c.shown_slice.ensures ∙ ap (map shown_of) c.variable.ensures.list); orderly = c.variable.ensures.orderly }

pub shown_slice-requires : goal.shown_slice-requires
shown_slice-requires g c = c.variable.ensures.few
