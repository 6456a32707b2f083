use Rattle.std.proofs.Common.{◌∙◌}
use Rattle.ns_queue.proofs.Prelude.{Anybody}
use Rattle.ns_queue.proofs.Meaning.{length-signal_marks, signal_parts}
use Rattle.ns_queue.proofs.signal.signaled.Goals as goal

pub marked-requires : goal.marked-requires
marked-requires g c = (g.met.C.Queueable.parts_fit.list, (rw (c.as_slice.ensures.value, c.marks_of-marks.ensures) (length-signal_marks Anybody c.args.waiters.now), c.requires))

pub returns : goal.returns
returns g c = c.marked.ensures ∙ rw (c.as_slice.ensures.value, c.marks_of-marks.ensures) (signal_parts c.args.waiters.now).0
