use Rattle.ns_env.proofs.Courses.{others_leave_course}
use Rattle.ns_env.proofs.law.steps_of_others_leave_a_call_on_notes.Goals as goal

pub returns : goal.returns
returns c = λ events more seat course walk so_far. others_leave_course events more seat course walk so_far
