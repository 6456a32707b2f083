use Rattle.ns_env.proofs.Courses.{step_takes_on}
use Rattle.ns_env.proofs.law.steps_on_notes_take_their_call_on.Goals as goal

pub returns : goal.returns
returns c = λ events more old new seat found course step lawful so_far. step_takes_on events more old new seat found course step lawful so_far
