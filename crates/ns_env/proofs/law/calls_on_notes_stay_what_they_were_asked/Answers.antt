use Rattle.ns_env.proofs.Courses.{env_asked_stays}
use Rattle.ns_env.proofs.law.calls_on_notes_stay_what_they_were_asked.Goals as goal

pub returns : goal.returns
returns c = λ walk next found e. env_asked_stays walk next found e
