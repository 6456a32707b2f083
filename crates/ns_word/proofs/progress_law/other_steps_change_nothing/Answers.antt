use Rattle.ns_word.proofs.Idles.{idle_same}
use Rattle.ns_word.proofs.progress_law.other_steps_change_nothing.Goals as goal

pub returns : goal.returns
returns g c = λ old new view found commits step idles. idle_same g.C.Condition.means old new view found commits step idles
