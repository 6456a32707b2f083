use Rattle.ns_word.proofs.Calls.{set_flag_looks}
use Rattle.ns_word.proofs.call_law.limited_waits_look_while_they_wait.Goals as goal

pub returns : goal.returns
returns g c = λ wait limited. set_flag_looks g.row.N wait limited
