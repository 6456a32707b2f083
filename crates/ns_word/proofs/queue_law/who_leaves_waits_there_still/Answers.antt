use Rattle.ns_word.proofs.Prelude.{refl, sym, true}
use Rattle.ns_word.proofs.Leavers.{is_gone, leaves_condition, leaves_variables}
use Rattle.ns_word.proofs.queue_law.who_leaves_waits_there_still.Goals as goal

pub returns : goal.returns
returns g c = record {
  variables = λ seats history old new view commits wait cause last stood variables step walks lawful on. leaves_variables g.C.Condition.means old new view commits wait cause last stood step walks seats history variables lawful on;
  condition = λ old new view commits wait cause last stood d step walks on. sym (leaves_condition g.C.Condition.means old new view commits wait cause last stood step walks d on);
  gone = λ old new view commits wait cause last step walks. is_gone g.C.Condition.means old new view commits wait cause last true step walks refl;
}
