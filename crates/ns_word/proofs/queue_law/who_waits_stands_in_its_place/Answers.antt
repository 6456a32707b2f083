use Rattle.ns_word.proofs.Stands.{waits_in_place}
use Rattle.ns_word.proofs.queue_law.who_waits_stands_in_its_place.Goals as goal

pub returns : goal.returns
returns g c = λ seats history old new view commits wait again last owes tests step lawful walks. waits_in_place g.C.Condition.means seats history old new view commits wait again last owes tests step lawful walks
