use Rattle.ns_word.proofs.Ranges.{beside_once}
use Rattle.ns_word.proofs.law.no_waiter_stands_twice.Goals as goal

pub returns : goal.returns
returns g c = λ seats history s seat k lawful low. beside_once g.C.Condition.means seats history s lawful.waiters_placed lawful.one_history.each seat k low
