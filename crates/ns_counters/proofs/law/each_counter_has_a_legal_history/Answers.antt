use Rattle.ns_counters.proofs.Prelude.{first_objects}
use Rattle.ns_counters.proofs.Objects.{counter_own}
use Rattle.ns_counters.proofs.law.each_counter_has_a_legal_history.Goals as goal

pub returns : goal.returns
returns c = λ setup history number legal. let own = counter_own number setup (first_objects setup) history legal in (own.legal, own.leaves)
