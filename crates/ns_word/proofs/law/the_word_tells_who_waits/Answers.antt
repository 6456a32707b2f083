use Rattle.ns_word.proofs.Prelude.{ap}
use Rattle.ns_word.proofs.WordTells.{all_wait, is_empty, plain_writer, tells_of_one, with_condition}
use Rattle.ns_word.proofs.law.the_word_tells_who_waits.Goals as goal

pub returns-clause-somebody : goal.returns-clause-somebody
returns-clause-somebody g c = λ seats history s lawful clear. is_empty s.word.waiting s.lists.lock (ap (λ b. b.waiting) (lawful.bits_tell.at_home clear))

pub returns-clause-condition : goal.returns-clause-condition
returns-clause-condition g c = λ seats history s lawful clear. tells_of_one s.word.cond _ _ with_condition s.lists.lock (ap (λ b. b.conditional) (lawful.bits_tell.at_home clear))

pub returns-clause-writer : goal.returns-clause-writer
returns-clause-writer g c = λ seats history s lawful clear. tells_of_one s.word.writer_waits _ _ plain_writer s.lists.lock (ap (λ b. b.writer_waits) (lawful.bits_tell.at_home clear))

pub returns-clause-all_false : goal.returns-clause-all_false
returns-clause-all_false g c = λ seats history s lawful false. all_wait _ s.lists.lock (lawful.all_false_true false).0
