use Rattle.ns_word.proofs.Prelude.{ap}
use Rattle.ns_word.proofs.Longs.{readers_stand_behind}
use Rattle.ns_word.proofs.WordTells.{plain_writer, tells_of_one}
use Rattle.ns_word.proofs.law.no_fresh_reader_passes_a_writer.Goals as goal

pub returns : goal.returns
returns g c = λ seats history old new view found commits held step lawful clear there none some reads.
    let waits = (tells_of_one old.word.writer_waits _ _ plain_writer old.lists.lock (ap (λ b. b.writer_waits) (lawful.bits_tell.at_home clear))).1 there in
    readers_stand_behind g.C.Condition.means old view found new commits held step waits none some reads
