use Rattle.ns_word.proofs.Prelude.{arith}
use Rattle.ns_word.proofs.Called.{called_few, called_more}
use Rattle.ns_word.proofs.owed.called.Goals as goal

pub push-requires : goal.push-requires
push-requires c = (omega arith, called_few c.args.seats.now c.args.vias.now c.loop-i.i _ c.loop-i-test.true c.requires.few c.loop-i.invariant)

pub loop-i-preserved : goal.loop-i-preserved
loop-i-preserved c = called_more c.args.seats.now c.args.vias.now c.loop-i.i _ _ _ _ c.loop-i-test.true c.requires.same c.value_of-value.ensures c.push.ensures.items c.loop-i.invariant
