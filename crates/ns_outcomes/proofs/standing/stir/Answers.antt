use Rattle.std.proofs.Common.{arith, length, ◌<◌}
use Rattle.ns_outcomes.proofs.Prelude.{get_or_default, map_over_more, stirred}
use Rattle.ns_outcomes.proofs.standing.stir.Goals as goal

pub loop-standing-preserved : goal.loop-standing-preserved
loop-standing-preserved c =
    let here : c.loop-standing.standing-index < length c.loop-standing.standings = omega (arith, c.loop-standing-test.true, c.loop-standing.auto.standings) in
    rw c.stirred.ensures (map_over_more stirred c.args.standings.now c.loop-standing.standings c.loop-standing.standing-index _ c.loop-standing-test.true c.loop-standing.invariant (get_or_default c.loop-standing.standings c.loop-standing.standing-index _ _ here))
