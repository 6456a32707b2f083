use Rattle.std.proofs.Common.{refl, rules, ◌∙◌}
use Rattle.ns_note.proofs.Prelude.{LoadClock}
use Rattle.ns_note.proofs.Rests.{rests, grew, mine_stays, quiet_adds, clock_loaded}
use Rattle.ns_note.proofs.Allowed.{loads_clock}
use Rattle.ns_note.proofs.env.Env.now.Goals as goal

pub load-requires : goal.load-requires
load-requires c = (search rules, search rules, loads_clock _ _ _ _ _ c.seat.invariant.0.one)

pub invariant_of-seat : goal.invariant_of-seat
invariant_of-seat c = let t = c.load.ensures.2 in rests _ _ _ c.seat.inside.seat.me _ c.seat.invariant.0.empty c.seat.invariant.1 t.0 t.1 (t.2.acted.making ∙ c.seat.invariant.0.idle) (quiet_adds LoadClock _ _ _ t.2 refl)

pub returns : goal.returns
returns c = let found = c.load.ensures.2.2 in let adds = quiet_adds LoadClock _ _ _ found refl in let clock = clock_loaded _ _ _ found in record {
  grows = grew _ _ _ _ _ _ c.seat.view_is c.load.ensures.0 adds;
  mine = mine_stays _ _ _ _ c.seat.view_is adds;
  clock = clock.0;
  moment = search (rules, clock);
}
