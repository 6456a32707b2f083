use Rattle.ns_world.proofs.asks.ask.Goals as goal
use Rattle.ns_world.proofs.Placing.{goes_in_call}

pub returns : goal.returns
returns g c = record {
  found = c.make-found.result;
  effect = rw c.want.ensures at (c.make-found.ensures c.args.seat.now.number);
  goes = rw c.got.ensures at c.settle.ensures.seat;
  answers = rw c.got.ensures at c.settle.ensures.step;
}

pub make-found-requires : goal.make-found-requires
make-found-requires g c = rw c.want.ensures c.requires.fits

pub settle-requires : goal.settle-requires
settle-requires g c = (g.met.C.Seated.seat_fits, rw c.got.ensures (goes_in_call c.args.walk c.make-found.result c.requires.call))
