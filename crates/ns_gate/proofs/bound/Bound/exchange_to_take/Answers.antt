use Rattle.ns_gate.proofs.Prelude.{TakeQueues, arith, refl}
use Rattle.ns_gate.proofs.bound.Bound.exchange_to_take.Goals as goal

pub exchange-requires : goal.exchange-requires
exchange-requires g c =
    (omega arith, (c.requires.last, record { act = TakeQueues c.args.taking c.args.last; can = c.requires.can; exchanges = (refl, c.taken.ensures) }))

pub returns : goal.returns
returns g c = c.exchange.ensures (TakeQueues c.args.taking c.args.last) c.requires.can
