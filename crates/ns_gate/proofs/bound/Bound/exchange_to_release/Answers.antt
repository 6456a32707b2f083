use Rattle.ns_gate.proofs.Prelude.{Release, arith, refl}
use Rattle.ns_gate.proofs.bound.Bound.exchange_to_release.Goals as goal

pub exchange-requires : goal.exchange-requires
exchange-requires g c =
    (omega arith, (c.requires.last, record { act = Release c.args.releasing c.args.last; can = c.requires.can; exchanges = (refl, c.released.ensures) }))

pub returns : goal.returns
returns g c = c.exchange.ensures (Release c.args.releasing c.args.last) c.requires.can
