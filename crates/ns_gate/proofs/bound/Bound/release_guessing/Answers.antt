use Rattle.ns_gate.proofs.Prelude.{Release, arith, refl}
use Rattle.ns_gate.proofs.bound.Bound.release_guessing.Goals as goal

pub exchange_guessing-requires : goal.exchange_guessing-requires
exchange_guessing-requires g c =
    (omega arith, (c.requires.can, record { act = Release c.args.releasing c.args.guess; next = c.requires.next; plain = (refl, c.released.ensures) }))

pub returns : goal.returns
returns g c = c.exchange_guessing.ensures (Release c.args.releasing c.args.guess) c.requires.next
