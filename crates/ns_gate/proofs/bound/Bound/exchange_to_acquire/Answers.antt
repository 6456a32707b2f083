use Rattle.std.proofs.Common.{ap, arith, refl, ◌∙◌}
use Rattle.ns_gate.proofs.Prelude.{Acquire, word_acquired}
use Rattle.ns_gate.proofs.bound.Bound.exchange_to_acquire.Goals as goal

pub acquired-requires : goal.acquired-requires
acquired-requires g c = let few = c.requires.last.few in omega (arith, few)

pub exchange-requires : goal.exchange-requires
exchange-requires g c = let new = c.acquired.ensures ∙ ap (λ mode. word_acquired mode c.args.arrival c.args.last) c.mode.ensures in
    (omega arith, (c.requires.last, record { act = Acquire c.args.aim c.args.arrival c.args.last; can = c.requires.can; exchanges = (refl, new) }))

pub returns : goal.returns
returns g c = c.exchange.ensures (Acquire c.args.aim c.args.arrival c.args.last) c.requires.can
