use Rattle.std.proofs.Common.{ap, arith, refl, ◌∙◌}
use Rattle.ns_gate.proofs.Prelude.{Acquire, word_acquired}
use Rattle.ns_gate.proofs.bound.Bound.acquire_guessing.Goals as goal

pub acquired-requires : goal.acquired-requires
acquired-requires g c = let few = c.requires.guess.few in omega (arith, few)

pub exchange_guessing-requires : goal.exchange_guessing-requires
exchange_guessing-requires g c = let new = c.acquired.ensures ∙ ap (λ mode. word_acquired mode c.args.arrival c.args.guess) c.mode.ensures in
    (omega arith, (c.requires.can, record { act = Acquire c.args.aim c.args.arrival c.args.guess; next = c.requires.next; plain = (refl, new) }))

pub returns : goal.returns
returns g c = c.exchange_guessing.ensures (Acquire c.args.aim c.args.arrival c.args.guess) c.requires.next
