use Rattle.ns_gate.proofs.Prelude.{arith}
use Rattle.ns_gate.proofs.bound.Bound.put_back.Goals as goal

pub exchange_to_return-tries-requires : goal.exchange_to_return-tries-requires
exchange_to_return-tries-requires g c = let turned = c.requires.turned in let is = c.new.ensures in
    (omega arith, (rw is turned.number, (rw is c.requires.can, rw is turned.hand)))

pub found_by-requires : goal.found_by-requires
found_by-requires g c = c.exchange_to_return-tries.ensures.word

pub returns : goal.returns
returns g c = rw c.found_by.ensures (rw c.requires.turned.finds (rw c.new.ensures at c.exchange_to_return-tries.ensures.did))
