use Rattle.std.proofs.Common.{arith, refl, sym, ◌∙◌}
use Rattle.ns_gate.proofs.Prelude.{TableId}
use Rattle.ns_gate.proofs.Allowed.{may_exchange}
use Rattle.ns_gate.proofs.Findings.{found_packs, exchange_told}
use Rattle.ns_gate.proofs.bound.Bound.exchange.Goals as goal

pub compare_exchange-found-requires : goal.compare_exchange-found-requires
compare_exchange-found-requires g c = let wide = c.gate.invariant.0 in
    (◌∙◌ {A = TableId} c.self.invariant.0 (sym c.gate.view_is), omega (arith, wide), may_exchange _ g.met.C.Condition.has_cells.0 g.met.C.Condition.quiet_keeps _ _ _ _ c.args.last c.args.new _ _ (rw (← c.self.view_is) at c.requires.may) c.number-content.ensures c.number.ensures)

pub came_to-requires : goal.came_to-requires
came_to-requires g c = found_packs _ c.args.last c.args.new _ _ _ c.requires.last (rw (← c.self.view_is) at c.requires.may) c.compare_exchange-found.ensures.2

pub returns : goal.returns
returns g c = λ act can. rw (← c.self.view_is) record {
  word = c.came_to.ensures.word;
  did = record { gate = c.compare_exchange-found.ensures.0; lent = refl; by = exchange_told _ c.args.last c.args.new _ _ _ _ (rw (← c.self.view_is) at c.requires.may) c.came_to.ensures.tried c.compare_exchange-found.ensures.2 act (rw (← c.self.view_is) at can) };
}
