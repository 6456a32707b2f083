use Rattle.std.proofs.Common.{None, arith, refl, sym, ◌∙◌}
use Rattle.ns_gate.proofs.Prelude.{TableId}
use Rattle.ns_gate.proofs.Allowed.{may_store}
use Rattle.ns_gate.proofs.Findings.{stepped}
use Rattle.ns_gate.proofs.bound.Bound.store_at.Goals as goal

pub store-requires : goal.store-requires
store-requires g c = let wide = c.gate.invariant.0 in let below = c.requires.below in
    (◌∙◌ {A = TableId} c.self.invariant.0 (sym c.gate.view_is), omega (arith, wide, below), may_store _ g.met.C.Condition.has_cells.0 g.met.C.Condition.quiet_keeps _ _ _ _ c.args.word c.args.content (rw (← c.self.view_is) at c.requires.may))

pub returns : goal.returns
returns g c = λ act can. rw (← c.self.view_is) record { gate = c.store.ensures.0; lent = refl; by = stepped _ None _ _ _ c.store.ensures.2 act (rw (← c.self.view_is) at can) }
