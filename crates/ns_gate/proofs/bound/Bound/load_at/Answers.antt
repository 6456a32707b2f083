use Rattle.std.proofs.Common.{arith, refl, sym, ◌∙◌}
use Rattle.ns_gate.proofs.Prelude.{TableId}
use Rattle.ns_gate.proofs.Allowed.{may_load}
use Rattle.ns_gate.proofs.Findings.{stepped}
use Rattle.ns_gate.proofs.bound.Bound.load_at.Goals as goal

pub load_saying-requires-clause-allows : goal.load_saying-requires-clause-allows
load_saying-requires-clause-allows g c = may_load _ g.met.C.Condition.has_cells.0 g.met.C.Condition.quiet_keeps _ _ _ _ c.args.begins c.args.word (rw (← c.self.view_is) at c.requires.may)

pub load_saying-requires-clause-of : goal.load_saying-requires-clause-of
load_saying-requires-clause-of g c = ◌∙◌ {A = TableId} c.self.invariant.0 (sym c.gate.view_is)

pub load_saying-requires-clause-word : goal.load_saying-requires-clause-word
load_saying-requires-clause-word g c = let wide = c.gate.invariant.0 in let below = c.requires.below in omega (arith, wide, below)

pub returns : goal.returns
returns g c = λ act can. rw (← c.self.view_is) record { gate = c.load_saying.ensures.0; lent = refl; by = stepped _ c.args.begins _ _ _ c.load_saying.ensures.2 act (rw (← c.self.view_is) at can) }
