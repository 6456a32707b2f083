use Rattle.std.proofs.Common.{arith, refl, sym, ◌∙◌}
use Rattle.ns_gate.proofs.Prelude.{TableId}
use Rattle.ns_gate.proofs.Looks.{may_look, has_looked}
use Rattle.ns_gate.proofs.bound.Bound.look.Goals as goal

pub load_saying-requires-clause-word : goal.load_saying-requires-clause-word
load_saying-requires-clause-word g c = let wide = c.gate.invariant.0 in let below = c.own_flag-flag.ensures.1 in omega (arith, wide, below)

pub load_saying-requires-clause-allows : goal.load_saying-requires-clause-allows
load_saying-requires-clause-allows g c = may_look _ g.met.C.Condition.has_cells.0 g.met.C.Condition.quiet_keeps _ _ _ c.args._limits c.args._again c.args.cause c.requires.may c.own_flag-flag.result _ (rw (← c.self.view_is) at c.requires.can)

pub load_saying-requires-clause-of : goal.load_saying-requires-clause-of
load_saying-requires-clause-of g c = ◌∙◌ {A = TableId} c.self.invariant.0 (sym c.gate.view_is)

pub returns : goal.returns
returns g c = rw (← c.self.view_is) record {
  gate = c.load_saying.ensures.0;
  lent = refl;
  by = has_looked _ g.met.C.Condition.has_cells.0 g.met.C.Condition.quiet_keeps 0 0 0 c.args._limits c.args._again c.args.cause c.requires.may _ _ (rw (← c.self.view_is) at c.requires.can) c.load_saying.ensures.2;
}
