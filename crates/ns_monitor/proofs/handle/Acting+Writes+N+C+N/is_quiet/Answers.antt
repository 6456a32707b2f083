use Rattle.std.proofs.Common.{arith, ◌∙◌}
use Rattle.ns_monitor.proofs.Prelude.{TableId}
use Rattle.ns_monitor.proofs.handle.Acting+Writes+N+C+N.is_quiet.Goals as goal

pub is_quiet-requires : goal.is_quiet-requires
is_quiet-requires g c = (omega arith, (omega (arith, g.met.C.Condition.has_cells), (omega (arith, g.met.C.Condition.has_cells), c.self.invariant)))

pub invariant_of-self : goal.invariant_of-self
invariant_of-self g c = ◌∙◌ {A = TableId} c.is_quiet.ensures.saw.grows.monitor c.self.invariant

pub returns : goal.returns
returns g c = let e = c.is_quiet.ensures in rw (← c.self.view_is) record { saw = e.saw; quiet = e.quiet }
