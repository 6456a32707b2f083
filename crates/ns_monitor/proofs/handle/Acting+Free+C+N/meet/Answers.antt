use Rattle.std.proofs.Common.{arith, ◌∙◌}
use Rattle.ns_monitor.proofs.Prelude.{TableId}
use Rattle.ns_monitor.proofs.Callers.{of_one}
use Rattle.ns_monitor.proofs.handle.Acting+Free+C+N.meet.Goals as goal

pub meet-caller-requires : goal.meet-caller-requires
meet-caller-requires g c = (omega arith, (omega arith, (c.self.invariant, of_one c.self.inside.caller _ c.other.inside.caller _ c.self.inside.monitor.now c.self.view_is c.other.view_is c.requires c.self.invariant)))

pub invariant_of-first : goal.invariant_of-first
invariant_of-first g c = ◌∙◌ {A = TableId} c.meet-caller.ensures.learned.0.monitor c.self.invariant

pub invariant_of-result : goal.invariant_of-result
invariant_of-result g c = ◌∙◌ {A = TableId} c.meet-caller.ensures.learned.1.monitor (of_one c.self.inside.caller _ c.other.inside.caller _ c.self.inside.monitor.now c.self.view_is c.other.view_is c.requires c.self.invariant)

pub returns : goal.returns
returns g c = let e = c.meet-caller.ensures in rw (← c.self.view_is, ← c.other.view_is) record { learned = e.learned; before = e.before; after = e.after }
