use Rattle.std.proofs.Common.{◌∙◌}
use Rattle.ns_monitor.proofs.Prelude.{TableId}
use Rattle.ns_monitor.proofs.handle.Acting.any_begin.Goals as goal

pub invariant_of-result : goal.invariant_of-result
invariant_of-result g c = ◌∙◌ {A = TableId} c.any_begin-waiting.ensures.monitor c.self.invariant

pub returns : goal.returns
returns g c = rw (← c.self.view_is) c.any_begin-waiting.ensures
