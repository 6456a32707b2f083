use Rattle.std.proofs.Common.{arith, ◌∙◌}
use Rattle.ns_monitor.proofs.Prelude.{TableId}
use Rattle.ns_monitor.proofs.handle.Acting.cv_wait_with_deadline.Goals as goal

pub cv_wait_with_deadline-caller-requires : goal.cv_wait_with_deadline-caller-requires
cv_wait_with_deadline-caller-requires g c = (omega arith, (omega arith, (c.self.invariant, (c.requires.variable, (c.watcher.invariant, rw c.watcher.view_is c.requires.made)))))

pub invariant_of-result : goal.invariant_of-result
invariant_of-result g c = ◌∙◌ {A = TableId} c.cv_wait_with_deadline-caller.ensures.grows.monitor c.self.invariant

pub invariant_of-watcher : goal.invariant_of-watcher
invariant_of-watcher g c = ◌∙◌ {A = TableId} c.cv_wait_with_deadline-caller.ensures.env_grows.env c.watcher.invariant

pub returns : goal.returns
returns g c = let e = c.cv_wait_with_deadline-caller.ensures in rw (← c.self.view_is, ← c.watcher.view_is) record { grows = e.grows; waited = e.waited; env_grows = e.env_grows; env_mine = e.env_mine; ended = e.ended }
