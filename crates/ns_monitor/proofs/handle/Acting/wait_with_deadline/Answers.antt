use Rattle.std.proofs.Common.{rules, ◌≡◌}
use Rattle.ns_monitor.proofs.Looks.{ended_by}
use Rattle.ns_monitor.proofs.Returns.{looked_by}
use Rattle.ns_monitor.proofs.handle.Acting.wait_with_deadline.Goals as goal

pub returns-clause-ended : goal.returns-clause-ended
returns-clause-ended g c = let w = c.wait_by-waited in rw (← c.watcher.view_is) (ended_by c.args.note c.args.deadline c.index_of.result c.watcher.inside.seat w.new.watch.seat.now _ w.result.1 (search rules) c.index_of.ensures w.ensures.ended)

pub returns-clause-looked : goal.returns-clause-looked
returns-clause-looked g c = let w = c.wait_by-waited in rw (← c.self.view_is, ← c.watcher.view_is)
    (looked_by (w.result.0.mine ≡ c.self.inside.caller.mine) c.args.note c.args.deadline c.index_of.result c.watcher.inside.seat w.new.watch.seat.now _ (search rules) c.index_of.ensures w.ensures.before)
