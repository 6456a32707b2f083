use Rattle.ns_monitor.proofs.Prelude.{rules}
use Rattle.ns_monitor.proofs.Looks.{ended_by}
use Rattle.ns_monitor.proofs.monitor.Monitor.cv_wait_with_deadline.Goals as goal

pub returns-clause-ended : goal.returns-clause-ended
returns-clause-ended g c = let w = c.wait_for_variable-waited in ended_by c.args.note c.args.deadline c.index_of.result c.args.env_seat.now w.new.watch.seat.now _ w.result.1 (search rules) c.index_of.ensures w.ensures.ended
