use Rattle.std.proofs.Common.{rules, ◌≡◌}
use Rattle.ns_monitor.proofs.Looks.{ended_by}
use Rattle.ns_monitor.proofs.Returns.{looked_by}
use Rattle.ns_monitor.proofs.monitor.Monitor.wait_with_deadline.Goals as goal

pub returns : goal.returns
returns g c = record {
  grows = search rules;
  waited = c.wait_by-waited.ensures.waited;
  env_grows = search rules;
  env_mine = search rules;
  ended = let w = c.wait_by-waited in ended_by c.args.note c.args.deadline c.index_of.result c.args.env_seat.now w.new.watch.seat.now _ w.result.1 (search rules) c.index_of.ensures w.ensures.ended;
  looked = let w = c.wait_by-waited in
      looked_by (w.result.0.mine ≡ c.args.held.mine) c.args.note c.args.deadline c.index_of.result c.args.env_seat.now w.new.watch.seat.now _ (search rules) c.index_of.ensures w.ensures.before;
}
