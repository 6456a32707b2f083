use Rattle.std.proofs.Common.{None, rules}
use Rattle.ns_monitor.proofs.Prelude.{HasSince, since_then, the}
use Rattle.ns_monitor.proofs.monitor.Monitor.unlock_slow.Goals as goal

pub returns-clause-since : goal.returns-clause-since
returns-clause-since g c =
    let before = rw c.new-bound.ensures at c.go_or_take.ensures.since in
    let behind = rw c.end-2.ensures.me at c.scan_and_release.ensures.since in
    let since : HasSince None (the c.args.seat.me.0) (the c.scan_and_release.new.seat.me.0) = since_then None _ _ _ before.by behind in search rules
