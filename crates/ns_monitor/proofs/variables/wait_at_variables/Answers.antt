use Rattle.ns_monitor.proofs.Prelude.{Some, in_room, queuing_first}
use Rattle.ns_monitor.proofs.Bounds.{gone_then}
use Rattle.ns_monitor.proofs.variables.wait_at_variables.Goals as goal

pub queue_at_variables-requires : goal.queue_at_variables-requires
queue_at_variables-requires g c = in_room (c.requires.rest, (c.requires.variables, c.requires.fits))

pub come_back-requires : goal.come_back-requires
come_back-requires g c = let e = c.queue_at_variables.ensures in
    in_room (c.requires.variables.1, (c.requires.watches, e.so.waits))

pub returns : goal.returns
returns g c = let e = c.come_back.ensures in record {
  looked = e.looked;
  ended = e.ended;
  acquired = record { since = gone_then (Some (queuing_first c.args.wait)) _ _ _ c.queue_at_variables.ensures.since e.acquired.since; so = e.acquired.so };
}
