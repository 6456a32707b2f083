use Rattle.ns_monitor.proofs.Prelude.{Some, arith, in_room, queuing_first, refl}
use Rattle.ns_monitor.proofs.Bounds.{gone_then}
use Rattle.ns_monitor.proofs.VariableWaits.{needs_no_row, taken_now}
use Rattle.ns_monitor.proofs.variables.queue_at_variables.Goals as goal

pub take-word-requires : goal.take-word-requires
take-word-requires g c = in_room (tt, (refl, (refl, c.requires.rest, (refl, c.requires.variables.0), c.requires.fits)))

pub leave_section-requires : goal.leave_section-requires
leave_section-requires g c = let t = g.C.Condition.means in let took = c.take-word in let me = c.args.seat.now.me in let now = took.new.seat.me in let walk = queuing_first c.args.wait in
    in_room (omega (arith, g.met.C.Condition.has_cells), (c.requires.variables.1, (taken_now t walk took.result me now took.ensures.so, needs_no_row c.args.wait.on _ _ c.requires.variables.0)))

pub returns : goal.returns
returns g c = let e = c.leave_section.ensures in record {
  since = gone_then (Some (queuing_first c.args.wait)) _ _ _ c.take-word.ensures.since e.since;
  so = e.so;
}
