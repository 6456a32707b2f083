use Rattle.ns_monitor.proofs.Prelude.{HasRow, InQueuing, InWait, Load, None, ap, arith, in_room, refl, row_in, subst, sym}
use Rattle.ns_monitor.proofs.Bounds.{gone_then}
use Rattle.ns_monitor.proofs.VariableWaits.{taken_now}
use Rattle.ns_monitor.proofs.waiting.queue_to_wait.Goals as goal

pub leave_section-requires : goal.leave_section-requires
leave_section-requires g c = let t = g.C.Condition.means in let took = c.take-word in let me = took.new.seat.me in
    let taken = taken_now t (InWait c.args.queuing.wait (InQueuing c.args.queuing.again Load)) took.result c.args.seat.now.me me took.ensures.so in
    let by = subst (HasRow c.args.queuing.wait.on c.args.row.now) (ap row_in (sym took.ensures.so.held)) c.requires.row in
    in_room (omega (arith, g.met.C.Condition.has_cells), (c.requires.range, (taken, by)))

pub take-word-requires : goal.take-word-requires
take-word-requires g c = in_room (tt, (refl, c.requires.at))

pub returns : goal.returns
returns g c = let left = c.leave_section.ensures in record { since = gone_then None _ _ _ c.take-word.ensures.since left.since; so = left.so }
