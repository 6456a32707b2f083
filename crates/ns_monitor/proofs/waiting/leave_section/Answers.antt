use Rattle.std.proofs.Common.{None, ap, arith, refl, rules, subst, sym, ◌∙◌, ◌≡◌}
use Rattle.ns_monitor.proofs.Prelude.{HasRow, InQueuing, InWait, Lists, armed_place, bits_of, in_room, row_in, the, times}
use Rattle.ns_monitor.proofs.Bounds.{gone_by, gone_then}
use Rattle.ns_monitor.proofs.Locks.{HasArmed}
use Rattle.ns_monitor.proofs.Releases.{scans_at_hand}
use Rattle.ns_monitor.proofs.Waits.{arms_to_wait, loads_or_queues}
use Rattle.ns_monitor.proofs.waiting.leave_section.Given.{Over}
use Rattle.ns_monitor.proofs.waiting.leave_section.Goals.{After-load_to_scan}
use Rattle.ns_monitor.proofs.waiting.leave_section.Goals as goal

-- the wait has set its flag
armed : (g : Over) (c : After-load_to_scan g) → HasArmed g.C.Condition.means (InWait c.args.queuing.wait (InQueuing c.args.queuing.again (armed_place g.row.N c.args.queuing.wait.on c.args.word))) c.args.seat.now.me c.arm_flag.new.self.me
armed g c = arms_to_wait g.C.Condition.means c.args.queuing.wait c.args.queuing.again c.args.word c.args.seat.now.me c.args.seat.now.me c.arm_flag.new.self.me c.requires.taken c.arm_flag.ensures.by

pub load_to_scan-requires : goal.load_to_scan-requires
load_to_scan-requires g c = let t = g.C.Condition.means in let word = c.args.word in let me = c.arm_flag.new.self.me in let took = c.requires.taken in
    let is = arms_to_wait t c.args.queuing.wait c.args.queuing.again word c.args.seat.now.me c.args.seat.now.me me took c.arm_flag.ensures.by in let lock = (the me.0).stood.lock in
    let tells = took.tells ∙ ap (λ (l : Lists g.row.C.Denot). (bits_of l.lock).conditional) (sym is.kept.stood) in
    let has = subst (HasRow c.args.queuing.wait.on c.args.row.now) (ap row_in (sym is.kept.held)) c.requires.row in
    let lacks = rw c.parts-parts.ensures at c.lacks_row.ensures in
    let queues = loads_or_queues t c.args.queuing.wait c.args.queuing.again word c.lacks_row.result me lacks is.at in
    rw c.parts-parts.ensures (in_room (omega (arith, g.met.C.Condition.has_cells), (refl, (queues, (is.taken, λ full. scans_at_hand t c.args.queuing.wait.on word c.args.row.now (row_in (the me.0).at.held) lock has tells (sym lacks ∙ full))))))

pub scan_and_return-requires : goal.scan_and_return-requires
scan_and_return-requires g c = let is = armed g (goal.at.scan_and_return-requires g c).After-load_to_scan in let me = c.load_to_scan.new.seat.me in
    let nowhere = subst (λ (lists : Lists g.row.C.Denot). times (the me.0).at.seat lists ≡ 0) (sym c.load_to_scan.ensures.so.stood) (subst (λ n. times n (the c.arm_flag.new.self.me.0).stood ≡ 0) (sym c.load_to_scan.ensures.since.by.seat) is.nowhere) in
    in_room (omega (arith, g.met.C.Condition.has_cells), (c.requires.taken.packs, ((c.requires.range, nowhere), rw c.parts-parts.ensures at c.load_to_scan.ensures.so.ready)))

pub returns : goal.returns
returns g c = let scanned = c.scan_and_return.ensures in record {
  since = gone_then None _ _ _ (gone_then None _ _ _ (gone_by c.arm_flag.ensures) c.load_to_scan.ensures.since) scanned.since;
  so = record { waits = scanned.paid; owes = scanned.none; true_to = scanned.true_to };
}

pub arm_flag-requires : goal.arm_flag-requires
arm_flag-requires g c = in_room (search rules)
