use Rattle.ns_objects.proofs.Prelude.{BothKnown, WasReadyIn, eqb, false, subst, sym}
use Rattle.ns_objects.proofs.Rounds.{looked_at_counter, looked_at_note, passed_over}
use Rattle.ns_objects.proofs.objects.Objects.is_ready.Goals as goal

pub returns-in-Note-clause-ready : goal.returns-in-Note-clause-ready
returns-in-Note-clause-ready c = let seat = c.args.seat.now in let watch = c.args.watch.now in let now = c.is_notified.new.seat in
    subst (WasReadyIn c.is_notified.result (seat, watch) (seat, now)) (sym c.in-Note.is) (looked_at_note c.is_notified.result seat watch now c.in-Note.note c.is_notified.ensures.notified)

pub returns-in-Counter-clause-ready : goal.returns-in-Counter-clause-ready
returns-in-Counter-clause-ready c = let seat = c.args.seat.now in let watch = c.args.watch.now in let now = c.counter_value.new.seat in let value = c.counter_value.result in
    subst (WasReadyIn (eqb value 0) (seat, watch) (now, watch)) (sym c.in-Counter.is) (looked_at_counter value seat now watch c.in-Counter.counter c.counter_value.ensures.grows c.counter_value.ensures.value)

pub returns-in-Cv-clause-ready : goal.returns-in-Cv-clause-ready
returns-in-Cv-clause-ready c = let now : BothKnown = (c.args.seat.now, c.args.watch.now) in subst (WasReadyIn false now now) (sym c.in-Cv.is) (passed_over now c.in-Cv.field-0)
