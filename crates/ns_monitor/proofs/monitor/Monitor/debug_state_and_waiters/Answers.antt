use Rattle.std.proofs.Common.{Some, ap, refl, subst, sym, ◌∙◌}
use Rattle.ns_monitor.proofs.Prelude.{HasAnswered, HasSeenMore, InShow, IsAtPlace, IsAtRest, IsNumberOf, Known, SeatOf, ReturnShown, Succeeded, TableId, ToChange, in_room, rules, showing, the, word_taken, works}
use Rattle.ns_monitor.proofs.Bounds.{gone_then, gone_working}
use Rattle.ns_monitor.proofs.Callers.{saw_more}
use Rattle.ns_monitor.proofs.Standing.{same_number}
use Rattle.ns_word.specs.declared.request.Request.TheVariants as TheRequest
use Rattle.ns_monitor.proofs.monitor.Monitor.debug_state_and_waiters.Given.{Over}
use Rattle.ns_monitor.proofs.monitor.Monitor.debug_state_and_waiters.Goals.{After-taken-taken}
use Rattle.ns_monitor.proofs.monitor.Monitor.debug_state_and_waiters.Goals as goal

-- it stands where it puts the queues back
stands : (g : Over) (c : After-taken-taken g) → IsAtPlace g.C.Condition.means (InShow (ReturnShown c.taken-taken.result)) c.show_in_hand-lists.new.self.me
stands g c = let t = g.C.Condition.means in let took = c.take_to_show-word in let now = c.show_in_hand-lists.new.self.me in
    subst (λ word. IsAtPlace t (InShow (ReturnShown word)) now) (sym c.taken-taken.ensures) (works t (InShow (ReturnShown (word_taken ToChange took.result))) took.new.seat.me now took.ensures.at refl c.show_in_hand-lists.ensures.worked.by)

pub put_back-requires : goal.put_back-requires
put_back-requires g c = in_room (search rules, (record { walk = InShow (ReturnShown c.taken-taken.result); puts = tt; is = refl; at = stands g (goal.at.put_back-requires g c).After-taken-taken }, search rules))

pub invariant_of-caller : goal.invariant_of-caller
invariant_of-caller g c = let t = g.C.Condition.means in let old = c.caller.inside.seat in let new = c.put_back.new.seat in
    let took = rw c.new-seat.ensures at c.take_to_show-word.ensures.since in
    let s = gone_then (Some showing) _ _ _ (gone_working (Some showing) _ _ _ took c.show_in_hand-lists.ensures.worked) c.put_back.ensures.since in
    let a : HasAnswered t TheRequest.Show Succeeded new.me = c.put_back.ensures.so.returned (InShow (ReturnShown c.taken-taken.result)) tt refl (stands g (goal.at.invariant_of-caller g c).After-taken-taken) in
    let fits = subst (g.H.Hand.fits c.caller.inside.hand) (sym (a.means.same ∙ s.by.began)) c.caller.invariant.2 in
    subst (λ (me : SeatOf g.row.C.Denot g.row.N). IsAtRest t me × IsNumberOf c.caller.inside.number me × g.H.Hand.fits c.caller.inside.hand (the me.0).at.held) (search rules)
    (a.rest, same_number t (Some showing) c.caller.inside.number old.me new.me c.caller.invariant.1 s.by, fits)

pub returns-clause-saw : goal.returns-clause-saw
returns-clause-saw g c = let t = g.C.Condition.means in let old = c.caller.inside.seat in let new = c.put_back.new.seat in
    let took = rw c.new-seat.ensures at c.take_to_show-word.ensures.since in
    let s = gone_then (Some showing) _ _ _ (gone_working (Some showing) _ _ _ took c.show_in_hand-lists.ensures.worked) c.put_back.ensures.since in
    let a : HasAnswered t TheRequest.Show Succeeded new.me = c.put_back.ensures.so.returned (InShow (ReturnShown c.taken-taken.result)) tt refl (stands g (goal.at.returns-clause-saw g c).After-taken-taken) in
    subst (λ (k : Known g.row.C.Denot g.row.N). HasSeenMore t showing c.args.caller.now k) (search rules)
    (saw_more t showing c.args.caller.now old.table_id new.gate old.me new.me c.caller.view_is (◌∙◌ {A = TableId} s.gate (ap (λ (k : Known g.row.C.Denot g.row.N). k.monitor) c.caller.view_is)) a.rest s.by a.means)
