use Rattle.std.proofs.Common.{Some, ap, subst, ◌∙◌}
use Rattle.ns_monitor.proofs.Prelude.{Grows, HasAnswered, HasMode, HasSaved, HasSince, IsAtRest, IsNumberOf, Known, SeatOf, Succeeded, TableId, rules, setting, the}
use Rattle.ns_monitor.proofs.Saves.{saves}
use Rattle.ns_monitor.proofs.Standing.{same_number}
use Rattle.ns_monitor.proofs.Callers.{grew, is_set, sets_next}
use Rattle.ns_model.specs.declared.event.Mode.TheVariants.{Write}
use Rattle.ns_word.specs.declared.request.Request.TheVariants as TheRequest
use Rattle.ns_monitor.proofs.monitor.Monitor.set.Given.{Over}
use Rattle.ns_monitor.proofs.monitor.Monitor.set.Goals.{After-store_cell}
use Rattle.ns_monitor.proofs.monitor.Monitor.set.Goals as goal

-- the cell was set
is : (g : Over) (c : After-store_cell g) → HasAnswered g.C.Condition.means (TheRequest.Set c.args.i c.args.value) Succeeded c.store_cell.new.self.me × HasSince (Some (setting c.args.i c.args.value)) (the c.held.inside.seat.me.0) (the c.store_cell.new.self.me.0)
is g c = let t = g.C.Condition.means in let i = c.args.i in let value = c.args.value in let old = c.held.inside.seat in let load = c.load_cell-old in let loaded = rw c.new-seat.ensures at load.ensures in
    is_set t i value old.me load.new.self.me c.store_cell.new.self.me (sets_next t i value load.result c.set.result old.me load.new.self.me c.set.ensures.first c.held.invariant.0 loaded.by) c.store_cell.ensures.by

-- the section stays in hand, and has saved what the cell held
pub invariant_of-held : goal.invariant_of-held
invariant_of-held g c = let t = g.C.Condition.means in let i = c.args.i in let value = c.args.value in let old = c.held.inside.seat in let new = c.store_cell.new.self in let a = is g (goal.at.invariant_of-held g c).After-store_cell in
    let saved = saves i c.load_cell-old.result value c.held.inside.hand.saved c.save.new.self.saved (the old.me.0).at.held (the new.me.0).at.held (search rules) c.held.invariant.2 (search rules) (search rules) (search rules) c.save.ensures in
    subst (λ (me : SeatOf g.row.C.Denot g.row.N). IsAtRest t me × IsNumberOf c.held.inside.number me × (HasMode Write (the me.0).at.held × HasSaved c.save.new.self.saved (the me.0).at.held)) (search rules)
    (a.0.rest, same_number t (Some (setting i value)) c.held.inside.number old.me new.me c.held.invariant.1 a.1, saved)

pub returns-clause-grows : goal.returns-clause-grows
returns-clause-grows g c = let t = g.C.Condition.means in let i = c.args.i in let value = c.args.value in let old = c.held.inside.seat in let new = c.store_cell.new.self in let a = is g (goal.at.returns-clause-grows g c).After-store_cell in
    let loaded = rw c.new-seat.ensures at c.load_cell-old.ensures in
    subst (λ (k : Known g.row.C.Denot g.row.N). Grows t (setting i value) c.args.held.now k) (search rules)
    (grew t (setting i value) c.args.held.now old.table_id new.gate old.me new.me c.held.view_is (◌∙◌ {A = TableId} c.store_cell.ensures.gate (◌∙◌ {A = TableId} loaded.gate (ap (λ (k : Known g.row.C.Denot g.row.N). k.monitor) c.held.view_is))) a.0.rest a.1)
