use Rattle.std.proofs.Common.{refl, sym, ◌∙◌}
use Rattle.ns_queue.proofs.Reading.{nobody_first, reader_first, writer_first}
use Rattle.ns_queue.proofs.lock_list.LockList.take_writer.Goals as goal

pub returns-in_default : goal.returns-in_default
returns-in_default g c =
    let meets = λ (d : g.row.C.Denot). g.C.Condition.means.holds d c.args.row.now in
    let none = nobody_first g.C.Condition.means.same meets c.seek-sought.result c.self.inside.ring c.get.ensures.orderly (rw (← c.self.view_is) at c.seek-sought.ensures) (sym c.in_default.ensures.waiter) in
    rw (← c.self.view_is) (record { told = none.0; left = none.1 })

pub returns-then-not-is_write : goal.returns-then-not-is_write
returns-then-not-is_write g c =
    let meets = λ (d : g.row.C.Denot). g.C.Condition.means.holds d c.args.row.now in
    let reader = reader_first g.C.Condition.means.same meets c.seek-sought.result c.self.inside.ring c.in-Some.found.now c.get.ensures.orderly (rw (← c.self.view_is) at c.seek-sought.ensures) (sym c.in-Some.ensures.waiter) (sym c.is_write.ensures ∙ c.if-not-is_write.true) in
    rw (← c.self.view_is) (record { told = reader.0; left = reader.1 })

pub returns : goal.returns
returns g c =
    let meets = λ (d : g.row.C.Denot). g.C.Condition.means.holds d c.args.row.now in
    let writer = writer_first g.C.Condition.means.same meets c.seek-sought.result c.in-Some.found.now.via c.self.inside.ring _ c.in-Some.found.now c.get.ensures.orderly
    (rw (← c.self.view_is) at c.seek-sought.ensures) (sym c.in-Some.ensures.waiter) (sym c.is_write.ensures ∙ c.if-not-is_write.false) refl (rw (← c.self.view_is) at c.remove.ensures.removed) in
    rw (← c.self.view_is) (record { told = writer.0; left = writer.1 })
