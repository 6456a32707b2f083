use Rattle.std.proofs.Common.{refl, rules, subst, sym, ◌∙◌}
use Rattle.ns_gate.proofs.Prelude.{SeatOf}
use Rattle.ns_walk_tests.proofs.Driving.{goes_driven}
use Rattle.ns_walk_tests.specs.Driving.{IsPrepared, goes_between}
use Rattle.ns_walk_tests.proofs.driver.go_on.Goals as goal

pub returns-clause-driven : goal.returns-clause-driven
returns-clause-driven g c = let act = c.want-act.result in let found = c.perform-found.result in let beside = c.prepare-owed.result.0 in let owed = c.prepare-owed.result.1 in
    let goes = (λ i. goes_between act found (sym c.has_queues.ensures i) (sym c.next_has.ensures i)) ∙ (sym c.goes_between.ensures ∙ c.if-not-goes_between.false) in
    goes_driven g.C.Condition.means c.args.walk act c.got-next.result beside owed found c.args.known.now _ c.args.seat.now.me _ c.perform-found.new.seat.me
    c.requires.driven (subst (λ (m : SeatOf g.row.C.Denot 1 × SeatOf g.row.C.Denot 1). IsPrepared g.C.Condition.means act beside owed m.0 m.1) (search rules) c.prepare-owed.ensures.by)
    c.perform-found.ensures.did c.got-next.ensures goes (record { number = refl; section = c.section_after-known.ensures; owes = refl })
