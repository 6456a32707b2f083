use Rattle.std.proofs.Common.{Some, None, arith, refl, sym, ◌∙◌}
use Rattle.ns_walk_tests.proofs.Acts.{needs_by}
use Rattle.ns_walk_tests.proofs.Driving.{begins_driven}
use Rattle.ns_walk_tests.proofs.Made.{first_can, unturned}
use Rattle.ns_walk_tests.proofs.driver.begin.Goals as goal

pub perform-found-requires : goal.perform-found-requires
perform-found-requires g c = let t = g.C.Condition.means in let known = c.args.known.now in let me = c.args.seat.now.me in
    let needs = needs_by t (Some c.args.first) c.want-act.result known _ None me (sym c.may_make.ensures ∙ c.if-not-may_make.false) c.requires.driven in
    (omega arith, (omega arith, (omega arith, (omega arith, (c.requires.of, (rw c.beside_of-beside.ensures c.requires.driven.number, (first_can t c.args.first c.want-act.result known me c.want-act.ensures (sym c.may_begin.ensures ∙ c.if-not-may_begin.false) c.requires.driven, rw c.beside_of-beside.ensures needs)))))))

pub returns-clause-driven : goal.returns-clause-driven
returns-clause-driven g c = let t = g.C.Condition.means in let known = c.args.known.now in let me = c.args.seat.now.me in
    let needs = needs_by t (Some c.args.first) c.want-act.result known unturned None me (sym c.may_make.ensures ∙ c.if-not-may_make.false) c.requires.driven in
    begins_driven t c.args.first c.want-act.result c.got-next.result _ c.perform-found.result known _ me c.perform-found.new.seat.me c.requires.driven needs c.perform-found.ensures.did c.got-next.ensures (sym c.next_has.ensures ∙ c.if-next_has.false)
    (record { number = refl; section = c.section_after-known.ensures; owes = refl })
