use Rattle.std.proofs.Common.{refl, sym, ◌∙◌}
use Rattle.ns_walk_tests.proofs.Made.{plain_prepared}
use Rattle.ns_walk_tests.proofs.prepared.prepare.Goals as goal

pub returns-else-not-may_make : goal.returns-else-not-may_make
returns-else-not-may_make g c =
    let prepared = plain_prepared g.C.Condition.means c.args.walk c.args.act c.args.known _ c.beside_of.result c.owed_behind.result c.args.seat.now.me (sym c.may_make.ensures ∙ c.if-not-may_make.false) c.requires.driven c.beside_of.ensures c.owed_behind.ensures in
    record { gate = refl; lent = refl; by = prepared }
