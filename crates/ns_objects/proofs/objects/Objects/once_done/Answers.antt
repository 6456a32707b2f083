use Rattle.std.proofs.Common.{arith, rules, subst, sym, ◌<◌}
use Rattle.ns_objects.proofs.Prelude.{ObjectsKnown}
use Rattle.ns_objects.proofs.Allowed.{looks_at_once}
use Rattle.ns_objects.proofs.objects.Objects.once_done.Goals as goal

pub load-word-requires : goal.load-word-requires
load-word-requires c =
    let there = subst (λ (k : ObjectsKnown). c.args.once < k.setup.cells) (sym c.seat.view_is) c.requires.once in
    let few = c.seat.invariant.true_to.room.1 in
    (search rules, omega (arith, few, there), looks_at_once _ _ _ _ _ c.from.result c.seat.invariant.one (omega (arith, there)))
