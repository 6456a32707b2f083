use Rattle.std.proofs.Common.{arith, refl, rules, subst, sym, ◌<◌}
use Rattle.ns_objects.proofs.Prelude.{LookCounter, ObjectsKnown}
use Rattle.ns_objects.proofs.Allowed.{allows}
use Rattle.ns_objects.proofs.objects.Objects.counter_value.Goals as goal

pub load-requires : goal.load-requires
load-requires c =
    let there = subst (λ (k : ObjectsKnown). c.args.counter < k.setup.counters) (sym c.seat.view_is) c.requires.counter in
    let few = c.seat.invariant.true_to.room.0 in
    (search rules, omega (arith, few, there), allows _ _ _ _ _ (LookCounter c.from.result) (λ n. n) c.seat.invariant.one (omega (arith, there)) (λ n. refl))
