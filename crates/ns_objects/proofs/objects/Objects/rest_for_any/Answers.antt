use Rattle.std.proofs.Common.{arith, subst, sym, ◌<◌, ◌∙◌}
use Rattle.ns_objects.proofs.Prelude.{IsNamed}
use Rattle.ns_objects.proofs.Rounds.{every_get}
use Rattle.ns_objects.proofs.objects.Objects.rest_for_any.Goals as goal

pub rest_while_above_zero-requires : goal.rest_while_above_zero-requires
rest_while_above_zero-requires g c = let d = c.item-item.result in let known = every_get (λ item. IsNamed c.args.seat.now c.args.watch.now (g.T.Looked.any item)) c.args.items.now c.loop-item.item-index d c.loop-item-test.true c.requires.known in
    let here = subst (λ item. IsNamed c.args.seat.now c.args.watch.now (g.T.Looked.any item)) (sym c.item-item.is) known in
    let there : c.in-Counter.counter < c.args.seat.now.setup.counters = subst (IsNamed c.args.seat.now c.args.watch.now) (sym c.any.ensures ∙ c.in-Counter.is) here in
    let few = c.attest.ensures.room.0 in omega (arith, there, few)
