use Rattle.std.proofs.Common.{arith, rules, subst, sym, ◌<◌}
use Rattle.ns_objects.proofs.Prelude.{MarkWait, ObjectsKnown, the}
use Rattle.ns_objects.proofs.Rests.{grew, came, come_grows}
use Rattle.ns_objects.proofs.Allowed.{marks_wait}
use Rattle.ns_objects.proofs.objects.Objects.mark_wait.Goals as goal

pub fetch_or-word-requires : goal.fetch_or-word-requires
fetch_or-word-requires c =
    let there = subst (λ (k : ObjectsKnown). c.args.counter < k.setup.counters) (sym c.seat.view_is) c.requires.counter in
    let few = c.seat.invariant.true_to.room.0 in
    (search rules, omega (arith, few, there), marks_wait _ _ _ _ _ c.from.result c.seat.invariant.one (omega (arith, there)) c.seat.invariant.free)

pub returns-clause-grows : goal.returns-clause-grows
returns-clause-grows c = let me = c.seat.inside.seat.me in let now = c.fetch_or-word.new.seat.me in
    grew c.args.seat.now _ _ (the me.0) (the now.0) c.seat.view_is c.fetch_or-word.ensures.0 (come_grows _ _ (the me.0) (the now.0) c.seat.invariant.true_to.room (came (MarkWait c.from.result) c.fetch_or-word.result (the me.0) (the now.0) c.fetch_or-word.ensures.2.2))
