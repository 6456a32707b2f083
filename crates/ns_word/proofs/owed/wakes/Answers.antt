use Rattle.std.proofs.Common.{[], ap, arith, ℕ, ◌++◌, ◌∷◌}
use Rattle.ns_word.proofs.Prelude.{Owed, Waiter, wake_by, ◌∙◌}
use Rattle.ns_word.proofs.Mapped.{all_of, one_more, so_far}
use Rattle.ns_word.proofs.owed.wakes.Goals as goal

abbrev wake : {C : Type 0} → ℕ → Waiter C → Owed
wake k w = wake_by k w.seat

pub push-requires : goal.push-requires
push-requires g c = (omega arith, so_far (wake c.args.k) c.args.taken.now c.loop-waiter.waiter-index _ c.loop-waiter-test.true c.requires.few c.loop-waiter.invariant)

pub loop-waiter-preserved : goal.loop-waiter-preserved
loop-waiter-preserved g c = one_more (wake c.args.k) c.args.taken.now c.loop-waiter.waiter-index c.waiter-item.result _ _ c.loop-waiter-test.true c.waiter-item.is (c.push.ensures.items ∙ ap (λ owed. c.loop-waiter.owed.items ++ owed ∷ []) c.wake_by.ensures) c.loop-waiter.invariant

pub returns : goal.returns
returns g c = all_of (wake c.args.k) c.args.taken.now c.loop-waiter.waiter-index _ c.loop-waiter-test.false c.loop-waiter.invariant
