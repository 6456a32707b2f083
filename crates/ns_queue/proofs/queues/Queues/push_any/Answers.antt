use Rattle.std.proofs.Common.{[], ap, arith, subst, sym, ◌++◌, ◌∙◌, ◌∷◌, ◌≡◌}
use Rattle.ns_queue.proofs.Prelude.{Cv, Waiter, beside, waiters_of, with_each, with_waiters}
use Rattle.ns_queue.proofs.Bases.{each_beside, each_less, each_more, free_beside}
use Rattle.ns_queue.proofs.queues.Queues.push_any.Goals.{then-contains, else-contains}
use Rattle.ns_queue.proofs.queues.Queues.push_any.Goals as goal

pub push_to-requires : goal.push_to-requires
push_to-requires g c =
    let same : c.named.result.seat ≡ c.args.waiter.seat = ap (λ (w : Waiter _). w.seat) c.named.ensures in
    let free = each_beside c.loop-k.k c.args.waiter.seat c.args.cvs c.args.waiter c.args.self.now c.loop-k.self c.loop-k.invariant ∙ free_beside c.args.self.now c.args.waiter.seat c.loop-k.k c.requires.free in
    (g.met.C.Queueable.parts_fit.queues, (c.loop-k-test.true, (omega (arith, same, c.requires.below), subst (λ seat. beside c.loop-k.self seat c.loop-k.k ≡ 0) (sym same) free)))

pub loop-k-preserved : goal.loop-k-preserved
loop-k-preserved g c = elim c.if-contains.branch [
  | then-contains w ↦ rw w.self-is (each_more c.loop-k.k c.args.cvs c.args.waiter c.args.self.now c.loop-k.self w.push_to.new.self
      (sym c.contains.ensures ∙ w.if-contains.true) c.loop-k.invariant (w.push_to.ensures ∙ ap (λ v. with_waiters c.loop-k.self (Cv c.loop-k.k)
      (waiters_of c.loop-k.self (Cv c.loop-k.k) ++ v ∷ [])) w.named.ensures))
  | else-contains w ↦ rw w.self-is (each_less c.loop-k.k c.args.cvs c.args.waiter c.args.self.now c.loop-k.self (sym c.contains.ensures ∙ w.if-contains.false) c.loop-k.invariant)
]

pub returns : goal.returns
returns g c = let last : c.loop-k.k ≡ 4 = omega (arith, c.loop-k-test.false, c.loop-k.auto.k-end) in c.loop-k.invariant ∙ ap (λ n. with_each n c.args.cvs c.args.waiter c.args.self.now) last
