use Rattle.std.proofs.Common.{List, ap, arith, length, refl, take, take_all, ℕ, ◌∙◌, ◌≡◌, ◌≤◌}
use Rattle.ns_queue.proofs.Prelude.{outside, refill, take-append-le, times_in}
use Rattle.ns_queue.proofs.queues.drop_those.Goals as goal

-- a list written over one of its length is what stands there
refilled : {A : Type 0} (n : ℕ) (xs ws : List A) → n ≡ length xs → length ws ≡ length xs → refill n xs ws ≡ ws
refilled n xs ws all same = let within : n ≤ length ws = omega (arith, all, same) in rw take-append-le (take_all n ws (omega (arith, all, same)))

pub keep_outside-kept-requires : goal.keep_outside-kept-requires
keep_outside-kept-requires g c = λ seat high. ap (times_in seat) c.as_mut_slice.ensures.value ∙ c.requires seat high

pub returns : goal.returns
returns g c =
    c.truncate.ensures.items ∙ ap (take c.keep_outside-kept.result) (refilled _ _ _ refl (c.keep_outside-kept.auto.waiters ∙ ap length c.as_mut_slice.ensures.value))
    ∙ c.keep_outside-kept.ensures ∙ ap (outside c.args.set) c.as_mut_slice.ensures.value
