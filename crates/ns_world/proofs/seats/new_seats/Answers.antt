use Rattle.std.proofs.Common.{ap, append-nil, arith, refl, sym, ℕ, ◌+◌, ◌-◌, ◌∙◌, ◌≡◌}
use Rattle.ns_world.proofs.Prelude.{fresh_seat}
use Rattle.ns_world.proofs.Fresh.{one_more}
use Rattle.ns_world.proofs.seats.new_seats.Goals as goal

-- what is left after one more
one_fewer : (all n : ℕ) → all - (n + 1) ≡ all - n - 1
one_fewer all n = omega arith

-- and before the first
all_left : (all : ℕ) → all - 0 ≡ all
all_left all = omega arith

pub loop-number-preserved : goal.loop-number-preserved
loop-number-preserved g c =
    let n = c.loop-number.number in
    rw (c.in_ok-push.ensures.items, one_fewer c.args.seats n) (one_more c.loop-number.made.items _ n (c.args.seats - n) _ (ap (λ items. record (fresh_seat n) { owed = record { items = items } }) c.new.ensures) (omega arith) c.loop-number.invariant)

pub returns : goal.returns
returns g c =
    let past : c.args.seats - c.loop-number.number ≡ 0 = omega arith in
    sym (append-nil c.loop-number.made.items) ∙ rw past at c.loop-number.invariant

pub loop-number-init : goal.loop-number-init
loop-number-init g c =
    let all = all_left c.args.seats in
    rw (c.new-made.ensures.items, all) refl
