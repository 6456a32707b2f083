use Rattle.ns_world.proofs.Sizes.{less_left}
use Rattle.std.proofs.Common.{ap, arith, false, length, refl, slice_get, sym, ℕ, ◌∙◌, ◌≤◌}
use Rattle.ns_world.proofs.Prelude.{is_in, is_of, option_map_or, slice_get_past}
use Rattle.ns_world.proofs.Mapped.{found_at}
use Rattle.ns_world.proofs.Busy.{first_all, first_with, first_without}
use Rattle.ns_world.proofs.seats.all_of.Goals.{then-is_of, else-is_of}
use Rattle.ns_world.proofs.seats.all_of.Goals as goal

pub loop-at-preserved : goal.loop-at-preserved
loop-at-preserved g c =
    let seats = c.args.seats.now in
    let here = ap (λ o. option_map_or (is_of c.args.sort) o false) (found_at seats c.loop-at.at c.index-seats-at.result c.loop-at-test.true refl c.index-seats-at.is) in
    let so = λ (n : ℕ). option_map_or (is_of c.args.sort) (slice_get seats n) false in
    elim c.if-is_of.branch [
      | then-is_of w ↦ rw w.all-is (first_with so (λ n. is_in c.loop-at.all n) (λ n. is_in w.with-all.result n) c.loop-at.at w.with-all.ensures
          (here ∙ sym c.is_of.ensures ∙ w.if-is_of.true) c.loop-at.invariant)
      | else-is_of w ↦ rw w.all-is (first_without so (λ n. is_in c.loop-at.all n) c.loop-at.at (here ∙ sym c.is_of.ensures ∙ w.if-is_of.false) c.loop-at.invariant)
    ]

pub returns : goal.returns
returns g c = λ number.
    let seats = c.args.seats.now in
    let all : length seats ≤ c.loop-at.at = omega arith in
    first_all (λ n. option_map_or (is_of c.args.sort) (slice_get seats n) false) (λ n. is_in c.loop-at.all n) c.loop-at.at (length seats) number all c.loop-at.invariant (λ past. ap (λ o. option_map_or (is_of c.args.sort) o false) (slice_get_past seats number past))

pub loop-at-init : goal.loop-at-init
loop-at-init g c = λ number. (λ below. absurd (omega (arith, below)), λ past. c.none-all.ensures number)

pub overflow_cast-at : goal.overflow_cast-at
overflow_cast-at g c = omega (arith, c.requires, c.loop-at-test.true)

pub with-all-requires : goal.with-all-requires
with-all-requires g c = omega (arith, c.requires, c.loop-at-test.true)

pub bounds-seats-at : goal.bounds-seats-at
bounds-seats-at g c = c.loop-at-test.true

pub loop-at-smaller : goal.loop-at-smaller
loop-at-smaller g c = less_left c.loop-at-test.true

pub none-all-requires : goal.none-all-requires
none-all-requires g c = tt

pub offset_bounds-seats-at : goal.offset_bounds-seats-at
offset_bounds-seats-at g c = c.loop-at.auto.at-end
