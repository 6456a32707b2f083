use Rattle.std.proofs.Common.{None, Some, ap, arith, suc, sym, ℕ, ◌+◌, ◌∙◌, ◌≡◌}
use Rattle.ns_counters.proofs.Prelude.{OnVariable, Round, from_items, from_place, item_at}
use Rattle.ns_counters.proofs.Listed.{left_at, none_behind_it, none_left}
use Rattle.ns_counters.proofs.round.Round.from_place.Goals.{in-None, in-Some-OnVariable}
use Rattle.ns_counters.proofs.round.Round.from_place.Goals as goal

-- a variable leads on to the next place
past_variable : (round : Round) (clock at k : ℕ) → item_at round.items at ≡ Some (OnVariable k) → from_place round clock (at + 1) ≡ from_place round clock at
past_variable round clock at k is = let on : at + 1 ≡ suc at = omega arith in ap (from_place round clock) on ∙ sym (ap (from_items round clock at) (left_at round.items at (OnVariable k) is))

-- and so does no object, behind all
past_none : (round : Round) (clock at : ℕ) → item_at round.items at ≡ None → from_place round clock (at + 1) ≡ from_place round clock at
past_none round clock at is =
    let on : at + 1 ≡ suc at = omega arith in
    let none = none_left round.items at is in
    ap (from_place round clock) on ∙ ap (from_items round clock (suc at)) (none_behind_it round.items at none) ∙ sym (ap (from_items round clock at) none)

pub loop-place-preserved : goal.loop-place-preserved
loop-place-preserved c = elim c.match-get.branch [
  | in-Some-OnVariable w ↦ past_variable c.args.self.now c.args.clock c.loop-place.place _ (sym c.get.ensures ∙ w.in-Some-OnVariable.is ∙ ap Some w.in-Some-OnVariable.field-0-is) ∙ c.loop-place.invariant
  | in-None w ↦ past_none c.args.self.now c.args.clock c.loop-place.place (sym c.get.ensures ∙ w.in-None.is) ∙ c.loop-place.invariant
]
