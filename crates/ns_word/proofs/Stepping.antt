-- What the law says of the seat that makes a step, and what the step does, where its place is known.
use Rattle.std.proofs.Common.{List, Some, ap, subst, ℕ, ◌≡◌}
use Rattle.ns_word.proofs.Prelude.{EachFits, Effect, Event, Found, IsLawful, LockState, PlaceFits, SeatView, Step, Truths, ViewFits, Walk, every_parts, part_of, standing_after, want_of, ◌∙◌}

module _ {C : Type 0} {N : ℕ} {truths : Truths C} {old new : LockState C N} {view : SeatView C N} {found : Found} {commits : List (Event C N)} (step : Step truths old view found new commits) where
  pub step_fits : (seats : ℕ) (h : List (Event C N)) → IsLawful truths seats h old → ViewFits truths seats (standing_after h) old.row view
  step_fits seats h lawful = (every_parts (ViewFits truths seats (standing_after h) old.row) step.front view step.back (subst (λ vs. EachFits truths seats (standing_after h) old.row vs) step.was lawful.one_history.each)).1

  pub place_at : (seats : ℕ) (h : List (Event C N)) (walk : Walk C) → step.walk ≡ walk → IsLawful truths seats h old → PlaceFits truths (Some walk) view.held
  place_at seats h walk walks lawful = subst (λ w. PlaceFits truths w view.held) (step.walks ∙ ap Some walks) (step_fits seats h lawful).place

  pub effect_at : (walk : Walk C) → step.walk ≡ walk → Effect truths view.seat (want_of walk) (part_of old view.held view.owed) found (part_of new step.held step.owed) commits
  effect_at walk walks = subst (λ w. Effect truths view.seat (want_of w) (part_of old view.held view.owed) found (part_of new step.held step.owed) commits) walks step.effect
