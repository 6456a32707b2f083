-- No step of a call changes what it was asked to do.
use Rattle.std.proofs.Common.{Some, ap, cond, false, ltb, refl, sym, true, ℕ, ◌-◌, ◌≡◌}
use Rattle.ns_word.proofs.Prelude.{Await, Done, Found, Idle, InWait, Judging, Next, On, QuietCells, QuietLast, Reply, Request, TestCells, TestLast, Visit, Wait, Walk, asked_in_cells, asked_of, asked_to_judge, got_of, place_after, quiet_place, test_place, ◌∙◌}
use Rattle.ns_word.proofs.Follows.{follows, next_asked}

module _ (C : Type 0) where
  pub test_asks : (N : ℕ) (wait : Wait C) (visit : Visit) (loaded : ℕ) → asked_of (test_place N wait visit loaded) ≡ Await wait
  test_asks N wait visit loaded = elim (ltb loaded (N - 1)) as (λ b. asked_of (cond b (InWait wait (TestCells visit loaded)) (InWait wait (TestLast visit (N - 1)))) ≡ Await wait) [ true ↦ refl | false ↦ refl ]

  pub quiet_asks : (N : ℕ) (judging : Judging) (loaded : ℕ) → asked_in_cells {C = C} (quiet_place N judging loaded) ≡ asked_to_judge judging
  quiet_asks N judging loaded = elim (ltb loaded (N - 1)) as (λ b. asked_in_cells {C = C} (cond b (QuietCells judging loaded) (QuietLast judging (N - 1))) ≡ asked_to_judge judging) [ true ↦ refl | false ↦ refl ]

  asked_after : (request : Request C) (next : Next (Walk C) Reply) (walk : Walk C) → place_after next ≡ Some walk → next_asked request next ≡ request → asked_of walk ≡ request
  asked_after request (On one) walk e p = let same : one ≡ walk = cc in sym (ap asked_of same) ∙ p
  asked_after request (Idle one) walk e p = let same : one ≡ walk = cc in sym (ap asked_of same) ∙ p
  asked_after request (Done reply) walk e p = absurd (cc)

  pub asked_stays : (N : ℕ) (walk : Walk C) (found : Found) (next : Walk C) → place_after (got_of N walk found) ≡ Some next → asked_of next ≡ asked_of walk
  asked_stays N walk found next e = asked_after (asked_of walk) (got_of N walk found) next e (follows N walk found).asked
