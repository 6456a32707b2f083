-- What ends a wait early, from the look that shows it to the answer; and that a section in hand whose wait was answered meets no wait that comes back.
use Rattle.std.proofs.Common.{List, None, Some, ap, false, inl, inr, refl, sym, ℕ, ◌≡◌, ◌⊎◌}
use Rattle.ns_word.proofs.Prelude.{AcquireExchange, Answered, Cause, Done, Effect, Event, Found, Held, Idle, InAcquire, LockState, Looked, Made, Next, On, Part, Reply, SeatView, Step, Truths, Walk, answer_of, cause_kept, got_of, has_come_back, is_back, part_of, place_after, want_of, ◌∙◌}
use Rattle.ns_word.proofs.Follows.{CauseFollows, acquires, answer_back, follows, next_cause}

module _ {C : Type 0} (N : ℕ) where
  shown : (walk : Walk C) (found : Found) (next : Next (Walk C) Reply) (cause : Cause) → CauseFollows walk found next → next_cause next ≡ Some cause → (cause_kept walk ≡ Some cause) ⊎ (found ≡ Looked (Some cause))
  shown walk found next cause (inl same) e = inl (sym same ∙ e)
  shown walk found next cause (inr (inl now)) e = inr (now.1 ∙ ap Looked e)
  shown walk found next cause (inr (inr none)) e = let clash : None ≡ Some cause = sym none.0 ∙ e in absurd (cc)

  goes_with : (next : Next (Walk C) Reply) (walk : Walk C) → place_after next ≡ Some walk → next_cause next ≡ cause_kept walk
  goes_with (On one) walk e = let same : one ≡ walk = cc in ap cause_kept same
  goes_with (Idle one) walk e = let same : one ≡ walk = cc in ap cause_kept same
  goes_with (Done reply) walk e = absurd (cc)

  -- A cause is kept only where it was kept before, or is shown.
  pub kept_was_shown : (walk : Walk C) (found : Found) (cause : Cause) (next : Walk C) → place_after (got_of N walk found) ≡ Some next → cause_kept next ≡ Some cause → (cause_kept walk ≡ Some cause) ⊎ (found ≡ Looked (Some cause))
  kept_was_shown walk found cause next e keeps = shown walk found _ cause (follows N walk found).cause (goes_with (got_of N walk found) next e ∙ keeps)

  -- And so it is answered.
  pub answer_was_shown : (walk : Walk C) (found : Found) (cause : Cause) → got_of N walk found ≡ Done (Answered (answer_of cause)) → (cause_kept walk ≡ Some cause) ⊎ (found ≡ Looked (Some cause))
  answer_was_shown walk found cause e = shown walk found _ cause (follows N walk found).cause (ap next_cause e ∙ answer_back cause)

module _ {C : Type 0} {N : ℕ} (truths : Truths C) where
  -- with a section in hand, nothing is acquired
  holder_acquires_not : (seat : ℕ) (walk : Walk C) (found : Found) (old new : Part C N) (commits : List (Event C N)) (was : Held C N) → Effect truths seat (want_of walk) old found new commits → old.held ≡ Some was → acquires walk found ≡ false
  holder_acquires_not seat (InAcquire aim (AcquireExchange arrival last)) Made old new commits was e p = let clash : None ≡ Some was = sym e.2 ∙ p in absurd (cc)
  holder_acquires_not seat _ _ old new commits was e p = refl

  -- With a section in hand, a call that isn't a wait that has come back doesn't become one.
  pub stays_out : (old new : LockState C N) (view : SeatView C N) (found : Found) (commits : List (Event C N)) (was : Held C N) →
      (step : Step truths old view found new commits) → has_come_back step.walk ≡ false → view.held ≡ Some was → is_back (place_after (got_of N step.walk found)) ≡ false
  stays_out old new view found commits was step e p =
      (follows N step.walk found).back e (holder_acquires_not view.seat step.walk found (part_of old view.held view.owed) (part_of new step.held step.owed) commits was step.effect p)
