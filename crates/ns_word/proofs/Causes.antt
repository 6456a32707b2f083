-- What ends a wait for a condition early is kept until the wait is over, and then answered, but where the condition is met.
use Rattle.std.proofs.Common.{None, Some, ap, inl, inr, refl, subst, sym, ℕ, ◌≡◌, ◌⊎◌}
use Rattle.ns_word.proofs.Prelude.{Answer, Answered, Await, Canceled, Cause, Done, Expired, Found, Idle, IsForVariables, Met, Next, Notified, On, OnCondition, Reply, TimedOut, Wait, Walk, answer_of, asked_of, cause_kept, got_of, place_after, ◌∙◌}
use Rattle.ns_word.proofs.Follows.{CauseFollows, answer_cause, follows, next_cause, reply_cause}

-- over with this or with 'met', or on with this kept
abbrev IsKept : {C : Type 0} → Cause → Next (Walk C) Reply → Type 0
IsKept {C} cause next = (next ≡ Done (Answered Met)) ⊎ ((next ≡ Done (Answered (answer_of cause))) ⊎ ((walk : Walk C) × (place_after next ≡ Some walk) × (cause_kept walk ≡ Some cause)))

answer_for : (cause : Cause) (answer : Answer) → answer_cause answer ≡ Some cause → answer ≡ answer_of cause
answer_for cause Met e = absurd (cc)
answer_for cause TimedOut e = let same : Expired ≡ cause = cc in ap answer_of same
answer_for cause Canceled e = let same : Notified ≡ cause = cc in ap answer_of same

reply_for : (cause : Cause) (reply : Reply) → reply_cause reply ≡ Some cause → reply ≡ Answered (answer_of cause)
reply_for cause (Answered answer) e = ap Answered (answer_for cause answer e)
reply_for cause _ e = absurd (cc)

module _ {C : Type 0} (cause : Cause) where
  keeps : (next : Next (Walk C) Reply) → next_cause next ≡ Some cause → IsKept cause next
  keeps (On walk) e = inr (inr (walk, refl, e))
  keeps (Idle walk) e = inr (inr (walk, refl, e))
  keeps (Done reply) e = inr (inl (ap Done (reply_for cause reply e)))

  kept : (walk : Walk C) (found : Found) (next : Next (Walk C) Reply) (wait : Wait C) (c : C) → asked_of walk ≡ Await wait → wait.on ≡ OnCondition c → cause_kept walk ≡ Some cause → CauseFollows walk found next → IsKept cause next
  kept walk found next wait c asked on was (inl same) = keeps next (same ∙ was)
  kept walk found next wait c asked on was (inr (inl now)) = let clash : None ≡ Some cause = sym now.0 ∙ was in absurd (cc)
  kept walk found next wait c asked on was (inr (inr (none, inl met))) = inl met
  kept walk found next wait c asked on was (inr (inr (none, inr for))) =
      let one : Await for.0 ≡ Await wait = sym for.1 ∙ asked in let same : for.0 ≡ wait = cc in
      absurd (subst IsForVariables (ap (λ (w : Wait C). w.on) same ∙ on) for.2)

  -- A wait for a condition that has kept what ends it goes on with that, or is over by it, or because its condition is met.
  pub stays_kept : (N : ℕ) (walk : Walk C) (found : Found) (wait : Wait C) (c : C) → asked_of walk ≡ Await wait → wait.on ≡ OnCondition c → cause_kept walk ≡ Some cause → IsKept cause (got_of N walk found)
  stays_kept N walk found wait c asked on was = kept walk found (got_of N walk found) wait c asked on was (follows N walk found).cause
