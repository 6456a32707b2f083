-- What a paid wake stores.
use Rattle.std.proofs.Common.{List, ap, cond, eq-eqb, refl, sym, ℕ, ◌∷◌, ◌≡◌}
use Rattle.ns_word.proofs.Prelude.{Effect, Event, Found, Owed, Paid, Part, PayWake, Truths, ◌∙◌}

module _ {C : Type 0} {N : ℕ} (truths : Truths C) where
  -- the first wake that was owed is paid, and those behind it are owed still
  pub pays_first : (seat : ℕ) (old : Part C N) (found : Found) (new : Part C N) (commits : List (Event C N)) → Effect truths seat PayWake old found new commits →
      (wake : Owed) × (old.owed ≡ wake ∷ new.owed) × (new.flags wake.seat ≡ wake.value)
  pays_first seat old (Paid owes) new commits e = let wake = e.0 in
      (wake, e.2 ∙ ap (λ rest. wake ∷ rest) (sym (ap (λ (q : Part C N). q.owed) e.3)), ap (λ (q : Part C N). q.flags wake.seat) e.3 ∙ ap (λ b. cond b wake.value (old.flags wake.seat)) (eq-eqb wake.seat wake.seat refl))
  pays_first seat old other new commits e = absurd e
