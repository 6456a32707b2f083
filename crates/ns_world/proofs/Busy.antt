-- Which seats are of a sort, one after another.
use Rattle.std.proofs.Common.{Bool, ap, arith, eq-eqb, eqb, false, inl, inr, ne_eqb, sym, true, ℕ, ◌+◌, ◌<◌, ◌||◌, ◌∙◌, ◌≡◌, ◌≤◌}
use Rattle.ns_world.proofs.Prelude.{cases_eq, cases_lt, or-false, or-true}

-- these bits are so of the first, and none is of the others
abbrev pub AreFirst : (ℕ → Bool) → ℕ → (ℕ → Bool) → Type 0
AreFirst so i bits = (n : ℕ) → (n < i → bits n ≡ so n) × (i ≤ n → bits n ≡ false)

pub first_with : (so bits more : ℕ → Bool) (i : ℕ) → ((n : ℕ) → more n ≡ (bits n || eqb n i)) → so i ≡ true → AreFirst so i bits → AreFirst so (i + 1) more
first_with so bits more i is here first n = elim (cases_eq n i) [
  | inl e ↦ (λ below. is n ∙ ap (λ b. bits n || b) (eq-eqb n i e) ∙ or-true (bits n) ∙ sym (ap so e ∙ here), λ past. absurd (omega (arith, e, past)))
  | inr ne ↦
      let same : more n ≡ bits n = is n ∙ ap (λ b. bits n || b) (ne_eqb n i ne) ∙ or-false (bits n) in
      (λ below. same ∙ (first n).0 (omega (arith, ne, below)), λ past. same ∙ (first n).1 (omega (arith, past)))
]

pub first_without : (so bits : ℕ → Bool) (i : ℕ) → so i ≡ false → AreFirst so i bits → AreFirst so (i + 1) bits
first_without so bits i here first n = elim (cases_eq n i) [
  | inl e ↦ (λ below. (first n).1 (omega (arith, e)) ∙ sym (ap so e ∙ here), λ past. absurd (omega (arith, e, past)))
  | inr ne ↦ (λ below. (first n).0 (omega (arith, ne, below)), λ past. (first n).1 (omega (arith, past)))
]

pub first_all : (so bits : ℕ → Bool) (i m n : ℕ) → m ≤ i → AreFirst so i bits → (m ≤ n → so n ≡ false) → bits n ≡ so n
first_all so bits i m n all first none = elim (cases_lt n i) [ inl below ↦ (first n).0 below | inr past ↦ (first n).1 past ∙ sym (none (omega (arith, all, past))) ]
