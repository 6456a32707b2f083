-- What a write section keeps of the row that it began at: as it sets a cell, and as it finds that row again.
use Rattle.std.proofs.Common.{Bool, List, None, Option, Some, ap, arith, false, get_or, get_or-set_other, get_or-set_same, if◌then◌else◌, inl, inr, is_none, length, length-set, refl, slice_index, slice_index_or, slice_set, subst, sym, true, ℕ, ◌<◌, ◌∙◌, ◌≡◌, ◌≢◌, ◌≤◌}
use Rattle.ns_monitor.proofs.Prelude.{AreSaved, HasMode, HasSaved, Held, InHand, Write, cases_eq, saved_after, value_before}

module _ (N i old value : ℕ) (saved : List (Option ℕ)) (before row : List ℕ) (low : i < N) (wide : length row ≡ N) (found : old ≡ slice_index row i) (p : AreSaved N saved before row) where
  -- the cell that is set: what it held is saved now, or what it held first was saved before
  own : (o : Option ℕ) → slice_index_or saved i None ≡ o → value_before (slice_index_or (saved_after i old saved) i None) (slice_index (slice_set row i value) i) ≡ slice_index before i
  own None none =
      let at : value_before (slice_index_or saved i None) (slice_index row i) ≡ slice_index before i = p.cells i low in
      let now : slice_index_or (saved_after i old saved) i None ≡ Some old =
      ap (λ b. slice_index_or (if b then slice_set saved i (Some old) else saved) i None) (ap is_none none) ∙ get_or-set_same saved i (Some old) None (omega (arith, p.width, low)) in
      ap (λ o. value_before o (slice_index (slice_set row i value) i)) now ∙ (found ∙ subst (λ o. value_before o (slice_index row i) ≡ slice_index before i) none at)
  own (Some v) some =
      let at : value_before (slice_index_or saved i None) (slice_index row i) ≡ slice_index before i = p.cells i low in
      let now : slice_index_or (saved_after i old saved) i None ≡ Some v =
      ap (λ b. slice_index_or (if b then slice_set saved i (Some old) else saved) i None) (ap is_none some) ∙ some in
      ap (λ o. value_before o (slice_index (slice_set row i value) i)) now ∙ subst (λ o. value_before o (slice_index row i) ≡ slice_index before i) some at

  -- whether or not this one was saved, the others are as they were
  stays : (j : ℕ) → j ≢ i → (b : Bool) → slice_index_or (if b then slice_set saved i (Some old) else saved) j None ≡ slice_index_or saved j None
  stays j ne true = get_or-set_other saved i j (Some old) None ne
  stays j ne false = refl

  wide_after : (b : Bool) → length (if b then slice_set saved i (Some old) else saved) ≡ N
  wide_after true = length-set saved i (Some old) ∙ p.width
  wide_after false = p.width

  pub saved_on : AreSaved N (saved_after i old saved) before (slice_set row i value)
  saved_on = record {
    width = wide_after (is_none (slice_index_or saved i None));
    cells = λ j here. elim (cases_eq j i) [
      | inl e ↦ subst (λ k. value_before (slice_index_or (saved_after i old saved) k None) (slice_index (slice_set row i value) k) ≡ slice_index before k) (sym e) (own (slice_index_or saved i None) refl)
      | inr ne ↦ ap (λ o. value_before o (slice_index (slice_set row i value) j)) (stays j ne (is_none (slice_index_or saved i None))) ∙ (ap (value_before (slice_index_or saved j None)) (get_or-set_other row i j value 0 ne) ∙ p.cells j here)
    ];
  }

module _ {C : Type 0} {N : ℕ} where
  -- the section stays one that writes, and has saved what it must
  pub saves : (i old value : ℕ) (saved now : List (Option ℕ)) (held after : Option (Held C N)) → i < N → (HasMode Write held × HasSaved saved held) → InHand held (λ section. length section.row ≡ N) → InHand held (λ section. old ≡ slice_index section.row i) →
      InHand held (λ section. after ≡ Some (record section { row = slice_set section.row i value })) → now ≡ saved_after i old saved → HasMode Write after × HasSaved now after
  saves i old value saved now None after low fits wide found is kept = absurd fits.1
  saves i old value saved now (Some section) after low fits wide found is kept =
      subst (λ (x : List (Option ℕ) × Option (Held C N)). HasMode Write x.1 × HasSaved x.0 x.1) (λ j. (sym kept j, sym is j)) (fits.0, saved_on N i old value saved section.before section.row low wide found fits.1)

-- of so many cells the value as the section began stands in the row before, and of the others the one now
pub record AreFound (N : ℕ) (saved : List (Option ℕ)) (row before : List ℕ) (i : ℕ) : Type 0 where
  pub width : length before ≡ length row
  pub found : (k : ℕ) → k < i → k < N → get_or before k 0 ≡ value_before (get_or saved k None) (get_or row k 0)
  pub rest : (k : ℕ) → i ≤ k → get_or before k 0 ≡ get_or row k 0
