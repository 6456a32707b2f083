-- What is known of a run's first condition, and what it takes to learn that.
use Rattle.std.proofs.Common.{Bool, IfSome, None, Option, Some, ap, arith, cond, false, inl, inr, is_none, is_some, refl, sym, true, unwrap_or, ◌&&◌, ◌∙◌, ◌≡◌, ◌≤◌, ◌⊎◌}
use Rattle.ns_queue.proofs.Prelude.{asked_for, asking, is_alike, is_satisfied}

module _ {C : Type 0} (same : C → C → Bool) where
  -- a condition is like none that isn't there
  pub alike_none : (o : Option C) → is_alike same o None ≡ false
  alike_none (Some c) = refl
  alike_none None = refl

module _ {C : Type 0} (same : C → C → Bool) (meets : C → Bool) where
  -- the run that a waiter stands in
  abbrev pub Enters : Option C → Option C → Option Bool → Option C → Option Bool → Type 0
  Enters cond first truth first' truth' = ((is_alike same cond first ≡ true) × (first' ≡ first) × (truth' ≡ truth)) ⊎ ((is_alike same cond first ≡ false) × (first' ≡ cond) × (truth' ≡ None))

  abbrev pub Knows : Option C → Option Bool → Type 0
  Knows first truth = IfSome truth (λ t. t ≡ is_satisfied meets first)

  met_alike : ((c d : C) → same c d ≡ true → meets c ≡ meets d) → (o p : Option C) → is_alike same o p ≡ true → is_satisfied meets o ≡ is_satisfied meets p
  met_alike agree (Some c) (Some d) alike = agree c d alike
  met_alike agree (Some c) None alike = absurd (cc)
  met_alike agree None p alike = absurd (cc)

  pub knows_entered : (o first : Option C) (truth : Option Bool) (first' : Option C) (truth' : Option Bool) → Enters o first truth first' truth' → Knows first truth → Knows first' truth'
  knows_entered o first truth first' truth' (inl e) known = rw (e.1, e.2) known
  knows_entered o first truth first' truth' (inr e) known = rw (e.1, e.2) tt

  pub met_entered : ((c d : C) → same c d ≡ true → meets c ≡ meets d) → (o first : Option C) (truth : Option Bool) (first' : Option C) (truth' : Option Bool) →
      Enters o first truth first' truth' → is_satisfied meets o ≡ is_satisfied meets first'
  met_entered agree o first truth first' truth' (inl e) = met_alike agree o first e.0 ∙ ap (is_satisfied meets) (sym e.1)
  met_entered agree o first truth first' truth' (inr e) = ap (is_satisfied meets) (sym e.1)

  pub knows_asked : (needed : Bool) (first : Option C) (truth : Option Bool) → Knows first truth → Knows first (asked_for meets needed first truth)
  knows_asked true first None known = refl
  knows_asked true first (Some t) known = known
  knows_asked false first truth known = known

  pub taken_asked : (needed : Bool) (first : Option C) (truth : Option Bool) → Knows first truth → (needed && unwrap_or (asked_for meets needed first truth) true) ≡ (needed && is_satisfied meets first)
  taken_asked true first None known = refl
  taken_asked true first (Some t) known = known
  taken_asked false first truth known = refl

  pub asking_most : (needed : Bool) (first : Option C) (truth : Option Bool) → asking needed first truth ≤ 1
  asking_most needed first truth = elim (needed && is_none truth && is_some first) as (λ b. cond b 1 0 ≤ 1) [ true ↦ omega arith | false ↦ omega arith ]
