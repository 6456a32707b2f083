-- What the lock word tells of the lock list, in words on the list; and who stands back where a writer waits.
use Rattle.std.proofs.Common.{Bool, IsSome, IsSomeAnd, List, None, Option, Some, [], ap, false, inl, inr, is_some, not, refl, sym, true, ◌&&◌, ◌||◌, ◌↔◌, ◌∷◌, ◌≡◌}
use Rattle.ns_word.proofs.Prelude.{Every, HasOne, IsPlainWriter, Mode, Read, Waiter, Write, has_condition, has_eligible, has_some, is_satisfied, is_write, list_any, or_cases, or_parts, writes, ◌∙◌}
use Rattle.ns_word.proofs.Listed.{none_of}

module _ {C : Type 0} where
  -- nobody stands in a list that has nobody
  pub is_empty : (b : Bool) (ws : List (Waiter C)) → b ≡ has_some ws → (b ≡ false ↔ ws ≡ [])
  is_empty b ws is = (λ no. none_of ws (sym is ∙ no), λ none. is ∙ ap has_some none)

  one_passes : (test : Waiter C → Bool) (P : Waiter C → Type 0) → ((w : Waiter C) → test w ≡ true → P w) → (ws : List (Waiter C)) → list_any test ws ≡ true → HasOne P ws
  one_passes test P means [] e = absurd (cc)
  one_passes test P means (w ∷ ws) e = elim (or_cases (test w) (list_any test ws) e) [ inl first ↦ inl (means w first) | inr rest ↦ inr (one_passes test P means ws rest) ]

  test_passed : (test : Waiter C → Bool) (P : Waiter C → Type 0) → ((w : Waiter C) → P w → test w ≡ true) → (ws : List (Waiter C)) → HasOne P ws → list_any test ws ≡ true
  test_passed test P means [] one = absurd one
  test_passed test P means (w ∷ ws) (inl first) = ap (λ b. b || list_any test ws) (means w first)
  test_passed test P means (w ∷ ws) (inr rest) = elim (test w) as (λ b. (b || list_any test ws) ≡ true) [ true ↦ refl | false ↦ test_passed test P means ws rest ]

  -- a test that says this of a waiter says it of a list
  pub tells_of_one : (b : Bool) (test : Waiter C → Bool) (P : Waiter C → Type 0) → ((w : Waiter C) → test w ≡ true ↔ P w) → (ws : List (Waiter C)) → b ≡ list_any test ws → (b ≡ true ↔ HasOne P ws)
  tells_of_one b test P means ws is = (λ yes. one_passes test P (λ w. (means w).0) ws (sym is ∙ yes), λ one. is ∙ test_passed test P (λ w. (means w).1) ws one)

-- ---- one waiter

pub with_condition : {C : Type 0} (w : Waiter C) → has_condition w ≡ true ↔ IsSome w.cond
with_condition w = by w.cond where
  by : {C : Type 0} (c : Option C) → is_some c ≡ true ↔ IsSome c
  by None = (λ e. absurd (cc), λ e. absurd (cc))
  by (Some c) = (λ e. refl, λ e. refl)

pub plain_writer : {C : Type 0} (w : Waiter C) → (writes w && not (has_condition w)) ≡ true ↔ IsPlainWriter w
plain_writer {C} w = by w.mode w.cond where
  by : (mode : Mode) (c : Option C) → (is_write mode && not (is_some c)) ≡ true ↔ (mode ≡ Write) × (c ≡ None)
  by Write None = (λ e. (refl, refl), λ is. refl)
  by Write (Some c) = (λ e. absurd (cc), λ is. absurd (let no = is.1 in cc))
  by Read c = (λ e. absurd (cc), λ is. absurd (let no = is.0 in cc))

-- ---- nobody could go on

-- each has a condition, and it is false
pub all_wait : {C : Type 0} (meets : C → Bool) (ws : List (Waiter C)) → has_eligible meets ws ≡ false → Every (λ w. IsSomeAnd w.cond (λ c. meets c ≡ false)) ws
all_wait meets [] e = tt
all_wait {C} meets (w ∷ ws) e = let parts = or_parts (is_satisfied meets w.cond) (has_eligible meets ws) e in (by w.cond parts.0, all_wait meets ws parts.1) where
  by : (c : Option C) → is_satisfied meets c ≡ false → IsSomeAnd c (λ d. meets d ≡ false)
  by None e = absurd (cc)
  by (Some c) e = e
