-- One seat, and two.
use Rattle.std.proofs.Common.{◌≡◌, ℕ, ◌+◌, List, [], ◌∷◌, ◌++◌, refl, ap, sym, ◌∙◌, subst, arith}
use Rattle.ns_model.specs.Tallies.{total, Every}
use Rattle.ns_seats.specs.Views.{IsOne, ArePair, first_of, rest_of}

module _ {V : Type 0} where
  -- one thing in a list is all of it
  pub one_is : (vs : List V) → IsOne vs → (v : V) × (vs ≡ v ∷ [])
  one_is [] one = absurd one
  one_is (v ∷ []) one = (v, refl)
  one_is (v ∷ x ∷ xs) one = absurd one

  -- two things in a list are all of it
  pub two_are : (vs : List V) → ArePair vs → (v : V) × (u : V) × (vs ≡ v ∷ u ∷ [])
  two_are [] two = absurd two
  two_are (v ∷ vs) two = let u = one_is vs two in (v, u.0, ap (λ us. v ∷ us) u.1)

  pub pair_of : (vs us ws : List V) → IsOne vs → IsOne us → ws ≡ vs ++ us → ArePair ws
  pair_of vs us ws one two is = let v = one_is vs one in let u = one_is us two in subst ArePair (sym (is ∙ (λ i. v.1 i ++ u.1 i))) tt

  pub cut_total : (f : V → ℕ) (vs : List V) → total f (rest_of vs) + total f (first_of vs) ≡ total f vs
  cut_total f [] = refl
  cut_total f (v ∷ vs) = omega arith

  pub cut_every : (P : V → Type 0) (vs : List V) → Every P vs → Every P (rest_of vs) × Every P (first_of vs)
  cut_every P [] h = (tt, tt)
  cut_every P (v ∷ vs) h = (h.1, (h.0, tt))
