-- Laws of the beginnings of lists.
use Rattle.std.proofs.Common.{List, [], ap, append-nil, append_assoc, arith, inl, inr, length, length-append, refl, sym, ⊎_elim, ◌++◌, ◌∙◌, ◌∷◌, ◌≡◌, ◌⊎◌}
use Rattle.ns_model.proofs.Prelude.{BeginsWith}

module _ {A : Type 0} where
  pub begins_itself : (l : List A) → BeginsWith l l
  begins_itself l = ([], sym (append-nil l))

  pub begins_through : (l m p : List A) → BeginsWith l m → BeginsWith m p → BeginsWith l p
  begins_through l m p b c = (c.0 ++ b.0, b.1 ∙ (ap (λ k. k ++ b.0) c.1 ∙ append_assoc p c.0 b.0))

  -- of two beginnings of a list, one begins the other
  pub begins_either : (l p q : List A) → BeginsWith l p → BeginsWith l q → BeginsWith p q ⊎ BeginsWith q p
  begins_either l [] q b c = inr (q, refl)
  begins_either l (x ∷ xs) [] b c = inl (x ∷ xs, refl)
  begins_either [] (x ∷ xs) (y ∷ ys) b c = absurd (cc b.1)
  begins_either (z ∷ zs) (x ∷ xs) (y ∷ ys) b c =
      let a : zs ≡ xs ++ b.0 = cc b.1 in let d : zs ≡ ys ++ c.0 = cc c.1 in let e : x ≡ z = cc b.1 in let f : y ≡ z = cc c.1 in let g : x ≡ y = e ∙ sym f in
      ⊎_elim (λ (r : BeginsWith xs ys). inl (r.0, (λ i. g i ∷ r.1 i))) (λ (r : BeginsWith ys xs). inr (r.0, (λ i. sym g i ∷ r.1 i))) (begins_either zs xs ys (b.0, a) (c.0, d))

  none_more : (p r s : List A) → p ≡ (p ++ r) ++ s → r ≡ []
  none_more p [] s e = refl
  none_more p (x ∷ xs) s e = absurd (omega (arith, ap length e, length-append (p ++ x ∷ xs) s, length-append p (x ∷ xs)))

  -- two lists that begin each other are one
  pub begins_both : (p q : List A) → BeginsWith p q → BeginsWith q p → p ≡ q
  begins_both p q b c = let none : c.0 ≡ [] = none_more p c.0 b.0 (b.1 ∙ ap (λ k. k ++ b.0) c.1) in sym (c.1 ∙ (ap (λ k. p ++ k) none ∙ append-nil p))
