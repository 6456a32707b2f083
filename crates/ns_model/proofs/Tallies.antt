-- Sums and facts over lists: of one element among the others, and of lists in which one element changes.
use Rattle.std.proofs.Common.{Bool, List, [], ap, arith, false, set, subst, suc, sym, true, zero, ℕ, ◌++◌, ◌+◌, ◌∷◌, ◌≡◌, ◌≤◌}
use Rattle.ns_model.proofs.Prelude.{Every, get_elem?, one_if, some, some-injective, some-ne-none, total}

pub one_most : (b : Bool) → one_if b ≤ 1
one_most true = omega arith
one_most false = omega arith

module _ {A : Type 0} where
  pub total_set : (f : A → ℕ) (l : List A) (i : ℕ) (v w : A) → get_elem? l i ≡ some v → total f (set l i w) + f v ≡ total f l + f w
  total_set f [] i v w e = absurd (some-ne-none v (sym e))
  total_set f (x ∷ xs) zero v w e = let s : f x ≡ f v = ap f (some-injective x v e) in omega arith
  total_set f (x ∷ xs) (suc i) v w e = let r = total_set f xs i v w e in omega arith

  pub total-append : (f : A → ℕ) (l m : List A) → total f (l ++ m) ≡ total f l + total f m
  total-append f [] m = omega arith
  total-append f (x ∷ xs) m = let r = total-append f xs m in omega arith

  pub total_at : (f : A → ℕ) (l : List A) (i : ℕ) (v : A) → get_elem? l i ≡ some v → f v ≤ total f l
  total_at f [] i v e = absurd (some-ne-none v (sym e))
  total_at f (x ∷ xs) zero v e = let s : f x ≡ f v = ap f (some-injective x v e) in omega arith
  total_at f (x ∷ xs) (suc i) v e = let r = total_at f xs i v e in omega arith

  pub total_none : (f : A → ℕ) (l : List A) → total f l ≡ 0 → Every (λ u. f u ≡ 0) l
  total_none f [] e = tt
  total_none f (x ∷ xs) e = (omega arith, total_none f xs (omega arith))

  -- P holds of each element but that at i
  abbrev pub Others : (A → Type 0) → ℕ → List A → Type 0
  Others P i [] = Unit {0}
  Others P zero (x ∷ xs) = Every P xs
  Others P (suc i) (x ∷ xs) = P x × Others P i xs

  pub every_at : (P : A → Type 0) (l : List A) (i : ℕ) (v : A) → Every P l → get_elem? l i ≡ some v → P v
  every_at P [] i v h e = absurd (some-ne-none v (sym e))
  every_at P (x ∷ xs) zero v h e = subst P (some-injective x v e) h.0
  every_at P (x ∷ xs) (suc i) v h e = every_at P xs i v h.1 e

  pub every_both : (P Q R : A → Type 0) → ((u : A) → P u → Q u → R u) → (l : List A) → Every P l → Every Q l → Every R l
  every_both P Q R f [] p q = tt
  every_both P Q R f (x ∷ xs) p q = (f x p.0 q.0, every_both P Q R f xs p.1 q.1)

  pub every_map : (P R : A → Type 0) → ((u : A) → P u → R u) → (l : List A) → Every P l → Every R l
  every_map P R f l p = every_both P P R (λ u q _. f u q) l p p

  pub others_of : (P : A → Type 0) (l : List A) (i : ℕ) → Every P l → Others P i l
  others_of P [] i h = tt
  others_of P (x ∷ xs) zero h = h.1
  others_of P (x ∷ xs) (suc i) h = (h.0, others_of P xs i h.1)

  pub others_both : (P Q R : A → Type 0) → ((u : A) → P u → Q u → R u) → (l : List A) (i : ℕ) → Others P i l → Others Q i l → Others R i l
  others_both P Q R f [] i p q = tt
  others_both P Q R f (x ∷ xs) zero p q = every_both P Q R f xs p q
  others_both P Q R f (x ∷ xs) (suc i) p q = (f x p.0 q.0, others_both P Q R f xs i p.1 q.1)

  pub others_map : (P R : A → Type 0) → ((u : A) → P u → R u) → (l : List A) (i : ℕ) → Others P i l → Others R i l
  others_map P R f l i p = others_both P P R (λ u q _. f u q) l i p p

  -- where one element has all of the sum, the others have none
  pub others_none : (f : A → ℕ) (l : List A) (i : ℕ) (v : A) → get_elem? l i ≡ some v → total f l ≤ f v → Others (λ u. f u ≡ 0) i l
  others_none f [] i v e h = tt
  others_none f (x ∷ xs) zero v e h = let s : f x ≡ f v = ap f (some-injective x v e) in total_none f xs (omega arith)
  others_none f (x ∷ xs) (suc i) v e h = let r = total_at f xs i v e in (omega arith, others_none f xs i v e (omega arith))

  pub every_put : (P : A → Type 0) (l : List A) (i : ℕ) (w : A) → Others P i l → P w → Every P (set l i w)
  every_put P [] i w o p = tt
  every_put P (x ∷ xs) zero w o p = (p, o)
  every_put P (x ∷ xs) (suc i) w o p = (o.0, every_put P xs i w o.1 p)

  pub every-append : (P : A → Type 0) (l m : List A) → Every P l → Every P m → Every P (l ++ m)
  every-append P [] m p q = q
  every-append P (x ∷ xs) m p q = (p.0, every-append P xs m p.1 q)

  pub total_most : (f g : A → ℕ) → ((u : A) → f u ≤ g u) → (l : List A) → total f l ≤ total g l
  total_most f g h [] = omega arith
  total_most f g h (x ∷ xs) = let a = h x in let r = total_most f g h xs in omega arith

  -- ---- one element among the others

  pub total_amid : (f : A → ℕ) (front : List A) (x : A) (back : List A) → total f (front ++ x ∷ back) ≡ total f front + (f x + total f back)
  total_amid f front x back = total-append f front (x ∷ back)

  pub every_parts : (P : A → Type 0) (front : List A) (x : A) (back : List A) → Every P (front ++ x ∷ back) → Every P front × P x × Every P back
  every_parts P [] x back p = (tt, p.0, p.1)
  every_parts P (y ∷ front) x back p = let rest = every_parts P front x back p.1 in ((p.0, rest.0), rest.1, rest.2)

  pub every_join : (P : A → Type 0) (front : List A) (x : A) (back : List A) → Every P front → P x → Every P back → Every P (front ++ x ∷ back)
  every_join P front x back p q r = every-append P front (x ∷ back) p (q, r)
