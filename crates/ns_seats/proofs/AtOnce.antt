-- Two steps of a seat on one word, made by one step of the table: the first leaves the word as it is.
use Rattle.std.proofs.Common.{◌≡◌, ◌⊎◌, inl, inr, ℕ, zero, suc, ◌<◌, List, [], ◌∷◌, length, set, get_or, refl, ap, sym, ◌∙◌, subst, length-set}
use Rattle.std.proofs.lemmas.List.{set-get_or}
use Rattle.atomic_table.specs.Table.{Act, Valid, keeps, takes, gives, chain, Allows, Me, State, carried_after, homes_after, put_back, stepped}
use lib.ListN.{get_elem?}
use mathlib.Core.Option.{Option, some}

set_twice : {A : Type 0} (xs : List A) (i : ℕ) (x y : A) → set (set xs i x) i y ≡ set xs i y
set_twice [] i x y = refl
set_twice (z ∷ zs) zero x y = refl
set_twice (z ∷ zs) (suc i) x y = ap (λ us. z ∷ us) (set_twice zs i x y)

set_there : {A : Type 0} (xs : List A) (i : ℕ) (x y : A) → get_elem? xs i ≡ some x → get_elem? (set xs i y) i ≡ some y
set_there [] i x y at = absurd (cc)
set_there (z ∷ zs) zero x y at = refl
set_there (z ∷ zs) (suc i) x y at = set_there zs i x y at

module _ {S : Type 0} where
  put_back_size : (hs : List (Option S)) (c : List (ℕ × S)) → length (put_back hs c) ≡ length hs
  put_back_size hs [] = refl
  put_back_size hs (x ∷ xs) = length-set hs x.0 (some x.1)

  homes_size : (hs : List (Option S)) (c : List (ℕ × S)) (a : Act S) → length (homes_after hs c a) ≡ length hs
  homes_size hs c keeps = refl
  homes_size hs c (takes k y) = length-set hs k _
  homes_size hs c gives = put_back_size hs c
  homes_size hs c (chain a b) = homes_size (homes_after hs c a) (carried_after c a) b ∙ homes_size hs c a

module _ {S V : Type 0} (holds : State S V → Type 0) (slots id i : ℕ) (f : ℕ → ℕ) where
  -- After the first step either all is done, and the word stays, or the seat may make the second.
  abbrev pub GoesOn : (ℕ → Me S V → Type 0) → ℕ → Me S V → Type 0
  GoesOn both k mid = ((f k ≡ k) × both k mid) ⊎ Allows holds slots id mid i f (λ n now. n ≡ k → both k now)

  pub at_once : (me : Me S V) (first both : ℕ → Me S V → Type 0) → Allows holds slots id me i (λ n. n) first → ((k : ℕ) (mid : Me S V) → first k mid → GoesOn both k mid) → Allows holds slots id me i f both
  at_once me first both may then s h size there small =
      let k = get_or s.words i 0 in
      let r = may s h size there small in
      let w = r.0 in
      let a = r.1 in
      let mid : Me S V = (w, carried_after me.1 a) in
      goes_on w a r.2 r.3 (then k mid r.4)
    where
      k : ℕ
      k = get_or s.words i 0

      after : V → Act S → State S V
      after w a = stepped s i k id me.1 w a

      words_are : (w : V) (a : Act S) → (after w a).words ≡ s.words
      words_are w a = set-get_or s.words i 0

      goes_on : (w : V) (a : Act S) → Valid s.homes me.1 a → holds (after w a) → GoesOn both k (w, carried_after me.1 a)
          → (w' : V) × (a' : Act S) × Valid s.homes me.1 a' × holds (stepped s i (f k) id me.1 w' a') × both k (w', carried_after me.1 a')
      goes_on w a valid h' (inl done) = (w, a, valid, subst (λ n. holds (stepped s i n id me.1 w a)) (sym done.0) h', done.1)
      goes_on w a valid h' (inr may') =
          let here : get_elem? (after w a).views id ≡ some w = set_there s.views id me.0 w there in
          let same : get_or (after w a).words i 0 ≡ k = ap (λ ws. get_or ws i 0) (words_are w a) in
          let r' = may' (after w a) h' (homes_size s.homes me.1 a ∙ size) here (subst (λ n. n < 18446744073709551616) (sym same) small) in
          let reached : stepped (after w a) i (f (get_or (after w a).words i 0)) id (carried_after me.1 a) r'.0 r'.1 ≡ stepped s i (f k) id me.1 r'.0 (chain a r'.1) =
          (λ j. record { words = set (words_are w a j) i (f (same j)); homes = homes_after (homes_after s.homes me.1 a) (carried_after me.1 a) r'.1; views = set_twice s.views id w r'.0 j }) in
          (r'.0, chain a r'.1, (valid, r'.2), subst holds reached r'.3, r'.4 same)
