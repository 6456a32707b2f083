-- What marks take of a list, and one place further along it.
use Rattle.std.proofs.Common.{Bool, List, [], add-one, ap, append_assoc, arith, drop, false, filter, get_or, inl, inr, length, map, not, refl, suc, sym, true, ℕ, ◌++◌, ◌+◌, ◌<◌, ◌∙◌, ◌∷◌, ◌≡◌, ◌≤◌}
use Rattle.ns_queue.proofs.Prelude.{Every, Waiter, Wanted, cases_Bool, drop-cons, is_wanted, marked, signal_marks, times_in, unmarked, wanted_after}
use Rattle.ns_queue.proofs.Seats.{times_in-cons}

pub drop_step : {A : Type 0} (xs : List A) (i : ℕ) (d x : A) → i < length xs → get_or xs i d ≡ x → drop i xs ≡ x ∷ drop (i + 1) xs
drop_step {A} xs i d x within is = rw add-one (drop-cons xs i d within ∙ ap (λ (y : A). y ∷ drop (suc i) xs) is)

some_item : {A : Type 0} (xs : List A) (i : ℕ) → i < length xs → A
some_item [] i within = absurd (omega (arith, within))
some_item (x ∷ xs) i within = x

module _ {A : Type 0} where
  pub skipped_on : (got rest rest' whole : List A) → rest ≡ rest' → got ++ rest ≡ whole → got ++ rest' ≡ whole
  skipped_on got rest rest' whole cut before = ap (λ r. got ++ r) (sym cut) ∙ before

  -- what was pushed stood first in the rest
  pub pushed_on : (got got' rest rest' whole : List A) (x : A) → got' ≡ got ++ x ∷ [] → rest ≡ x ∷ rest' → got ++ rest ≡ whole → got' ++ rest' ≡ whole
  pushed_on got got' rest rest' whole x is cut before = rw (is, append_assoc) (ap (λ r. got ++ r) (sym cut) ∙ before)

  pub marked_yes : (ms : List Bool) (xs : List A) (i : ℕ) (b : Bool) (d x : A) → i < length ms → i < length xs → get_or ms i b ≡ true → get_or xs i d ≡ x →
      marked (drop i ms) (drop i xs) ≡ x ∷ marked (drop (i + 1) ms) (drop (i + 1) xs)
  marked_yes ms xs i b d x w v m is = rw (drop_step ms i b true w m, drop_step xs i d x v is) refl

  pub marked_no : (ms : List Bool) (xs : List A) (i : ℕ) (b : Bool) → i < length ms → i < length xs → get_or ms i b ≡ false →
      marked (drop i ms) (drop i xs) ≡ marked (drop (i + 1) ms) (drop (i + 1) xs)
  marked_no ms xs i b w v m = let d = some_item xs i v in rw (drop_step ms i b false w m, drop_step xs i d (get_or xs i d) v refl) refl

module _ {C : Type 0} where
  pub signal_on : (ws : List (Waiter C)) (i : ℕ) (w : Waiter C) (wanted wanted' : Wanted) (b : Bool) (got got' whole : List Bool) → i < length ws → w ≡ get_or ws i w →
      b ≡ is_wanted wanted w → wanted' ≡ wanted_after wanted w → got' ≡ got ++ b ∷ [] → got ++ signal_marks wanted (drop i ws) ≡ whole → got' ++ signal_marks wanted' (drop (i + 1) ws) ≡ whole
  signal_on ws i w wanted wanted' b got got' whole within is takes after push before =
      pushed_on got got' (signal_marks wanted (drop i ws)) (signal_marks wanted' (drop (i + 1) ws)) whole b push
      (rw (drop_step ws i w w within (sym is), takes, after) refl) before

-- ---- whatever holds of a list, of those marked

module _ {A : Type 0} where
  -- a filter marks those of whom its test is true
  pub filter_marks : (p : A → Bool) (xs : List A) → (filter p xs ≡ marked (map p xs) xs) × (filter (λ x. not (p x)) xs ≡ unmarked (map p xs) xs)
  filter_marks p [] = (refl, refl)
  filter_marks p (x ∷ xs) = let rest = filter_marks p xs in elim (cases_Bool (p x)) [
    | inl goes ↦ rw goes (ap (λ ys. x ∷ ys) rest.0, rest.1)
    | inr stays ↦ rw stays (rest.0, ap (λ ys. x ∷ ys) rest.1)
  ]

module _ {A : Type 0} (P : A → Type 0) where
  pub every_marked : (ms : List Bool) (xs : List A) → Every P xs → Every P (marked ms xs)
  every_marked [] xs p = tt
  every_marked (m ∷ ms) [] p = tt
  every_marked (true ∷ ms) (x ∷ xs) p = (p.0, every_marked ms xs p.1)
  every_marked (false ∷ ms) (x ∷ xs) p = every_marked ms xs p.1

module _ {C : Type 0} where
  pub times_parted : (ms : List Bool) (ws : List (Waiter C)) (seat : ℕ) → times_in seat (marked ms ws) + times_in seat (unmarked ms ws) ≡ times_in seat ws
  times_parted [] ws seat = omega arith
  times_parted (m ∷ ms) [] seat = omega arith
  times_parted (true ∷ ms) (w ∷ ws) seat = omega (arith, times_in-cons seat w ws, times_in-cons seat w (marked ms ws), times_parted ms ws seat)
  times_parted (false ∷ ms) (w ∷ ws) seat = omega (arith, times_in-cons seat w ws, times_in-cons seat w (unmarked ms ws), times_parted ms ws seat)

  pub times_in-filter : (p : Waiter C → Bool) (ws : List (Waiter C)) (seat : ℕ) → times_in seat (filter p ws) ≤ times_in seat ws
  times_in-filter p ws seat = omega (arith, ap (times_in seat) (filter_marks p ws).0, times_parted (map p ws) ws seat)
