-- Views that stand at their seats' numbers, and a step or a beginning by the number of its seat.
use Rattle.std.proofs.Common.{List, None, Some, [], ap, arith, drop, refl, slice_get, slice_set, suc, sym, take, zero, zero-add, ℕ, ◌++◌, ◌+◌, ◌∷◌, ◌≡◌}
use Rattle.ns_word.proofs.Prelude.{AreNumbered, Begins, Effect, Event, Found, IsFirst, LockState, Owed, PlaceFits, SeatView, Step, Truths, Walk, got_of, part_of, place_after, want_of, ◌∙◌}

module _ {C : Type 0} {N : ℕ} where
  pub number_from : (first : ℕ) (views : List (SeatView C N)) (i : ℕ) (view : SeatView C N) → slice_get views i ≡ Some view → AreNumbered first views → view.seat ≡ first + i
  number_from first [] i view at p = absurd (cc)
  number_from first (other ∷ views) zero view at p = let is : other ≡ view = cc in let same : other.seat ≡ view.seat = ap (λ (v : SeatView C N). v.seat) is in omega (arith, p.0, same)
  number_from first (other ∷ views) (suc i) view at p = let rest = number_from (first + 1) views i view at p.1 in omega arith

  pub number_at : (views : List (SeatView C N)) (i : ℕ) (view : SeatView C N) → slice_get views i ≡ Some view → AreNumbered 0 views → view.seat ≡ i
  number_at views i view at p = number_from 0 views i view at p ∙ zero-add i

  pub numbers_stay : (first : ℕ) (views : List (SeatView C N)) (i : ℕ) (next : SeatView C N) → next.seat ≡ first + i → AreNumbered first views → AreNumbered first (slice_set views i next)
  numbers_stay first [] i next e p = tt
  numbers_stay first (view ∷ views) zero next e p = (omega (arith, e), p.1)
  numbers_stay first (view ∷ views) (suc i) next e p = (p.0, numbers_stay (first + 1) views i next (omega (arith, e)) p.1)

-- a list before one of its elements, that element, and what stands behind it
pub split_at : {X : Type 0} (xs : List X) (i : ℕ) (x : X) → slice_get xs i ≡ Some x → xs ≡ take i xs ++ x ∷ drop (suc i) xs
split_at [] i x at = absurd (cc)
split_at (y ∷ xs) zero x at = let is : y ≡ x = cc in ap (λ z. z ∷ xs) is
split_at (y ∷ xs) (suc i) x at = ap (λ ys. y ∷ ys) (split_at xs i x at)

pub set_at : {X : Type 0} (xs : List X) (i : ℕ) (x y : X) → slice_get xs i ≡ Some x → slice_set xs i y ≡ take i xs ++ y ∷ drop (suc i) xs
set_at [] i x y at = absurd (cc)
set_at (z ∷ xs) zero x y at = refl
set_at (z ∷ xs) (suc i) x y at = ap (λ zs. z ∷ zs) (set_at xs i x y at)

-- setting what is there changes nothing, and the later of two settings stands
pub set_same : {X : Type 0} (xs : List X) (i : ℕ) (x : X) → slice_get xs i ≡ Some x → slice_set xs i x ≡ xs
set_same [] i x at = refl
set_same (y ∷ xs) zero x at = let is : y ≡ x = cc in ap (λ z. z ∷ xs) (sym is)
set_same (y ∷ xs) (suc i) x at = ap (λ zs. y ∷ zs) (set_same xs i x at)

pub set_again : {X : Type 0} (xs : List X) (i : ℕ) (x y : X) → slice_set (slice_set xs i x) i y ≡ slice_set xs i y
set_again [] i x y = refl
set_again (z ∷ xs) zero x y = refl
set_again (z ∷ xs) (suc i) x y = ap (λ zs. z ∷ zs) (set_again xs i x y)

module _ {C : Type 0} {N : ℕ} (truths : Truths C) (old : LockState C N) (i : ℕ) (view : SeatView C N) (at : slice_get old.views i ≡ Some view) (walk : Walk C) where
  -- the step whose effect is this, where the view at that number is set and no other
  abbrev pub step_at : (found : Found) (new : LockState C N) (held : _) (owed : List Owed) (commits : List (Event C N)) → view.walk ≡ Some walk →
      new.views ≡ slice_set old.views i (record { seat = view.seat; walk = place_after (got_of N walk found); held = held; owed = owed }) → Effect truths view.seat (want_of walk) (part_of old view.held view.owed) found (part_of new held owed) commits → Step truths old view found new commits
  step_at found new held owed commits walks becomes effect = record {
    walk = walk;
    walks = walks;
    front = take i old.views;
    back = drop (suc i) old.views;
    held = held;
    owed = owed;
    was = split_at old.views i view at;
    becomes = becomes ∙ set_at old.views i view _ at;
    effect = effect;
  }

  -- and so the beginning of a call
  abbrev pub begin_at : (new : LockState C N) → view.walk ≡ None → IsFirst N walk → PlaceFits truths (Some walk) view.held → new ≡ record old { views = slice_set old.views i (record view { walk = Some walk }) } → Begins truths old view walk new
  begin_at new over first fits becomes = record {
    over = over;
    first = first;
    fits = fits;
    front = take i old.views;
    back = drop (suc i) old.views;
    was = split_at old.views i view at;
    becomes = becomes ∙ ap (λ vs. record old { views = vs }) (set_at old.views i view _ at);
  }
