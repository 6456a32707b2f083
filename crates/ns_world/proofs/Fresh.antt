-- A new world: its seats, one after another, and its law.
use Rattle.std.proofs.Common.{List, None, Option, Some, [], ap, append_assoc, arith, false, get_or, length, map, refl, replicate, slice_get, slice_index, sub-one, suc, sym, zero, ℕ, ◌++◌, ◌+◌, ◌-◌, ◌<◌, ◌∙◌, ◌∷◌, ◌≡◌, ◌≤◌}
use Rattle.ns_world.proofs.Prelude.{AreNumbered, HasLedTo, IsLawfulWhole, NoteStanding, ObjectWalk, Seat, Truths, asking_of, flag_at, fresh_lawful, fresh_seat, fresh_seats, fresh_views, fresh_whole, in_call, lawful_fresh, most, new_lawful, no_note, note_at, nothing_done, operating_of, option_map_or, same_Some, standing_of}
use Rattle.ns_world.proofs.Prelude.{state_of, view_of, walk_in}

-- where all are the same, so is each
pub each_same : {A : Type 0} (x : A) (n i : ℕ) → get_or (replicate n x) i x ≡ x
each_same x zero i = refl
each_same x (suc n) zero = refl
each_same x (suc n) (suc i) = each_same x n i

-- no flag is set
pub no_flags : ◌≡◌ {A = ℕ → ℕ} (flag_at (replicate 64 0)) (λ seat. 0)
no_flags i seat = each_same 0 64 seat i

-- there is no note
pub no_notes : ◌≡◌ {A = ℕ → NoteStanding} (note_at (replicate 64 (state_of no_note))) (λ note. no_note)
no_notes i note = standing_of (each_same (state_of no_note) 64 note i)

module _ {C : Type 0} {N : ℕ} where
  -- one more is made of those to come
  pub one_more : (made : List (Seat C N)) (seat : Seat C N) (first n : ℕ) (all : List (Seat C N)) → seat ≡ fresh_seat first → 0 < n → made ++ fresh_seats first n ≡ all → (made ++ seat ∷ []) ++ fresh_seats (first + 1) (n - 1) ≡ all
  one_more made seat first zero all is some p = absurd (omega arith)
  one_more made seat first (suc n) all is some p = rw (sub-one, append_assoc made (seat ∷ []) (fresh_seats (first + 1) n)) (ap (λ s. made ++ s ∷ fresh_seats (first + 1) n) is ∙ p)

  views_are : (first n : ℕ) → map view_of (fresh_seats {C = C} {N = N} first n) ≡ fresh_views first n
  views_are first zero = refl
  views_are first (suc n) = ap (λ vs. view_of (fresh_seat {C = C} {N = N} first) ∷ vs) (views_are (first + 1) n)

  places_are : {A : Type 0} (f : Seat C N → Option A) → ((number : ℕ) → f (fresh_seat number) ≡ None) → (first n : ℕ) → map f (fresh_seats first n) ≡ replicate n None
  places_are f none first zero = refl
  places_are f none first (suc n) = λ i. none first i ∷ places_are f none (first + 1) n i

  -- each of them is new
  pub each_fresh : (first n i : ℕ) (seat : Seat C N) → slice_get (fresh_seats first n) i ≡ Some seat → seat ≡ fresh_seat (first + i)
  each_fresh first zero i seat at = absurd (cc)
  each_fresh first (suc n) zero seat at = let is : fresh_seat first ≡ seat = same_Some _ _ at in sym is ∙ ap fresh_seat (omega arith)
  each_fresh first (suc n) (suc i) seat at = each_fresh (first + 1) n i seat at ∙ ap fresh_seat (omega arith)

module _ (C : Type 0) (N : ℕ) where
  pub length_seats : (first n : ℕ) → length (fresh_seats {C = C} {N = N} first n) ≡ n
  length_seats first zero = refl
  length_seats first (suc n) = ap suc (length_seats (first + 1) n)

  numbered : (first n : ℕ) → AreNumbered first (map view_of (fresh_seats {C = C} {N = N} first n))
  numbered first zero = tt
  numbered first (suc n) = (refl, numbered (first + 1) n)

none_stand : (n i : ℕ) (walk : ObjectWalk) → walk_in (replicate n None) i ≡ Some walk → ⊥
none_stand zero i walk at = absurd (cc)
none_stand (suc n) zero walk at = absurd (cc)
none_stand (suc n) (suc i) walk at = none_stand n i walk at

-- nothing has led to it
pub new_led : (C : Type 0) (N : ℕ) (truths : Truths C) (seats : ℕ) (counters : List ℕ) (onces : ℕ) → seats ≤ 64 → length counters ≤ 16 → onces ≤ 16 → ((k : ℕ) → slice_index counters k ≤ most) → HasLedTo nothing_done (fresh_whole {C = C} {N = N} truths seats counters onces)
new_led C N truths seats counters onces few short cells values = (
  rw (places_are {C = C} {N = N} (λ s. asking_of s.doing) (λ number. refl) 0 seats) (fresh_lawful seats),
  record { lawful = new_lawful seats counters onces few short cells values; within = λ i walk at. absurd (none i walk at); each = λ i walk at. absurd (none i walk at) },
) where
  none : (i : ℕ) (walk : ObjectWalk) → walk_in (map (λ s. operating_of s.doing) (fresh_seats {C = C} {N = N} 0 seats)) i ≡ Some walk → ⊥
  none i walk at = none_stand seats i walk (ap (λ ws. walk_in ws i) (sym (places_are {C = C} {N = N} (λ s. operating_of s.doing) (λ number. refl) 0 seats)) ∙ at)

pub whole_new : (C : Type 0) (N : ℕ) (truths : Truths C) (seats : ℕ) (counters : List ℕ) (onces : ℕ) → seats ≤ 64 → length counters ≤ 16 → onces ≤ 16 → ((k : ℕ) → slice_index counters k ≤ most) → IsLawfulWhole (fresh_whole {C = C} {N = N} truths seats counters onces)
whole_new C N truths seats counters onces few short cells values = record {
  few = rw (length_seats C N 0 seats) few;
  numbered = numbered C N 0 seats;
  counted = sym (length_seats C N 0 seats);
  lawful = rw (length_seats C N 0 seats, views_are {C = C} {N = N} 0 seats) (lawful_fresh C N truths seats few);
  stands = λ i seat at. rw (each_fresh 0 seats i seat at) tt;
  past = nothing_done;
  led = new_led C N truths seats counters onces few short cells values;
}

-- none of its seats is in a call
pub none_busy : (C : Type 0) (N first n seat : ℕ) → option_map_or in_call (slice_get (fresh_seats {C = C} {N = N} first n) seat) false ≡ false
none_busy C N first zero seat = refl
none_busy C N first (suc n) zero = refl
none_busy C N first (suc n) (suc seat) = none_busy C N (first + 1) n seat
