-- A new gate.
use Rattle.std.proofs.Common.{List, Some, [], ap, arith, get_or, length, map, nat_lt, refl, replicate, slice_get, suc, sym, zero, ℕ, ◌+◌, ◌<◌, ◌∙◌, ◌∷◌, ◌≡◌, ◌≤◌}
use Rattle.ns_gate.proofs.Prelude.{Every, Fits, Holds, Lists, Truths, fresh, fresh_seat, fresh_state, fresh_views, get_or-replicate, lawful_fresh, length-replicate, no_lists, number_of_seat, one_if, one_of_each, opening, some, told_first}

module _ (C : Type 0) (N : ℕ) where
  stands_there : (first n i : ℕ) → i < n → slice_get (fresh_views {C = C} {N = N} first n) i ≡ Some (fresh_seat {C = C} {N = N} 0 (first + i)).at
  stands_there first zero i low = absurd (omega (arith, low))
  stands_there first (suc n) zero low = let e : first ≡ first + 0 = omega arith in ap (λ (k : ℕ). Some (fresh_seat {C = C} {N = N} 0 k).at) e
  stands_there first (suc n) (suc i) low = let e : (first + 1) + i ≡ first + suc i = omega arith in stands_there (first + 1) n i (omega (arith, low)) ∙ ap (λ (k : ℕ). Some (fresh_seat {C = C} {N = N} 0 k).at) e

  fits_fresh : (truths : Truths C) (seat_count from n : ℕ) → from + n ≡ seat_count → Every (Fits truths seat_count [] (fresh_state {C = C} {N = N} seat_count)) (fresh seat_count from n)
  fits_fresh truths seat_count from zero e = tt
  fits_fresh truths seat_count from (suc n) e = (
    record { limited = refl; stands = stands_there 0 seat_count from (omega (arith, e)) ∙ ap (λ (k : ℕ). Some (fresh_seat {C = C} {N = N} 0 k).at) (let z : 0 + from ≡ from = omega arith in z); told = told_first truths.holds seat_count from; come = tt; stood = λ q. absurd (cc) },
    fits_fresh truths seat_count (suc from) n (omega (arith, e)),
  )

  pub begins_with : (truths : Truths C) (seat_count : ℕ) (words : List ℕ) (slots : List (Lists C)) → seat_count ≤ 64 → words ≡ replicate (N + 65) 0 → slots ≡ no_lists ∷ [] → Holds truths seat_count (opening words slots (fresh {C = C} {N = N} seat_count 0 seat_count))
  begins_with truths seat_count words slots few is home = let wide : length words ≡ N + 65 = ap length is ∙ length-replicate (N + 65) 0 in (
    record { state = fresh_state {C = C} {N = N} seat_count; history = [] },
    record {
      few = few;
      lawful = lawful_fresh C N truths seat_count few;
      shows = record {
        width = wide;
        word_is = ap (λ (ws : List ℕ). get_or ws 0 0) is ∙ (get_or-replicate (N + 65) 0 0 0 (omega arith) ∙ refl);
        cells = λ i low. ap (λ (ws : List ℕ). get_or ws (i + 1) 0) is ∙ (get_or-replicate (N + 65) (i + 1) 0 0 (omega (arith, low)) ∙ sym (get_or-replicate N i 0 0 low));
        flags_are = λ seat low. ap (λ (ws : List ℕ). get_or ws (seat + (N + 1)) 0) is ∙ get_or-replicate (N + 65) (seat + (N + 1)) 0 0 (omega (arith, low));
      };
      home = ap (λ (xs : List (Lists C)). map some xs) home;
      seats = λ seat. let o = one_of_each (fresh_seat {C = C} {N = N} seat_count) number_of_seat (λ k. refl) 0 seat_count seat (omega arith) in
          let same : one_if (nat_lt seat (0 + seat_count)) ≡ one_if (nat_lt seat seat_count) = ap (λ k. one_if (nat_lt seat k)) (omega arith) in omega (arith, o, same);
      each = (fits_fresh truths seat_count 0 seat_count (omega arith), tt);
    },
  )
