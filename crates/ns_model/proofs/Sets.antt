-- Sets of seats, seat by seat.
use Rattle.std.proofs.Common.{List, [], ap, arith, bit_or, eq-eqb, eqb, false, inl, inr, ne_eqb, refl, sym, true, ℕ, ◌%◌, ◌*◌, ◌<◌, ◌^◌, ◌||◌, ◌∙◌, ◌∷◌, ◌≡◌, ◌≢◌}
use Rattle.ns_model.proofs.Prelude.{Seats, Width, bit_at, bit_at-lt, bit_at-pow_other, bit_at-pow_same, bit_at-zero, bit_at_or, bit_at_set_other, bit_at_set_same, bits, cases_eq, is_in, or-false, or-true, same_from_bits, seats_in}

same_bit : (a b : ℕ) → a < 2 → b < 2 → eqb a 1 ≡ eqb b 1 → a ≡ b
same_bit a b low small same =
    elim (cases_eq a 1) [
      | inl e ↦ elim (cases_eq b 1) [ inl f ↦ omega arith | inr ne ↦ let t = sym (eq-eqb a 1 e) ∙ same ∙ ne_eqb b 1 ne in absurd (cc) ]
      | inr ne ↦ elim (cases_eq b 1) [ inl f ↦ let t = sym (ne_eqb a 1 ne) ∙ same ∙ eq-eqb b 1 f in absurd (cc) | inr other ↦ omega arith ]
    ]

-- sets that agree at each seat are one
pub same_seats : (a b : Seats) → ((seat : ℕ) → is_in a seat ≡ is_in b seat) → a ≡ b
same_seats a b same =
    let number : a.0 ≡ b.0 = same_from_bits a.0 b.0 (λ i. same_bit (bit_at a.0 i) (bit_at b.0 i) (bit_at-lt a.0 i) (bit_at-lt b.0 i) (same i)) in
    λ i. record { 0 = number i }

-- no seat is in the empty set
pub none_in : (seat : ℕ) → is_in (seats_in []) seat ≡ false
none_in seat = rw (bit_at-zero seat) refl

in_same : (s seat : ℕ) → eqb (bit_at (bit_or s (2 ^ seat)) seat) 1 ≡ true
in_same s seat = eq-eqb _ 1 (bit_at_or s (2 ^ seat) seat ∙ rw (bit_at-pow_same seat) (omega (arith, bit_at-lt s seat)))

in_other : (s n seat : ℕ) → seat ≢ n → eqb (bit_at (bit_or s (2 ^ n)) seat) 1 ≡ eqb (bit_at s seat) 1
in_other s n seat ne = ap (λ bit. eqb bit 1) (bit_at_or s (2 ^ n) seat ∙ rw (bit_at-pow_other n seat ne) (omega arith))

-- one seat more
pub in_more : (n : ℕ) (seats : List ℕ) (seat : ℕ) → is_in (seats_in (n ∷ seats)) seat ≡ (eqb n seat || is_in (seats_in seats) seat)
in_more n seats seat = elim (cases_eq n seat) [
  | inl e ↦ rw (eq-eqb n seat e, e) (in_same (seats_in seats).0 seat)
  | inr ne ↦ rw (ne_eqb n seat ne) (in_other (seats_in seats).0 n seat (λ e. ne (sym e)))
]

-- a number with one bit set, bit by bit
pub bit_set : (w : Width) (s k n : ℕ) → k < bits w → eqb (bit_at (bit_or s (1 * 2 ^ k % 2 ^ bits w)) n) 1 ≡ (eqb (bit_at s n) 1 || eqb n k)
bit_set w s k n within = elim (cases_eq n k) [
  | inl e ↦ rw (e, bit_at_set_same w s k within, eq-eqb k k refl, or-true) refl
  | inr ne ↦ rw (bit_at_set_other w s k within n ne, ne_eqb n k ne, or-false) refl
]
