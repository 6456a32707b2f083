-- What `parse` gives is the number that a word writes.
use Rattle.std.proofs.Common.{Bool, Err, List, None, Ok, Result, Some, ap, arith, cond, false, get_or, length, nat_lt, not, refl, true, ℕ, ◌&&◌, ◌<◌, ◌==◌, ◌^◌, ◌||◌, ◌≡◌, ◌≢◌, ◌⊎◌}
use Rattle.ns_replay.proofs.Prelude.{IsNumeralModel, OkIff, ParsesUnsigned, all_ascii_digits, digits_value, nat_tests, number_of, numerals_by_value, parse_plain, result_ok, tells_all_ascii_digits}

own : IsNumeralModel (λ ds. all_ascii_digits ds ≡ true) (digits_value 10)
own = numerals_by_value _ tells_all_ascii_digits

from_iff : {E : Type 0} (r : Result ℕ E) (b : Bool) (P : Type 0) (v : ℕ) → OkIff r P v → (b ≡ true → P) → (P → b ≡ true) → result_ok r ≡ cond b (Some v) None
from_iff (Ok x) true P v h to from = ap (λ (y : ℕ). Some y) h.1
from_iff (Ok x) false P v h to from = let e = from h.0 in absurd cc
from_iff (Err e) true P v h to from = absurd (h (to refl))
from_iff (Err e) false P v h to from = refl

tested : (d : Bool) (n first v : ℕ) → ((n ≡ 1) ⊎ (first ≢ 48)) → (d ≡ true) × (0 < n) × (v < 2 ^ 64) → (d && nat_lt 0 n && (n == 1 || not (first == 48)) && nat_lt v (2 ^ 64)) ≡ true
tested d n first v h p = grind (arith, nat_tests)

test_tells : (d : Bool) (n first v : ℕ) → (d && nat_lt 0 n && (n == 1 || not (first == 48)) && nat_lt v (2 ^ 64)) ≡ true → (d ≡ true) × (0 < n) × (v < 2 ^ 64)
test_tells d n first v e = (grind (arith, nat_tests), grind (arith, nat_tests), grind (arith, nat_tests))

pub number_from_parse : {E : Type 0} (w : List ℕ) (r : Result ℕ E) → ParsesUnsigned 64 10 w r → get_or w 0 0 ≢ 43 → ((length w ≡ 1) ⊎ (get_or w 0 0 ≢ 48)) → result_ok r ≡ number_of w
unfolding number_of
number_from_parse w r h plus zero =
    from_iff r _ _ _ (parse_plain own 64 w r h plus) (test_tells (all_ascii_digits w) (length w) (get_or w 0 0) (digits_value 10 w)) (tested (all_ascii_digits w) (length w) (get_or w 0 0) (digits_value 10 w) zero)
