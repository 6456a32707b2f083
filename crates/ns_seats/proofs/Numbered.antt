-- The seats of a new table.
use Rattle.std.specs.Prelude.{nat_lt}
use Rattle.std.proofs.Common.{◌≡◌, ◌≢◌, ℕ, zero, suc, ◌+◌, ◌-◌, ◌<◌, ◌≤◌, eqb, List, [], ◌∷◌, ◌++◌, length, refl, sym, ap, ◌∙◌, subst, arith, eq-eqb, inl, inr}
use Rattle.std.specs.List.{All}
use Rattle.std.proofs.lemmas.List.Elements.{All-nil, All-cons}
use Rattle.std.proofs.lemmas.Bool.{ne_eqb, cases_eq, le-ltb, lt-ltb}
use Rattle.ns_model.specs.Tallies.{total, one_if}
use Rattle.ns_model.proofs.Tallies.{one_most}
use Rattle.ns_seats.specs.Views.{is_numbered, first_of, rest_of, numbered, AreNew}

above : (a b : ℕ) → a ≤ b → a ≢ b → suc a ≤ b
above a b low ne = omega (arith, low, ne)

more : (n i : ℕ) → i < n → n - i ≡ suc (n - (i + 1))
more n i low = omega (arith, low)

module _ {V : Type 0} (new : ℕ → V) where
  pub numbered_first : (n i : ℕ) → i < n → first_of (numbered new i (n - i)) ≡ new i ∷ []
  numbered_first n i low = ap (λ (k : ℕ). first_of (numbered new i k)) (more n i low)

  pub numbered_rest : (n i : ℕ) → i < n → rest_of (numbered new i (n - i)) ≡ numbered new (i + 1) (n - (i + 1))
  numbered_rest n i low = ap (λ (k : ℕ). rest_of (numbered new i k)) (more n i low) ∙ ap (λ (k : ℕ). numbered new k (n - (i + 1))) (let e : suc i ≡ i + 1 = omega arith in e)

  pub numbered_count : (from n : ℕ) → total (λ (seat : V). 1) (numbered new from n) ≡ n
  numbered_count from zero = refl
  numbered_count from (suc n) = let r = numbered_count (suc from) n in omega (arith, r)

  -- where new seats have their numbers, one of each stands among them
  module _ (number_of : V → ℕ) (so : (seat : ℕ) → number_of (new seat) ≡ seat) where
    of_one : (seat from : ℕ) → is_numbered number_of seat (new from) ≡ one_if (eqb from seat)
    of_one seat from = ap (λ k. one_if (eqb k seat)) (so from)

    none_before : (from n seat : ℕ) → seat < from → total (is_numbered number_of seat) (numbered new from n) ≡ 0
    none_before from zero seat low = refl
    none_before from (suc n) seat low = let r = none_before (suc from) n seat (omega (arith, low)) in let z : one_if (eqb from seat) ≡ 0 = ap one_if (ne_eqb from seat (λ e. omega (arith, e, low))) in let o = of_one seat from in omega (arith, r, z, o)

    pub one_of_each : (from n seat : ℕ) → from ≤ seat → total (is_numbered number_of seat) (numbered new from n) ≡ one_if (nat_lt seat (from + n))
    one_of_each from zero seat low = sym (ap one_if (le-ltb seat (from + zero) (omega (arith, low))))
    one_of_each from (suc n) seat low = let here = of_one seat from in elim (cases_eq from seat) [
      | inl e ↦ (let r = none_before (suc from) n seat (omega (arith, e)) in let o : one_if (eqb from seat) ≡ 1 = ap one_if (eq-eqb from seat e) in let is : one_if (nat_lt seat (from + suc n)) ≡ 1 = ap one_if (lt-ltb seat (from + suc n) (omega (arith, e))) in omega (arith, r, o, is, here))
      | inr ne ↦ (let r = one_of_each (suc from) n seat (above from seat low ne) in let z : one_if (eqb from seat) ≡ 0 = ap one_if (ne_eqb from seat ne) in
          let same : one_if (nat_lt seat (suc from + n)) ≡ one_if (nat_lt seat (from + suc n)) = ap (λ k. one_if (nat_lt seat k)) (omega arith) in omega (arith, r, z, same, here))
    ]

    pub none_twice : (n seat : ℕ) → total (is_numbered number_of seat) (numbered new 0 n) ≤ 1
    none_twice n seat = subst (λ k. k ≤ 1) (sym (one_of_each 0 n seat (omega arith))) (one_most (nat_lt seat (0 + n)))

  -- what is so of each new seat is so of all of them
  pub all_new : (Q : V → Type 0) → ((seat : ℕ) → Q (new seat)) → (from : ℕ) (seats : List V) → AreNew new from seats → All Q seats
  all_new Q so from [] are = All-nil Q
  all_new Q so from (seat ∷ seats) are = All-cons Q seat seats (subst Q (sym are.0) (so from)) (all_new Q so (suc from) seats are.1)

  -- new seats, and one more
  pub new_more : (from : ℕ) (seats : List V) (seat : V) → AreNew new from seats → seat ≡ new (from + length seats) → AreNew new from (seats ++ seat ∷ [])
  new_more from [] seat are is = (is ∙ ap new (omega arith), tt)
  new_more from (x ∷ xs) seat are is = (are.0, new_more (suc from) xs seat are.1 (is ∙ ap new (omega arith)))
