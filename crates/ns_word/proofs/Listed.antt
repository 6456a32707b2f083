-- What holds of each of a list, where some leave it or one more comes.
use Rattle.std.proofs.Common.{Bool, List, None, Option, [], ap, arith, eq-eqb, eqb, false, inl, inr, not, refl, sym, true, ℕ, ◌++◌, ◌∷◌, ◌≡◌, ◌≢◌}
use Rattle.ns_word.proofs.Prelude.{Every, Mode, Waiter, cases_Bool, cases_eq, every_filter, every_join, goes_along, has_some, is_eligible, is_of, left_of, one_if, queued, times_in, times_in-cons, without_in, writes}

pub none_of : {A : Type 0} (xs : List A) → has_some xs ≡ false → xs ≡ []
none_of [] e = refl
none_of (x ∷ xs) e = absurd (cc)

pub every_cut : {A : Type 0} (P : A → Type 0) (xs ys : List A) → Every P (xs ++ ys) → Every P xs × Every P ys
every_cut P [] ys p = (tt, p)
every_cut P (x ∷ xs) ys p = let rest = every_cut P xs ys p.1 in ((p.0, rest.0), rest.1)

module _ {C : Type 0} (Q : Waiter C → Type 0) where
  -- of those who stay where a scan takes some
  pub listed_left : (meets : C → Bool) (ws : List (Waiter C)) → Every Q ws → Every Q (left_of meets ws)
  listed_left meets [] p = tt
  listed_left meets (w ∷ ws) p = elim (cases_Bool (is_eligible meets w)) [
    | inl goes ↦ elim (cases_Bool (writes w)) [
      | inl alone ↦ rw (goes, alone) p.1
      | inr reader ↦ rw (goes, reader) (every_filter Q (λ v. not (goes_along meets v)) ws p.1)
    ]
    | inr stays ↦ rw stays (p.0, listed_left meets ws p.1)
  ]

  -- of all but one
  pub listed_without : (who : ℕ) (ws : List (Waiter C)) → Every Q ws → Every Q (without_in who ws)
  listed_without who ws p = every_filter Q (λ w. not (is_of who w)) ws p

  -- of one more, who was moved by nobody
  pub listed_queued : (who : ℕ) (mode : Mode) (c : Option C) (tries : ℕ) (front : Bool) (ws : List (Waiter C)) → Q (record { seat = who; mode = mode; cond = c; tries = tries; via = None }) → Every Q ws → Every Q (queued who mode c tries front ws)
  listed_queued who mode c tries true ws own p = (own, p)
  listed_queued who mode c tries false ws own p = every_join Q ws (record { seat = who; mode = mode; cond = c; tries = tries; via = None }) [] p own tt

-- waiters of other seats
pub every_apart : {C : Type 0} (Q R : Waiter C → Type 0) (who : ℕ) (ws : List (Waiter C)) → times_in who ws ≡ 0 → ((w : Waiter C) → who ≢ w.seat → Q w → R w) → Every Q ws → Every R ws
every_apart Q R who [] none go p = tt
every_apart Q R who (w ∷ ws) none go p = let sum = times_in-cons who w ws in elim (cases_eq w.seat who) [
  | inl e ↦ let one : one_if (eqb w.seat who) ≡ 1 = ap one_if (eq-eqb w.seat who e) in absurd (omega (arith, none, one, sum))
  | inr ne ↦ (go w (λ e. ne (sym e)) p.0, every_apart Q R who ws (omega (arith, none, sum)) go p.1)
]
