-- A scan counts one test for each run in which some waiter's truth is asked for.
use Rattle.std.proofs.Common.{Bool, List, None, Option, Some, [], ap, arith, cond, false, inl, inr, is_some, length, map, not, refl, sym, true, ℕ, ◌&&◌, ◌++◌, ◌+◌, ◌||◌, ◌∙◌, ◌∷◌, ◌≡◌, ◌≤◌}
use Rattle.ns_queue.proofs.Asking.{alike_none}
use Rattle.ns_queue.proofs.Prelude.{Asked, Waiter, asked_by, asked_of, cases_Bool, count_by, count_by-le-length, ended, goes_on, is_alike, is_eligible, list_any, map-append, one_if, reads, runs_after, runs_of, started, sum_by-append, sum_by-cons, tests_of, tests_on}

module _ {C : Type 0} where
  abbrev asks : List (Asked C) → Bool
  asks run = list_any (λ a. a.is_needed) run

  abbrev first_of : List (Asked C) → Option C
  first_of [] = None
  first_of (a ∷ run) = a.waiter.cond

  asks_more : (run : List (Asked C)) (a : Asked C) → asks (run ++ a ∷ []) ≡ (a.is_needed || asks run)
  asks_more [] a = refl
  asks_more (b ∷ run) a = ap (λ t. b.is_needed || t) (asks_more run a) ∙ elim b.is_needed as (λ t. (t || (a.is_needed || asks run)) ≡ (a.is_needed || (t || asks run)))
      [ true ↦ elim a.is_needed as (λ u. true ≡ (u || true)) [ true ↦ refl | false ↦ refl ] | false ↦ refl ]

  count_ended : (run : List (Asked C)) → count_by asks (ended run) ≡ one_if (asks run)
  count_ended [] = refl
  count_ended (a ∷ run) = omega (arith, sum_by-cons (λ r. one_if (asks r)) (a ∷ run) [])

module _ {C : Type 0} (same : C → C → Bool) where
  -- what is known of no run is of no use
  none_known : (known : Bool) (xs : List (Asked C)) → tests_on same None known xs ≡ tests_on same None false xs
  none_known known [] = refl
  none_known known (a ∷ xs) = rw (alike_none same a.waiter.cond) refl

  -- a run that starts, or none
  start_count : (w : Waiter C) (n : Bool) (R : Option C → Bool → ℕ) → ((known : Bool) → R None known ≡ R None false) → (o : Option C) → w.cond ≡ o →
      one_if (asks (cond (is_some o) (record { waiter = w; is_needed = n } ∷ []) [])) + R (first_of (cond (is_some o) (record { waiter = w; is_needed = n } ∷ []) [])) (asks (cond (is_some o) (record { waiter = w; is_needed = n } ∷ []) []))
      ≡ cond (n && is_some o) 1 0 + R o n
  start_count w true R free (Some c) e = ap (λ o. 1 + R o true) e
  start_count w false R free (Some c) e = ap (λ o. 0 + R o false) e
  start_count w true R free None e = ap (λ n. 0 + n) (sym (free true))
  start_count w false R free None e = refl

  goes_is : (run : List (Asked C)) (a : Asked C) → goes_on same (λ x. x.waiter.cond) run a ≡ is_alike same a.waiter.cond (first_of run)
  goes_is [] a = sym (alike_none same a.waiter.cond)
  goes_is (b ∷ run) a = refl

  first_stays : (run : List (Asked C)) (a : Asked C) → goes_on same (λ x. x.waiter.cond) run a ≡ true → first_of (run ++ a ∷ []) ≡ first_of run
  first_stays [] a goes = absurd (cc)
  first_stays (b ∷ run) a goes = refl

  go_count : (known n : Bool) (R : Bool → ℕ) → one_if (n || known) + R (n || known) ≡ one_if known + (cond (n && not known) 1 0 + R (n || known))
  go_count true true R = omega arith
  go_count true false R = omega arith
  go_count false true R = omega arith
  go_count false false R = omega arith

  runs_count : (xs run : List (Asked C)) → count_by asks (runs_after same (λ x. x.waiter.cond) run xs) ≡ one_if (asks run) + tests_on same (first_of run) (asks run) xs
  runs_count [] run = omega (arith, count_ended run)
  runs_count (a ∷ xs) run = elim (cases_Bool (is_alike same a.waiter.cond (first_of run))) [
    | inl e ↦
        let goes = goes_is run a ∙ e in
        let after = runs_count xs (run ++ a ∷ []) in
        rw (goes, e) ((rw (asks_more run a, first_stays run a goes) at after) ∙ go_count (asks run) a.is_needed (λ b. tests_on same (first_of run) b xs))
    | inr e ↦
        let goes = goes_is run a ∙ e in
        let next = started (λ (x : Asked C). x.waiter.cond) a in
        let parts = sum_by-append (λ (r : List (Asked C)). one_if (asks r)) (ended run) (runs_after same (λ (x : Asked C). x.waiter.cond) next xs) in
        let begins = start_count a.waiter a.is_needed (λ o k. tests_on same o k xs) (λ k. none_known k xs) a.waiter.cond refl in
        rw (goes, e) (omega (arith, parts, count_ended run, runs_count xs next, begins))
  ]

  -- ---- no more tests than runs

  abbrev waiters : List (Asked C) → List (Waiter C)
  waiters xs = map (λ a. a.waiter) xs

  -- there are as many runs, whether truths are asked for or not
  abbrev AsMany : List (Asked C) → List (Asked C) → Type 0
  AsMany run xs = length (runs_after same (λ a. a.waiter.cond) run xs) ≡ length (runs_after same (λ w. w.cond) (waiters run) (waiters xs))

  as_many_begun : (a : Asked C) (xs : List (Asked C)) → ((run : List (Asked C)) → AsMany run xs) →
      length (runs_after same (λ x. x.waiter.cond) (started (λ x. x.waiter.cond) a) xs) ≡ length (runs_after same (λ w. w.cond) (started (λ w. w.cond) a.waiter) (waiters xs))
  as_many_begun a xs rest = elim (cases_Bool (is_some a.waiter.cond)) [ inl some ↦ rw some (rest (a ∷ [])) | inr none ↦ rw none (rest []) ]

  as_many : (xs run : List (Asked C)) → AsMany run xs
  as_many [] [] = refl
  as_many [] (r ∷ run) = refl
  as_many (a ∷ xs) [] = as_many_begun a xs (as_many xs)
  as_many (a ∷ xs) (r ∷ run) = elim (cases_Bool (is_alike same a.waiter.cond r.waiter.cond)) [
    | inl alike ↦ rw alike (rw (map-append (λ (x : Asked C). x.waiter) run (a ∷ [])) at (as_many xs (r ∷ (run ++ a ∷ []))))
    | inr other ↦ rw other (omega (arith, as_many_begun a xs (as_many xs)))
  ]

  waiters_by : (needed : Waiter C → Bool) (ws : List (Waiter C)) → waiters (asked_by needed ws) ≡ ws
  waiters_by needed [] = refl
  waiters_by needed (w ∷ ws) = ap (λ vs. w ∷ vs) (waiters_by needed ws)

  module _ (meets : C → Bool) where
    pub tests_is : (ws : List (Waiter C)) → tests_on same None false (asked_of meets ws) ≡ tests_of same meets ws
    tests_is ws = omega (arith, runs_count (asked_of meets ws) [])

    waiters_asked : (ws : List (Waiter C)) → waiters (asked_of meets ws) ≡ ws
    waiters_asked [] = refl
    waiters_asked (w ∷ ws) = ap (λ vs. w ∷ vs) (elim (is_eligible meets w) as (λ b. waiters (cond b (asked_by (λ v. reads w && reads v) ws) (asked_of meets ws)) ≡ ws)
        [ true ↦ waiters_by (λ v. reads w && reads v) ws | false ↦ waiters_asked ws ])

    pub tests_most : (ws : List (Waiter C)) → tests_of same meets ws ≤ length (runs_of same (λ w. w.cond) ws)
    tests_most ws =
        omega (arith, count_by-le-length asks (runs_of same (λ a. a.waiter.cond) (asked_of meets ws)), as_many (asked_of meets ws) [], ap (λ vs. length (runs_of same (λ w. w.cond) vs)) (waiters_asked ws))
