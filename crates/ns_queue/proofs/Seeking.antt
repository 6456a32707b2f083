-- Whom a scan takes first, and how many conditions it tests to find that one, or nobody.
use Rattle.std.proofs.Common.{Bool, IfSome, List, None, Option, Some, [], ap, arith, cond, drop, false, get_or, inl, inr, is_some, length, length-take, not, refl, suc, sym, take, take_all, true, ℕ, ◌&&◌, ◌+◌, ◌<◌, ◌||◌, ◌∙◌, ◌∷◌, ◌≡◌, ◌≤◌}
use Rattle.ns_queue.proofs.Seats.{at_most_one}
use Rattle.ns_queue.proofs.Prelude.{Asked, Waiter, asked_by, asked_of, cases_Bool, in_front, is_alike, is_eligible, is_satisfied, left_of, length-map, one_if, reads, tests_on, tests_seeking, woken_of}

-- whether a waiter goes along with a reader that was taken in front of it
abbrev pub goes_along : {C : Type 0} → (C → Bool) → Waiter C → Bool
goes_along meets v = reads v && is_eligible meets v

module _ {C : Type 0} (same : C → C → Bool) (meets : C → Bool) where
  -- the condition, if there is one, is false
  abbrev pub Unmet : Option C → Type 0
  Unmet first = IfSome first (λ c. meets c ≡ false)

  pub alike_unmet : ((c d : C) → same c d ≡ true → meets c ≡ meets d) → (o first : Option C) → Unmet first → is_alike same o first ≡ true → is_satisfied meets o ≡ false
  alike_unmet agree (Some c) (Some d) unmet alike = agree c d alike ∙ unmet
  alike_unmet agree (Some c) None unmet alike = absurd (cc)
  alike_unmet agree None first unmet alike = absurd (cc)

  -- what a test of a waiter's condition tells
  pub answered : (o tested : Option C) (answer value : Bool) → tested ≡ o → answer ≡ is_satisfied meets tested → answer ≡ value → is_satisfied meets o ≡ value
  answered o tested answer value new told is = ap (is_satisfied meets) (sym new) ∙ sym told ∙ is

  -- and how many tests that takes
  pub counted : (o tested : Option C) (tests : ℕ) → tested ≡ o → tests ≡ one_if (is_some tested) → tests ≡ one_if (is_some o)
  counted o tested tests new is = is ∙ ap (λ p. one_if (is_some p)) new

  pub unmet_of : (o : Option C) → is_satisfied meets o ≡ false → Unmet o
  unmet_of None stays = tt
  unmet_of (Some c) stays = stays

  some_unmet : (o : Option C) → is_satisfied meets o ≡ false → is_some o ≡ true
  some_unmet None stays = absurd (cc)
  some_unmet (Some c) stays = refl

  some_alike : (o first : Option C) → is_alike same o first ≡ true → is_some first ≡ true
  some_alike (Some c) (Some d) alike = refl
  some_alike (Some c) None alike = absurd (cc)
  some_alike None first alike = absurd (cc)

  -- ---- one waiter

  pub front_no : (w : Waiter C) (ws : List (Waiter C)) → is_eligible meets w ≡ false → in_front meets (w ∷ ws) ≡ suc (in_front meets ws)
  front_no w ws stays = rw stays refl

  pub front_yes : (w : Waiter C) (ws : List (Waiter C)) → is_eligible meets w ≡ true → in_front meets (w ∷ ws) ≡ 0
  front_yes w ws goes = rw goes refl

  pub seeking_alike : (w : Waiter C) (ws : List (Waiter C)) (first : Option C) → is_eligible meets w ≡ false → is_alike same w.cond first ≡ true →
      tests_seeking same meets first (w ∷ ws) ≡ tests_seeking same meets first ws
  seeking_alike w ws first stays alike = rw (stays, alike, some_alike w.cond first alike) (omega arith)

  pub seeking_other : (w : Waiter C) (ws : List (Waiter C)) (first : Option C) → is_eligible meets w ≡ false → is_alike same w.cond first ≡ false →
      tests_seeking same meets first (w ∷ ws) ≡ cond (is_some w.cond) 1 0 + tests_seeking same meets w.cond ws
  seeking_other w ws first stays other = rw (stays, other, some_unmet w.cond stays) refl

  pub seeking_found : (w : Waiter C) (ws : List (Waiter C)) (first : Option C) → is_eligible meets w ≡ true → is_alike same w.cond first ≡ false →
      tests_seeking same meets first (w ∷ ws) ≡ cond (is_some w.cond) 1 0
  seeking_found w ws first goes other = rw (goes, other) (omega arith)

  -- ---- where nobody is taken

  pub front_most : (ws : List (Waiter C)) → in_front meets ws ≤ length ws
  front_most [] = omega arith
  front_most (w ∷ ws) = elim (cases_Bool (is_eligible meets w)) [
    | inl goes ↦ omega (arith, front_yes w ws goes)
    | inr stays ↦ omega (arith, front_no w ws stays, front_most ws)
  ]

  -- a scan that takes nobody leaves the list as it is, and asks for each truth
  pub record TakesNobody (ws : List (Waiter C)) : Type 0 where
    pub woken : woken_of meets ws ≡ []
    pub left : left_of meets ws ≡ ws
    pub asked : asked_of meets ws ≡ asked_by (λ w. true) ws

  pub nobody_taken : (ws : List (Waiter C)) → in_front meets ws ≡ length ws → TakesNobody ws
  nobody_taken [] all = record { woken = refl; left = refl; asked = refl }
  nobody_taken (w ∷ ws) all = elim (cases_Bool (is_eligible meets w)) [
    | inl goes ↦ absurd (omega (arith, all, front_yes w ws goes))
    | inr stays ↦
        let rest = nobody_taken ws (omega (arith, all, front_no w ws stays)) in
        record { woken = rw stays rest.woken; left = rw stays (ap (λ vs. w ∷ vs) rest.left); asked = rw stays (ap (λ xs. record { waiter = w; is_needed = true } ∷ xs) rest.asked) }
  ]

  pub all_sought : (ws : List (Waiter C)) → in_front meets ws ≡ length ws → tests_seeking same meets None ws ≡ tests_on same None false (asked_of meets ws)
  all_sought ws all = rw (all, take_all (suc (length ws)) ws (omega arith), (nobody_taken ws all).asked) refl

  -- ---- where somebody is taken

  tests_split : ((c d : C) → same c d ≡ true → meets c ≡ meets d) → (first : Option C) (ws : List (Waiter C)) (w : Waiter C) → Unmet first → in_front meets ws < length ws → w ≡ get_or ws (in_front meets ws) w →
      tests_seeking same meets first ws + tests_on same w.cond true (asked_by (λ v. reads w && reads v) (drop (suc (in_front meets ws)) ws)) ≡ tests_on same first (is_some first) (asked_of meets ws)
  tests_split agree first [] w unmet within is = absurd (omega (arith, within))
  tests_split agree first (v ∷ ws) w unmet within is = elim (cases_Bool (is_eligible meets v)) [
    | inl goes ↦ elim (cases_Bool (is_alike same v.cond first)) [
      | inl alike ↦ let stays = alike_unmet agree v.cond first unmet alike in absurd (cc)
      | inr other ↦ let here : w ≡ v = rw goes at is in rw (goes, here, other) (omega arith)
    ]
    | inr stays ↦ elim (cases_Bool (is_alike same v.cond first)) [
      | inl alike ↦ let rest = rw (some_alike v.cond first alike) at (tests_split agree first ws w unmet (omega (arith, within, front_no v ws stays)) (rw stays at is)) in
          rw (stays, alike, some_alike v.cond first alike) (omega (arith, rest))
      | inr other ↦ let rest = rw (some_unmet v.cond stays) at (tests_split agree v.cond ws w (unmet_of v.cond stays) (omega (arith, within, front_no v ws stays)) (rw stays at is)) in
          rw (stays, other, some_unmet v.cond stays) (omega (arith, rest))
    ]
  ]

  pub tests_found : ((c d : C) → same c d ≡ true → meets c ≡ meets d) → (ws : List (Waiter C)) (w : Waiter C) → in_front meets ws < length ws → w ≡ get_or ws (in_front meets ws) w →
      tests_seeking same meets None ws + tests_on same w.cond true (asked_by (λ v. reads w && reads v) (drop (suc (in_front meets ws)) ws)) ≡ tests_on same None false (asked_of meets ws)
  tests_found agree ws w within is = tests_split agree None ws w tt within is

  tests_most : (first : Option C) (known : Bool) (xs : List (Asked C)) → tests_on same first known xs ≤ length xs
  tests_most first known [] = omega arith
  tests_most first known (a ∷ xs) = elim (cases_Bool (is_alike same a.waiter.cond first)) [
    | inl alike ↦ rw alike (omega (arith, at_most_one (a.is_needed && not known), tests_most first (a.is_needed || known) xs))
    | inr other ↦ rw other (omega (arith, at_most_one (a.is_needed && is_some a.waiter.cond), tests_most a.waiter.cond a.is_needed xs))
  ]

  -- no more tests than those passed and the one found
  pub few_sought : (ws : List (Waiter C)) (passed tests : ℕ) → passed ≡ in_front meets ws → tests ≡ tests_seeking same meets None ws → tests ≤ passed + 1
  few_sought ws passed tests front count =
      let tested = take (suc (in_front meets ws)) ws in
      let some : length (asked_by (λ w. true) tested) ≤ suc (in_front meets ws) = rw length-map (simp length-take (omega arith)) in
      omega (arith, front, count, tests_most None false (asked_by (λ w. true) tested), some)
