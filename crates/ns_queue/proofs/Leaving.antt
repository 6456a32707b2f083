-- What is left of a list whose taken waiters are taken out one by one.
use Rattle.std.proofs.Common.{Bool, List, [], ap, arith, cond, drop, eq-eqb, false, get_or, inl, inr, length, map, ne_eqb, refl, sym, true, ℕ, ◌+◌, ◌-◌, ◌<◌, ◌∙◌, ◌∷◌, ◌≡◌, ◌≢◌, ◌≤◌}
use Rattle.ns_queue.proofs.Prelude.{IsRow, Waiter, marked, unmarked, begins_with_reader, cases_Bool, is_eligible, left_by_writer, left_of, seats_of, times_in, without_all, without_in, woken_of, writes}
use Rattle.ns_queue.proofs.Bases.{drop_step, filter_marks, goes_along, none_without, row_own, row_rest, stands_not, times_parted}

module _ {C : Type 0} where
  -- one seat further
  pub all_on : (seats : List ℕ) (n : ℕ) (now next whole : List (Waiter C)) → 0 < n → n ≤ length seats → next ≡ without_in (get_or seats (n - 1) 0) now → now ≡ without_all (drop n seats) whole → next ≡ without_all (drop (n - 1) seats) whole
  all_on seats n now next whole some within out before =
      let e : (n - 1) + 1 ≡ n = omega (arith, some) in
      let step = drop_step seats (n - 1) 0 (get_or seats (n - 1) 0) (omega (arith, some, within)) refl in
      out ∙ ap (without_in (get_or seats (n - 1) 0)) (before ∙ ap (λ k. without_all (drop k seats) whole) (sym e)) ∙ sym (ap (λ ss. without_all ss whole) step)

  other_stays : (s : ℕ) (w : Waiter C) (ws : List (Waiter C)) → w.seat ≢ s → without_in s (w ∷ ws) ≡ w ∷ without_in s ws
  other_stays s w ws ne = rw (ne_eqb w.seat s ne) refl

  -- one who isn't among them stays
  stays_first : (vs : List (Waiter C)) (w : Waiter C) (ws : List (Waiter C)) → times_in w.seat vs ≡ 0 → without_all (seats_of vs) (w ∷ ws) ≡ w ∷ without_all (seats_of vs) ws
  stays_first [] w ws out = refl
  stays_first (v ∷ vs) w ws out =
      let apart = stands_not w.seat v vs out in
      ap (without_in v.seat) (stays_first vs w ws apart.1) ∙ other_stays v.seat w (without_all (seats_of vs) ws) apart.0

  first_goes : (w : Waiter C) (ws : List (Waiter C)) → times_in w.seat ws ≡ 0 → without_in w.seat (w ∷ ws) ≡ ws
  first_goes w ws out = rw (eq-eqb w.seat w.seat refl) (none_without w.seat ws out)

  -- the first goes after others did
  goes_last : (vs : List (Waiter C)) (w : Waiter C) (ws left : List (Waiter C)) → times_in w.seat vs ≡ 0 → times_in w.seat left ≡ 0 → without_all (seats_of vs) ws ≡ left → without_in w.seat (without_all (seats_of vs) (w ∷ ws)) ≡ left
  goes_last vs w ws left out gone is = ap (without_in w.seat) (stays_first vs w ws out ∙ ap (λ us. w ∷ us) is) ∙ first_goes w left gone

  -- those marked leave the others
  marked_leave : (ms : List Bool) (ws : List (Waiter C)) → IsRow ws → without_all (seats_of (marked ms ws)) ws ≡ unmarked ms ws
  marked_leave [] ws row = refl
  marked_leave (m ∷ ms) [] row = refl
  marked_leave (true ∷ ms) (w ∷ ws) row =
      let parts = times_parted ms ws w.seat in
      let own = row_own w ws row in
      goes_last (marked ms ws) w ws (unmarked ms ws) (omega (arith, parts, own)) (omega (arith, parts, own)) (marked_leave ms ws (row_rest w ws row))
  marked_leave (false ∷ ms) (w ∷ ws) row =
      stays_first (marked ms ws) w ws (omega (arith, times_parted ms ws w.seat, row_own w ws row)) ∙ ap (λ vs. w ∷ vs) (marked_leave ms ws (row_rest w ws row))

  module _ (meets : C → Bool) where
    -- which of the waiters a scan takes
    abbrev pub scan_marks : List (Waiter C) → List Bool
    scan_marks [] = []
    scan_marks (w ∷ ws) = cond (is_eligible meets w) (true ∷ cond (writes w) [] (map (goes_along meets) ws)) (false ∷ scan_marks ws)

    pub scan_is : (ws : List (Waiter C)) → (woken_of meets ws ≡ marked (scan_marks ws) ws) × (left_of meets ws ≡ unmarked (scan_marks ws) ws)
    scan_is [] = (refl, refl)
    scan_is (w ∷ ws) = elim (cases_Bool (is_eligible meets w)) [
      | inl goes ↦ elim (cases_Bool (writes w)) [
        | inl alone ↦ rw (goes, alone) (refl, refl)
        | inr reader ↦ let those = filter_marks (goes_along meets) ws in rw (goes, reader) (ap (λ vs. w ∷ vs) those.0, those.1)
      ]
      | inr stays ↦ let rest = scan_is ws in rw stays (rest.0, ap (λ vs. w ∷ vs) rest.1)
    ]

    pub woken_leave : (ws : List (Waiter C)) → IsRow ws → without_all (seats_of (woken_of meets ws)) ws ≡ left_of meets ws
    woken_leave ws row = ap (λ vs. without_all (seats_of vs) ws) (scan_is ws).0 ∙ marked_leave (scan_marks ws) ws row ∙ sym (scan_is ws).1

    -- nobody comes in
    pub times_left : (ws : List (Waiter C)) (seat : ℕ) → times_in seat (left_of meets ws) ≤ times_in seat ws
    times_left ws seat = omega (arith, ap (times_in seat) (scan_is ws).1, times_parted (scan_marks ws) ws seat)

    pub times_left_by_writer : (ws : List (Waiter C)) (seat : ℕ) → times_in seat (left_by_writer meets ws) ≤ times_in seat ws
    times_left_by_writer ws seat =
        elim (begins_with_reader (woken_of meets ws)) as (λ b. times_in seat (cond b ws (left_of meets ws)) ≤ times_in seat ws) [ true ↦ omega arith | false ↦ times_left ws seat ]
