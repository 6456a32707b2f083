-- What a wake takes of a list, and what it leaves there.
use Rattle.std.proofs.Common.{List, Some, [], ap, arith, eq-eqb, eqb, false, get_or, inl, inr, le-ltb, length, lt-ltb, ltb-true, nat_lt, ne_eqb, refl, subst, sym, take, true, ℕ, ◌+◌, ◌<◌, ◌||◌, ◌∙◌, ◌∷◌, ◌≡◌, ◌≤◌}
use Rattle.ns_queue.proofs.Prelude.{Anybody, Every, HaveSeats, Seats, Waiter, cases_eq, in_more, is_in, none_in, one_if, or_comm, same_seats, seats_of, signal_marks, signaled_of, sole_of, take_more, taken_set, times_in, unsignaled_of}
use Rattle.ns_queue.proofs.Bases.{every_marked, found_in, signal_parts, some_more, stands_low, times_in-cons, times_in_push, times_parted}

module _ {C : Type 0} where
  -- a signal takes some and leaves the others
  pub times_signaled : (ws : List (Waiter C)) (seat : ℕ) → times_in seat (signaled_of ws) + times_in seat (unsignaled_of ws) ≡ times_in seat ws
  times_signaled ws seat = rw (← (signal_parts ws).0, ← (signal_parts ws).1) (times_parted (signal_marks Anybody ws) ws seat)

  -- whom a signal takes stands there once, where nobody stands in the list twice
  pub once_signaled : (ws : List (Waiter C)) → ((seat : ℕ) → times_in seat ws ≤ 1) → (seat : ℕ) → times_in seat (signaled_of ws) ≤ 1
  once_signaled ws once seat = omega (arith, times_signaled ws seat, once seat)

  -- and has a seat below 64, where everybody in the list has
  pub below_signaled : (ws : List (Waiter C)) → HaveSeats ws → HaveSeats (signaled_of ws)
  below_signaled ws below seat high = omega (arith, times_signaled ws seat, below seat high)

module _ {C : Type 0} (P : Waiter C → Type 0) where
  -- what holds of each waiter holds of those whom a signal takes
  pub every_signaled : (ws : List (Waiter C)) → Every P ws → Every P (signaled_of ws)
  every_signaled ws p = rw (← (signal_parts ws).0) (every_marked P (signal_marks Anybody ws) ws p)

-- ---- the set of those taken

same_either : (a b : ℕ) → eqb a b ≡ eqb b a
same_either a b = elim (cases_eq a b) [ inl e ↦ eq-eqb a b e ∙ sym (eq-eqb b a (sym e)) | inr ne ↦ ne_eqb a b ne ∙ sym (ne_eqb b a (λ e. ne (sym e))) ]

module _ {C : Type 0} where
  -- a seat is in the set just where it stands in the list
  pub in_taken : (ws : List (Waiter C)) (seat : ℕ) → is_in (taken_set ws) seat ≡ nat_lt 0 (times_in seat ws)
  in_taken [] seat = none_in seat
  in_taken (w ∷ ws) seat = rw (in_more w.seat (seats_of ws) seat, in_taken ws seat, times_in-cons seat w ws) (sym (some_more (eqb w.seat seat) (times_in seat ws)))

  -- who stands in the list is in the set
  pub in_list : (ws : List (Waiter C)) (seat : ℕ) → 1 ≤ times_in seat ws → is_in (taken_set ws) seat ≡ true
  in_list ws seat here = in_taken ws seat ∙ lt-ltb 0 (times_in seat ws) here

  -- who doesn't stand in the list isn't in the set
  pub not_in_list : (ws : List (Waiter C)) (seat : ℕ) → times_in seat ws ≡ 0 → is_in (taken_set ws) seat ≡ false
  not_in_list ws seat none = in_taken ws seat ∙ le-ltb 0 (times_in seat ws) (omega (arith, none))

  -- who is in the set stands in the list
  pub in_stands : (ws : List (Waiter C)) (seat : ℕ) → is_in (taken_set ws) seat ≡ true → 1 ≤ times_in seat ws
  in_stands ws seat is = ltb-true 0 (times_in seat ws) (sym (in_taken ws seat) ∙ is)

  -- a waiter of the list has a seat below 64
  pub low_at : (ws : List (Waiter C)) (i : ℕ) (w : Waiter C) → HaveSeats ws → i < length ws → w ≡ get_or ws i w → w.seat < 64
  low_at ws i w low within is = stands_low w.seat ws low (found_in ws i w w.seat within is refl)

  count_on : (ws : List (Waiter C)) (i : ℕ) (w : Waiter C) (n : ℕ) → i < length ws → w ≡ get_or ws i w → times_in n (take (i + 1) ws) ≡ one_if (eqb n w.seat) + times_in n (take i ws)
  count_on ws i w n within is =
      let here = ap (λ v. one_if (eqb v.seat n)) is in
      omega (arith, ap (times_in n) (take_more ws i w within), times_in_push (take i ws) (get_or ws i w) n, here, ap one_if (same_either n w.seat))

  -- the set so far, and one waiter more
  pub set_more : (ws : List (Waiter C)) (i : ℕ) (w : Waiter C) (old new : Seats) → i < length ws → w ≡ get_or ws i w → ((n : ℕ) → is_in new n ≡ (is_in old n || eqb n w.seat)) →
      ((n : ℕ) → is_in old n ≡ nat_lt 0 (times_in n (take i ws))) → (n : ℕ) → is_in new n ≡ nat_lt 0 (times_in n (take (i + 1) ws))
  set_more ws i w old new within is more before n =
      more n ∙ or_comm (is_in old n) (eqb n w.seat) ∙ rw (before n, count_on ws i w n within is) (sym (some_more (eqb n w.seat) (times_in n (take i ws))))

  -- a set that has just those who stand in the list is its set
  pub set_whole : (ws : List (Waiter C)) (set : Seats) → ((n : ℕ) → is_in set n ≡ nat_lt 0 (times_in n ws)) → set ≡ taken_set ws
  set_whole ws set each = same_seats set (taken_set ws) (λ n. each n ∙ sym (in_taken ws n))

  -- ---- the only one of a list

  -- it is the whole list
  pub sole_is : (ws : List (Waiter C)) (w : Waiter C) → sole_of ws ≡ Some w → ws ≡ w ∷ []
  sole_is [] w is = absurd (cc)
  sole_is (v ∷ []) w is = let same : v ≡ w = cc in ap (λ u. u ∷ []) same
  sole_is (v ∷ u ∷ ws) w is = absurd (cc)

  -- it has a seat below 64, where everybody in the list has
  pub sole_low : (ws : List (Waiter C)) (w : Waiter C) → HaveSeats ws → sole_of ws ≡ Some w → w.seat < 64
  sole_low ws w low is = low_at (w ∷ []) 0 w (subst HaveSeats (sole_is ws w is) low) (omega arith) refl

  -- a set of its seat alone is the set of the list
  pub set_sole : (ws : List (Waiter C)) (w : Waiter C) (none set : Seats) → sole_of ws ≡ Some w → ((n : ℕ) → is_in none n ≡ false) → ((n : ℕ) → is_in set n ≡ (is_in none n || eqb n w.seat)) → set ≡ taken_set ws
  set_sole ws w none set is empty more = set_whole (w ∷ []) set (set_more (w ∷ []) 0 w none set (omega arith) refl more empty) ∙ ap taken_set (sym (sole_is ws w is))
