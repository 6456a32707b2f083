-- Lists without the seats of a set.
use Rattle.std.proofs.Common.{Bool, List, [], ap, arith, drop, eqb, false, get_or, inl, inr, length, lt-ltb, map, nat_lt, ne_eqb, not, refl, set, sym, take, true, ℕ, ◌++◌, ◌+◌, ◌<◌, ◌||◌, ◌∙◌, ◌∷◌, ◌≡◌, ◌≢◌, ◌≤◌}
use Rattle.ns_queue.proofs.Prelude.{cases_Bool, Anybody, ArrayVec, Cv, HaveSeats, IsOrderly, Lists, Seats, Waiter, cases_lt, cvs_without, get_or-le-sum_by, get_or-map, is_in, length-map, marked, one_if, outside, signal_marks, signaled_of, sum_by, sum_by-append, sum_by-cons, sum_by-take-drop}
use Rattle.ns_queue.proofs.Prelude.{taken_set, times, times_in, unmarked, unsignaled_of, waiters_of, without, without_in}
use Rattle.ns_queue.proofs.Bases.{drop_step, low_of, orderly_less, own_times, shape, signal_parts, times_in-cons, times_in-filter, times_parted}
use Rattle.ns_queue.proofs.Taken.{in_list, in_taken}

module _ {C : Type 0} (set : Seats) where
  -- nobody stands there more often
  pub times_outside : (ws : List (Waiter C)) (seat : ℕ) → times_in seat (outside set ws) ≤ times_in seat ws
  times_outside ws seat = times_in-filter (λ w. not (is_in set w.seat)) ws seat

  pub sums_outside : (vs : List (List (Waiter C))) (seat : ℕ) → sum_by (times_in seat) (map (outside set) vs) ≤ sum_by (times_in seat) vs
  sums_outside [] seat = omega arith
  sums_outside (v ∷ vs) seat =
      omega (arith, sum_by-cons (times_in seat) v vs, sum_by-cons (times_in seat) (outside set v) (map (outside set) vs), sums_outside vs seat, times_outside v seat)

  -- a list in which none of the set stands
  pub none_outside : (ws : List (Waiter C)) → ((seat : ℕ) → is_in set seat ≡ true → times_in seat ws ≡ 0) → outside set ws ≡ ws
  none_outside [] none = refl
  none_outside (w ∷ ws) none = elim (cases_Bool (is_in set w.seat)) [
    | inl out ↦ absurd (omega (arith, none w.seat out, own_times w ws))
    | inr stays ↦ rw stays (ap (λ vs. w ∷ vs) (none_outside ws (λ seat is. omega (arith, none seat is, times_in-cons seat w ws))))
  ]

  -- one in which only those of the set stand
  pub all_outside : (ws : List (Waiter C)) → ((seat : ℕ) → 1 ≤ times_in seat ws → is_in set seat ≡ true) → outside set ws ≡ []
  all_outside [] all = refl
  all_outside (w ∷ ws) all = rw (all w.seat (omega (arith, own_times w ws))) (all_outside ws (λ seat here. all seat (omega (arith, here, times_in-cons seat w ws))))

  -- one of whose waiters just the marked are of the set
  marked_outside : (ms : List Bool) (ws : List (Waiter C)) → ((seat : ℕ) → times_in seat ws ≤ 1) → ((seat : ℕ) → 1 ≤ times_in seat ws → is_in set seat ≡ nat_lt 0 (times_in seat (marked ms ws))) → outside set ws ≡ unmarked ms ws
  marked_outside [] ws once is = none_outside ws (λ seat in_it. elim (cases_lt 0 (times_in seat ws)) [
    | inl here ↦ let both = sym in_it ∙ is seat here in absurd (cc)
    | inr none ↦ omega (arith, none)
  ])
  marked_outside (m ∷ ms) [] once is = refl
  marked_outside (true ∷ ms) (w ∷ ws) once is =
      rw (is w.seat (omega (arith, own_times w ws)) ∙ lt-ltb 0 _ (omega (arith, own_times w (marked ms ws))))
      (marked_outside ms ws (λ seat. omega (arith, once seat, times_in-cons seat w ws))
      (λ seat here. is seat (omega (arith, here, times_in-cons seat w ws)) ∙ ap (nat_lt 0) (let most = once seat in omega (arith, here, most, times_in-cons seat w ws, times_in-cons seat w (marked ms ws)))))
  marked_outside (false ∷ ms) (w ∷ ws) once is =
      let none : times_in w.seat (marked ms ws) ≡ 0 = omega (arith, once w.seat, own_times w ws, times_parted ms ws w.seat) in
      rw (is w.seat (omega (arith, own_times w ws)) ∙ ap (nat_lt 0) none)
      (ap (λ vs. w ∷ vs) (marked_outside ms ws (λ seat. omega (arith, once seat, times_in-cons seat w ws)) (λ seat here. is seat (omega (arith, here, times_in-cons seat w ws)))))

module _ {C : Type 0} where
  -- a signal leaves those of the list whom it doesn't take
  pub signal_outside : (ws : List (Waiter C)) → ((seat : ℕ) → times_in seat ws ≤ 1) → outside (taken_set (signaled_of ws)) ws ≡ unsignaled_of ws
  signal_outside ws once =
      marked_outside (taken_set (signaled_of ws)) (signal_marks Anybody ws) ws once (λ seat here. in_taken (signaled_of ws) seat ∙ ap (λ (vs : List (Waiter C)). nat_lt 0 (times_in seat vs)) (sym (signal_parts ws).0)) ∙ (signal_parts ws).1

  -- a broadcast leaves nobody there
  pub broadcast_outside : (ws : List (Waiter C)) → outside (taken_set ws) ws ≡ []
  broadcast_outside ws = all_outside (taken_set ws) ws (λ seat here. in_list ws seat here)

  -- none of the set is left
  pub gone_outside : (set : Seats) (ws : List (Waiter C)) (seat : ℕ) → is_in set seat ≡ true → times_in seat (outside set ws) ≡ 0
  gone_outside set [] seat is = omega arith
  gone_outside set (w ∷ ws) seat is = let rest = gone_outside set ws seat is in elim (cases_Bool (is_in set w.seat)) [
    | inl out ↦ rw out rest
    | inr stays ↦
        let other : w.seat ≢ seat = λ same. (let both : true ≡ false = sym is ∙ (ap (is_in set) (sym same) ∙ stays) in absurd (cc)) in
        rw stays (omega (arith, times_in-cons seat w (outside set ws), rest, ap one_if (ne_eqb w.seat seat other)))
  ]

  pub gone_each : (set : Seats) (lists : List (List (Waiter C))) (seat : ℕ) → is_in set seat ≡ true → sum_by (times_in seat) (map (outside set) lists) ≡ 0
  gone_each set [] seat is = omega arith
  gone_each set (ws ∷ lists) seat is = omega (arith, sum_by-cons (times_in seat) (outside set ws) (map (outside set) lists), gone_outside set ws seat is, gone_each set lists seat is)

  -- a set of one seat
  pub one_outside : (set : Seats) (out : ℕ) (ws : List (Waiter C)) → ((n : ℕ) → is_in set n ≡ eqb n out) → outside set ws ≡ without_in out ws
  one_outside set out [] is = refl
  one_outside set out (w ∷ ws) is = rw (is w.seat, one_outside set out ws is) refl

  pub each_outside : (set : Seats) (out : ℕ) (lists : List (List (Waiter C))) → ((n : ℕ) → is_in set n ≡ eqb n out) → map (outside set) lists ≡ map (without_in out) lists
  each_outside set out [] is = refl
  each_outside set out (ws ∷ lists) is = rw (one_outside set out ws is, each_outside set out lists is) refl

  pub without_one : (lists : Lists C) (lock : List (Waiter C)) (seat : ℕ) (none set : Seats) → ((n : ℕ) → is_in none n ≡ false) → ((n : ℕ) → is_in set n ≡ (is_in none n || eqb n seat)) → lock ≡ without_in seat lists.lock →
      cvs_without set (record { lock = lock; cvs = lists.cvs }) ≡ without seat lists
  without_one lists lock seat none set empty more is = rw (is, each_outside set seat lists.cvs (λ n. more n ∙ ap (λ b. b || eqb n seat) (empty n))) refl

  -- who stands at a place that is as it was has a seat
  pub place_low : (xs ys : List (Waiter C)) (i : ℕ) (w : Waiter C) → HaveSeats xs → drop i ys ≡ drop i xs → i < length ys → get_or ys i w ≡ w → w.seat < 64
  place_low xs ys i w below same within is =
      let rest : drop i xs ≡ w ∷ drop (i + 1) ys = sym same ∙ drop_step ys i w w within is in
      low_of (times_in w.seat xs) w.seat (below w.seat) (omega (arith, sum_by-take-drop (λ v. one_if (eqb v.seat w.seat)) xs i, ap (times_in w.seat) rest, own_times w (drop (i + 1) ys)))

  -- ---- the lists

  -- the lists, those of variables without a set
  pub orderly_outside : (lock : List (Waiter C)) (cvs cvs' : List (ArrayVec (Waiter C))) (set : Seats) → IsOrderly (shape lock cvs) → map (λ u. u.items) cvs' ≡ map (outside set) (map (λ u. u.items) cvs) → IsOrderly (shape lock cvs')
  orderly_outside lock cvs cvs' set orderly are =
      let items : List (List (Waiter C)) = map (λ (u : ArrayVec (Waiter C)). u.items) cvs in
      let at : (k : ℕ) → k < 4 → waiters_of (shape lock cvs') (Cv k) ≡ outside set (waiters_of (shape lock cvs) (Cv k)) = λ k low. ap (λ (vs : List (List (Waiter C))). get_or vs k []) are ∙ get_or-map (outside set) items k [] [] (omega (arith, orderly.four, low)) in
      orderly_less (shape lock cvs) (shape lock cvs') orderly (rw (are, length-map) orderly.four)
      (λ seat k low. omega (arith, ap (times_in seat) (at k low), times_outside set (waiters_of (shape lock cvs) (Cv k)) seat))
      (λ seat. omega (arith, ap (sum_by (times_in seat)) are, sums_outside set items seat))

  -- their lists of variables have seats
  pub all_below : (lock : List (Waiter C)) (cvs : List (ArrayVec (Waiter C))) → IsOrderly (shape lock cvs) → (seat : ℕ) → 64 ≤ seat → sum_by (times_in seat) (map (λ u. u.items) cvs) ≡ 0
  all_below lock cvs orderly seat high = omega (arith, orderly.below seat high)

  -- and so has each of them, where one after the other is left by the set
  pub next_below : (olds nows : List (ArrayVec (Waiter C))) (i : ℕ) (d : ArrayVec (Waiter C)) (set : Seats) → ((seat : ℕ) → 64 ≤ seat → sum_by (times_in seat) (map (λ u. u.items) olds) ≡ 0) → i < length olds → length nows ≡ length olds →
      map (λ u. u.items) nows ≡ map (outside set) (take i (map (λ u. u.items) olds)) ++ drop i (map (λ u. u.items) olds) → HaveSeats (get_or nows i d).items
  next_below olds nows i d set none within same before seat high =
      let items : ArrayVec (Waiter C) → List (Waiter C) = λ u. u.items in
      let whole : List (List (Waiter C)) = map items olds in
      let at : (get_or nows i d).items ≡ get_or (map items nows) i [] = sym (get_or-map items nows i d [] (omega (arith, within, same))) in
      let part = get_or-le-sum_by (times_in seat) (map items nows) i [] (rw length-map (omega (arith, within, same))) in
      let sum : sum_by (times_in seat) (map items nows) ≡ sum_by (times_in seat) (map (outside set) (take i whole)) + sum_by (times_in seat) (drop i whole) = ap (sum_by (times_in seat)) before ∙ sum_by-append (times_in seat) (map (outside set) (take i whole)) (drop i whole) in
      let both : sum_by (times_in seat) (take i whole) + sum_by (times_in seat) (drop i whole) ≡ sum_by (times_in seat) whole = sum_by-take-drop (times_in seat) whole i in
      omega (arith, ap (times_in seat) at, part, sum, both, sums_outside set (take i whole) seat, none seat high)

  -- those whom a wake takes from a variable's list stand nowhere then
  pub gone_those : (lists : Lists C) (k : ℕ) (taken : List (Waiter C)) → IsOrderly lists → k < 4 → ((seat : ℕ) → times_in seat taken ≤ times_in seat (waiters_of lists (Cv k))) → (seat : ℕ) → 1 ≤ times_in seat taken → times seat (cvs_without (taken_set taken) lists) ≡ 0
  gone_those lists k taken orderly low part seat here = omega (arith, gone_each (taken_set taken) lists.cvs seat (in_list taken seat here), here, part seat, orderly.once seat k low)

  -- ---- where nobody stands in more than one list

  -- lists in which none of the set stands
  pub same_each : (set : Seats) (lists : List (List (Waiter C))) → ((seat : ℕ) → is_in set seat ≡ true → sum_by (times_in seat) lists ≡ 0) → map (outside set) lists ≡ lists
  same_each set [] none = refl
  same_each set (ws ∷ lists) none =
      rw (none_outside set ws (λ seat is. omega (arith, none seat is, sum_by-cons (times_in seat) ws lists)), same_each set lists (λ seat is. omega (arith, none seat is, sum_by-cons (times_in seat) ws lists))) refl
