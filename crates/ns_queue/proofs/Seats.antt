-- How often a seat stands in lists, and how many waiters a list can have.
use Rattle.std.proofs.Common.{Bool, IsTrue, List, [], ap, arith, eq-eqb, eqb, false, get_or, inl, inr, length, lt-ltb, nat_lt, ne_eqb, not, refl, sym, take, take_all, true, ℕ, ◌++◌, ◌+◌, ◌<◌, ◌==◌, ◌||◌, ◌↔◌, ◌∙◌, ◌∷◌, ◌≡◌, ◌≢◌, ◌≤◌}
use Rattle.ns_queue.proofs.Prelude.{HaveSeats, Waiter, cases_eq, cases_lt, count_by_more_no, has_some, is_of, length-le_from_distinct_below, length-map, list_any, one_if, seats_of, sum_by-append, sum_by-cons, sum_by_more_le, times_in, without_in}
use Rattle.std.specs.List.{AllByRecursion, IsDistinct}

-- a number that there is stays below what none is above
pub low_of : (n seat : ℕ) → (64 ≤ seat → n ≡ 0) → 0 < n → seat < 64
low_of n seat none some = elim (cases_lt seat 64) [ inl low ↦ low | inr high ↦ absurd (omega (arith, none high, some)) ]

-- a list that isn't empty has somebody
pub some_there : {A : Type 0} (xs : List A) → not (length xs == 0) ≡ has_some xs
some_there [] = refl
some_there (x ∷ xs) = rw (ne_eqb (length (x ∷ xs)) 0 (λ e. absurd (omega (arith, e)))) refl

-- one more, or none, and others
pub some_more : (b : Bool) (n : ℕ) → nat_lt 0 (one_if b + n) ≡ (b || nat_lt 0 n)
some_more true n = lt-ltb 0 _ (omega arith)
some_more false n = ap (nat_lt 0) (omega arith)

pub at_most_one : (b : Bool) → one_if b ≤ 1
at_most_one true = omega arith
at_most_one false = omega arith

-- one more of a number of which there was none
pub one_more : (old new : ℕ → ℕ) (s : ℕ) → ((n : ℕ) → new n ≤ old n + one_if (eqb s n)) → old s ≡ 0 → ((n : ℕ) → old n ≤ 1) → (n : ℕ) → new n ≤ 1
one_more old new s more free once n = elim (cases_eq s n) [
  | inl e ↦ omega (arith, more n, at_most_one (eqb s n), sym (ap old e) ∙ free)
  | inr ne ↦ omega (arith, more n, ap one_if (ne_eqb s n ne), once n)
]

-- and none of those above another that it is below
pub none_more : (old new : ℕ → ℕ) (s most : ℕ) → ((n : ℕ) → new n ≤ old n + one_if (eqb s n)) → s < most → ((n : ℕ) → most ≤ n → old n ≡ 0) → (n : ℕ) → most ≤ n → new n ≡ 0
none_more old new s most more low none n high = omega (arith, more n, ap one_if (ne_eqb s n (λ e. omega (arith, e, low, high))), none n high)

module _ {C : Type 0} where
  pub times_in-cons : (seat : ℕ) (w : Waiter C) (ws : List (Waiter C)) → times_in seat (w ∷ ws) ≡ one_if (eqb w.seat seat) + times_in seat ws
  times_in-cons seat w ws = sum_by-cons (λ v. one_if (eqb v.seat seat)) w ws

  pub times_in-append : (seat : ℕ) (ws vs : List (Waiter C)) → times_in seat (ws ++ vs) ≡ times_in seat ws + times_in seat vs
  times_in-append seat ws vs = sum_by-append (λ v. one_if (eqb v.seat seat)) ws vs

  pub times_in_push : (ws : List (Waiter C)) (w : Waiter C) (seat : ℕ) → times_in seat (ws ++ w ∷ []) ≡ times_in seat ws + one_if (eqb w.seat seat)
  times_in_push ws w seat = omega (arith, times_in-append seat ws (w ∷ []), times_in-cons seat w [])

  -- the first waiter's seat stands there once more than behind it
  pub own_times : (w : Waiter C) (ws : List (Waiter C)) → times_in w.seat (w ∷ ws) ≡ 1 + times_in w.seat ws
  own_times w ws = let one = ap one_if (eq-eqb w.seat w.seat refl) in omega (arith, times_in-cons w.seat w ws, one)

  -- a list without one who doesn't stand in it
  pub none_without : (seat : ℕ) (ws : List (Waiter C)) → times_in seat ws ≡ 0 → without_in seat ws ≡ ws
  none_without seat [] none = refl
  none_without seat (w ∷ ws) none =
      let sum = times_in-cons seat w ws in
      elim (cases_eq w.seat seat) [
        | inl same ↦ let one = ap one_if (eq-eqb w.seat seat same) in absurd (omega (arith, sum, one, none))
        | inr other ↦ rw (ne_eqb w.seat seat other) (ap (λ vs. w ∷ vs) (none_without seat ws (omega (arith, sum, none))))
      ]

  -- ---- a pass along a list that looks for a seat

  pub found_in : (ws : List (Waiter C)) (i : ℕ) (w : Waiter C) (seat : ℕ) → i < length ws → w ≡ get_or ws i w → w.seat ≡ seat → 0 < times_in seat ws
  found_in ws i w seat within is here =
      let one : one_if (is_of seat (get_or ws i w)) ≡ 1 = rw (← is) (rw (eq-eqb w.seat seat here) refl) in
      omega (arith, one, sum_by_more_le (λ (v : Waiter C). one_if (is_of seat v)) ws i w within)

  pub not_here : (ws : List (Waiter C)) (i : ℕ) (w : Waiter C) (seat : ℕ) → i < length ws → w ≡ get_or ws i w → w.seat ≢ seat → times_in seat (take i ws) ≡ 0 → times_in seat (take (i + 1) ws) ≡ 0
  not_here ws i w seat within is other before =
      count_by_more_no (is_of seat) ws i w within (rw (← is) (ne_eqb w.seat seat other)) ∙ before

  -- at the end of the list
  pub nowhere_in : (ws : List (Waiter C)) (i seat : ℕ) → length ws ≤ i → times_in seat (take i ws) ≡ 0 → IsTrue false ↔ (0 < times_in seat ws)
  nowhere_in ws i seat over before =
      let none : times_in seat ws ≡ 0 = sym (ap (times_in seat) (take_all i ws over)) ∙ before in
      (λ is. absurd (cc), λ some. absurd (omega (arith, none, some)))

  -- ---- how many there are

  apart : (seat : ℕ) (ws : List (Waiter C)) → times_in seat ws ≡ 0 → AllByRecursion (λ n. eqb seat n ≡ false) (seats_of ws)
  apart seat [] none = tt
  apart seat (w ∷ ws) none = elim (cases_eq seat w.seat) [
    | inl e ↦ absurd (omega (arith, none, times_in-cons seat w ws, ap one_if (eq-eqb w.seat seat (sym e))))
    | inr ne ↦ (ne_eqb seat w.seat ne, apart seat ws (omega (arith, none, times_in-cons seat w ws)))
  ]

  distinct : (ws : List (Waiter C)) → ((seat : ℕ) → times_in seat ws ≤ 1) → IsDistinct eqb (seats_of ws)
  unfolding IsDistinct
  distinct [] once = tt
  distinct (w ∷ ws) once = (apart w.seat ws (omega (arith, once w.seat, own_times w ws)), distinct ws (λ seat. omega (arith, once seat, times_in-cons seat w ws)))

  stands : (seat : ℕ) (ws : List (Waiter C)) → list_any (eqb seat) (seats_of ws) ≡ true → 1 ≤ times_in seat ws
  stands seat [] is = absurd (cc)
  stands seat (w ∷ ws) is = elim (cases_eq seat w.seat) [
    | inl e ↦ omega (arith, times_in-cons seat w ws, ap one_if (eq-eqb w.seat seat (sym e)))
    | inr ne ↦ omega (arith, times_in-cons seat w ws, stands seat ws (rw (ne_eqb seat w.seat ne) at is))
  ]

  -- a list of distinct numbers below n has at most n of them
  pub few : (n : ℕ) (ws : List (Waiter C)) → ((seat : ℕ) → times_in seat ws ≤ 1) → ((seat : ℕ) → n ≤ seat → times_in seat ws ≡ 0) → length ws ≤ n
  few n ws once below =
      let low : (seat : ℕ) → list_any (eqb seat) (seats_of ws) ≡ true → seat < n = λ seat is. elim (cases_lt seat n) [ inl lt ↦ lt | inr high ↦ absurd (omega (arith, stands seat ws is, below seat high)) ] in
      omega (arith, length-le_from_distinct_below (seats_of ws) n (distinct ws once) low, length-map ws (λ w. w.seat))

  -- so one that lacks a number below n has room
  pub room_for : (n : ℕ) (ws : List (Waiter C)) (w : Waiter C) → ((seat : ℕ) → times_in seat ws ≤ 1) → ((seat : ℕ) → n ≤ seat → times_in seat ws ≡ 0) → w.seat < n → times_in w.seat ws ≡ 0 → length ws < n
  room_for n ws w once below low free =
      let more : (seat : ℕ) → times_in seat (w ∷ ws) ≤ times_in seat ws + one_if (eqb w.seat seat) = λ seat. omega (arith, times_in-cons seat w ws) in
      let most = few n (w ∷ ws) (one_more (λ s. times_in s ws) (λ s. times_in s (w ∷ ws)) w.seat more free once) (none_more (λ s. times_in s ws) (λ s. times_in s (w ∷ ws)) w.seat n more low below) in
      omega (arith, most)

  -- a seat that stands somewhere is below 64, where nobody's is above
  pub stands_low : (s : ℕ) (ws : List (Waiter C)) → HaveSeats ws → 1 ≤ times_in s ws → s < 64
  stands_low s ws below here = low_of (times_in s ws) s (below s) here
