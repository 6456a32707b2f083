-- How often a seat counts in the lists, where these change.
use Rattle.std.proofs.Common.{Bool, List, [], ap, arith, eqb, false, get_or, inl, inr, length, lt-ltb, ltb, map, ne_eqb, refl, suc, sym, true, ℕ, ◌+◌, ◌<◌, ◌∷◌, ◌≡◌, ◌≢◌, ◌≤◌}
use Rattle.ns_word.proofs.Prelude.{Cv, Lists, Seats, Waiter, cases_eq, counts_in, cvs_without, get_or-le-sum_by, get_or-map, gone_each, in_list, is_in, lists_without, moved_to, none_without, not_in_list, one_if, outside, sum_by, sum_by-cons, taken_set, times, times_in, times_in-cons, times_outside}
use Rattle.ns_word.proofs.Prelude.{waiters_of, with_lock, without, without_in, ◌∙◌}
use Rattle.ns_word.proofs.Scans.{times_others, times_without}

-- ---- whether there is one

pub some_one : (n : ℕ) → 1 ≤ n → one_if (ltb 0 n) ≡ 1
some_one n some = ap one_if (lt-ltb 0 n some)

pub none_one : (n : ℕ) → n ≡ 0 → one_if (ltb 0 n) ≡ 0
none_one n none = ap (λ m. one_if (ltb 0 m)) none

one_none : (n : ℕ) → one_if (ltb 0 n) ≡ 0 → n ≡ 0
one_none n e = elim (cases_eq n 0) [
  | inl none ↦ none
  | inr some ↦ let one = some_one n (omega (arith, some)) in absurd (omega (arith, e, one))
]

module _ {C : Type 0} where
  -- a seat stands once at most in each list of a variable
  abbrev pub OnceInEach : Lists C → Type 0
  OnceInEach lists = (seat k : ℕ) → k < 4 → times_in seat (waiters_of lists (Cv k)) ≤ 1

  -- who counts nowhere stands nowhere
  pub counts_none : (seat : ℕ) (lists : Lists C) → counts_in seat lists ≡ 0 → times seat lists ≡ 0
  counts_none seat lists e = let none = one_none (sum_by (times_in seat) lists.cvs) (omega (arith, e)) in omega (arith, none, e)

  -- who stands in a variable's list counts for that
  pub counts_there : (seat k : ℕ) (lists : Lists C) → length lists.cvs ≡ 4 → k < 4 → 1 ≤ times_in seat (waiters_of lists (Cv k)) → counts_in seat lists ≡ times_in seat lists.lock + 1
  counts_there seat k lists four low here =
      let part = get_or-le-sum_by (times_in seat) lists.cvs k [] (omega (arith, four, low)) in
      let one = some_one (sum_by (times_in seat) lists.cvs) (omega (arith, part, here)) in omega (arith, one)

  -- who stands in some variable's list
  pub counts_somewhere : (seat : ℕ) (lists : Lists C) → 1 ≤ sum_by (times_in seat) lists.cvs → counts_in seat lists ≡ times_in seat lists.lock + 1
  counts_somewhere seat lists some = let one = some_one (sum_by (times_in seat) lists.cvs) some in omega (arith, one)

  list_of : (seat : ℕ) (cvs : List (List (Waiter C))) → 1 ≤ sum_by (times_in seat) cvs → (k : ℕ) × (k < length cvs) × (1 ≤ times_in seat (get_or cvs k []))
  list_of seat [] some = absurd (omega (arith, some))
  list_of seat (ws ∷ cvs) some = elim (cases_eq (times_in seat ws) 0) [
    | inl none ↦ let rest = list_of seat cvs (omega (arith, some, none, sum_by-cons (times_in seat) ws cvs)) in (suc rest.0, omega (arith, rest.1), rest.2)
    | inr here ↦ (0, omega arith, omega (arith, here))
  ]

  -- there is a list that it stands in
  pub some_list : (seat : ℕ) (lists : Lists C) → length lists.cvs ≡ 4 → 1 ≤ sum_by (times_in seat) lists.cvs → (k : ℕ) × (k < 4) × (1 ≤ times_in seat (waiters_of lists (Cv k)))
  some_list seat lists four some = let one = list_of seat lists.cvs some in (one.0, omega (arith, one.1, four), one.2)

  -- another lock list
  pub counts_lock : (lists : Lists C) (lock : List (Waiter C)) (seat : ℕ) → counts_in seat (with_lock lists lock) + times_in seat lists.lock ≡ counts_in seat lists + times_in seat lock
  counts_lock lists lock seat = omega arith

  -- ---- one that leaves

  -- the lists with one seat out of those of variables
  abbrev pub cvs_left : ℕ → Lists C → Lists C
  cvs_left who lists = record { lock = lists.lock; cvs = map (without_in who) lists.cvs }

  pub gone_from : (who : ℕ) (cvs : List (List (Waiter C))) → sum_by (times_in who) (map (without_in who) cvs) ≡ 0
  gone_from who [] = refl
  gone_from who (ws ∷ cvs) = omega (arith, sum_by-cons (times_in who) (without_in who ws) (map (without_in who) cvs), times_without who ws, gone_from who cvs)

  kept_from : (seat who : ℕ) (cvs : List (List (Waiter C))) → who ≢ seat → sum_by (times_in seat) (map (without_in who) cvs) ≡ sum_by (times_in seat) cvs
  kept_from seat who [] ne = refl
  kept_from seat who (ws ∷ cvs) ne = omega (arith, sum_by-cons (times_in seat) (without_in who ws) (map (without_in who) cvs), sum_by-cons (times_in seat) ws cvs, times_others seat who ws ne, kept_from seat who cvs ne)

  pub left_at : (who k : ℕ) (lists : Lists C) → length lists.cvs ≡ 4 → k < 4 → waiters_of (cvs_left who lists) (Cv k) ≡ without_in who (waiters_of lists (Cv k))
  left_at who k lists four low = get_or-map (without_in who) lists.cvs k [] [] (omega (arith, four, low))

  pub counts_gone : (who : ℕ) (lists : Lists C) → counts_in who (cvs_left who lists) ≡ times_in who lists.lock
  counts_gone who lists = let none = none_one (sum_by (times_in who) (map (without_in who) lists.cvs)) (gone_from who lists.cvs) in omega (arith, none)

  pub counts_others : (seat who : ℕ) (lists : Lists C) → who ≢ seat → counts_in seat (cvs_left who lists) ≡ counts_in seat lists
  counts_others seat who lists ne = ap (λ n. times_in seat lists.lock + one_if (ltb 0 n)) (kept_from seat who lists.cvs ne)

  -- one that leaves stood in the lock list alone, or in none but those of variables
  pub out_of_lock : (who : ℕ) (lists : Lists C) → counts_in who lists ≤ 1 → 1 ≤ times_in who lists.lock → without who lists ≡ with_lock lists (without_in who lists.lock)
  out_of_lock who lists most stood = let none = one_none (sum_by (times_in who) lists.cvs) (omega (arith, most, stood)) in λ i. record { lock = without_in who lists.lock; cvs = lists_without who lists.cvs none i }

  pub out_of_cvs : (who : ℕ) (lists : Lists C) → times_in who lists.lock ≡ 0 → without who lists ≡ cvs_left who lists
  out_of_cvs who lists none = λ i. record { lock = none_without who lists.lock none i; cvs = map (without_in who) lists.cvs }

  pub once_left : (who : ℕ) (lists : Lists C) → length lists.cvs ≡ 4 → OnceInEach lists → OnceInEach (cvs_left who lists)
  once_left who lists four once seat k low = elim (cases_eq who seat) [
    | inl e ↦ let gone : times_in seat (without_in who (waiters_of lists (Cv k))) ≡ 0 = ap (λ s. times_in s (without_in who (waiters_of lists (Cv k)))) (sym e) ∙ times_without who (waiters_of lists (Cv k)) in omega (arith, ap (times_in seat) (left_at who k lists four low), gone)
    | inr ne ↦ omega (arith, ap (times_in seat) (left_at who k lists four low), times_others seat who (waiters_of lists (Cv k)) ne, once seat k low)
  ]

  -- ---- some who are taken

  pub outside_same : (set : Seats) (ws : List (Waiter C)) (seat : ℕ) → is_in set seat ≡ false → times_in seat (outside set ws) ≡ times_in seat ws
  outside_same set [] seat out = refl
  outside_same set (w ∷ ws) seat out = go (is_in set w.seat) refl (outside_same set ws seat out) where
    go : (b : Bool) → is_in set w.seat ≡ b → times_in seat (outside set ws) ≡ times_in seat ws → times_in seat (outside set (w ∷ ws)) ≡ times_in seat (w ∷ ws)
    go true e rest =
        let other : one_if (eqb w.seat seat) ≡ 0 = elim (cases_eq w.seat seat) [
          | inl same ↦ let both : true ≡ false = sym e ∙ (ap (is_in set) same ∙ out) in absurd (cc)
          | inr ne ↦ ap one_if (ne_eqb w.seat seat ne)
        ] in
        rw e (omega (arith, rest, times_in-cons seat w ws, other))
    go false e rest = rw e (omega (arith, rest, times_in-cons seat w ws, times_in-cons seat w (outside set ws)))

  sums_same : (set : Seats) (cvs : List (List (Waiter C))) (seat : ℕ) → is_in set seat ≡ false → sum_by (times_in seat) (map (outside set) cvs) ≡ sum_by (times_in seat) cvs
  sums_same set [] seat out = refl
  sums_same set (ws ∷ cvs) seat out = omega (arith, sum_by-cons (times_in seat) (outside set ws) (map (outside set) cvs), sum_by-cons (times_in seat) ws cvs, outside_same set ws seat out, sums_same set cvs seat out)

  pub taken_at : (set : Seats) (k : ℕ) (lists : Lists C) → length lists.cvs ≡ 4 → k < 4 → waiters_of (cvs_without set lists) (Cv k) ≡ outside set (waiters_of lists (Cv k))
  taken_at set k lists four low = get_or-map (outside set) lists.cvs k [] [] (omega (arith, four, low))

  -- who is moved to the lock list changes no variable's
  pub moved_at : (held : Bool) (taken : List (Waiter C)) (lists : Lists C) (k : ℕ) → waiters_of (moved_to held taken lists) (Cv k) ≡ waiters_of lists (Cv k)
  moved_at true taken lists k = refl
  moved_at false taken lists k = refl

  pub once_taken : (set : Seats) (lists : Lists C) → length lists.cvs ≡ 4 → OnceInEach lists → OnceInEach (cvs_without set lists)
  once_taken set lists four once seat k low = omega (arith, ap (times_in seat) (taken_at set k lists four low), times_outside set (waiters_of lists (Cv k)) seat, once seat k low)

  -- those who are taken from one list count no more, and the others as before
  pub counts_taken : (took : List (Waiter C)) (k : ℕ) (lists : Lists C) (seat : ℕ) → length lists.cvs ≡ 4 → k < 4 → OnceInEach lists → times_in seat took ≤ times_in seat (waiters_of lists (Cv k)) → counts_in seat (cvs_without (taken_set took) lists) + times_in seat took ≡ counts_in seat lists
  counts_taken took k lists seat four low once part = elim (cases_eq (times_in seat took) 0) [
    | inl none ↦ let same : ◌≡◌ {A = ℕ} (one_if (ltb 0 (sum_by (times_in seat) (map (outside (taken_set took)) lists.cvs)))) (one_if (ltb 0 (sum_by (times_in seat) lists.cvs))) = ap
        (λ n. one_if (ltb 0 n)) (sums_same (taken_set took) lists.cvs seat (not_in_list took seat none)) in omega (arith, none, same)
    | inr some ↦
        let gone = none_one (sum_by (times_in seat) (map (outside (taken_set took)) lists.cvs)) (gone_each (taken_set took) lists.cvs seat (in_list took seat (omega (arith, some)))) in
        let there = counts_there seat k lists four low (omega (arith, some, part)) in
        let most = once seat k low in omega (arith, gone, there, most, some, part)
  ]
