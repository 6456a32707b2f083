-- How often a seat stands in the lists that a scan makes of one, or one that queues or leaves, and who is in them.
use Rattle.std.proofs.Common.{Bool, List, None, Option, Some, [], ap, arith, cond, eq-eqb, eqb, false, inl, inr, le-ltb, length, lt-ltb, ltb, ltb-true, map, ne_eqb, not, refl, subst, sym, true, ℕ, ◌&&◌, ◌+◌, ◌<◌, ◌||◌, ◌∷◌, ◌≡◌, ◌≢◌, ◌≤◌, ◌⊎◌}
use Rattle.ns_word.proofs.Prelude.{Every, Mode, Owed, Tells, Waiter, both_ways, called_by, called_of, cases_Bool, cases_eq, false_from_ne_true, filter, has_condition, has_eligible, has_some, is_eligible, is_from_lock, is_satisfied, left_of, length-map, list_any, one_if, or_parts, own_times, queued}
use Rattle.ns_word.proofs.Prelude.{reads, seats_of, times_among, times_in, times_in-append, times_in-cons, value_of, wakes_of, without_in, woken_of, writes, ◌∙◌}

pub one_set : (b : Bool) → 1 ≤ one_if b → b ≡ true
one_set true some = refl
one_set false some = absurd (omega (arith, some))

-- what a wake from the lock list tells is 0, or of 6 to 9
value_tells : (via : Option ℕ) → (value_of via ≡ 0) ⊎ ((6 ≤ value_of via) × (value_of via < 10))
value_tells None = inl refl
value_tells (Some k) = elim (cases_Bool (ltb k 4)) [
  | inl low ↦ let is : value_of (Some k) ≡ 6 + k = ap (λ b. cond b (6 + k) 0) low in let few = ltb-true k 4 low in inr (omega (arith, is), omega (arith, is, few))
  | inr high ↦ inl (ap (λ b. cond b (6 + k) 0) high)
]

module _ {C : Type 0} where
  pub times_seats : (seat : ℕ) (ws : List (Waiter C)) → times_among seat (called_of ws) ≡ times_in seat ws
  times_seats seat [] = refl
  times_seats seat (w ∷ ws) = let rest = times_seats seat ws in omega (arith, rest, times_in-cons seat w ws)

  -- the wakes of the seats of waiters, by what these name, are the waiters' own
  pub called_seats : (ws : List (Waiter C)) → called_by (seats_of ws) (map (λ (w : Waiter C). w.via) ws) ≡ called_of ws
  called_seats [] = refl
  called_seats (w ∷ ws) = ap (λ owed. record { seat = w.seat; value = value_of w.via } ∷ owed) (called_seats ws)

  -- the wakes of those whom a scan told
  pub are_called : (ws : List (Waiter C)) (seats : List ℕ) (vias : List (Option ℕ)) (owed : List Owed) → owed ≡ called_by seats vias → seats ≡ seats_of ws → vias ≡ map (λ (w : Waiter C). w.via) ws → owed ≡ called_of ws
  are_called ws seats vias owed is told names = is ∙ (λ i. called_by (told i) (names i)) ∙ called_seats ws

  pub as_many : (ws : List (Waiter C)) (seats : List ℕ) (vias : List (Option ℕ)) → seats ≡ seats_of ws → vias ≡ map (λ (w : Waiter C). w.via) ws → length vias ≡ length seats
  as_many ws seats vias told names = ap length names ∙ length-map ws (λ (w : Waiter C). w.via) ∙ sym (ap length told ∙ length-map ws (λ (w : Waiter C). w.seat))

  pub some_called : (ws : List (Waiter C)) (seats : List ℕ) (owed : List Owed) → seats ≡ seats_of ws → owed ≡ called_of ws → has_some seats ≡ has_some owed
  some_called [] seats owed told is = ap has_some told ∙ sym (ap has_some is)
  some_called (w ∷ ws) seats owed told is = ap has_some told ∙ sym (ap has_some is)

  pub times_wakes : (seat k : ℕ) (ws : List (Waiter C)) → times_among seat (wakes_of k ws) ≡ times_in seat ws
  times_wakes seat k [] = refl
  times_wakes seat k (w ∷ ws) = let rest = times_wakes seat k ws in omega (arith, rest, times_in-cons seat w ws)

  pub some_seats : (ws : List (Waiter C)) → has_some (called_of ws) ≡ has_some ws
  some_seats [] = refl
  some_seats (w ∷ ws) = refl

  pub some_wakes : (k : ℕ) (ws : List (Waiter C)) → has_some (wakes_of k ws) ≡ has_some ws
  some_wakes k [] = refl
  some_wakes k (w ∷ ws) = refl

  -- each tells from where its seat was taken
  pub calls_tell : (ws : List (Waiter C)) → Every (Tells true) (called_of ws)
  calls_tell [] = tt
  calls_tell (w ∷ ws) = (value_tells w.via, calls_tell ws)

  pub wakes_tell : (k : ℕ) (ws : List (Waiter C)) → k < 4 → Every (Tells false) (wakes_of k ws)
  wakes_tell k [] low = tt
  wakes_tell k (w ∷ ws) low = ((omega (arith, low), omega (arith, low)), wakes_tell k ws low)

-- what a wake tells is no 1, is few, and says whether its seat was taken from the lock list
pub tells_clear : (b : Bool) (wake : Owed) → Tells b wake → wake.value ≢ 1
tells_clear true wake (inl is) e = absurd (omega (arith, is, e))
tells_clear true wake (inr is) e = absurd (omega (arith, is.0, e))
tells_clear false wake is e = absurd (omega (arith, is.0, e))

pub tells_few : (b : Bool) (wake : Owed) → Tells b wake → wake.value < 10
tells_few true wake (inl is) = omega (arith, is)
tells_few true wake (inr is) = omega (arith, is.1)
tells_few false wake is = omega (arith, is.1)

pub tells_from : (b : Bool) (wake : Owed) → Tells b wake → b ≡ is_from_lock wake.value
tells_from true wake (inl is) = rw is refl
tells_from true wake (inr is) = rw (ne_eqb wake.value 0 (λ e. absurd (omega (arith, is.0, e))), lt-ltb 5 wake.value (omega (arith, is.0))) refl
tells_from false wake is = rw (ne_eqb wake.value 0 (λ e. absurd (omega (arith, is.0, e))), le-ltb 5 wake.value (omega (arith, is.1))) refl

module _ {C : Type 0} where
  -- a list falls into what passes a test and what doesn't
  times_filter : (seat : ℕ) (test : Waiter C → Bool) (ws : List (Waiter C)) →
      times_in seat (filter test ws) + times_in seat (filter (λ w. not (test w)) ws) ≡ times_in seat ws
  times_filter seat test [] = refl
  times_filter seat test (w ∷ ws) =
      let rest = times_filter seat test ws in
      let all = times_in-cons seat w ws in
      elim (test w) as (λ b. times_in seat (cond b (w ∷ filter test ws) (filter test ws)) + times_in seat (cond (not b) (w ∷ filter (λ w. not (test w)) ws) (filter (λ w. not (test w)) ws)) ≡ times_in seat (w ∷ ws))
      [ true ↦ omega (arith, rest, all, times_in-cons seat w (filter test ws)) | false ↦ omega (arith, rest, all, times_in-cons seat w (filter (λ w. not (test w)) ws)) ]

  abbrev is_reader : (C → Bool) → Waiter C → Bool
  is_reader meets v = reads v && is_eligible meets v

  -- and into what a scan takes and leaves
  pub times_scan : (seat : ℕ) (meets : C → Bool) (ws : List (Waiter C)) → times_in seat (woken_of meets ws) + times_in seat (left_of meets ws) ≡ times_in seat ws
  times_scan seat meets [] = refl
  times_scan seat meets (w ∷ ws) =
      let rest = times_scan seat meets ws in
      let later = times_filter seat (is_reader meets) ws in
      let all = times_in-cons seat w ws in
      elim (is_eligible meets w) as (λ b. times_in seat (cond b (w ∷ cond (writes w) [] (filter (is_reader meets) ws)) (woken_of meets ws))
      + times_in seat (cond b (cond (writes w) ws (filter (λ v. not (is_reader meets v)) ws)) (w ∷ left_of meets ws)) ≡ times_in seat (w ∷ ws)) [
        | true ↦ elim (writes w) as (λ c. times_in seat (w ∷ cond c [] (filter (is_reader meets) ws)) + times_in seat (cond c ws (filter (λ v. not (is_reader meets v)) ws)) ≡ times_in seat (w ∷ ws))
            [ true ↦ omega (arith, all, times_in-cons seat w []) | false ↦ omega (arith, later, all, times_in-cons seat w (filter (is_reader meets) ws)) ]
        | false ↦ omega (arith, rest, all, times_in-cons seat w (left_of meets ws))
      ]

  -- one more
  pub times_queued : (seat who : ℕ) (mode : Mode) (c : Option C) (tries : ℕ) (first : Bool) (ws : List (Waiter C)) → times_in seat (queued who mode c tries first ws) ≡ cond (eqb who seat) 1 0 + times_in seat ws
  times_queued seat who mode c tries true ws = times_in-cons seat (record { seat = who; mode = mode; cond = c; tries = tries; via = None }) ws
  times_queued seat who mode c tries false ws =
      let one : Waiter C = record { seat = who; mode = mode; cond = c; tries = tries; via = None } in
      omega (arith, times_in-append seat ws (one ∷ []), times_in-cons seat one [])

  pub some_queued : (who : ℕ) (mode : Mode) (c : Option C) (tries : ℕ) (first : Bool) (ws : List (Waiter C)) → has_some (queued who mode c tries first ws) ≡ true
  some_queued who mode c tries true ws = refl
  some_queued who mode c tries false [] = refl
  some_queued who mode c tries false (w ∷ ws) = refl

  -- one less
  pub times_without : (who : ℕ) (ws : List (Waiter C)) → times_in who (without_in who ws) ≡ 0
  times_without who [] = refl
  times_without who (w ∷ ws) = go (times_without who ws) (eqb w.seat who) refl where
    go : times_in who (without_in who ws) ≡ 0 → (b : Bool) → eqb w.seat who ≡ b → times_in who (without_in who (w ∷ ws)) ≡ 0
    go rest true e = rw e rest
    go rest false e = rw e (let none : one_if (eqb w.seat who) ≡ 0 = ap one_if e in omega (arith, rest, times_in-cons who w (without_in who ws), none))

  pub times_others : (seat who : ℕ) (ws : List (Waiter C)) → who ≢ seat → times_in seat (without_in who ws) ≡ times_in seat ws
  times_others seat who [] ne = refl
  times_others seat who (w ∷ ws) ne = elim (cases_eq w.seat who) [
    | inl e ↦
        let none : one_if (eqb w.seat seat) ≡ 0 = ap one_if (ne_eqb w.seat seat (λ f. ne (sym e ∙ f))) in
        rw (eq-eqb w.seat who e) (omega (arith, times_others seat who ws ne, times_in-cons seat w ws, none))
    | inr other ↦ rw (ne_eqb w.seat who other) (omega (arith, times_others seat who ws ne, times_in-cons seat w ws, times_in-cons seat w (without_in who ws)))
  ]

  -- ---- who can go on

  -- a writer without condition can
  pub writer_eligible : (meets : C → Bool) (ws : List (Waiter C)) → has_eligible meets ws ≡ false → list_any (λ w. writes w && not (has_condition w)) ws ≡ false
  writer_eligible meets [] e = refl
  writer_eligible meets (w ∷ ws) e = go (writer_eligible meets ws) w.cond e where
    go : (has_eligible meets ws ≡ false → list_any (λ w. writes w && not (has_condition w)) ws ≡ false) → (c : Option C) → (is_satisfied meets c || has_eligible meets ws) ≡ false →
        ((writes w && not (has_condition (record w { cond = c }))) || list_any (λ w. writes w && not (has_condition w)) ws) ≡ false
    go rest None f = absurd (cc)
    go rest (Some c) f = elim (writes w) as (λ b. ((b && false) || list_any (λ w. writes w && not (has_condition w)) ws) ≡ false) [ true ↦ rest (or_parts _ _ f).1 | false ↦ rest (or_parts _ _ f).1 ]

  pub none_eligible : (meets : C → Bool) (ws : List (Waiter C)) → has_some ws ≡ false → has_eligible meets ws ≡ false
  none_eligible meets [] e = refl
  none_eligible meets (w ∷ ws) e = absurd (cc)

  -- nor can anybody where one more stands whose condition is false, or some stand no more
  pub queued_eligible : (meets : C → Bool) (who : ℕ) (mode : Mode) (c : C) (tries : ℕ) (first : Bool) (ws : List (Waiter C)) → meets c ≡ false → has_eligible meets ws ≡ false → has_eligible meets (queued who mode (Some c) tries first ws) ≡ false
  queued_eligible meets who mode c tries true ws unmet e = rw unmet e
  queued_eligible meets who mode c tries false [] unmet e = rw unmet refl
  queued_eligible meets who mode c tries false (w ∷ ws) unmet e =
      let parts = or_parts (is_eligible meets w) (has_eligible meets ws) e in
      rw parts.0 (queued_eligible meets who mode c tries false ws unmet parts.1)

  pub filter_eligible : (meets : C → Bool) (test : Waiter C → Bool) (ws : List (Waiter C)) → has_eligible meets ws ≡ false → has_eligible meets (filter test ws) ≡ false
  filter_eligible meets test [] e = refl
  filter_eligible meets test (w ∷ ws) e =
      let parts = or_parts (is_eligible meets w) (has_eligible meets ws) e in
      let rest = filter_eligible meets test ws parts.1 in
      elim (test w) as (λ b. has_eligible meets (cond b (w ∷ filter test ws) (filter test ws)) ≡ false) [ true ↦ rw parts.0 rest | false ↦ rest ]

  -- a scan takes nobody just where nobody can go on, and then leaves all
  pub woken_none : (meets : C → Bool) (ws : List (Waiter C)) → has_some (woken_of meets ws) ≡ false → (has_eligible meets ws ≡ false) × (left_of meets ws ≡ ws)
  woken_none meets [] e = (refl, refl)
  woken_none meets (w ∷ ws) e = go (woken_none meets ws) (is_eligible meets w) refl where
    go : (has_some (woken_of meets ws) ≡ false → (has_eligible meets ws ≡ false) × (left_of meets ws ≡ ws)) → (b : Bool) → is_eligible meets w ≡ b → (has_eligible meets (w ∷ ws) ≡ false) × (left_of meets (w ∷ ws) ≡ w ∷ ws)
    go ih true f = let bad : true ≡ false = subst (λ b. has_some (cond b (w ∷ cond (writes w) [] (filter (is_reader meets) ws)) (woken_of meets ws)) ≡ false) f e in absurd (cc)
    go ih false f =
        let rest = ih (subst (λ b. has_some (cond b (w ∷ cond (writes w) [] (filter (is_reader meets) ws)) (woken_of meets ws)) ≡ false) f e) in
        rw f (rest.0, ap (λ vs. w ∷ vs) rest.1)

  -- one that stands in a list
  pub some_seat : (ws : List (Waiter C)) → has_some ws ≡ true → (seat : ℕ) × (1 ≤ times_in seat ws)
  some_seat [] e = absurd (cc)
  some_seat (w ∷ ws) e = (w.seat, omega (arith, own_times w ws))

  -- where none is true of a row, and a quiet change makes another of it, none is true of that
  pub quiet_eligible : (holds : C → List ℕ → Bool) (before after : List ℕ) → ((c : C) → holds c after ≡ true → holds c before ≡ true) → (ws : List (Waiter C)) →
      has_eligible (λ c. holds c before) ws ≡ false → has_eligible (λ c. holds c after) ws ≡ false
  quiet_eligible holds before after quiet [] e = refl
  quiet_eligible holds before after quiet (w ∷ ws) e =
      let parts = or_parts (is_eligible (λ c. holds c before) w) (has_eligible (λ c. holds c before) ws) e in
      let here : is_eligible (λ c. holds c after) w ≡ false = one w.cond parts.0 in
      rw here (quiet_eligible holds before after quiet ws parts.1) where
        one : (c : Option C) → is_satisfied (λ c. holds c before) c ≡ false → is_satisfied (λ c. holds c after) c ≡ false
        one None f = f
        one (Some c) f = false_from_ne_true (holds c after) (λ t. both_ways (holds c before) f (quiet c t))
