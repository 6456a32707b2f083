-- A place in a list: those in front of it, and those from it on.
use Rattle.std.proofs.Common.{List, None, Some, [], ap, append-nil, append_assoc, arith, eq-eqb, inl, inr, length, length-append, ne_eqb, not, refl, subst, sym, ℕ, ◌++◌, ◌+◌, ◌<◌, ◌∙◌, ◌∷◌, ◌≡◌}
use Rattle.ns_queue.proofs.Prelude.{IsRow, Waiter, ahead, behind, cases_eq, first_seat, from, is_of, one_if, seated, times_in, without_in}
use Rattle.ns_queue.proofs.Seats.{few, none_without, own_times, stands_low, times_in-cons, times_in-append}
use Rattle.ns_queue.proofs.Marking.{times_in-filter}
use Rattle.ns_queue.proofs.Hops.{seated_rest, stands_not}

module _ {C : Type 0} where
  without_among : (xs ys : List (Waiter C)) (w : Waiter C) → times_in w.seat xs ≡ 0 → times_in w.seat ys ≡ 0 → without_in w.seat (xs ++ w ∷ ys) ≡ xs ++ ys
  without_among [] ys w out out' = rw (eq-eqb w.seat w.seat refl) (none_without w.seat ys out')
  without_among (v ∷ xs) ys w out out' = let apart = stands_not w.seat v xs out in rw (ne_eqb v.seat w.seat (λ e. apart.0 (sym e))) (ap (λ vs. v ∷ vs) (without_among xs ys w apart.1 out'))

  pub split : (s : ℕ) (ws : List (Waiter C)) → ws ≡ ahead s ws ++ from s ws
  split s [] = refl
  split s (w ∷ ws) = elim (cases_eq w.seat s) [
    | inl e ↦ rw (eq-eqb w.seat s e) refl
    | inr ne ↦ rw (ne_eqb w.seat s ne) (ap (λ vs. w ∷ vs) (split s ws))
  ]

  pub ahead_out : (s : ℕ) (ws : List (Waiter C)) → times_in s (ahead s ws) ≡ 0
  ahead_out s [] = refl
  ahead_out s (w ∷ ws) = elim (cases_eq w.seat s) [
    | inl e ↦ rw (eq-eqb w.seat s e) refl
    | inr ne ↦ rw (ne_eqb w.seat s ne) (let no = ap one_if (ne_eqb w.seat s ne) in omega (arith, times_in-cons s w (ahead s ws), ahead_out s ws, no))
  ]

  -- nobody stands at a place that has no waiter
  pub from_none : (s : ℕ) (ws : List (Waiter C)) → seated s ws ≡ None → (from s ws ≡ []) × (ahead s ws ≡ ws)
  from_none s [] none = (refl, refl)
  from_none s (w ∷ ws) none = elim (cases_eq w.seat s) [
    | inl e ↦ let no = rw (eq-eqb w.seat s e) at none in absurd (cc)
    | inr ne ↦ let rest = from_none s ws (rw (ne_eqb w.seat s ne) at none) in rw (ne_eqb w.seat s ne) (rest.0, ap (λ vs. w ∷ vs) rest.1)
  ]

  -- the waiter that stands at a place
  pub record Found (s : ℕ) (ws : List (Waiter C)) (w : Waiter C) : Type 0 where
    pub here : w.seat ≡ s
    pub from_is : from s ws ≡ w ∷ behind s ws
    pub is : ws ≡ ahead s ws ++ w ∷ behind s ws

  pub found : (s : ℕ) (ws : List (Waiter C)) (w : Waiter C) → seated s ws ≡ Some w → Found s ws w
  found s [] w is = absurd (cc)
  found s (v ∷ ws) w is = elim (cases_eq v.seat s) [
    | inl e ↦ let here : Some v ≡ Some w = rw (eq-eqb v.seat s e) at is in let same : v ≡ w = cc in
        record { here = ap (λ u. u.seat) (sym same) ∙ e; from_is = rw (eq-eqb v.seat s e) (ap (λ u. u ∷ ws) same); is = rw (eq-eqb v.seat s e) (ap (λ u. u ∷ ws) same) }
    | inr ne ↦ let f = found s ws w (rw (ne_eqb v.seat s ne) at is) in
        record { here = f.here; from_is = rw (ne_eqb v.seat s ne) f.from_is; is = rw (ne_eqb v.seat s ne) (ap (λ us. v ∷ us) f.is) }
  ]

  cut : (c : ℕ) (xs ys : List (Waiter C)) → times_in c xs ≡ 0 → (from c (xs ++ ys) ≡ from c ys) × (ahead c (xs ++ ys) ≡ xs ++ ahead c ys) × (behind c (xs ++ ys) ≡ behind c ys)
  cut c [] ys out = (refl, refl, refl)
  cut c (x ∷ xs) ys out =
      let apart = stands_not c x xs out in
      let rest = cut c xs ys apart.1 in
      rw (ne_eqb x.seat c (λ e. apart.0 (sym e))) (rest.0, ap (λ vs. x ∷ vs) rest.1, rest.2)

  pub own : (ys : List (Waiter C)) → (from (first_seat 64 ys) ys ≡ ys) × (ahead (first_seat 64 ys) ys ≡ [])
  own [] = (refl, refl)
  own (y ∷ ys) = rw (eq-eqb y.seat y.seat refl) (refl, refl)

  pub first_out : (xs ys : List (Waiter C)) → IsRow (xs ++ ys) → times_in (first_seat 64 ys) xs ≡ 0
  first_out xs [] row = omega (arith, row.below 64 (omega arith), times_in-append 64 xs [])
  first_out xs (y ∷ ys) row = omega (arith, row.once y.seat, times_in-append y.seat xs (y ∷ ys), own_times y ys)

  -- the place of the first of the later ones
  pub cut_at : (xs ys : List (Waiter C)) → IsRow (xs ++ ys) → (from (first_seat 64 ys) (xs ++ ys) ≡ ys) × (ahead (first_seat 64 ys) (xs ++ ys) ≡ xs)
  cut_at xs ys row =
      let c = cut (first_seat 64 ys) xs ys (first_out xs ys row) in
      (c.0 ∙ (own ys).0, c.1 ∙ ap (λ vs. xs ++ vs) (own ys).1 ∙ append-nil xs)

  pub row_parts : (xs ys : List (Waiter C)) → IsRow (xs ++ ys) → IsRow xs × IsRow ys
  row_parts xs ys row = (
    record { once = λ s. omega (arith, row.once s, times_in-append s xs ys); below = λ s high. omega (arith, row.below s high, times_in-append s xs ys) },
    record { once = λ s. omega (arith, row.once s, times_in-append s xs ys); below = λ s high. omega (arith, row.below s high, times_in-append s xs ys) },
  )

  pub row_rest : (w : Waiter C) (ws : List (Waiter C)) → IsRow (w ∷ ws) → IsRow ws
  row_rest w ws row = record { once = λ s. omega (arith, row.once s, times_in-cons s w ws); below = λ s high. omega (arith, row.below s high, times_in-cons s w ws) }

  pub row_own : (w : Waiter C) (ws : List (Waiter C)) → IsRow (w ∷ ws) → times_in w.seat ws ≡ 0
  row_own w ws row = omega (arith, row.once w.seat, own_times w ws)

  pub row_at : (ws vs : List (Waiter C)) → ws ≡ vs → IsRow ws → IsRow vs
  row_at ws vs is row = let P : List (Waiter C) → Type 0 = λ us. IsRow us in subst P is row

  pub row_front : (xs ys : List (Waiter C)) (w : Waiter C) → IsRow (xs ++ w ∷ ys) → times_in w.seat xs ≡ 0
  row_front xs ys w row = omega (arith, row.once w.seat, times_in-append w.seat xs (w ∷ ys), own_times w ys)

  pub row_low : (xs ys : List (Waiter C)) (w : Waiter C) → IsRow (xs ++ w ∷ ys) → w.seat < 64
  row_low xs ys w row = stands_low w.seat (xs ++ w ∷ ys) row.below (omega (arith, times_in-append w.seat xs (w ∷ ys), own_times w ys))

  -- one waiter further
  pub record Stepped (s : ℕ) (ws : List (Waiter C)) (w : Waiter C) (n : ℕ) : Type 0 where
    pub here : w.seat ≡ s
    pub from_is : from s ws ≡ w ∷ from n ws
    pub ahead_is : ahead n ws ≡ ahead s ws ++ w ∷ []
    pub behind_is : behind s ws ≡ from n ws
    pub low : s < 64
    pub out : times_in s (from n ws) ≡ 0

  pub stepped : (s : ℕ) (ws : List (Waiter C)) (w : Waiter C) (n : ℕ) → IsRow ws → seated s ws ≡ Some w → n ≡ first_seat 64 (behind s ws) → Stepped s ws w n
  stepped s ws w n row is next =
      let f = found s ws w is in
      let whole : ws ≡ (ahead s ws ++ w ∷ []) ++ behind s ws = f.is ∙ sym (append_assoc (ahead s ws) (w ∷ []) (behind s ws)) in
      let c = cut_at (ahead s ws ++ w ∷ []) (behind s ws) (row_at ws _ whole row) in
      let on : from n ws ≡ behind s ws = ap (λ k. from k ws) next ∙ ap (from (first_seat 64 (behind s ws))) whole ∙ c.0 in
      record {
        here = f.here;
        from_is = f.from_is ∙ ap (λ vs. w ∷ vs) (sym on);
        ahead_is = ap (λ k. ahead k ws) next ∙ ap (ahead (first_seat 64 (behind s ws))) whole ∙ c.1;
        behind_is = sym on;
        low = (let P : ℕ → Type 0 = λ k. k < 64 in subst P f.here (row_low (ahead s ws) (behind s ws) w (row_at ws _ f.is row)));
        out = (let P : ℕ → Type 0 = λ k. times_in k (from n ws) ≡ 0 in subst P f.here (rw on (row_own w (behind s ws) (row_parts (ahead s ws) (w ∷ behind s ws) (row_at ws _ f.is row)).1)));
      }

  -- where a list is parted at a waiter
  pub parted : (xs ys : List (Waiter C)) (w : Waiter C) → times_in w.seat xs ≡ 0 → behind w.seat (xs ++ w ∷ ys) ≡ ys
  parted xs ys w out = (cut w.seat xs (w ∷ ys) out).2 ∙ rw (eq-eqb w.seat w.seat refl) refl

  -- who stands there
  pub record Standing (s : ℕ) (ws : List (Waiter C)) : Type 0 where
    pub w : Waiter C
    pub is : seated s ws ≡ Some w

  pub standing : (s : ℕ) (ws : List (Waiter C)) → 0 < times_in s ws → Standing s ws
  standing s [] stands = absurd (omega (arith, stands))
  standing s (w ∷ ws) stands = elim (cases_eq w.seat s) [
    | inl e ↦ record { w = w; is = rw (eq-eqb w.seat s e) refl }
    | inr ne ↦ (let rest = standing s ws (let no = ap one_if (ne_eqb w.seat s ne) in omega (arith, stands, times_in-cons s w ws, no)) in record { w = rest.w; is = seated_rest s w ws ne ∙ rest.is })
  ]

  pub without_is : (s : ℕ) (ws : List (Waiter C)) (w : Waiter C) → IsRow ws → Found s ws w → without_in s ws ≡ ahead s ws ++ behind s ws
  without_is s ws w row f =
      let row' = row_at ws _ f.is row in
      ap (without_in s) f.is ∙ ap (λ k. without_in k (ahead s ws ++ w ∷ behind s ws)) (sym f.here)
      ∙ without_among (ahead s ws) (behind s ws) w (row_front (ahead s ws) (behind s ws) w row') (row_own w (behind s ws) (row_parts (ahead s ws) (w ∷ behind s ws) row').1)

  pub row_without : (s : ℕ) (ws : List (Waiter C)) → IsRow ws → IsRow (without_in s ws)
  row_without s ws row = record { once = λ k. omega (arith, row.once k, times_in-filter (λ w. not (is_of s w)) ws k); below = λ k high. omega (arith, row.below k high, times_in-filter (λ w. not (is_of s w)) ws k) }

  pub seated_low : (s : ℕ) (ws : List (Waiter C)) (w : Waiter C) → IsRow ws → seated s ws ≡ Some w → s < 64
  seated_low s ws w row is = let f = found s ws w is in (let P : ℕ → Type 0 = λ k. k < 64 in subst P f.here (row_low (ahead s ws) (behind s ws) w (row_at ws _ f.is row)))

  pub seated_stands : (s : ℕ) (ws : List (Waiter C)) (w : Waiter C) → seated s ws ≡ Some w → 0 < times_in s ws
  seated_stands s ws w is =
      let f = found s ws w is in
      let here : times_in w.seat ws ≡ times_in w.seat (ahead s ws) + times_in w.seat (w ∷ behind s ws) = ap (times_in w.seat) f.is ∙ times_in-append w.seat (ahead s ws) (w ∷ behind s ws) in
      let P : ℕ → Type 0 = λ k. 0 < times_in k ws in subst P f.here (omega (arith, here, own_times w (behind s ws)))

  pub smaller : (s : ℕ) (ws : List (Waiter C)) (w : Waiter C) (n : ℕ) → IsRow ws → seated s ws ≡ Some w → n ≡ first_seat 64 (behind s ws) → length (from n ws) < length (from s ws)
  smaller s ws w n row is next = let one = ap length (stepped s ws w n row is next).from_is in omega (arith, one)

  pub ahead_few : (s : ℕ) (ws : List (Waiter C)) (w : Waiter C) → IsRow ws → seated s ws ≡ Some w → length (ahead s ws) < 64
  ahead_few s ws w row is =
      let all = ap length (found s ws w is).is in omega (arith, all, length-append (ahead s ws) (w ∷ behind s ws), few 64 ws row.once row.below)

  -- who stands at a place doesn't stand in front of it
  pub ahead_free : (s : ℕ) (ws : List (Waiter C)) (w : Waiter C) → IsRow ws → seated s ws ≡ Some w → (w.seat < 64) × (times_in w.seat (ahead s ws) ≡ 0)
  ahead_free s ws w row is =
      let f = found s ws w is in
      let low = seated_low s ws w row is in
      let P : ℕ → Type 0 = λ k. (k < 64) × (times_in k (ahead s ws) ≡ 0) in subst P (sym f.here) (low, ahead_out s ws)
