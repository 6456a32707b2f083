-- Links from place to place: what a link written elsewhere leaves, and a place put between two or taken out.
use Rattle.std.proofs.Common.{List, None, Option, Some, [], ap, arith, eq-eqb, get_or, get_or-set_other, get_or-set_same, inl, inr, length, length-set, ne_eqb, refl, set, subst, sym, ℕ, ◌++◌, ◌<◌, ◌∙◌, ◌∷◌, ◌≡◌, ◌≢◌, ◌≤◌}
use Rattle.ns_queue.proofs.Prelude.{Hops, Waiter, ahead, behind, cases_eq, first_seat, gather, last_seat, one_if, seated, times_in}
use Rattle.ns_queue.proofs.Seats.{times_in-cons, times_in-append}

module _ {A : Type 0} where
  -- what two links leave at another place, and what they write
  two_other : (xs : List A) (i j k : ℕ) (a b d p : A) → k ≢ i → k ≢ j → get_or xs k d ≡ p → get_or (set (set xs i a) j b) k d ≡ p
  two_other xs i j k a b d p ni nj is = get_or-set_other (set xs i a) j k b d nj ∙ get_or-set_other xs i k a d ni ∙ is

  two_first : (xs : List A) (i j : ℕ) (a b d : A) → i ≢ j → i < length xs → get_or (set (set xs i a) j b) i d ≡ a
  two_first xs i j a b d ne within = get_or-set_other (set xs i a) j i b d ne ∙ get_or-set_same xs i a d within

  two_second : (xs : List A) (i j : ℕ) (a b d : A) → j < length xs → get_or (set (set xs i a) j b) j d ≡ b
  two_second xs i j a b d within = get_or-set_same (set xs i a) j b d (omega (arith, length-set xs i a))

module _ {C : Type 0} where
  pub stands_not : (c : ℕ) (w : Waiter C) (ws : List (Waiter C)) → times_in c (w ∷ ws) ≡ 0 → (c ≢ w.seat) × (times_in c ws ≡ 0)
  stands_not c w ws out = (
    λ e. absurd (let one = ap one_if (eq-eqb w.seat c (sym e)) in omega (arith, out, times_in-cons c w ws, one)),
    omega (arith, out, times_in-cons c w ws),
  )

  pub own_first : (w : Waiter C) (ws : List (Waiter C)) → times_in w.seat (w ∷ ws) ≤ 1 → times_in w.seat ws ≡ 0
  own_first w ws once = let one = ap one_if (eq-eqb w.seat w.seat refl) in omega (arith, once, times_in-cons w.seat w ws, one)

  -- a list between two places where nobody stands twice, or at these
  pub record Spread (x : ℕ) (ws : List (Waiter C)) (y : ℕ) : Type 0 where
    pub front : times_in x ws ≡ 0
    pub back : times_in y ws ≡ 0
    pub once : (s : ℕ) → times_in s ws ≤ 1

  spread_rest : (x : ℕ) (w : Waiter C) (ws : List (Waiter C)) (y : ℕ) → Spread x (w ∷ ws) y → Spread w.seat ws y
  spread_rest x w ws y h = record {
    front = own_first w ws (h.once w.seat);
    back = (stands_not y w ws h.back).1;
    once = λ s. omega (arith, h.once s, times_in-cons s w ws);
  }

  -- another place than the first or the last
  not_first : (c : ℕ) (ws : List (Waiter C)) (y : ℕ) → c ≢ y → times_in c ws ≡ 0 → c ≢ first_seat y ws
  not_first c [] y ne out = ne
  not_first c (w ∷ ws) y ne out = (stands_not c w ws out).0

  not_last : (c x : ℕ) (ws : List (Waiter C)) → c ≢ x → times_in c ws ≡ 0 → c ≢ last_seat x ws
  not_last c x [] ne out = ne
  not_last c x (w ∷ ws) ne out = not_last c w.seat ws (stands_not c w ws out).0 (stands_not c w ws out).1

  out_parts : (c : ℕ) (xs ys : List (Waiter C)) → times_in c (xs ++ ys) ≡ 0 → (times_in c xs ≡ 0) × (times_in c ys ≡ 0)
  out_parts c xs ys out = (omega (arith, out, times_in-append c xs ys), omega (arith, out, times_in-append c xs ys))

  -- ---- a link written elsewhere

  next_frame : (nx pv : List ℕ) (ws : List (Waiter C)) (x y c v : ℕ) → c ≢ x → times_in c ws ≡ 0 → Hops nx pv x ws y → Hops (set nx c v) pv x ws y
  next_frame nx pv [] x y c v ne out h = (get_or-set_other nx c x v 0 (λ e. ne (sym e)) ∙ h.0, h.1)
  next_frame nx pv (w ∷ ws) x y c v ne out h =
      let apart = stands_not c w ws out in
      ((get_or-set_other nx c x v 0 (λ e. ne (sym e)) ∙ h.0.0, h.0.1), next_frame nx pv ws w.seat y c v apart.0 apart.1 h.1)

  prev_frame : (nx pv : List ℕ) (ws : List (Waiter C)) (x y c v : ℕ) → c ≢ y → times_in c ws ≡ 0 → Hops nx pv x ws y → Hops nx (set pv c v) x ws y
  prev_frame nx pv [] x y c v ne out h = (h.0, get_or-set_other pv c y v 0 (λ e. ne (sym e)) ∙ h.1)
  prev_frame nx pv (w ∷ ws) x y c v ne out h =
      let apart = stands_not c w ws out in
      ((h.0.0, get_or-set_other pv c w.seat v 0 (λ e. apart.0 (sym e)) ∙ h.0.1), prev_frame nx pv ws w.seat y c v ne apart.1 h.1)

  -- ---- where the links lead

  pub first_hop : (nx pv : List ℕ) (ws : List (Waiter C)) (x y : ℕ) → Hops nx pv x ws y → get_or nx x 0 ≡ first_seat y ws
  first_hop nx pv [] x y h = h.0
  first_hop nx pv (w ∷ ws) x y h = h.0.0

  pub last_hop : (nx pv : List ℕ) (ws : List (Waiter C)) (x y : ℕ) → Hops nx pv x ws y → get_or pv y 0 ≡ last_seat x ws
  last_hop nx pv [] x y h = h.1
  last_hop nx pv (w ∷ ws) x y h = last_hop nx pv ws w.seat y h.1

  -- at a seat that stands there
  pub links_at : (nx pv : List ℕ) (s : ℕ) (ws : List (Waiter C)) (x y : ℕ) → 1 ≤ times_in s ws → Hops nx pv x ws y → (get_or nx s 0 ≡ first_seat y (behind s ws)) × (get_or pv s 0 ≡ last_seat x (ahead s ws))
  links_at nx pv s [] x y stands h = absurd (omega (arith, stands))
  links_at nx pv s (w ∷ ws) x y stands h = elim (cases_eq w.seat s) [
    | inl e ↦ (let P : ℕ → Type 0 = λ k. (get_or nx k 0 ≡ first_seat y ws) × (get_or pv k 0 ≡ x) in rw (eq-eqb w.seat s e) (subst P e (first_hop nx pv ws w.seat y h.1, h.0.1)))
    | inr ne ↦ rw (ne_eqb w.seat s ne) (links_at nx pv s ws w.seat y (let no = ap one_if (ne_eqb w.seat s ne) in omega (arith, stands, times_in-cons s w ws, no)) h.1)
  ]

  -- ---- one more

  pub linked : (nx pv : List ℕ) (xs ys : List (Waiter C)) (w : Waiter C) (x y : ℕ) → Spread x (xs ++ ys) y → w.seat ≢ x → w.seat ≢ y → times_in w.seat (xs ++ ys) ≡ 0 →
      last_seat x xs < length nx → w.seat < length nx → first_seat y ys < length pv → w.seat < length pv →
      Hops nx pv x (xs ++ ys) y →
      Hops (set (set nx (last_seat x xs) w.seat) w.seat (first_seat y ys)) (set (set pv (first_seat y ys) w.seat) w.seat (last_seat x xs)) x (xs ++ w ∷ ys) y
  linked nx pv [] [] w x y spread nx_ ny out a s b s' h = (
    (two_first nx x w.seat w.seat y 0 (λ e. nx_ (sym e)) a, two_second pv y w.seat w.seat x 0 s'),
    (two_second nx x w.seat w.seat y 0 s, two_first pv y w.seat w.seat x 0 (λ e. ny (sym e)) b),
  )
  linked nx pv [] (v ∷ vs) w x y spread nx_ ny out a s b s' h =
      let apart = stands_not w.seat v vs out in
      let rest = spread_rest x v vs y spread in
      let off = stands_not x v vs spread.front in
      let off' = stands_not y v vs spread.back in (
        (two_first nx x w.seat w.seat v.seat 0 (λ e. nx_ (sym e)) a, two_second pv v.seat w.seat w.seat x 0 s'),
        (
          (two_second nx x w.seat w.seat v.seat 0 s, two_first pv v.seat w.seat w.seat x 0 (λ e. apart.0 (sym e)) b),
          prev_frame _ _ vs v.seat y w.seat x ny apart.1
              (prev_frame _ _ vs v.seat y v.seat w.seat (λ e. off'.0 (sym e)) rest.front
              (next_frame _ pv vs v.seat y w.seat v.seat apart.0 apart.1
              (next_frame nx pv vs v.seat y x w.seat off.0 off.1 h.1))),
        ),
      )
  linked nx pv (v ∷ xs) ys w x y spread nx_ ny out a s b s' h =
      let apart = stands_not w.seat v (xs ++ ys) out in
      let rest = spread_rest x v (xs ++ ys) y spread in
      let off = stands_not x v (xs ++ ys) spread.front in
      let off' = stands_not y v (xs ++ ys) spread.back in
      let parts = out_parts x xs ys off.1 in
      let parts' = out_parts v.seat xs ys rest.front in (
        (
          two_other nx (last_seat v.seat xs) w.seat x w.seat (first_seat y ys) 0 v.seat (not_last x v.seat xs off.0 parts.0) (λ e. nx_ (sym e)) h.0.0,
          two_other pv (first_seat y ys) w.seat v.seat w.seat (last_seat v.seat xs) 0 x (not_first v.seat ys y (λ e. off'.0 (sym e)) parts'.1) (λ e. apart.0 (sym e)) h.0.1,
        ),
        linked nx pv xs ys w v.seat y rest apart.0 ny apart.1 a s b s' h.1,
      )

  -- ---- one less

  pub joined : (nx pv : List ℕ) (xs ys : List (Waiter C)) (w : Waiter C) (x y : ℕ) → Spread x (xs ++ w ∷ ys) y →
      last_seat x xs < length nx → first_seat y ys < length pv →
      Hops nx pv x (xs ++ w ∷ ys) y →
      Hops (set nx (last_seat x xs) (first_seat y ys)) (set pv (first_seat y ys) (last_seat x xs)) x (xs ++ ys) y
  joined nx pv [] [] w x y spread a b h = (get_or-set_same nx x y 0 a, get_or-set_same pv y x 0 b)
  joined nx pv [] (v ∷ vs) w x y spread a b h =
      let rest = spread_rest x w (v ∷ vs) y spread in
      let last = spread_rest w.seat v vs y rest in
      let off = stands_not x v vs (stands_not x w (v ∷ vs) spread.front).1 in
      let off' = stands_not y v vs rest.back in (
        (get_or-set_same nx x v.seat 0 a, get_or-set_same pv v.seat x 0 b),
        prev_frame _ _ vs v.seat y v.seat x (λ e. off'.0 (sym e)) last.front (next_frame nx pv vs v.seat y x v.seat off.0 off.1 h.1.1),
      )
  joined nx pv (v ∷ xs) ys w x y spread a b h =
      let rest = spread_rest x v (xs ++ w ∷ ys) y spread in
      let off = stands_not x v (xs ++ w ∷ ys) spread.front in
      let off' = stands_not y v (xs ++ w ∷ ys) spread.back in
      let parts = out_parts x xs (w ∷ ys) off.1 in
      let parts' = out_parts v.seat xs (w ∷ ys) rest.front in
      let ahead_of = stands_not v.seat w ys parts'.1 in (
        (
          get_or-set_other nx (last_seat v.seat xs) x (first_seat y ys) 0 (not_last x v.seat xs off.0 parts.0) ∙ h.0.0,
          get_or-set_other pv (first_seat y ys) v.seat (last_seat v.seat xs) 0 (not_first v.seat ys y (λ e. off'.0 (sym e)) ahead_of.1) ∙ h.0.1,
        ),
        joined nx pv xs ys w v.seat y rest a b h.1,
      )

  -- ---- the entries

  pub seated_first : (w : Waiter C) (ws : List (Waiter C)) → seated w.seat (w ∷ ws) ≡ Some w
  seated_first w ws = rw (eq-eqb w.seat w.seat refl) refl

  pub seated_rest : (s : ℕ) (w : Waiter C) (ws : List (Waiter C)) → w.seat ≢ s → seated s (w ∷ ws) ≡ seated s ws
  seated_rest s w ws ne = rw (ne_eqb w.seat s ne) refl

  pub seated_none : (s : ℕ) (ws : List (Waiter C)) → times_in s ws ≡ 0 → seated s ws ≡ None
  seated_none s [] out = refl
  seated_none s (w ∷ ws) out = let apart = stands_not s w ws out in seated_rest s w ws (λ e. apart.0 (sym e)) ∙ seated_none s ws apart.1

  -- among the others
  pub seated_other : (s : ℕ) (xs ys : List (Waiter C)) (w : Waiter C) → w.seat ≢ s → seated s (xs ++ w ∷ ys) ≡ seated s (xs ++ ys)
  seated_other s [] ys w ne = seated_rest s w ys ne
  seated_other s (v ∷ xs) ys w ne = elim (cases_eq v.seat s) [
    | inl e ↦ rw (eq-eqb v.seat s e) refl
    | inr other ↦ rw (ne_eqb v.seat s other) (seated_other s xs ys w ne)
  ]

  pub seated_here : (xs ys : List (Waiter C)) (w : Waiter C) → times_in w.seat xs ≡ 0 → seated w.seat (xs ++ w ∷ ys) ≡ Some w
  seated_here [] ys w out = seated_first w ys
  seated_here (v ∷ xs) ys w out =
      let apart = stands_not w.seat v xs out in seated_rest w.seat v (xs ++ w ∷ ys) (λ e. apart.0 (sym e)) ∙ seated_here xs ys w apart.1

  -- ---- what is gathered along the links

  pub gather_is : (held : List (Option (Waiter C))) (nx pv : List ℕ) (ws : List (Waiter C)) (x y n : ℕ) → Hops nx pv x ws y → ((s : ℕ) → times_in s ws ≤ 1) →
      ((s : ℕ) → 1 ≤ times_in s ws → get_or held s None ≡ seated s ws) → n ≡ length ws → gather held nx n (get_or nx x 0) ≡ ws
  unfolding gather
  gather_is held nx pv [] x y n h once has size = rw size refl
  gather_is held nx pv (w ∷ ws) x y n h once has size =
      let own = own_first w ws (once w.seat) in
      let one = ap one_if (eq-eqb w.seat w.seat refl) in
      let here : get_or held w.seat None ≡ Some w = has w.seat (omega (arith, times_in-cons w.seat w ws, one)) ∙ seated_first w ws in
      let rest = gather_is held nx pv ws w.seat y (length ws) h.1 (λ s. omega (arith, once s, times_in-cons s w ws))
      (λ s stands. has s (omega (arith, stands, times_in-cons s w ws)) ∙ seated_rest s w ws (λ e. absurd (let off = ap (λ k. times_in k ws) e in omega (arith, off, own, stands)))) refl in
      rw (size, h.0.0, here) (ap (λ vs. w ∷ vs) rest)
