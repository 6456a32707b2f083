-- What a waiter more or less makes of the entries, the links and the counts.
use Rattle.std.proofs.Common.{Bool, Bor, IsTrue, List, None, OnSome, Option, Some, [], ap, append-nil, arith, cond, eq-eqb, eqb, false, get_or, get_or-set_other, get_or-set_same, inl, inr, is_some, length, length-append, length-set, nat_lt, refl, replicate, set, subst, suc, sym, true}
use Rattle.std.proofs.Common.{zero, ℕ, ◌++◌, ◌+◌, ◌<◌, ◌||◌, ◌↔◌, ◌∙◌, ◌∷◌, ◌≡◌, ◌≤◌}
use Rattle.ns_queue.proofs.Prelude.{AreCounts, Counts, DoCount, HaveSeats, Holds, IsRow, Waiter, ahead, behind, cases_eq, cases_lt, count_by, count_by-le-length, counts_less, counts_more, counts_of, first_seat, gather, get_or_default, has_condition, is_long, last_seat, list_any}
use Rattle.ns_queue.proofs.Prelude.{one_if, option_copied, option_map, seated, sum_by-append, sum_by-cons, times_in, without_in, writes_plainly}
use Rattle.ns_queue.proofs.Seats.{none_more, one_more, room_for, stands_low, some_more, times_in-cons, times_in-append}
use Rattle.ns_queue.proofs.Hops.{Spread, linked, joined, seated_none, seated_other, seated_here, gather_is, first_hop, last_hop, links_at}
use Rattle.ns_queue.proofs.Places.{found, row_at, row_parts, row_rest, seated_stands, standing, without_is}

counts_same : (l m n o l' m' n' o' : ℕ) → l ≡ l' → m ≡ m' → n ≡ n' → o ≡ o' →
    ◌≡◌ {A = Counts} (record { len = l; conditional = m; plain_writers = n; long = o }) (record { len = l'; conditional = m'; plain_writers = n'; long = o' })
counts_same l m n o l' m' n' o' e f g h = rw (e, f, g, h) refl

IsTrue_not : (b : Bool) → IsTrue b → b ≡ false → ⊥
IsTrue_not b is isnt = absurd (cc)

IsTrue_of : (b : Bool) → b ≡ true → IsTrue b
IsTrue_of b is = is

pub mapped_some : {A B : Type 0} (f : A → B) (o : Option A) → is_some o ≡ is_some (option_map f o)
mapped_some f None = refl
mapped_some f (Some x) = refl

none_in_row : {A : Type 0} (n s : ℕ) (o : Option A) → o ≡ None → get_or (replicate n o) s None ≡ None
none_in_row zero s o is = refl
none_in_row (suc n) zero o is = is
none_in_row (suc n) (suc s) o is = none_in_row n s o is

module _ {C : Type 0} where
  -- some are counted just where there is one
  pub any_counted : (p : Waiter C → Bool) (ws : List (Waiter C)) → list_any p ws ≡ nat_lt 0 (count_by p ws)
  any_counted p [] = refl
  any_counted p (w ∷ ws) = ap (λ b. p w || b) (any_counted p ws) ∙ sym (some_more (p w) (count_by p ws)) ∙ ap (nat_lt 0) (sym (sum_by-cons (λ v. cond (p v) 1 0) w ws))

  count_among : (p : Waiter C → Bool) (xs ys : List (Waiter C)) (w : Waiter C) → count_by p (xs ++ w ∷ ys) ≡ count_by p (xs ++ ys) + cond (p w) 1 0
  count_among p xs ys w = omega (arith, sum_by-append (λ v. cond (p v) 1 0) xs (w ∷ ys), sum_by-cons (λ v. cond (p v) 1 0) w ys, sum_by-append (λ v. cond (p v) 1 0) xs ys)

  times_among : (s : ℕ) (xs ys : List (Waiter C)) (w : Waiter C) → times_in s (xs ++ w ∷ ys) ≡ times_in s (xs ++ ys) + one_if (eqb w.seat s)
  times_among s xs ys w = count_among (λ v. eqb v.seat s) xs ys w

  length_among : (xs ys : List (Waiter C)) (w : Waiter C) → length (xs ++ w ∷ ys) ≡ length (xs ++ ys) + 1
  length_among xs ys w = omega (arith, length-append xs (w ∷ ys), length-append xs ys)

  counted_more : (xs ys : List (Waiter C)) (w : Waiter C) → counts_more (counts_of (xs ++ ys)) w ≡ counts_of (xs ++ w ∷ ys)
  counted_more xs ys w = counts_same _ _ _ _ _ _ _ _ (sym (length_among xs ys w)) (sym (count_among has_condition xs ys w)) (sym (count_among writes_plainly xs ys w)) (sym (count_among is_long xs ys w))

  counted_less : (xs ys : List (Waiter C)) (w : Waiter C) → counts_less (counts_of (xs ++ w ∷ ys)) w ≡ counts_of (xs ++ ys)
  counted_less xs ys w = counts_same _ _ _ _ _ _ _ _ (omega (arith, length_among xs ys w)) (omega (arith, count_among has_condition xs ys w)) (omega (arith, count_among writes_plainly xs ys w)) (omega (arith, count_among is_long xs ys w))

  -- ---- seats

  below_rest : (w : Waiter C) (ws : List (Waiter C)) → HaveSeats (w ∷ ws) → (w.seat < 64) × HaveSeats ws
  below_rest w ws below = (
    stands_low w.seat (w ∷ ws) below (let one = ap one_if (eq-eqb w.seat w.seat refl) in omega (arith, times_in-cons w.seat w ws, one)),
    λ s high. omega (arith, below s high, times_in-cons s w ws),
  )

  pub last_low : (x : ℕ) (ws : List (Waiter C)) → x < 65 → HaveSeats ws → last_seat x ws < 65
  last_low x [] low below = low
  last_low x (w ∷ ws) low below = let r = below_rest w ws below in last_low w.seat ws (omega (arith, r.0)) r.1

  pub first_low : (ws : List (Waiter C)) → HaveSeats ws → first_seat 64 ws < 65
  first_low [] below = omega arith
  first_low (w ∷ ws) below = let r = below_rest w ws below in omega (arith, r.0)

  below_parts : (xs ys : List (Waiter C)) → HaveSeats (xs ++ ys) → HaveSeats xs × HaveSeats ys
  below_parts xs ys below = (λ s high. omega (arith, below s high, times_in-append s xs ys), λ s high. omega (arith, below s high, times_in-append s xs ys))

  spread : (ws : List (Waiter C)) → HaveSeats ws → ((s : ℕ) → times_in s ws ≤ 1) → Spread 64 ws 64
  spread ws below once = record { front = below 64 (omega arith); back = below 64 (omega arith); once = once }

  -- ---- what the links and entries hold

  pub row_of : (held : List (Option (Waiter C))) (nx pv : List ℕ) (c : Counts) (ws : List (Waiter C)) → Holds held nx pv c ws → IsRow ws
  row_of held nx pv c ws h = record { once = h.ring.once; below = h.ring.below }

  pub view_of : (held : List (Option (Waiter C))) (nx pv : List ℕ) (c : Counts) (ws : List (Waiter C)) → Holds held nx pv c ws → gather held nx c.len (get_or nx 64 0) ≡ ws
  view_of held nx pv c ws h = gather_is held nx pv ws 64 64 c.len h.ring.hops h.ring.once (λ s stands. h.ring.held_by s) (ap (λ k. k.len) h.counted)

  pub closes : (held : List (Option (Waiter C))) (nx pv : List ℕ) (c : Counts) (ws : List (Waiter C)) → Holds held nx pv c ws → Holds held nx pv c (gather held nx c.len (get_or nx 64 0))
  closes held nx pv c ws h = rw (view_of held nx pv c ws h) h

  pub has_room : (held : List (Option (Waiter C))) (nx pv : List ℕ) (c : Counts) (ws : List (Waiter C)) (w : Waiter C) → Holds held nx pv c ws → w.seat < 64 → times_in w.seat ws ≡ 0 → c.len < 64
  has_room held nx pv c ws w h low free = rw h.counted (room_for 64 ws w h.ring.once h.ring.below low free)

  pub back_low : (held : List (Option (Waiter C))) (nx pv : List ℕ) (c : Counts) (ws : List (Waiter C)) → Holds held nx pv c ws → get_or pv 64 0 < 65
  back_low held nx pv c ws h = let low = last_low 64 ws (omega arith) h.ring.below in rw (last_hop nx pv ws 64 64 h.ring.hops) low

  pub front_low : (held : List (Option (Waiter C))) (nx pv : List ℕ) (c : Counts) (ws : List (Waiter C)) → Holds held nx pv c ws → get_or nx 64 0 < 65
  front_low held nx pv c ws h = let low = first_low ws h.ring.below in rw (first_hop nx pv ws 64 64 h.ring.hops) low

  -- ---- one more

  held_more : (held : List (Option (Waiter C))) (xs ys : List (Waiter C)) (w : Waiter C) → length held ≡ 64 → w.seat < 64 → times_in w.seat (xs ++ ys) ≡ 0 → ((s : ℕ) → get_or held s None ≡ seated s (xs ++ ys)) →
      (s : ℕ) → get_or (set held w.seat (Some w)) s None ≡ seated s (xs ++ w ∷ ys)
  held_more held xs ys w size low free by s = elim (cases_eq w.seat s) [
    | inl e ↦ (let P : ℕ → Type 0 = λ k. get_or (set held w.seat (Some w)) k None ≡ seated k (xs ++ w ∷ ys) in
        subst P e (get_or-set_same held w.seat (Some w) None (omega (arith, size, low)) ∙ sym (seated_here xs ys w (omega (arith, free, times_in-append w.seat xs ys)))))
    | inr ne ↦ get_or-set_other held w.seat s (Some w) None (λ e. ne (sym e)) ∙ by s ∙ sym (seated_other s xs ys w ne)
  ]

  pub row_more : (xs ys : List (Waiter C)) (w : Waiter C) → IsRow (xs ++ ys) → w.seat < 64 → times_in w.seat (xs ++ ys) ≡ 0 → IsRow (xs ++ w ∷ ys)
  row_more xs ys w row low free =
      let more : (s : ℕ) → times_in s (xs ++ w ∷ ys) ≤ times_in s (xs ++ ys) + one_if (eqb w.seat s) = λ s. omega (arith, times_among s xs ys w) in
      record { once = one_more _ (λ s. times_in s (xs ++ w ∷ ys)) w.seat more free row.once; below = none_more _ (λ s. times_in s (xs ++ w ∷ ys)) w.seat 64 more low row.below }

  pub row_back : (ws : List (Waiter C)) (w : Waiter C) → IsRow ws → w.seat < 64 → times_in w.seat ws ≡ 0 → IsRow (ws ++ w ∷ [])
  row_back ws w row low free = row_more ws [] w (rw (append-nil ws) row) low (rw (append-nil ws) free)

  more_holds : (held : List (Option (Waiter C))) (nx pv : List ℕ) (c : Counts) (xs ys : List (Waiter C)) (w : Waiter C) → Holds held nx pv c (xs ++ ys) → w.seat < 64 → times_in w.seat (xs ++ ys) ≡ 0 →
      Holds (set held w.seat (Some w)) (set (set nx (last_seat 64 xs) w.seat) w.seat (first_seat 64 ys)) (set (set pv (first_seat 64 ys) w.seat) w.seat (last_seat 64 xs)) (counts_more c w) (xs ++ w ∷ ys)
  more_holds held nx pv c xs ys w h low free =
      let r = h.ring in
      let row = row_more xs ys w (row_of held nx pv c (xs ++ ys) h) low free in
      let parts = below_parts xs ys r.below in
      let a = last_low 64 xs (omega arith) parts.0 in
      let b = first_low ys parts.1 in
      record {
        ring = record {
          hops = linked nx pv xs ys w 64 64 (spread (xs ++ ys) r.below r.once) (λ e. omega (arith, e, low)) (λ e. omega (arith, e, low)) free (omega (arith, a, r.nexts)) (omega (arith, low, r.nexts)) (omega (arith, b, r.prevs)) (omega (arith, low, r.prevs)) r.hops;
          held_by = held_more held xs ys w r.entries low free r.held_by;
          once = row.once;
          below = row.below;
          entries = length-set held w.seat (Some w) ∙ r.entries;
          nexts = length-set _ w.seat (first_seat 64 ys) ∙ length-set nx (last_seat 64 xs) w.seat ∙ r.nexts;
          prevs = length-set _ w.seat (last_seat 64 xs) ∙ length-set pv (first_seat 64 ys) w.seat ∙ r.prevs;
        };
        counted = ap (λ k. counts_more k w) h.counted ∙ counted_more xs ys w;
      }

  pub pushed_back : (held held' : List (Option (Waiter C))) (nx nx' pv pv' : List ℕ) (c c' : Counts) (ws : List (Waiter C)) (w : Waiter C) → Holds held nx pv c ws → w.seat < 64 → times_in w.seat ws ≡ 0 →
      held' ≡ set held w.seat (Some w) → nx' ≡ set (set nx (get_or pv 64 0) w.seat) w.seat 64 → pv' ≡ set (set pv 64 w.seat) w.seat (get_or pv 64 0) → c' ≡ counts_more c w → Holds held' nx' pv' c' (ws ++ w ∷ [])
  pushed_back held held' nx nx' pv pv' c c' ws w h low free e n p k =
      let last = last_hop nx pv ws 64 64 h.ring.hops in
      let more = more_holds held nx pv c ws [] w (rw (append-nil ws) h) low (rw (append-nil ws) free) in
      rw (e, n, p, k, last) more

  pub pushed_front : (held held' : List (Option (Waiter C))) (nx nx' pv pv' : List ℕ) (c c' : Counts) (ws : List (Waiter C)) (w : Waiter C) → Holds held nx pv c ws → w.seat < 64 → times_in w.seat ws ≡ 0 →
      held' ≡ set held w.seat (Some w) → nx' ≡ set (set nx 64 w.seat) w.seat (get_or nx 64 0) → pv' ≡ set (set pv (get_or nx 64 0) w.seat) w.seat 64 → c' ≡ counts_more c w → Holds held' nx' pv' c' (w ∷ ws)
  pushed_front held held' nx nx' pv pv' c c' ws w h low free e n p k =
      let first = first_hop nx pv ws 64 64 h.ring.hops in rw (e, n, p, k, first) (more_holds held nx pv c [] ws w h low free)

  -- ---- one less

  held_less : (held : List (Option (Waiter C))) (xs ys : List (Waiter C)) (w : Waiter C) → length held ≡ 64 → w.seat < 64 → times_in w.seat (xs ++ ys) ≡ 0 → ((s : ℕ) → get_or held s None ≡ seated s (xs ++ w ∷ ys)) →
      (s : ℕ) → get_or (set held w.seat None) s None ≡ seated s (xs ++ ys)
  held_less held xs ys w size low free by s = elim (cases_eq w.seat s) [
    | inl e ↦ (let P : ℕ → Type 0 = λ k. get_or (set held w.seat None) k None ≡ seated k (xs ++ ys) in
        subst P e (get_or-set_same held w.seat None None (omega (arith, size, low)) ∙ sym (seated_none w.seat (xs ++ ys) free)))
    | inr ne ↦ get_or-set_other held w.seat s None None (λ e. ne (sym e)) ∙ by s ∙ seated_other s xs ys w ne
  ]

  less_holds : (held : List (Option (Waiter C))) (nx pv : List ℕ) (c : Counts) (xs ys : List (Waiter C)) (w : Waiter C) → Holds held nx pv c (xs ++ w ∷ ys) →
      Holds (set held w.seat None) (set nx (last_seat 64 xs) (first_seat 64 ys)) (set pv (first_seat 64 ys) (last_seat 64 xs)) (counts_less c w) (xs ++ ys)
  less_holds held nx pv c xs ys w h =
      let r = h.ring in
      let one = ap one_if (eq-eqb w.seat w.seat refl) in
      let here = times_among w.seat xs ys w in
      let low = stands_low w.seat (xs ++ w ∷ ys) r.below (omega (arith, here, one)) in
      let parts = below_parts xs (w ∷ ys) r.below in
      let behind_it = below_rest w ys parts.1 in
      let a = last_low 64 xs (omega arith) parts.0 in
      let b = first_low ys behind_it.1 in
      record {
        ring = record {
          hops = joined nx pv xs ys w 64 64 (spread (xs ++ w ∷ ys) r.below r.once) (omega (arith, a, r.nexts)) (omega (arith, b, r.prevs)) r.hops;
          held_by = held_less held xs ys w r.entries low (omega (arith, here, one, r.once w.seat)) r.held_by;
          once = λ s. omega (arith, times_among s xs ys w, r.once s);
          below = λ s high. omega (arith, times_among s xs ys w, r.below s high);
          entries = length-set held w.seat None ∙ r.entries;
          nexts = length-set nx (last_seat 64 xs) (first_seat 64 ys) ∙ r.nexts;
          prevs = length-set pv (first_seat 64 ys) (last_seat 64 xs) ∙ r.prevs;
        };
        counted = ap (λ k. counts_less k w) h.counted ∙ counted_less xs ys w;
      }

  -- ---- at a seat

  pub links_are : (held : List (Option (Waiter C))) (nx pv : List ℕ) (c : Counts) (ws : List (Waiter C)) (s : ℕ) → Holds held nx pv c ws → 1 ≤ times_in s ws → (get_or nx s 0 ≡ first_seat 64 (behind s ws)) × (get_or pv s 0 ≡ last_seat 64 (ahead s ws))
  links_are held nx pv c ws s h stands = links_at nx pv s ws 64 64 stands h.ring.hops

  pub place_low : (held : List (Option (Waiter C))) (nx pv : List ℕ) (c : Counts) (ws : List (Waiter C)) (s : ℕ) → Holds held nx pv c ws → 1 ≤ times_in s ws → s < 64
  place_low held nx pv c ws s h stands = stands_low s ws h.ring.below stands

  do_count : (xs ys : List (Waiter C)) (w : Waiter C) → DoCount (counts_of (xs ++ w ∷ ys)) w
  do_count xs ys w = record {
    one = omega (arith, length_among xs ys w);
    conditional = omega (arith, count_among has_condition xs ys w);
    plain_writers = omega (arith, count_among writes_plainly xs ys w);
    long = omega (arith, count_among is_long xs ys w);
  }

  -- who lies in the entry of a seat that stands there
  entry_same : (held : List (Option (Waiter C))) (nx pv : List ℕ) (c : Counts) (ws : List (Waiter C)) (s : ℕ) (w : Waiter C) → Holds held nx pv c ws → get_or held s None ≡ Some w → seated s ws ≡ Some w
  entry_same held nx pv c ws s w h is = sym (h.ring.held_by s) ∙ is

  pub counts_it : (held : List (Option (Waiter C))) (nx pv : List ℕ) (c : Counts) (ws : List (Waiter C)) (s : ℕ) (w : Waiter C) → Holds held nx pv c ws → get_or held s None ≡ Some w → DoCount c w
  counts_it held nx pv c ws s w h is = rw (h.counted, (found s ws w (entry_same held nx pv c ws s w h is)).is) (do_count (ahead s ws) (behind s ws) w)

  pub removed : (held held' : List (Option (Waiter C))) (nx nx' pv pv' : List ℕ) (c c' : Counts) (ws : List (Waiter C)) (s : ℕ) (w : Waiter C) → Holds held nx pv c ws → 1 ≤ times_in s ws → get_or held s None ≡ Some w →
      held' ≡ set held s None → nx' ≡ set nx (get_or pv s 0) (get_or nx s 0) → pv' ≡ set pv (get_or nx s 0) (get_or pv s 0) → c' ≡ counts_less c w → Holds held' nx' pv' c' (without_in s ws)
  removed held held' nx nx' pv pv' c c' ws s w h stands is e n q k =
      let f = found s ws w (entry_same held nx pv c ws s w h is) in
      let b = links_are held nx pv c ws s h stands in
      let P : List (Waiter C) → Type 0 = λ vs. Holds held nx pv c vs in
      let less = less_holds held nx pv c (ahead s ws) (behind s ws) w (subst P f.is h) in
      rw (without_is s ws w (row_of held nx pv c ws h) f, e, n, q, k, b.0, b.1) (rw f.here at less)

  pub places_low : (s : ℕ) (ws : List (Waiter C)) → IsRow ws → 1 ≤ times_in s ws → (last_seat 64 (ahead s ws) < 65) × (first_seat 64 (behind s ws) < 65)
  places_low s ws row stands =
      let st = standing s ws stands in
      let rows = row_parts (ahead s ws) (st.w ∷ behind s ws) (row_at ws _ (found s ws st.w st.is).is row) in
      (last_low 64 (ahead s ws) (omega arith) rows.0.below, first_low (behind s ws) (row_rest st.w (behind s ws) rows.1).below)

  pub links_low : (held : List (Option (Waiter C))) (nx pv : List ℕ) (c : Counts) (ws : List (Waiter C)) (s : ℕ) → Holds held nx pv c ws → 1 ≤ times_in s ws → (get_or pv s 0 < 65) × (get_or nx s 0 < 65)
  links_low held nx pv c ws s h stands = let b = links_are held nx pv c ws s h stands in rw (b.0, b.1) (places_low s ws (row_of held nx pv c ws h) stands)

  -- a seat that stands there has an entry that isn't empty
  pub not_empty : (held : List (Option (Waiter C))) (nx pv : List ℕ) (c : Counts) (ws : List (Waiter C)) (s : ℕ) → Holds held nx pv c ws → 1 ≤ times_in s ws → get_or held s None ≡ None → ⊥
  not_empty held nx pv c ws s h stands none = let some = sym (h.ring.held_by s ∙ (standing s ws stands).is) ∙ none in absurd (cc)

  pub nobody_above : (held : List (Option (Waiter C))) (nx pv : List ℕ) (c : Counts) (ws : List (Waiter C)) (s : ℕ) → Holds held nx pv c ws → 64 ≤ s → None ≡ seated s ws
  nobody_above held nx pv c ws s h high = sym (seated_none s ws (h.ring.below s high))

  pub entry_read : (held : List (Option (Waiter C))) (nx pv : List ℕ) (c : Counts) (ws : List (Waiter C)) (s : ℕ) (o : Option (Waiter C)) → Holds held nx pv c ws → s < 64 → o ≡ get_or held s o → get_or held s None ≡ o
  entry_read held nx pv c ws s o h low is = sym (is ∙ get_or_default held s o None (omega (arith, low, h.ring.entries)))

  -- an entry tells whether its seat stands there
  pub tells : (s : ℕ) (ws : List (Waiter C)) (o : Option (Waiter C)) (b : Bool) → o ≡ seated s ws → b ≡ is_some o → IsTrue b ↔ (0 < times_in s ws)
  tells s ws o b is told = (
    λ yes. elim (cases_lt 0 (times_in s ws)) [
      | inl here ↦ here
      | inr none ↦ absurd (let no = told ∙ ap is_some (is ∙ seated_none s ws (omega (arith, none))) in IsTrue_not b yes no)
    ],
    λ here. IsTrue_of b (told ∙ ap is_some is ∙ ap is_some (standing s ws here).is),
  )

  -- whoever is found by its seat stands there
  pub found_stands : (o : Option (Bor (Waiter C))) (s : ℕ) (ws : List (Waiter C)) → option_copied o ≡ seated s ws → OnSome o (0 < times_in s ws)
  found_stands None s ws is = tt
  found_stands (Some w) s ws is = seated_stands s ws w.now (sym is)

  -- no kind has more than there are
  pub are_counts : (held : List (Option (Waiter C))) (nx pv : List ℕ) (c : Counts) (ws : List (Waiter C)) → Holds held nx pv c ws → AreCounts c
  are_counts held nx pv c ws h = rw h.counted (record { conditional = count_by-le-length has_condition ws; plain_writers = count_by-le-length writes_plainly ws; long = count_by-le-length is_long ws })

  pub nobody : (o : Option (Waiter C)) → o ≡ None → Holds {C = C} (replicate 64 o) (replicate 65 64) (replicate 65 64) (record { len = 0; conditional = 0; plain_writers = 0; long = 0 }) []
  nobody o is = record {
    ring = record { hops = (refl, refl); held_by = λ s. none_in_row 64 s o is; once = λ s. omega arith; below = λ s high. refl; entries = refl; nexts = refl; prevs = refl };
    counted = refl;
  }
