-- What a step may add to what is left to the other seats, by what it changes: nothing but its own place, the word, the row, or the lists.
use Rattle.std.proofs.Common.{Bool, List, None, Option, Some, [], ap, arith, cond, eq-eqb, eqb, false, inl, inr, length, length-append, lt-ltb, ltb-true, ne_eqb, refl, subst, sym, true, ℕ, ◌&&◌, ◌*◌, ◌++◌, ◌+◌, ◌<◌, ◌∷◌, ◌≡◌, ◌≢◌, ◌≤◌}
use Rattle.ns_word.proofs.Prelude.{AreApart, Change, Cv, Event, Every, Held, IsLawful, LeaveSelf, Lists, LockState, NoneIs, Owed, Part, QueueSelf, SeatView, Truths, Waiter, WaiterFits, WakeWaiters, Walk, Word, and_parts, cases_Bool, cases_eq, changed, cvs_without, every_map, every_parts, filter}
use Rattle.ns_word.proofs.Prelude.{is_eligible, is_held, is_woken, left_of, lock_stance, meets_at, moved_to, one_if, one_most, reads, standing_after, stands_at, taken_by, taken_set, times_in, times_in-append, times_in-cons, total, total_amid, tries_of, waiters_of, waits_in, walk_at, without}
use Rattle.ns_word.proofs.Prelude.{woken_of, writes, ◌∙◌}
use Rattle.ns_word.proofs.Bases.{apart_parts, times_others, times_queued, times_scan, view_of}
use Rattle.ns_word.proofs.Ranks.{rank_rises, rises, still_stands, taken_settles}
use Rattle.ns_word.specs.declared.act.Change.TheVariants.{Nothing}
use Rattle.ns_word.specs.Progress.{left_to, may_release, stands_in}
use Rattle.ns_word.proofs.Ranges.{seats_most}
use Rattle.std.proofs.Math.Nat.{add-mul, mul-le-mul_right, suc-mul}

-- ---- sums

module _ {A : Type 0} where
  -- where each adds so much at most
  pub total_rises : (P : A → Type 0) (f f' : A → ℕ) (d : ℕ) → ((u : A) → P u → f' u ≤ f u + d) → (xs : List A) → Every P xs → total f' xs ≤ total f xs + length xs * d
  total_rises P f f' d h [] p = omega arith
  total_rises P f f' d h (x ∷ xs) p = omega (arith, h x p.0, total_rises P f f' d h xs p.1, suc-mul (length xs) d)

-- what one loses is more than 63 others gain
pub more_than_all : (d x y a b a' b' m n : ℕ) → a' ≤ a + m * d → b' ≤ b + n * d → m + n ≤ 63 → y + 63 * d < x → a' + (y + b') < a + (x + b)
more_than_all d x y a b a' b' m n p q few r = omega (arith, p, q, r, add-mul m n d, mul-le-mul_right d few)

-- ---- who stands in the lock list

module _ {C : Type 0} where
  stands_still : (lock lock' : List (Waiter C)) (seat : ℕ) → times_in seat lock ≤ times_in seat lock' → stands_in lock seat ≡ true → stands_in lock' seat ≡ true
  stands_still lock lock' seat more e = let some = ltb-true 0 (times_in seat lock) e in lt-ltb 0 (times_in seat lock') (omega (arith, some, more))

  -- who puts the queues back takes no other from the lock list
  pub changed_keeps : (who : ℕ) (change : Change) (last : Word) (lists : Lists C) (seat : ℕ) → seat ≢ who → times_in seat lists.lock ≤ times_in seat (changed who change last lists).lock
  changed_keeps who (QueueSelf mode arrival) last lists seat ne = let more = times_queued seat who mode None (tries_of arrival) (is_woken arrival) lists.lock in omega (arith, more)
  changed_keeps who (LeaveSelf home) last lists seat ne =
      elim (stands_at who home lists) as (λ b. times_in seat lists.lock ≤ times_in seat (cond b (without who lists) lists).lock) [ true ↦ let same = times_others seat who lists.lock (λ e. ne (sym e)) in omega (arith, same) | false ↦ omega arith ]
  changed_keeps who (WakeWaiters waking k) last lists seat ne =
      let taken = taken_by waking (waiters_of lists (Cv k)) in
      elim (is_held last) as (λ b. times_in seat lists.lock ≤ times_in seat (moved_to b taken (cvs_without (taken_set taken) lists)).lock) [ true ↦ let more = times_in-append seat lists.lock taken in omega (arith, more) | false ↦ omega arith ]
  changed_keeps who Nothing last lists seat ne = omega arith

  module _ (P : Waiter C → Type 0) (meets : C → Bool) where
    abbrev CouldGoOn : Waiter C → Type 0
    CouldGoOn w = (is_eligible meets w ≡ true) × P w

    every_reader : (ws : List (Waiter C)) → Every P ws → Every CouldGoOn (filter (λ v. reads v && is_eligible meets v) ws)
    every_reader [] p = tt
    every_reader (w ∷ ws) p = elim (cases_Bool (reads w && is_eligible meets w)) [
      | inl goes ↦ rw goes (((and_parts (reads w) (is_eligible meets w) goes).1, p.0), every_reader ws p.1)
      | inr stays ↦ rw stays (every_reader ws p.1)
    ]

    -- whom a scan takes could go on
    every_taken : (ws : List (Waiter C)) → Every P ws → Every CouldGoOn (woken_of meets ws)
    every_taken [] p = tt
    every_taken (w ∷ ws) p = elim (cases_Bool (is_eligible meets w)) [
      | inl goes ↦ elim (cases_Bool (writes w)) [ inl alone ↦ rw (goes, alone) ((goes, p.0), tt) | inr reader ↦ rw (goes, reader) ((goes, p.0), every_reader ws p.1) ]
      | inr stays ↦ rw stays (every_taken ws p.1)
    ]

    waiter_of : (seat : ℕ) (ws : List (Waiter C)) → Every CouldGoOn ws → 1 ≤ times_in seat ws → (w : Waiter C) × (w.seat ≡ seat) × CouldGoOn w
    waiter_of seat [] p some = absurd (omega (arith, some))
    waiter_of seat (w ∷ ws) p some = elim (cases_eq w.seat seat) [
      | inl e ↦ (w, e, p.0)
      | inr ne ↦ let none : one_if (eqb w.seat seat) ≡ 0 = ap one_if (ne_eqb w.seat seat ne) in waiter_of seat ws p.1 (omega (arith, some, none, times_in-cons seat w ws))
    ]

-- ---- the places of the others

module _ {C : Type 0} {N : ℕ} where
  -- each view's place is its seat's
  abbrev pub IsAt : List (SeatView C N) → SeatView C N → Type 0
  IsAt views u = walk_at u.seat views ≡ u.walk

  abbrev IsOther : ℕ → List (SeatView C N) → SeatView C N → Type 0
  IsOther who views u = (u.seat ≢ who) × IsAt views u

  every_other : (P : SeatView C N → Type 0) (who : ℕ) (views : List (SeatView C N)) → NoneIs who views → Every P views → Every (λ u. (u.seat ≢ who) × P u) views
  every_other P who [] apart p = tt
  every_other P who (u ∷ views) apart p = ((apart.0, p.0), every_other P who views apart.1 p.1)

  pub every_at : (views : List (SeatView C N)) → AreApart views → Every (IsAt views) views
  every_at [] apart = tt
  every_at (u ∷ views) apart = (
    rw (eq-eqb u.seat u.seat refl) refl,
    every_map (λ v. (v.seat ≢ u.seat) × IsAt views v) (IsAt (u ∷ views)) (λ v p. rw (ne_eqb u.seat v.seat (λ e. p.0 (sym e))) p.1) views (every_other (IsAt views) u.seat views apart.0 (every_at views apart.1)),
  )

-- ---- a step

module _ {C : Type 0} {N : ℕ} (truths : Truths C) (who : ℕ) (views : List (SeatView C N)) where
  -- what the share of each depends on
  abbrev pub shared : Part C N → LockState C N
  shared part = record { word = part.word; row = part.row; lists = part.lists; flags = part.flags; views = [] }

  -- what is left to the seat itself, at this place
  abbrev pub share : Part C N → Option (Walk C) → ℕ
  share part walk = left_to truths (shared part) (view_of who walk part.held part.owed)

  -- The step takes more from its own seat than it adds to all others.
  pub record Falls (part next : Part C N) (walk to : Option (Walk C)) : Type 0 where
    pub most : ℕ
    pub others : (u : SeatView C N) → IsOther who views u → left_to truths (shared next) u ≤ left_to truths (shared part) u + most
    pub own : share next to + 63 * most < share part walk

  module _ (part : Part C N) (walk to : Option (Walk C)) where
    -- nothing changes but its place, its section, a flag and the wakes that it owes
    pub flag_falls : (flags : ℕ → ℕ) (held : Option (Held C N)) (owed : List Owed) → let next = record part { flags = flags; held = held; owed = owed } in share next to < share part walk → Falls part next walk to
    flag_falls flags held owed less = record { most = 0; others = λ u other. omega arith; own = omega (arith, less) }

    -- the row: each may find its condition false, and release once more
    pub row_falls : (row : List ℕ) (held : Option (Held C N)) → let next = record part { row = row; held = held } in share next to + 3780126 < share part walk → Falls part next walk to
    row_falls row held less = record {
      most = 60002;
      others = λ u other.
          let stands = stands_in part.lists.lock u.seat in
          let few = one_most (may_release (meets_at truths row) stands u.walk) in
          omega (arith, rises N (meets_at truths part.row) (meets_at truths row) stands stands part.word part.word u.walk 1 0 (omega (arith, few)) (omega arith));
      own = omega (arith, less);
    }

    module _ (word : Word) (lists : Lists C) (held : Option (Held C N)) (owed : List Owed) where
      abbrev changed_to : Part C N
      changed_to = record part { word = word; lists = lists; held = held; owed = owed }

      -- the word, and the lists, where none of the others leaves the lock list
      pub word_falls : ((seat : ℕ) → seat ≢ who → times_in seat part.lists.lock ≤ times_in seat lists.lock) → share changed_to to + 126 < share part walk → Falls part changed_to walk to
      word_falls keeps less = record {
        most = 2;
        others = λ u other.
            let meets = meets_at truths part.row in
            let same = still_stands N meets _ _ u.walk (stands_still part.lists.lock lists.lock u.seat (keeps u.seat other.0)) in
            omega (arith, rises N meets meets (stands_in part.lists.lock u.seat) (stands_in lists.lock u.seat) part.word word u.walk 0 0 same.0 same.1);
        own = omega (arith, less);
      }

      -- a scan, whom it takes goes on to acquire
      pub scan_falls : Every (WaiterFits views) part.lists.lock → ((seat : ℕ) → seat ≢ who → times_in seat (left_of (meets_at truths part.row) part.lists.lock) ≤ times_in seat lists.lock) → share changed_to to + 50526 < share part walk → Falls part changed_to walk to
      scan_falls fit keeps less = record {
        most = 802;
        others = λ u other.
            let meets = meets_at truths part.row in
            let was = stands_in part.lists.lock u.seat in
            let is = stands_in lists.lock u.seat in
            let fewer : one_if (may_release meets is u.walk) ≤ one_if (may_release meets was u.walk) + 0 = elim (cases_eq (times_in u.seat (woken_of meets part.lists.lock)) 0) [
              | inl stays ↦ (still_stands N meets was is u.walk (stands_still part.lists.lock lists.lock u.seat (omega (arith, times_scan u.seat meets part.lists.lock, keeps u.seat other.0, stays)))).0
              | inr taken ↦
                  let w = waiter_of (WaiterFits views) meets u.seat (woken_of meets part.lists.lock) (every_taken (WaiterFits views) meets part.lists.lock fit) (omega (arith, taken)) in
                  taken_settles N meets was is u.walk w.0.mode w.0.cond w.0.tries (ap (λ walk. lock_stance (waits_in walk)) (sym (ap (λ s. walk_at s views) w.1 ∙ other.1)) ∙ w.2.1) w.2.0
            ] in
            omega (arith, rises N meets meets was is part.word word u.walk 0 4 fewer (rank_rises N meets was is u.walk));
        own = omega (arith, less);
      }

  -- so less is left to all
  pub sum_falls : (seats : ℕ) (h : List (Event C N)) → seats ≤ 64 → (front back : List (SeatView C N)) (part next : Part C N) (walk : Walk C) (to : Option (Walk C)) →
      views ≡ front ++ view_of who (Some walk) part.held part.owed ∷ back → IsLawful truths seats h (record { word = part.word; row = part.row; lists = part.lists; flags = part.flags; views = views }) → Falls part next (Some walk) to →
      total (left_to truths (shared next)) (front ++ view_of who to next.held next.owed ∷ back) < total (left_to truths (shared part)) (front ++ view_of who (Some walk) part.held part.owed ∷ back)
  sum_falls seats h few front back part next walk to split p falls =
      let view = view_of who (Some walk) part.held part.owed in
      let most = seats_most truths seats (standing_after h) part.row views p.apart p.one_history.each in
      let count = ap length split ∙ length-append front (view ∷ back) in
      let apart = apart_parts front view back (subst AreApart split p.apart) in
      let at = every_parts (IsAt views) front view back (subst (λ vs. Every (IsAt views) vs) split (every_at views p.apart)) in
      let ahead = total_rises (IsOther who views) (left_to truths (shared part)) (left_to truths (shared next)) falls.most falls.others front (every_other (IsAt views) who front apart.0 at.0) in
      let behind = total_rises (IsOther who views) (left_to truths (shared part)) (left_to truths (shared next)) falls.most falls.others back (every_other (IsAt views) who back apart.1 at.2) in
      rw (total_amid (left_to truths (shared next)) front (view_of who to next.held next.owed) back, total_amid (left_to truths (shared part)) front view back)
      (more_than_all falls.most _ _ _ _ _ _ (length front) (length back) ahead behind (omega (arith, most, few, count)) falls.own)
