-- The lists as the fields hold them.
use Rattle.std.proofs.Common.{List, [], ap, arith, drop, eqb, get_or, inl, inr, length, length-set, map, not, refl, set, subst, sym, take, ℕ, ◌++◌, ◌+◌, ◌<◌, ◌∙◌, ◌∷◌, ◌≡◌, ◌≤◌}
use Rattle.ns_queue.proofs.Prelude.{ArrayVec, Cv, IsOrderly, Lists, Waiter, beside, cases_eq, get_or-le-sum_by, get_or-map, length-map, map-set, map_over_more, one_if, sum_by, sum_by_more, times, times_in, waiters_of, with_waiters, without_in}
use Rattle.ns_queue.proofs.Marking.{times_in-filter}
use Rattle.ns_queue.proofs.Seats.{none_more, one_more, times_in_push}
use Rattle.ns_queue.proofs.Orders.{orderly_more, orderly_less, times_set, cv_times, part_has_room}
use Rattle.ns_queue.proofs.Parts.{once_in, read_apart, read_back}
use Rattle.ns_queue.proofs.Shown.{four_of}

module _ {C : Type 0} where
  abbrev pub shape : List (Waiter C) → List (ArrayVec (Waiter C)) → Lists C
  shape lock cvs = record { lock = lock; cvs = map (λ v. v.items) cvs }

  four_lists : (lock : List (Waiter C)) (cvs : List (ArrayVec (Waiter C))) → IsOrderly (shape lock cvs) → length cvs ≡ 4
  four_lists lock cvs orderly = rw length-map at orderly.four

  -- there is a list of each variable
  pub list_there : (lock : List (Waiter C)) (cvs : List (ArrayVec (Waiter C))) (k : ℕ) → IsOrderly (shape lock cvs) → k < 4 → k < length cvs
  list_there lock cvs k orderly low = omega (arith, four_lists lock cvs orderly)

  pub list_at : (lock : List (Waiter C)) (cvs : List (ArrayVec (Waiter C))) (k : ℕ) (d : ArrayVec (Waiter C)) → IsOrderly (shape lock cvs) → k < 4 →
      waiters_of (shape lock cvs) (Cv k) ≡ (get_or cvs k d).items
  list_at lock cvs k d orderly low = get_or-map (λ v. v.items) cvs k d [] (omega (arith, four_lists lock cvs orderly))

  pub list_put : (lock : List (Waiter C)) (cvs : List (ArrayVec (Waiter C))) (k : ℕ) (v : ArrayVec (Waiter C)) →
      shape lock (set cvs k v) ≡ with_waiters (shape lock cvs) (Cv k) v.items
  list_put lock cvs k v = ap (λ (vs : List (List (Waiter C))). record { lock = lock; cvs = vs }) (map-set (λ v. v.items) cvs k v)

  pub list_has_room : (lock : List (Waiter C)) (cvs : List (ArrayVec (Waiter C))) (k : ℕ) (d : ArrayVec (Waiter C)) (w : Waiter C) →
      IsOrderly (shape lock cvs) → k < 4 → w.seat < 64 → beside (shape lock cvs) w.seat k ≡ 0 → length (get_or cvs k d).items < 64
  list_has_room lock cvs k d w orderly within low free =
      let room = part_has_room (shape lock cvs) (waiters_of (shape lock cvs) (Cv k)) w orderly (once_in (shape lock cvs) (Cv k) orderly within) (λ seat. cv_times (shape lock cvs) k seat (omega (arith, orderly.four))) low (omega (arith, free)) in
      omega (arith, room, ap length (list_at lock cvs k d orderly within))

  -- one more in the lock list
  pub lock_more : (lock lock' : List (Waiter C)) (cvs : List (ArrayVec (Waiter C))) (w : Waiter C) → IsOrderly (shape lock cvs) → w.seat < 64 → times w.seat (shape lock cvs) ≡ 0 →
      ((seat : ℕ) → times_in seat lock' ≡ times_in seat lock + one_if (eqb w.seat seat)) → IsOrderly (shape lock' cvs)
  lock_more lock lock' cvs w orderly low free more =
      orderly_more (shape lock cvs) (shape lock' cvs) w orderly low free orderly.four (λ seat k within. omega (arith, more seat)) (λ seat. omega (arith, more seat))

  -- a list of a variable, changed
  put_times : (lock : List (Waiter C)) (cvs : List (ArrayVec (Waiter C))) (k : ℕ) (d v : ArrayVec (Waiter C)) → IsOrderly (shape lock cvs) → k < 4 → (seat : ℕ) →
      times seat (shape lock (set cvs k v)) + times_in seat (get_or cvs k d).items ≡ times seat (shape lock cvs) + times_in seat v.items
  put_times lock cvs k d v orderly low seat =
      omega (arith, times_set (shape lock cvs) k v.items seat (omega (arith, orderly.four)), ap (times seat) (list_put lock cvs k v), ap (times_in seat) (list_at lock cvs k d orderly low))

  put_four : (lock : List (Waiter C)) (cvs : List (ArrayVec (Waiter C))) (k : ℕ) (v : ArrayVec (Waiter C)) → IsOrderly (shape lock cvs) → length (map (λ (u : ArrayVec (Waiter C)). u.items) (set cvs k v)) ≡ 4
  put_four lock cvs k v orderly = rw (length-map, length-set) (four_lists lock cvs orderly)

  -- how often a seat stands beside the lock's list then
  put_beside : (lock : List (Waiter C)) (cvs : List (ArrayVec (Waiter C))) (k : ℕ) (d v : ArrayVec (Waiter C)) (n seat : ℕ) → IsOrderly (shape lock cvs) → k < 4 → times_in seat v.items ≤ times_in seat (get_or cvs k d).items + n → (j : ℕ) → j < 4 →
      beside (shape lock (set cvs k v)) seat j ≤ beside (shape lock cvs) seat j + n
  put_beside lock cvs k d v n seat orderly low more j within =
      let put = list_put lock cvs k v in
      let there : (j : ℕ) → beside (shape lock (set cvs k v)) seat j ≡ beside (with_waiters (shape lock cvs) (Cv k) v.items) seat j = λ j. ap (λ (lists : Lists C). beside lists seat j) put in
      elim (cases_eq j k) [
        | inl e ↦ (let P : ℕ → Type 0 = λ i. beside (shape lock (set cvs k v)) seat i ≤ beside (shape lock cvs) seat i + n in subst P (sym e)
            (omega (arith, there k, more, ap (times_in seat) (read_back (shape lock cvs) (Cv k) v.items orderly.four low), ap (times_in seat) (list_at lock cvs k d orderly low))))
        | inr ne ↦ omega (arith, there j, ap (times_in seat) (read_apart (shape lock cvs) k j v.items ne))
      ]

  -- one more in it, who stood neither there nor in the lock's
  pub list_pushed : (lock : List (Waiter C)) (cvs : List (ArrayVec (Waiter C))) (k : ℕ) (d v : ArrayVec (Waiter C)) (w : Waiter C) → IsOrderly (shape lock cvs) → k < 4 → w.seat < 64 →
      beside (shape lock cvs) w.seat k ≡ 0 → v.items ≡ (get_or cvs k d).items ++ w ∷ [] → IsOrderly (shape lock (set cvs k v))
  list_pushed lock cvs k d v w orderly within low free is =
      let new = shape lock (set cvs k v) in
      let more : (seat : ℕ) → times_in seat v.items ≡ times_in seat (get_or cvs k d).items + one_if (eqb w.seat seat) = λ seat. ap (times_in seat) is ∙ times_in_push (get_or cvs k d).items w seat in
      let here : (seat : ℕ) → beside new seat k ≤ 1 = one_more (λ s. beside (shape lock cvs) s k) (λ s. beside new s k) w.seat
      (λ seat. put_beside lock cvs k d v (one_if (eqb w.seat seat)) seat orderly within (omega (arith, more seat)) k within) free (λ seat. orderly.once seat k within) in
      record {
        four = put_four lock cvs k v orderly;
        once = λ seat j low_j. elim (cases_eq j k) [
          | inl e ↦ (let P : ℕ → Type 0 = λ i. beside new seat i ≤ 1 in subst P (sym e) (here seat))
          | inr ne ↦ omega (arith, ap (λ (lists : Lists C). beside lists seat j) (list_put lock cvs k v), ap (times_in seat) (read_apart (shape lock cvs) k j v.items ne), orderly.once seat j low_j)
        ];
        below = none_more (λ s. times s (shape lock cvs)) (λ s. times s new) w.seat 64 (λ seat. omega (arith, put_times lock cvs k d v orderly within seat, more seat)) low orderly.below;
      }

  pub lock_lessened : (lock lock' : List (Waiter C)) (cvs : List (ArrayVec (Waiter C))) → IsOrderly (shape lock cvs) →
      ((seat : ℕ) → times_in seat lock' ≤ times_in seat lock) → IsOrderly (shape lock' cvs)
  lock_lessened lock lock' cvs orderly less = orderly_less (shape lock cvs) (shape lock' cvs) orderly orderly.four (λ seat k within. omega (arith, less seat)) (λ seat. omega (arith, less seat))

  -- the same lists once more
  pub again : (lists : Lists C) (lock : List (Waiter C)) (a b c d : ArrayVec (Waiter C)) → length lists.cvs ≡ 4 → lock ≡ lists.lock →
      a.items ≡ waiters_of lists (Cv 0) → b.items ≡ waiters_of lists (Cv 1) → c.items ≡ waiters_of lists (Cv 2) → d.items ≡ waiters_of lists (Cv 3) → shape lock (a ∷ b ∷ c ∷ d ∷ []) ≡ lists
  again lists lock a b c d four is p q r s = rw (is, p, q, r, s, ← four_of lists.cvs [] four) refl

  -- a seat in one of the lists, and in none of them so far
  pub some_list : (cvs : List (ArrayVec (Waiter C))) (i : ℕ) (d : ArrayVec (Waiter C)) (ws : List (Waiter C)) (seat : ℕ) → i < 4 → length cvs ≡ 4 → ws ≡ (get_or cvs i d).items →
      0 < times_in seat ws → 0 < sum_by (times_in seat) (map (λ u. u.items) cvs)
  some_list cvs i d ws seat within four is here =
      let at = get_or-map (λ u. u.items) cvs i d [] (omega arith) in
      let most = get_or-le-sum_by (times_in seat) (map (λ u. u.items) cvs) i [] (rw length-map (omega arith)) in
      omega (arith, most, here, ap (times_in seat) at, ap (times_in seat) is)

  pub more_lists : (cvs : List (ArrayVec (Waiter C))) (i : ℕ) (d : ArrayVec (Waiter C)) (ws : List (Waiter C)) (seat : ℕ) → i < 4 → length cvs ≡ 4 → ws ≡ (get_or cvs i d).items →
      times_in seat ws ≡ 0 → sum_by (times_in seat) (take i (map (λ u. u.items) cvs)) ≡ 0 → sum_by (times_in seat) (take (i + 1) (map (λ u. u.items) cvs)) ≡ 0
  more_lists cvs i d ws seat within four is none before =
      let at = get_or-map (λ u. u.items) cvs i d [] (omega arith) in
      let more = sum_by_more (times_in seat) (map (λ u. u.items) cvs) i [] (rw length-map (omega arith)) in
      omega (arith, more, none, before, ap (times_in seat) at, ap (times_in seat) is)

  -- each list changed in turn
  pub lists_more : (f : List (Waiter C) → List (Waiter C)) (olds nows : List (ArrayVec (Waiter C))) (i : ℕ) (d v : ArrayVec (Waiter C)) → i < length olds → length nows ≡ length olds →
      map (λ u. u.items) nows ≡ map f (take i (map (λ u. u.items) olds)) ++ drop i (map (λ u. u.items) olds) → v.items ≡ f (get_or nows i d).items →
      map (λ u. u.items) (set nows i v) ≡ map f (take (i + 1) (map (λ u. u.items) olds)) ++ drop (i + 1) (map (λ u. u.items) olds)
  lists_more f olds nows i d v within same before becomes =
      let items : ArrayVec (Waiter C) → List (Waiter C) = λ u. u.items in
      let at : (get_or nows i d).items ≡ get_or (map items nows) i (get_or nows i d).items = sym (get_or-map items nows i d (get_or nows i d).items (omega arith)) in
      map-set items nows i v ∙ ap (λ (ws : List (Waiter C)). set (map items nows) i ws) becomes
      ∙ map_over_more f (map items olds) (map items nows) i (get_or nows i d).items (rw length-map within) before at

  -- a seat taken out of the lock list
  pub lock_left : (lock lock' : List (Waiter C)) (cvs : List (ArrayVec (Waiter C))) (out : ℕ) → IsOrderly (shape lock cvs) → lock' ≡ without_in out lock → IsOrderly (shape lock' cvs)
  lock_left lock lock' cvs out orderly is = lock_lessened lock lock' cvs orderly (λ seat. rw is (times_in-filter (λ w. not (eqb w.seat out)) lock seat))
