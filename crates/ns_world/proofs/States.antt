-- What a lawful world gives to those who show it.
use Rattle.std.proofs.Common.{IfSome, List, None, Option, Some, [], ap, arith, cond, drop, inl, inr, length, length-append, map, refl, slice_get, suc, sym, take, true, ℕ, ◌++◌, ◌+◌, ◌<◌, ◌∙◌, ◌∷◌, ◌≡◌, ◌≤◌}
use Rattle.ns_world.proofs.Prelude.{Event, HasList, Inside, IsLawful, IsLawfulWhole, LockState, Owed, Read, Seat, SeatView, Truths, Waiter, Walk, Whole, cases_eq, counts_in, few, has_armed, has_list, is_unwoken, kept, length-map, lock_of, number, one_most, owed_to, placed_below, slice_get_within}
use Rattle.ns_world.proofs.Prelude.{stands_nowhere, times, times_among, times_in, times_in-cons, unqueued, view_of, wakes_owed, walk_at, walk_of, whole_of}
use Rattle.ns_world.proofs.SeatSet.{number_here, split_here}

module _ {C : Type 0} {N : ℕ} (truths : Truths C) (w : Inside C N) (lawful : IsLawfulWhole (whole_of truths (kept w.lock w.env w.seats.items w.objects))) where
  abbrev world : Whole C N
  world = whole_of truths (kept w.lock w.env w.seats.items w.objects)

  module _ (i : ℕ) (seat : Seat C N) (at : slice_get w.seats.items i ≡ Some seat) where
    abbrev views : List (SeatView C N)
    views = map view_of w.seats.items

    -- a seat's number is one
    number_below : seat.number < 64
    number_below = let is = number_here world lawful i seat at in let low = slice_get_within w.seats.items i seat at in let few = lawful.few in omega (arith, is, low, few)

    -- one that is about to queue stands nowhere
    nowhere : has_armed (walk_of seat.doing) ≡ true → times seat.number w.lock.queues ≡ 0
    nowhere armed = stands_nowhere truths _ lawful.few w.lock.history.items (lock_of world) (take i views) (view_of seat) (drop (suc i) views) (split_here world lawful i seat at) lawful.lawful (unqueued (walk_of seat.doing) armed)

    -- the list that its walk names is one that there is
    listed : (walk : Option (Walk C)) → (walk_of seat.doing) ≡ walk → IfSome walk HasList
    listed None e = tt
    listed (Some walk) e = has_list truths _ lawful.few w.lock.history.items (lock_of world) (take i views) (view_of seat) (drop (suc i) views) (split_here world lawful i seat at) lawful.lawful walk e

  -- what showing the queues needs of each seat
  pub shown_fit : ((i : ℕ) (seat : Seat C N) → slice_get w.seats.items i ≡ Some seat → IfSome (walk_of seat.doing) HasList) × ((i : ℕ) (seat : Seat C N) → slice_get w.seats.items i ≡ Some seat → seat.number < 64)
      × ((i : ℕ) (seat : Seat C N) → slice_get w.seats.items i ≡ Some seat → has_armed (walk_of seat.doing) ≡ true → times seat.number w.lock.queues ≡ 0)
  shown_fit = (λ i seat at. listed i seat at (walk_of seat.doing) refl, number_below, nowhere)

-- ---- the wakes that are owed

abbrev wake : {C : Type 0} → Owed → Waiter C
wake owed = record { seat = owed.seat; mode = Read; cond = None; tries = 0; via = None }

-- as many waiters as wakes
owing : {C : Type 0} {N : ℕ} → List (Seat C N) → List (Waiter C)
owing [] = []
owing (seat ∷ seats) = map wake seat.owed.items ++ owing seats

times_front : {C : Type 0} (seat : ℕ) (owed : List Owed) (rest : List (Waiter C)) → times_in seat (map wake owed ++ rest) ≡ times_among seat owed + times_in seat rest
times_front seat [] rest = omega arith
times_front {C} seat (x ∷ xs) rest =
    let more = times_in-cons seat (wake {C = C} x) (map (wake {C = C}) xs ++ rest) in
    let others = times_front seat xs rest in
    omega (arith, more, others)

module _ {C : Type 0} {N : ℕ} where
  times_owing : (number : ℕ) (seats : List (Seat C N)) → times_in number (owing seats) ≡ owed_to number (map view_of seats)
  unfolding owing
  times_owing number [] = refl
  times_owing number (seat ∷ seats) = times_front number seat.owed.items (owing seats) ∙ ap (λ n. times_among number seat.owed.items + n) (times_owing number seats)

  length_owing : (seats : List (Seat C N)) → length (owing seats) ≡ length (wakes_owed seats)
  unfolding owing
  length_owing [] = refl
  length_owing (seat ∷ seats) =
      length-append (map (wake {C = C}) seat.owed.items) (owing seats) ∙ ap (λ n. length (map (wake {C = C}) seat.owed.items) + n) (length_owing seats)
      ∙ ap (λ n. n + length (wakes_owed seats)) (length-map seat.owed.items (wake {C = C}) ∙ sym (length-map seat.owed.items (λ wake. (seat.number, wake.seat))))
      ∙ sym (length-append (map (λ wake. (seat.number, wake.seat)) seat.owed.items) (wakes_owed seats))

  -- a number that is no seat's is owed nothing
  none_owed : (truths : Truths C) (seats : ℕ) (h : List (Event C N)) (s : LockState C N) → IsLawful truths seats h s → (seat : ℕ) → seats ≤ seat → owed_to seat s.views ≡ 0
  none_owed truths seats h s p seat high = elim (cases_eq (owed_to seat s.views) 0) [
    | inl none ↦ none
    | inr some ↦ let low = placed_below truths seats h s p.waiters_placed p.one_history.each seat (omega (arith, some)) in absurd (omega (arith, low, high))
  ]

  -- no more wakes are owed than there are seats
  pub wakes_few : (world : Whole C N) → IsLawfulWhole world → length (wakes_owed world.seats) ≤ 64
  wakes_few world lawful =
      let p = lawful.lawful in
      let views = map view_of world.seats in
      let long = length_owing world.seats in
      let most = lawful.few in
      let some = few (length world.seats) (owing world.seats)
      (λ seat. let sum : counts_in seat world.queues + owed_to seat views ≡ cond (is_unwoken (walk_at seat views) (world.flags seat)) 1 0 = p.waiters_placed.placed seat in
      omega (arith, times_owing seat world.seats, sum, one_most (is_unwoken (walk_at seat views) (world.flags seat))))
      (λ seat high. times_owing seat world.seats ∙ none_owed world.truths (length world.seats) world.history (lock_of world) p seat high) in
      omega (arith, long, some, most)
