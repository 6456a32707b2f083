-- What changes one list keeps the lists orderly.
use Rattle.std.proofs.Common.{List, [], ap, arith, eqb, get_or, inl, inr, length, refl, set, ℕ, ◌+◌, ◌<◌, ◌∷◌, ◌≡◌, ◌≤◌}
use Rattle.ns_queue.proofs.Prelude.{IsOrderly, Lists, Waiter, beside, cases_lt, get_or-le-sum_by, get_or_past, one_if, sum_by-set, times, times_in}
use Rattle.ns_queue.proofs.Seats.{none_more, one_more, room_for}

module _ {C : Type 0} where
  -- who stands nowhere stands in neither
  pub free_beside : (lists : Lists C) (seat k : ℕ) → times seat lists ≡ 0 → beside lists seat k ≡ 0
  free_beside lists seat k free = elim (cases_lt k (length lists.cvs)) [
    | inl low ↦ omega (arith, get_or-le-sum_by (times_in seat) lists.cvs k [] low, free)
    | inr past ↦ omega (arith, ap (times_in seat) (get_or_past lists.cvs k [] past), free)
  ]

  -- nobody stands anywhere
  pub orderly_fresh : IsOrderly {C = C} (record { lock = []; cvs = [] ∷ [] ∷ [] ∷ [] ∷ [] })
  orderly_fresh = record { four = refl; once = λ seat k low. omega (arith, free_beside (record { lock = []; cvs = [] ∷ [] ∷ [] ∷ [] ∷ [] }) seat k (omega arith)); below = λ seat high. omega arith }

  -- one more waiter, who stood nowhere
  pub orderly_more : (old new : Lists C) (w : Waiter C) → IsOrderly old → w.seat < 64 → times w.seat old ≡ 0 → length new.cvs ≡ 4 →
      ((seat k : ℕ) → k < 4 → beside new seat k ≤ beside old seat k + one_if (eqb w.seat seat)) → ((seat : ℕ) → times seat new ≤ times seat old + one_if (eqb w.seat seat)) → IsOrderly new
  orderly_more old new w orderly low free four part more = record {
    four = four;
    once = λ seat k within. one_more (λ s. beside old s k) (λ s. beside new s k) w.seat (λ s. part s k within) (free_beside old w.seat k free) (λ s. orderly.once s k within) seat;
    below = none_more (λ s. times s old) (λ s. times s new) w.seat 64 more low orderly.below;
  }

  -- no seat more often
  pub orderly_less : (old new : Lists C) → IsOrderly old → length new.cvs ≡ 4 → ((seat k : ℕ) → k < 4 → beside new seat k ≤ beside old seat k) → ((seat : ℕ) → times seat new ≤ times seat old) → IsOrderly new
  orderly_less old new orderly four part less = record {
    four = four;
    once = λ seat k within. omega (arith, part seat k within, orderly.once seat k within);
    below = λ seat high. omega (arith, less seat, orderly.below seat high);
  }

  -- a variable's list in place of another
  pub times_set : (lists : Lists C) (k : ℕ) (ws : List (Waiter C)) (seat : ℕ) → k < length lists.cvs →
      times seat (record { lock = lists.lock; cvs = set lists.cvs k ws }) + times_in seat (get_or lists.cvs k []) ≡ times seat lists + times_in seat ws
  times_set lists k ws seat within = omega (arith, sum_by-set (times_in seat) lists.cvs k ws [] within)

  pub lock_times : (lists : Lists C) (seat : ℕ) → times_in seat lists.lock ≤ times seat lists
  lock_times lists seat = omega arith

  pub cv_times : (lists : Lists C) (k : ℕ) (seat : ℕ) → k < length lists.cvs → times_in seat (get_or lists.cvs k []) ≤ times seat lists
  cv_times lists k seat within = omega (arith, get_or-le-sum_by (times_in seat) lists.cvs k [] within)

  -- a list has room for one that doesn't stand in it
  pub part_has_room : (lists : Lists C) (ws : List (Waiter C)) (w : Waiter C) → IsOrderly lists → ((seat : ℕ) → times_in seat ws ≤ 1) → ((seat : ℕ) → times_in seat ws ≤ times seat lists) →
      w.seat < 64 → times_in w.seat ws ≡ 0 → length ws < 64
  part_has_room lists ws w orderly once part low free =
      room_for 64 ws w once (λ seat high. omega (arith, part seat, orderly.below seat high)) low free
