-- One of the five lists: read back, changed, and left by a seat.
use Rattle.std.proofs.Common.{List, [], add-one, ap, arith, false, inl, inr, get_or, get_or-set_other, get_or-set_same, length, length-set, map, refl, suc, true, zero, ℕ, ◌++◌, ◌+◌, ◌<◌, ◌∙◌, ◌∷◌, ◌≡◌, ◌≢◌, ◌≤◌}
use Rattle.ns_queue.proofs.Prelude.{cases_Bool, Cv, Cvs, HaveSeats, IsList, IsOrderly, Lists, Lock, Waiter, Which, beside, named_for, sum_by, sum_by-cons, times, times_in, waiters_of, with_each, with_waiters, without, without_in}
use Rattle.ns_model.specs.Cvs.{is_in}
use Rattle.ns_queue.proofs.Seats.{none_without}
use Rattle.ns_queue.proofs.Orders.{lock_times, cv_times}

module _ {C : Type 0} where
  -- ---- a list that was put

  -- what was put into a list is read there
  pub read_back : (lists : Lists C) (which : Which) (ws : List (Waiter C)) → length lists.cvs ≡ 4 → IsList which → waiters_of (with_waiters lists which ws) which ≡ ws
  read_back lists Lock ws four low = refl
  read_back lists (Cv k) ws four low = get_or-set_same lists.cvs k ws [] (omega (arith, four, low))

  -- what was put into a variable's list leaves every other variable's
  pub read_apart : (lists : Lists C) (k j : ℕ) (ws : List (Waiter C)) → j ≢ k → waiters_of (with_waiters lists (Cv k) ws) (Cv j) ≡ waiters_of lists (Cv j)
  read_apart lists k j ws ne = get_or-set_other lists.cvs k j ws [] ne

  -- and as many lists of variables as before
  pub four_kept : (lists : Lists C) (which : Which) (ws : List (Waiter C)) → length (with_waiters lists which ws).cvs ≡ length lists.cvs
  four_kept lists Lock ws = refl
  four_kept lists (Cv k) ws = length-set lists.cvs k ws

  -- ---- how often a seat stands there

  -- a seat stands in no list more often than in all of them
  pub times_at_most : (lists : Lists C) (which : Which) (seat : ℕ) → length lists.cvs ≡ 4 → IsList which → times_in seat (waiters_of lists which) ≤ times seat lists
  times_at_most lists Lock seat four low = lock_times lists seat
  times_at_most lists (Cv k) seat four low = cv_times lists k seat (omega (arith, four, low))

  -- in each of orderly lists a seat stands at most once
  pub once_in : (lists : Lists C) (which : Which) → IsOrderly lists → IsList which → (seat : ℕ) → times_in seat (waiters_of lists which) ≤ 1
  once_in lists Lock orderly is seat = omega (arith, orderly.once seat 0 (omega arith))
  once_in lists (Cv k) orderly is seat = omega (arith, orderly.once seat k is)

  -- and only seats below 64 do
  pub below_in : (lists : Lists C) (which : Which) → IsOrderly lists → IsList which → HaveSeats (waiters_of lists which)
  below_in lists which orderly is seat high = omega (arith, times_at_most lists which seat orderly.four is, orderly.below seat high)

  -- ---- a seat that stands in one of them alone is taken out of that one

  none_in_each : (seat : ℕ) (lists : List (List (Waiter C))) → ((k : ℕ) → k < length lists → times_in seat (get_or lists k []) ≡ 0) → sum_by (times_in seat) lists ≡ 0
  none_in_each seat [] none = refl
  none_in_each seat (ws ∷ lists) none = omega (arith, sum_by-cons (times_in seat) ws lists, none 0 (omega arith), none_in_each seat lists (λ k low. none (suc k) (omega (arith, low))))

  -- one who stands in the lock's list stands in no other
  pub lock_alone : (lists : Lists C) (seat : ℕ) → IsOrderly lists → 0 < times_in seat lists.lock → times seat lists ≤ 1
  lock_alone lists seat orderly here =
      let none = none_in_each seat lists.cvs (λ k low. let within : k < 4 = omega (arith, low, orderly.four) in omega (arith, here, orderly.once seat k within)) in
      omega (arith, none, orderly.once seat 0 (omega arith))

  pub lists_without : (seat : ℕ) (lists : List (List (Waiter C))) → sum_by (times_in seat) lists ≡ 0 → map (without_in seat) lists ≡ lists
  lists_without seat [] none = refl
  lists_without seat (ws ∷ lists) none =
      let sum = sum_by-cons (times_in seat) ws lists in
      rw (none_without seat ws (omega (arith, sum, none)), lists_without seat lists (omega (arith, sum, none))) refl

  -- so there the lists without it differ in the lock's alone
  pub lock_without : (lists : Lists C) (seat : ℕ) → IsOrderly lists → 0 < times_in seat lists.lock → without seat lists ≡ with_waiters lists Lock (without_in seat lists.lock)
  lock_without lists seat orderly here = rw (lists_without seat lists.cvs (omega (arith, lock_alone lists seat orderly here, here))) refl

  -- ---- a waiter in the lists of several variables

  -- what is read of the lists, and of no list of the first n variables, is read again behind
  each_kept : (read : Lists C → ℕ) (n : ℕ) (cvs : Cvs) (w : Waiter C) (lists : Lists C) → ((k : ℕ) (now : Lists C) (ws : List (Waiter C)) → k < n → read (with_waiters now (Cv k) ws) ≡ read now) → read (with_each n cvs w lists) ≡ read lists
  each_kept read zero cvs w lists same = refl
  each_kept read (suc n) cvs w lists same = let rest = each_kept read n cvs w lists (λ k now ws low. same k now ws (omega (arith, low))) in elim (cases_Bool (is_in cvs n)) [
    | inl more ↦ rw more (same n (with_each n cvs w lists) _ (omega arith) ∙ rest)
    | inr less ↦ rw less rest
  ]

  -- the lists of those that are still to come, and that of the lock, are as they were
  pub each_beside : (n seat : ℕ) (cvs : Cvs) (w : Waiter C) (lists now : Lists C) → now ≡ with_each n cvs w lists → beside now seat n ≡ beside lists seat n
  each_beside n seat cvs w lists now is =
      ap (λ (x : Lists C). beside x seat n) is ∙ each_kept (λ x. beside x seat n) n cvs w lists (λ k x ws low. ap (λ (vs : List (Waiter C)). times_in seat x.lock + times_in seat vs) (read_apart x k n ws (λ e. omega (arith, e, low))))

  -- one list further
  pub each_more : (n : ℕ) (cvs : Cvs) (w : Waiter C) (lists now new : Lists C) → is_in cvs n ≡ true → now ≡ with_each n cvs w lists → new ≡ with_waiters now (Cv n) (waiters_of now (Cv n) ++ named_for n w ∷ []) → new ≡ with_each (n + 1) cvs w lists
  each_more n cvs w lists now new has is pushed = rw (add-one, has) (pushed ∙ ap (λ (x : Lists C). with_waiters x (Cv n) (waiters_of x (Cv n) ++ named_for n w ∷ [])) is)

  pub each_less : (n : ℕ) (cvs : Cvs) (w : Waiter C) (lists now : Lists C) → is_in cvs n ≡ false → now ≡ with_each n cvs w lists → now ≡ with_each (n + 1) cvs w lists
  each_less n cvs w lists now has is = rw (add-one, has) is
