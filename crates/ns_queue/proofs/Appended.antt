-- Waiters put at the back of the lock list, one after the other.
use Rattle.std.proofs.Common.{List, ap, arith, eq-eqb, eqb, get_or, length, sym, take, ℕ, ◌++◌, ◌+◌, ◌<◌, ◌≡◌, ◌≤◌}
use Rattle.ns_queue.proofs.Prelude.{Lists, Lock, Waiter, one_if, sum_by_more_le, times, times_in, with_waiters}
use Rattle.ns_queue.proofs.Seats.{times_in-append}

module _ {C : Type 0} where
  -- the next of them stands nowhere yet
  pub next_free : (lists now : Lists C) (ws : List (Waiter C)) (i : ℕ) (w : Waiter C) → ((seat : ℕ) → times_in seat ws ≤ 1) → ((seat : ℕ) → 1 ≤ times_in seat ws → times seat lists ≡ 0) → i < length ws → w ≡ get_or ws i w →
      now ≡ with_waiters lists Lock (lists.lock ++ take i ws) → times w.seat now ≡ 0
  next_free lists now ws i w once free within is so_far =
      let more : times_in w.seat (take i ws) + one_if (eqb (get_or ws i w).seat w.seat) ≤ times_in w.seat ws = sum_by_more_le (λ v. one_if (eqb v.seat w.seat)) ws i w within in
      let one : ◌≡◌ {A = ℕ} (one_if (eqb (get_or ws i w).seat w.seat)) 1 = ap one_if (eq-eqb (get_or ws i w).seat w.seat (ap (λ v. v.seat) (sym is))) in
      omega (arith, more, one, once w.seat, free w.seat (omega (arith, more, one)), times_in-append w.seat lists.lock (take i ws), ap (times w.seat) so_far)
