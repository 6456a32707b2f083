-- What is done to the queues in a hand, over plain data.
use Rattle.std.proofs.Common.{Bool, arith, ℕ, ◌+◌, ◌≡◌}
use Rattle.ns_word.proofs.Prelude.{Lists, Lock, left_of, sum_by, times, times_in, with_waiters}
use Rattle.ns_word.proofs.Scans.{times_scan}

module _ {C : Type 0} (seat : ℕ) where
  -- a seat that stands nowhere stands nowhere after a scan
  pub free_scanned : (meets : C → Bool) (old new : Lists C) → new ≡ with_waiters old Lock (left_of meets old.lock) → times seat old ≡ 0 → times seat new ≡ 0
  free_scanned meets old new is none =
      let parts = times_scan seat meets old.lock in
      let fewer : times_in seat (left_of meets old.lock) + sum_by (times_in seat) old.cvs ≡ 0 = omega (arith, parts, none) in
      rw is fewer
