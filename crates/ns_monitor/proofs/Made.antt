-- New seats.
use Rattle.std.proofs.Common.{None, [], refl, subst, sym, ℕ, ◌∷◌, ◌≡◌}
use Rattle.ns_monitor.proofs.Prelude.{IsAtRest, SeatOf, Truths, fresh_seat, the}

module _ (C : Type 0) (N : ℕ) where
  -- a new seat is at rest, with nothing in hand
  pub new_rests : (truths : Truths C) (seat_count i : ℕ) (me : SeatOf C N) → me ≡ (fresh_seat seat_count i ∷ [], []) → IsAtRest truths me × ((the me.0).at.held ≡ None)
  new_rests truths seat_count i me is = subst (λ (m : SeatOf C N). IsAtRest truths m × ((the m.0).at.held ≡ None)) (sym is) (record { one = tt; empty = refl; over = refl; owes = refl; settled = tt; wide = tt; true_to = record { legal = tt; by_seats = tt; own = refl } }, refl)
