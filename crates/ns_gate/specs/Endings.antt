-- What is known of a gate that is closed, by a seat of it.
use Rattle.std.specs.Prelude.{Bool, List, Some, not, slice_get, true, ℕ, ◌≡◌, ◌≤◌}
use Rattle.ns_gate.specs.Names.{Event, IsLawful, IsTold, LockState, Truths, is_held, row_after}
use Rattle.ns_gate.specs.Law.{GateView}

-- The gate has come to a lawful state, in which the cells are this row, and the lock is free or held as is told; the seat stands there, and was told of the history so far. Where the lock is free, the row is the one after that history.
pub record EndsAs {C : Type 0} {N : ℕ} (truths : Truths C) (v : GateView C N) (row : List ℕ) (free : Bool) : Type 0 where
  pub state : LockState C N
  pub history : List (Event C N)
  pub few : v.seat_count ≤ 64
  pub lawful : IsLawful truths v.seat_count history state
  pub row_is : row ≡ state.row
  pub free_is : free ≡ not (is_held state.word)
  pub after : free ≡ true → row ≡ row_after history
  pub stands : slice_get state.views v.at.seat ≡ Some v.at
  pub told : IsTold truths.holds v.seat_count history v.at.seat v.at.walk v.told
