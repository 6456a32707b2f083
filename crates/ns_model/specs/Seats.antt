-- A set of seats.
use Rattle.std.specs.Prelude.{ℕ, ◌^◌, Bool, ◌==◌, List, [], ◌∷◌, bit_or}
use Rattle.std.specs.Int.{bit_at}
use Rattle.ns_model.specs.declared.seats.Seats.{Seats}

-- whether the seat is of the set: bit number `seat` of its number is set
abbrev pub is_in : Seats → ℕ → Bool
is_in seats seat = bit_at seats.0 seat == 1

-- the set of these seats
abbrev pub seats_in : List ℕ → Seats
seats_in [] = record { 0 = 0 }
seats_in (seat ∷ seats) = record { 0 = bit_or (seats_in seats).0 (2 ^ seat) }
