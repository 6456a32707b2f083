-- What a world shows of its queues and its owed wakes.
use Rattle.std.specs.List.{flat_map}
use Rattle.std.specs.Prelude.{List, None, Option, Some, [], if◌then◌else◌, map, ℕ, ◌∷◌}
use Rattle.ns_world.specs.Names.{Lists, Seat, Truths, Walk, has_queues, in_hand}
use Rattle.ns_world.specs.Doings.{walk_of}
use Rattle.ns_world.specs.Whole.{Whole}

-- the lists as a seat at this place has them in hand
abbrev pub hand_of : {C : Type 0} → Truths C → ℕ → Option (Walk C) → List ℕ → Lists C → Lists C
hand_of truths seat None row lists = lists
hand_of truths seat (Some walk) row lists = in_hand truths seat walk row lists

-- the lists as the seat that has the queues has them, else as they stand at home
abbrev pub lists_by : {C : Type 0} {N : ℕ} → Truths C → List ℕ → Lists C → List (Seat C N) → Lists C
lists_by truths row lists [] = lists
lists_by truths row lists (seat ∷ seats) = if has_queues (walk_of seat.doing) then hand_of truths seat.number (walk_of seat.doing) row lists else lists_by truths row lists seats

-- the lists that a world shows
abbrev pub lists_shown : {C : Type 0} {N : ℕ} → Whole C N → Lists C
lists_shown world = lists_by world.truths world.row world.queues world.seats

-- the wakes that a seat owes, in the order in which it pays
abbrev pub wakes_by : {C : Type 0} {N : ℕ} → Seat C N → List (ℕ × ℕ)
wakes_by seat = map (λ wake. (seat.number, wake.seat)) seat.owed.items

-- the wakes that the seats owe, who and whom, seat by seat
abbrev pub wakes_owed : {C : Type 0} {N : ℕ} → List (Seat C N) → List (ℕ × ℕ)
wakes_owed seats = flat_map wakes_by seats
