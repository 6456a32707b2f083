-- Wakes that are owed, and what a flag tells that a wake has set.
use Rattle.std.specs.Prelude.{Bool, List, None, Option, Some, [], false, if◌then◌else◌, map, nat_lt, true, ℕ, ◌+◌, ◌-◌, ◌<◌, ◌==◌, ◌||◌, ◌∷◌, ◌≡◌, ◌≤◌, ◌⊎◌}
use Rattle.ns_word.specs.Names.{Owed, Waiter}

-- what the wake of one taken from the lock list sets the flag to: it tells the variable whose wake had moved it there, if one had
abbrev pub value_of : Option ℕ → ℕ
value_of None = 0
value_of (Some k) = if nat_lt k 4 then 6 + k else 0

-- the wakes of those seats, taken from the lock list, where these variables' wakes had moved them
abbrev pub called_by : List ℕ → List (Option ℕ) → List Owed
called_by [] vias = []
called_by (seat ∷ seats) [] = []
called_by (seat ∷ seats) (via ∷ vias) = record { seat = seat; value = value_of via } ∷ called_by seats vias

-- the wakes of those whom a scan takes from the lock list
abbrev pub called_of : {C : Type 0} → List (Waiter C) → List Owed
called_of ws = map (λ w. record { seat = w.seat; value = value_of w.via }) ws

-- the wake of one, of this seat, whom a call takes from the list of the variable k
abbrev pub wake_by : ℕ → ℕ → Owed
wake_by k seat = record { seat = seat; value = 2 + k }

-- the wakes of those whom a call takes from the list of the variable k
abbrev pub wakes_of : {C : Type 0} → ℕ → List (Waiter C) → List Owed
wakes_of k ws = map (λ w. wake_by k w.seat) ws

-- a flag of this value tells that its seat was taken from the lock list
abbrev pub is_from_lock : ℕ → Bool
is_from_lock value = (value == 0) || nat_lt 5 value

-- the variable of which a flag of this value tells: that in whose list its seat was taken, or whose wake had moved it to the lock list
abbrev pub variable_told : ℕ → ℕ
variable_told value = if nat_lt 5 value then value - 6 else value - 2

-- how many of the wakes are to the seat
abbrev pub times_among : ℕ → List Owed → ℕ
times_among seat [] = 0
times_among seat (wake ∷ wakes) = (if wake.seat == seat then 1 else 0) + times_among seat wakes

-- a wake of one taken from the lock list, or from that of one of four variables, tells so
abbrev pub Tells : Bool → Owed → Type 0
Tells true wake = (wake.value ≡ 0) ⊎ ((6 ≤ wake.value) × (wake.value < 10))
Tells false wake = (2 ≤ wake.value) × (wake.value < 6)
