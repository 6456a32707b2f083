-- Waiters, one by one and in a list.
use Rattle.std.specs.Prelude.{Bool, List, [], count_by, false, filter, is_some, map, not, true, ℕ, ◌==◌, ◌∷◌, ◌≡◌, ◌≤◌}
use Rattle.ns_queue.specs.Names.{Seats, Shown, Waiter, is_in, is_write}

-- whether the list has anything
abbrev pub has_some : {A : Type 0} → List A → Bool
has_some [] = false
has_some (x ∷ xs) = true

-- the form in which a waiter is shown
abbrev pub shown_of : {C : Type 0} → Waiter C → Shown
shown_of w = record { seat = w.seat; mode = w.mode; conditional = is_some w.cond }

-- whether the waiter waits to write
abbrev pub writes : {C : Type 0} → Waiter C → Bool
writes w = is_write w.mode

-- whether the waiter waits to read
abbrev pub reads : {C : Type 0} → Waiter C → Bool
reads w = not (is_write w.mode)

-- whether the waiter waits for a condition
abbrev pub has_condition : {C : Type 0} → Waiter C → Bool
has_condition w = is_some w.cond

-- whether the waiter has failed too often after being woken; its tries are counted up to here
abbrev pub is_long : {C : Type 0} → Waiter C → Bool
is_long w = w.tries == 30

-- whether the waiter is this seat's
abbrev pub is_of : {C : Type 0} → ℕ → Waiter C → Bool
is_of seat w = w.seat == seat

-- the seats of the waiters, in order
abbrev pub seats_of : {C : Type 0} → List (Waiter C) → List ℕ
seats_of ws = map (λ w. w.seat) ws

-- how often a seat stands in a list
abbrev pub times_in : {C : Type 0} → ℕ → List (Waiter C) → ℕ
times_in seat ws = count_by (is_of seat) ws

-- a list without a seat
abbrev pub without_in : {C : Type 0} → ℕ → List (Waiter C) → List (Waiter C)
without_in seat ws = filter (λ w. not (is_of seat w)) ws

-- each waiter of the list has a number below 64
abbrev pub HaveSeats : {C : Type 0} → List (Waiter C) → Type 0
HaveSeats ws = (seat : ℕ) → 64 ≤ seat → times_in seat ws ≡ 0

-- those of the waiters whose seats aren't of the set
abbrev pub outside : {C : Type 0} → Seats → List (Waiter C) → List (Waiter C)
outside set ws = filter (λ w. not (is_in set w.seat)) ws
