-- Whom a signal takes from the list of a condition variable, and who stays.
use Rattle.std.specs.Prelude.{List, None, Option, Some, [], drop, filter, if◌then◌else◌, ◌∷◌}
use Rattle.ns_queue.specs.Names.{Seats, Waiter, seats_in}
use Rattle.ns_queue.specs.Waiters.{reads, writes, seats_of}

-- every reader, and the first writer
abbrev pub readers_and_a_writer : {C : Type 0} → List (Waiter C) → List (Waiter C)
readers_and_a_writer [] = []
readers_and_a_writer (w ∷ ws) = w ∷ (if writes w then filter reads ws else readers_and_a_writer ws)

-- The first waiter is taken; if it reads, so are every other reader and the first writer.
abbrev pub signaled_of : {C : Type 0} → List (Waiter C) → List (Waiter C)
signaled_of [] = []
signaled_of (w ∷ ws) = w ∷ (if writes w then [] else readers_and_a_writer ws)

-- The others stay: all of them, or every writer but the first.
abbrev pub unsignaled_of : {C : Type 0} → List (Waiter C) → List (Waiter C)
unsignaled_of [] = []
unsignaled_of (w ∷ ws) = if writes w then ws else drop 1 (filter writes ws)

-- the set of the seats of those taken
abbrev pub taken_set : {C : Type 0} → List (Waiter C) → Seats
taken_set ws = seats_in (seats_of ws)

-- the waiter of a list that has just one, and nobody of any other
abbrev pub sole_of : {C : Type 0} → List (Waiter C) → Option (Waiter C)
sole_of [] = None
sole_of (w ∷ []) = Some w
sole_of (w ∷ v ∷ ws) = None
