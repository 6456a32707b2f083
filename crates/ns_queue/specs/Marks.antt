-- Lists that are taken apart by marks, one for each waiter, as a signal does.
use Rattle.std.specs.Prelude.{Bool, List, [], false, if◌then◌else◌, true, ◌∷◌}
use Rattle.ns_queue.specs.Names.{Anybody, Nobody, Readers, ReadersAndWriter, Waiter, Wanted}
use Rattle.ns_queue.specs.Waiters.{reads, writes}

-- those with a mark, and those without
abbrev pub marked : {A : Type 0} → List Bool → List A → List A
marked [] xs = []
marked (m ∷ ms) [] = []
marked (m ∷ ms) (x ∷ xs) = if m then x ∷ marked ms xs else marked ms xs

-- those of a list that bear no mark, in order
abbrev pub unmarked : {A : Type 0} → List Bool → List A → List A
unmarked [] xs = xs
unmarked (m ∷ ms) [] = []
unmarked (m ∷ ms) (x ∷ xs) = if m then unmarked ms xs else x ∷ unmarked ms xs

-- whom a signal still wants after a waiter
abbrev pub wanted_after : {C : Type 0} → Wanted → Waiter C → Wanted
wanted_after Anybody w = if writes w then Nobody else ReadersAndWriter
wanted_after ReadersAndWriter w = if writes w then Readers else ReadersAndWriter
wanted_after Readers w = Readers
wanted_after Nobody w = Nobody

-- whether a signal that wants these takes the waiter
abbrev pub is_wanted : {C : Type 0} → Wanted → Waiter C → Bool
is_wanted Anybody w = true
is_wanted ReadersAndWriter w = true
is_wanted Readers w = reads w
is_wanted Nobody w = false

-- which of the waiters a signal takes
abbrev pub signal_marks : {C : Type 0} → Wanted → List (Waiter C) → List Bool
signal_marks wanted [] = []
signal_marks wanted (w ∷ ws) = is_wanted wanted w ∷ signal_marks (wanted_after wanted w) ws
