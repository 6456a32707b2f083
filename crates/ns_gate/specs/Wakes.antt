-- What a signal or a broadcast makes of the lists in hand, and a scan that takes nobody, or a writer alone.
use Rattle.std.specs.Option.{option_map}
use Rattle.std.specs.Prelude.{Bool, Err, List, None, Ok, Option, Result, Some, [], false, if◌then◌else◌, ℕ, ◌&&◌, ◌∷◌}
use Rattle.ns_gate.specs.Names.{Cv, Lists, Owed, Sought, Truths, Turned, Waiter, Waking, begins_with_reader, bits_of, cvs_without, has_some, left_of, meets_at, moved_to, sole_of, sought_of, taken_by, taken_set, value_of, waiters_of, wakes_of, without, woken_of}

-- those whom it takes out of the list of its variable, where the lists stand so
abbrev pub taken_from : {C : Type 0} → Waking → ℕ → Lists C → List (Waiter C)
taken_from waking k lists = taken_by waking (waiters_of lists (Cv k))

-- the lists once they are out of it, and out of those of all other variables
abbrev pub lists_left : {C : Type 0} → Waking → ℕ → Lists C → Lists C
lists_left waking k lists = cvs_without (taken_set (taken_from waking k lists)) lists

-- the lists that are put back: where the lock is held, those who were taken are at the back of its list; else they are in none
abbrev pub lists_woken : {C : Type 0} → Waking → ℕ → Bool → Lists C → Lists C
lists_woken waking k held lists = moved_to held (taken_from waking k lists) (lists_left waking k lists)

-- what the hand has made of the queues then: it has moved somebody where the lock is held and it took anybody
abbrev pub turned_woken : {C : Type 0} → Waking → ℕ → Bool → Lists C → Turned
turned_woken waking k held lists = record { some = held && has_some (taken_from waking k lists); bits = bits_of (lists_woken waking k held lists).lock }

-- what the hand has made of the queues where nobody waits for the variable: it takes nobody, and they are as they stood
abbrev pub woken_nobody : {C : Type 0} → ℕ → Lists C → Option Turned
woken_nobody k lists = if has_some (waiters_of lists (Cv k)) then None else Some (record { some = false; bits = bits_of lists.lock })

-- the wake that is owed where a scan takes these, of whom the first writes, and so goes alone; none where it takes nobody
abbrev pub wake_told : {C : Type 0} → List (Waiter C) → Option Owed
wake_told [] = None
wake_told (w ∷ ws) = Some (record { seat = w.seat; value = value_of w.via })

-- what a search of the lock list finds at this row
abbrev pub sought_at : {C : Type 0} → Truths C → List ℕ → Lists C → Sought
sought_at truths row lists = sought_of truths.same (meets_at truths row) lists.lock

-- What the hand has made of the queues by a scan at this row that takes nobody, or a writer alone, and the wake that is owed then; where a scan takes a reader, what its search finds.
abbrev pub scanned_writer : {C : Type 0} → Truths C → List ℕ → Lists C → Result (Option Owed × Turned) Sought
scanned_writer truths row lists = let woken = woken_of (meets_at truths row) lists.lock in
    if begins_with_reader woken then Err (sought_at truths row lists)
    else Ok (wake_told woken, record { some = has_some woken; bits = bits_of (left_of (meets_at truths row) lists.lock) })

-- what a call that wakes has made of the queues where just one waits for the variable, with that one beside: it takes it, and they are as `lists_woken`. Else it has made nothing of them.
abbrev pub woken_sole : {C : Type 0} → Waking → ℕ → Bool → Lists C → Option (Waiter C × Turned)
woken_sole waking k held lists = option_map (λ w. (w, record { some = held; bits = bits_of (lists_woken waking k held lists).lock })) (sole_of (waiters_of lists (Cv k)))

-- to whom a wake is owed then: to those who were taken and not moved
abbrev pub owed_woken : {C : Type 0} → Waking → ℕ → Bool → Lists C → List Owed
owed_woken waking k held lists = if held then [] else wakes_of k (taken_from waking k lists)

-- the lists without any of these
abbrev pub without_each : {C : Type 0} → List (Waiter C) → Lists C → Lists C
without_each [] lists = lists
without_each (w ∷ ws) lists = without_each ws (without w.seat lists)

-- waiters that are turned: put at the back of the lock list, or taken out of the lists again
abbrev pub turned_to : {C : Type 0} → Bool → List (Waiter C) → Lists C → Lists C
turned_to held taken lists = if held then moved_to held taken lists else without_each taken lists
