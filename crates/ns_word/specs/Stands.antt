-- Where a seat stands that queues, said of the lists before and after.
use Rattle.std.specs.Prelude.{Bool, List, None, Option, Some, [], false, if◌then◌else◌, map, min, true, ℕ, ◌++◌, ◌+◌, ◌<◌, ◌∷◌, ◌≡◌}
use Rattle.ns_word.specs.Names.{Arrival, AsFresh, AsWoken, Cv, Lists, Mode, OnCondition, OnVariables, Owed, Phase, Subject, Truths, Variables, Waiter, Waiting, has, left_of, waiters_of}
use Rattle.ns_model.specs.declared.phase.Phase.TheVariants.{Woken}
use Rattle.ns_word.specs.Steps.{meets_at}

-- a waiter, part by part
abbrev pub waiter : {C : Type 0} → ℕ → Mode → Option C → ℕ → Option ℕ → Waiter C
waiter seat mode cond tries via = record { seat = seat; mode = mode; cond = cond; tries = tries; via = via }

-- Who queues for the lock fresh stands behind all others, and hasn't failed; who was woken stands before them all, and has failed once more, of which 30 are counted.
abbrev pub QueuesFor : {C : Type 0} → ℕ → Mode → Arrival → List (Waiter C) → List (Waiter C) → Type 0
QueuesFor seat mode AsFresh old new = new ≡ old ++ waiter seat mode None 0 None ∷ []
QueuesFor seat mode (AsWoken tries) old new = new ≡ waiter seat mode None (min (tries + 1) 30) None ∷ old

-- A wait for a condition stands with it behind all whom the scan has left, and before them where it queues again. One for variables stands behind all that wait for any of them, and names that in its list; the other variables' lists stay, and the lock list is what the scan has left.
abbrev pub WaitsFor : {C : Type 0} → Truths C → ℕ → Mode → Subject C → Bool → List ℕ → Lists C → Lists C → Type 0
WaitsFor truths seat mode (OnCondition c) false row old new = (new.lock ≡ left_of (meets_at truths row) old.lock ++ waiter seat mode (Some c) 0 None ∷ []) × (new.cvs ≡ old.cvs)
WaitsFor truths seat mode (OnCondition c) true row old new = (new.lock ≡ waiter seat mode (Some c) 0 None ∷ left_of (meets_at truths row) old.lock) × (new.cvs ≡ old.cvs)
WaitsFor truths seat mode (OnVariables variables) again row old new =
    ((k : ℕ) → k < 4 → waiters_of new (Cv k) ≡ (if has variables k then waiters_of old (Cv k) ++ waiter seat mode None 0 (Some k) ∷ [] else waiters_of old (Cv k)))
    × (new.lock ≡ left_of (meets_at truths row) old.lock)

-- What a wait for variables finds that leaves: it stands in their lists, and waits for them still, by the history; or it doesn't, and one of them has woken it.
abbrev pub IsFoundLeaving : {C : Type 0} → Bool → Variables → Mode → Phase C → Type 0
IsFoundLeaving true variables mode phase = phase ≡ Waiting variables mode
IsFoundLeaving false variables mode phase = (k : ℕ) × (has variables k ≡ true) × (phase ≡ Woken k mode)

-- Those whom a call takes from a variable stand behind all others in the lock list, in their order, where the lock is held, and nobody is owed a wake; else that list stays, and they are owed their wakes in that order.
abbrev pub AreCalled : {C : Type 0} → Bool → ℕ → List (Waiter C) → List (Waiter C) → List (Waiter C) → List Owed → Type 0
AreCalled true k taken old new owed = (new ≡ old ++ taken) × (owed ≡ [])
AreCalled false k taken old new owed = (new ≡ old) × (owed ≡ map (λ w. record { seat = w.seat; value = 2 + k }) taken)
