-- The scan of the lock list: whom a release wakes, who stays, and how many conditions it has to test.
use Rattle.std.specs.List.{list_any}
use Rattle.std.specs.Prelude.{Bool, List, None, Option, Some, [], count_by, false, filter, if◌then◌else◌, is_some, map, not, true, ℕ, ◌&&◌, ◌++◌, ◌∷◌}
use Rattle.ns_queue.specs.Names.{Foremost, Reader, Sought, Waiter, Writer}
use Rattle.ns_queue.specs.declared.scan.Foremost.TheVariants.{Nobody}
use Rattle.ns_queue.specs.Waiters.{reads, writes}

-- no condition, or one that is true
abbrev pub is_satisfied : {C : Type 0} → (C → Bool) → Option C → Bool
is_satisfied meets None = true
is_satisfied meets (Some c) = meets c

-- whether the waiter could go on: it has no condition, or one that is true
abbrev pub is_eligible : {C : Type 0} → (C → Bool) → Waiter C → Bool
is_eligible meets w = is_satisfied meets w.cond

-- Taken is the first waiter that is eligible, and with a reader each eligible reader behind it.
abbrev pub woken_of : {C : Type 0} → (C → Bool) → List (Waiter C) → List (Waiter C)
woken_of meets [] = []
woken_of meets (w ∷ ws) =
    if is_eligible meets w then w ∷ (if writes w then [] else filter (λ v. reads v && is_eligible meets v) ws)
    else woken_of meets ws

-- The others stay, in order.
abbrev pub left_of : {C : Type 0} → (C → Bool) → List (Waiter C) → List (Waiter C)
left_of meets [] = []
left_of meets (w ∷ ws) =
    if is_eligible meets w then (if writes w then ws else filter (λ v. not (reads v && is_eligible meets v)) ws)
    else w ∷ left_of meets ws

-- Whom a scan takes first, where its search finds this and it takes these: nobody, a writer, whom it takes alone, or a reader, whom others may follow.
abbrev pub foremost_of : {C : Type 0} → Sought → List (Waiter C) → Foremost
foremost_of sought [] = Nobody
foremost_of sought (w ∷ ws) = if writes w then Writer w.seat w.via else Reader sought

-- whether the first of these is a reader
abbrev pub begins_with_reader : {C : Type 0} → List (Waiter C) → Bool
begins_with_reader [] = false
begins_with_reader (w ∷ ws) = reads w

-- Who stays where a scan takes out a writer, and leaves all as they are where it would begin with a reader.
abbrev pub left_by_writer : {C : Type 0} → (C → Bool) → List (Waiter C) → List (Waiter C)
left_by_writer meets ws = if begins_with_reader (woken_of meets ws) then ws else left_of meets ws

-- a waiter, and whether its truth is needed
pub record Asked (C : Type 0) : Type 0 where
  pub waiter : Waiter C
  pub is_needed : Bool

-- Needed is the truth of each waiter up to the first that is taken, and if that one reads, of each later reader.
abbrev pub asked_of : {C : Type 0} → (C → Bool) → List (Waiter C) → List (Asked C)
asked_of meets [] = []
asked_of meets (w ∷ ws) =
    record { waiter = w; is_needed = true } ∷
    (if is_eligible meets w then map (λ v. record { waiter = v; is_needed = reads w && reads v }) ws
    else asked_of meets ws)

-- a waiter whose condition is declared the same as another's
abbrev pub is_alike : {C : Type 0} → (C → C → Bool) → Option C → Option C → Bool
is_alike same (Some next) (Some first) = same next first
is_alike same _ _ = false

-- whether a run goes on with a waiter: its condition is the same as that of the run's first
abbrev pub goes_on : {A C : Type 0} → (C → C → Bool) → (A → Option C) → List A → A → Bool
goes_on same cond [] x = false
goes_on same cond (first ∷ run) x = is_alike same (cond x) (cond first)

-- where the run before has ended, a waiter with a condition begins another
abbrev pub started : {A C : Type 0} → (A → Option C) → A → List A
started cond x = if is_some (cond x) then x ∷ [] else []

-- a run that ends, if there is one
abbrev pub ended : {A : Type 0} → List A → List (List A)
ended [] = []
ended (first ∷ run) = (first ∷ run) ∷ []

-- the runs of a list, after a run that is not yet at its end
abbrev pub runs_after : {A C : Type 0} → (C → C → Bool) → (A → Option C) → List A → List A → List (List A)
runs_after same cond run [] = ended run
runs_after same cond run (x ∷ xs) =
    if goes_on same cond run x then runs_after same cond (run ++ x ∷ []) xs
    else ended run ++ runs_after same cond (started cond x) xs

-- the runs of a list: neighbours whose conditions are the same as that of the run's first
abbrev pub runs_of : {A C : Type 0} → (C → C → Bool) → (A → Option C) → List A → List (List A)
runs_of same cond xs = runs_after same cond [] xs

-- how many conditions a scan tests: one for each run with a waiter whose truth is needed
abbrev pub tests_of : {C : Type 0} → (C → C → Bool) → (C → Bool) → List (Waiter C) → ℕ
tests_of same meets ws = count_by (λ run. list_any (λ a. a.is_needed) run) (runs_of same (λ a. a.waiter.cond) (asked_of meets ws))
