-- What a scan of the lock list tests, as it looks for the first that it takes and goes on behind that one.
use Rattle.std.specs.Prelude.{Bool, List, Option, Some, [], if◌then◌else◌, is_none, is_some, map, not, suc, take, true, ℕ, ◌&&◌, ◌+◌, ◌||◌, ◌∷◌}
use Rattle.ns_queue.specs.Names.{Waiter}
use Rattle.ns_queue.specs.Scans.{Asked, is_alike, is_eligible, is_satisfied}

-- what is known of a run with this first condition after its truth was asked for
abbrev pub asked_for : {C : Type 0} → (C → Bool) → Bool → Option C → Option Bool → Option Bool
asked_for meets needed first truth = if needed && is_none truth then Some (is_satisfied meets first) else truth

-- how many tests it takes to learn what is needed of a condition: one, where it is needed and not known yet
abbrev pub asking : {C : Type 0} → Bool → Option C → Option Bool → ℕ
asking needed first truth = if needed && is_none truth && is_some first then 1 else 0

-- how many tests it takes to learn what is needed of these, in a run with this first condition, which was tested or not
abbrev pub tests_on : {C : Type 0} → (C → C → Bool) → Option C → Bool → List (Asked C) → ℕ
tests_on same first known [] = 0
tests_on same first known (a ∷ rest) =
    if is_alike same a.waiter.cond first then
    (if a.is_needed && not known then 1 else 0) + tests_on same first (a.is_needed || known) rest
    else
    (if a.is_needed && is_some a.waiter.cond then 1 else 0) + tests_on same a.waiter.cond a.is_needed rest

-- these waiters, each with whether its truth is needed
abbrev pub asked_by : {C : Type 0} → (Waiter C → Bool) → List (Waiter C) → List (Asked C)
asked_by needed ws = map (λ w. record { waiter = w; is_needed = needed w }) ws

-- how many stand in front of the first whom a scan takes
abbrev pub in_front : {C : Type 0} → (C → Bool) → List (Waiter C) → ℕ
in_front meets [] = 0
in_front meets (w ∷ ws) = if is_eligible meets w then 0 else suc (in_front meets ws)

-- the tests of a scan until it takes somebody, in a run with this first condition, which was tested
abbrev pub tests_seeking : {C : Type 0} → (C → C → Bool) → (C → Bool) → Option C → List (Waiter C) → ℕ
tests_seeking same meets first ws = tests_on same first (is_some first) (asked_by (λ w. true) (take (suc (in_front meets ws)) ws))
