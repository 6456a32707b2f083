-- What the words of a wait write.
use Rattle.std.specs.Prelude.{List, None, Option, Some, [], bytes_eq, codes, if◌then◌else◌, option_and_then, option_map, ℕ, ◌∷◌}
use Rattle.ns_replay.specs.Names.{AtLeast, Limits, ScriptCondition}
use Rattle.ns_replay.specs.Words.{parts, number_of, below, moment_of}

-- the cell of `I>`, by the parts at `>`: one of eight
unfoldable pub bounded_cell_of : List (List ℕ) → Option ℕ
bounded_cell_of (cell ∷ [] ∷ []) = below 8 (number_of cell)
bounded_cell_of _ = None

-- `I>=V`, by the parts at `=`
unfoldable pub at_least_of : List (List ℕ) → Option AtLeast
at_least_of (bound ∷ least ∷ []) = option_and_then (λ i. option_map (λ v. record { cell = i; least = v }) (number_of least)) (bounded_cell_of (parts 62 bound))
at_least_of _ = None

-- `I>=V` or `I>=V&I>=V`, by the parts at `&`
unfoldable pub condition_of : List (List ℕ) → Option ScriptCondition
condition_of (first ∷ []) = option_map (λ a. record { first = a; second = None }) (at_least_of (parts 61 first))
condition_of (first ∷ second ∷ []) = option_and_then (λ a. option_map (λ b. record { first = a; second = Some b }) (at_least_of (parts 61 second))) (at_least_of (parts 61 first))
condition_of _ = None

-- `[note M]`
unfoldable pub note_limit_of : List (List ℕ) → Option (Option ℕ)
note_limit_of [] = Some None
note_limit_of (name ∷ word ∷ []) = if bytes_eq name (codes "note") then option_map (λ n. Some n) (below 64 (number_of word)) else None
note_limit_of _ = None

-- `[deadline T] [note M]`
unfoldable pub limits_of : List (List ℕ) → Option Limits
limits_of (name ∷ word ∷ rest) =
    if bytes_eq name (codes "deadline") then option_and_then (λ t. option_map (λ n. record { deadline = Some t; note = n }) (note_limit_of rest)) (moment_of word)
    else option_map (λ n. record { deadline = None; note = n }) (note_limit_of (name ∷ word ∷ rest))
limits_of words = option_map (λ n. record { deadline = None; note = n }) (note_limit_of words)

-- `COND [deadline T] [note M]`
unfoldable pub wait_of : List (List ℕ) → Option (ScriptCondition × Limits)
wait_of (condition ∷ rest) = option_and_then (λ c. option_map (λ l. (c, l)) (limits_of rest)) (condition_of (parts 38 condition))
wait_of [] = None

-- `K [deadline T] [note M]`, where there are so many condition variables
unfoldable pub variable_wait_of : ℕ → List (List ℕ) → Option (ℕ × Limits)
variable_wait_of cvs (word ∷ rest) = option_and_then (λ k. option_map (λ l. (k, l)) (limits_of rest)) (below cvs (number_of word))
variable_wait_of cvs [] = None
