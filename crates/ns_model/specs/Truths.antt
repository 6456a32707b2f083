-- What the conditions of a lock mean.
use Rattle.std.specs.Prelude.{◌≡◌, ℕ, Bool, true, List, length}

-- where each condition is true, which are declared equivalent, and which changes of the row are declared quiet
pub record Truths (C : Type 0) : Type 0 where
  pub holds : C → List ℕ → Bool
  pub same : C → C → Bool
  pub quiet : List ℕ → List ℕ → Bool

-- what conditions mean, part by part
abbrev pub truths : {C : Type 0} → (C → List ℕ → Bool) → (C → C → Bool) → (List ℕ → List ℕ → Bool) → Truths C
truths holds same quiet = record { holds = holds; same = same; quiet = quiet }

-- equivalent conditions are true of the same rows of N cells
abbrev pub SameAgrees : {C : Type 0} → ℕ → Truths C → Type 0
SameAgrees {C} N truths = (c d : C) (row : List ℕ) → length row ≡ N → truths.same c d ≡ true → truths.holds c row ≡ truths.holds d row

-- what holds after a quiet change of a row of N cells held before it
abbrev pub QuietKeeps : {C : Type 0} → ℕ → Truths C → Type 0
QuietKeeps {C} N truths = (c : C) (before after : List ℕ) → length before ≡ N → length after ≡ N → truths.quiet before after ≡ true → truths.holds c after ≡ true → truths.holds c before ≡ true
