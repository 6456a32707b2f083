-- Sums over a list, and what holds of each of its elements.
use Rattle.std.specs.Prelude.{ℕ, ◌+◌, Bool, if◌then◌else◌, List, [], ◌∷◌}

-- the sum of what each element counts
abbrev pub total : {A : Type 0} → (A → ℕ) → List A → ℕ
total f [] = 0
total f (x ∷ xs) = f x + total f xs

-- each element counts one where the test is true of it, else nothing
abbrev pub one_if : Bool → ℕ
one_if b = if b then 1 else 0

-- it holds of each element
abbrev pub Every : {A : Type 0} → (A → Type 0) → List A → Type 0
Every P [] = Unit {0}
Every P (x ∷ xs) = P x × Every P xs
