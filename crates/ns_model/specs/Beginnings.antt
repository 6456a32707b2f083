-- One list begins another.
use Rattle.std.specs.Prelude.{◌≡◌, List, ◌++◌}

-- the list begins with the front
abbrev pub BeginsWith : {A : Type 0} → List A → List A → Type 0
BeginsWith {A} list front = (rest : List A) × (list ≡ front ++ rest)

-- the list in the middle begins with the first, and the last with it
abbrev pub IsBetween : {A : Type 0} → List A → List A → List A → Type 0
IsBetween first middle last = BeginsWith middle first × BeginsWith last middle
