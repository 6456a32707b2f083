-- Histories of an object that has a state.
use Rattle.std.specs.Prelude.{List, [], ◌∷◌}

-- Each event is legal after those before it, where each leaves the next state.
abbrev pub IsLegalFrom : {S E : Type 0} → (S → E → Type 0) → (S → E → S) → S → List E → Type 0
IsLegalFrom IsLegalEvent next now [] = Unit {0}
IsLegalFrom IsLegalEvent next now (event ∷ events) = IsLegalEvent now event × IsLegalFrom IsLegalEvent next (next now event) events
