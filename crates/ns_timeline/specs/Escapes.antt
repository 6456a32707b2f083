-- A text as it stands in a document of marks.
use Rattle.std.specs.Prelude.{ℕ, List, [], ◌∷◌, Bool, true, false, not, ◌&&◌, ◌||◌, ◌==◌, codes}
use Rattle.std.specs.List.{flat_map}

-- What stands for a byte, by whether it is `<`, `>`, `&`, `"` or `'`: its entity, and else the byte.
abbrev pub entity_by : Bool → Bool → Bool → Bool → Bool → ℕ → List ℕ
entity_by true gt amp quot apos byte = codes "&lt;"
entity_by false true amp quot apos byte = codes "&gt;"
entity_by false false true quot apos byte = codes "&amp;"
entity_by false false false true apos byte = codes "&quot;"
entity_by false false false false true byte = codes "&apos;"
entity_by false false false false false byte = byte ∷ []

-- what stands for a byte
abbrev pub entity : ℕ → List ℕ
entity byte = entity_by (byte == 60) (byte == 62) (byte == 38) (byte == 34) (byte == 39) byte

-- the text with what stands for each of its bytes
abbrev pub escaped : List ℕ → List ℕ
escaped text = flat_map entity text

-- the text begins with this front
abbrev pub begins : List ℕ → List ℕ → Bool
begins [] text = true
begins (a ∷ front) [] = false
begins (a ∷ front) (b ∷ text) = (a == b) && begins front text

-- behind a `&`, the text goes on as one of the five entities does
abbrev pub is_entity : List ℕ → Bool
is_entity text = begins (codes "lt;") text || begins (codes "gt;") text || begins (codes "amp;") text || begins (codes "quot;") text || begins (codes "apos;") text

-- No `<`, `>`, `"` or `'` is in the text, and each `&` begins an entity: so the text can end no element and no attribute, and begin none.
abbrev pub is_inert : List ℕ → Bool
is_inert [] = true
is_inert (byte ∷ rest) = not (byte == 60 || byte == 62 || byte == 34 || byte == 39) && (not (byte == 38) || is_entity rest) && is_inert rest
