-- A text with its entities can end no element and no attribute.
use Rattle.std.proofs.Common.{◌≡◌, ◌++◌, ℕ, List, [], ◌∷◌, Bool, true, false, nat_eq, refl}
use Rattle.ns_timeline.specs.Escapes.{entity_by, escaped, is_inert}

-- What stands for a byte, by what the byte is, before a text that is inert.
byte_inert : (lt gt amp quot apos : Bool) (byte : ℕ) (rest : List ℕ) → nat_eq byte 60 ≡ lt → nat_eq byte 62 ≡ gt → nat_eq byte 38 ≡ amp → nat_eq byte 34 ≡ quot → nat_eq byte 39 ≡ apos
    → is_inert rest ≡ true → is_inert (entity_by lt gt amp quot apos byte ++ rest) ≡ true
byte_inert true gt amp quot apos byte rest a b c d e h = h
byte_inert false true amp quot apos byte rest a b c d e h = h
byte_inert false false true quot apos byte rest a b c d e h = h
byte_inert false false false true apos byte rest a b c d e h = h
byte_inert false false false false true byte rest a b c d e h = h
byte_inert false false false false false byte rest a b c d e h = rw (a, b, c, d, e) h

pub escaped_inert : (text : List ℕ) → is_inert (escaped text) ≡ true
escaped_inert [] = refl
escaped_inert (byte ∷ rest) = byte_inert _ _ _ _ _ byte (escaped rest) refl refl refl refl refl (escaped_inert rest)
