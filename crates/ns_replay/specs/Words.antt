-- The words of a text, and the numbers that they write.
use Rattle.std.specs.List.{slice_split}
use Rattle.std.specs.Prelude.{Bool, List, None, Option, Some, [], bytes_eq, codes, if◌then◌else◌, length, nat_lt, neg_ℤ, not, option_and_then, option_map, pos, slice_index, ℕ, ℤ, ◌&&◌, ◌+◌, ◌==◌, ◌^◌, ◌||◌, ◌∷◌}
use Rattle.std.specs.Str.{all_ascii_digits}
use Rattle.std.specs.Str.Parse.{digits_value}

-- the parts of a text between the bytes c
abbrev pub parts : ℕ → List ℕ → List (List ℕ)
parts c text = slice_split (λ b. b == c) text

-- digits, with no 0 before another
abbrev pub is_numeral : List ℕ → Bool
is_numeral word = all_ascii_digits word && nat_lt 0 (length word) && (length word == 1 || not (slice_index word 0 == 48))

-- the number that a word writes, if it is below 2^64
unfoldable pub number_of : List ℕ → Option ℕ
number_of word = if is_numeral word && nat_lt (digits_value 10 word) (2 ^ 64) then Some (digits_value 10 word) else None

-- a number, if it is below the bound
abbrev pub below : ℕ → Option ℕ → Option ℕ
below bound number = option_and_then (λ n. if nat_lt n bound then Some n else None) number

-- a moment, below 2^54
abbrev pub moment_of : List ℕ → Option ℕ
moment_of word = below (2 ^ 54) (number_of word)

-- what the word writes, or none for a dash
abbrev pub or_none : List ℕ → Option ℕ → Option (Option ℕ)
or_none word number = if bytes_eq word (codes "-") then Some None else option_map (λ n. Some n) number

-- a moment, or none for a dash
abbrev pub moment_or_none_of : List ℕ → Option (Option ℕ)
moment_or_none_of word = or_none word (moment_of word)

-- the number of a note, or none for a dash
abbrev pub note_or_none_of : List ℕ → Option (Option ℕ)
note_or_none_of word = or_none word (below 64 (number_of word))

-- a number that is no larger than 2^63 - 1
abbrev pub up_of : Option ℕ → Option ℤ
up_of number = option_map pos (below (2 ^ 63) number)

-- one below 0 by a number of at most 2^63, or 0
abbrev pub down_of : Option ℕ → Option ℤ
down_of number = option_map (λ n. neg_ℤ (pos n)) (below (2 ^ 63 + 1) number)

-- a change, by the parts of its word at `-`: `N` or `-N`
unfoldable pub change_of : List (List ℕ) → Option ℤ
change_of (digits ∷ []) = up_of (number_of digits)
change_of ([] ∷ digits ∷ []) = down_of (number_of digits)
change_of _ = None
