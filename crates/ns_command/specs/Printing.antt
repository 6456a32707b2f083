-- What is printed, where that is known.
use Rattle.std.specs.Prelude.{◌≡◌, ℕ, List, ◌++◌, Bool, true, false, Option, Some, None}
use Rattle.std.specs.Io.KnownBytes.{Appends, Keeps}
use Rattle.clap.specs.declared.error.kind.ErrorKind.{ErrorKind}
use Rattle.clap.specs.declared.error.kind.ErrorKind.TheVariants.{DisplayHelp, DisplayVersion, OutOfMemory}

-- some text was printed, or none: a clause of clap's does not tell which
abbrev pub PrintsSome : Option (List ℕ) → Option (List ℕ) → Type 0
PrintsSome old new = (text : List ℕ) × Appends old new text

-- a front of the text was printed
abbrev pub PrintsFront : Option (List ℕ) → Option (List ℕ) → List ℕ → Type 0
PrintsFront old new text = (front : List ℕ) × (rest : List ℕ) × (text ≡ front ++ rest) × Appends old new front

-- The text was printed, or a front of it where printing failed; some text, where it isn't known.
abbrev pub PrintsText : Option (List ℕ) → Option (List ℕ) → Bool → Option (List ℕ) → Type 0
PrintsText old new done None = PrintsSome old new
PrintsText old new true (Some text) = Appends old new text
PrintsText old new false (Some text) = PrintsFront old new text

-- some text was printed on the side that is meant, and nothing on the other
abbrev pub PrintsOn : Bool → Option (List ℕ) → Option (List ℕ) → Type 0
PrintsOn true old new = PrintsSome old new
PrintsOn false old new = Keeps old new

-- help or the version was asked for
abbrev pub is_request : ErrorKind → Bool
is_request DisplayHelp = true
is_request DisplayVersion = true
is_request kind = false

-- the words are wrong
abbrev pub is_mistake : ErrorKind → Bool
is_mistake DisplayHelp = false
is_mistake DisplayVersion = false
is_mistake OutOfMemory = false
is_mistake kind = true
