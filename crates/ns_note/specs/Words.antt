-- The word of a note.
use Rattle.std.specs.Prelude.{ℕ, ◌+◌, ◌-◌, ◌*◌, ◌/◌, ◌%◌, ◌^◌, ◌<◌, ◌==◌, nat_lt, if◌then◌else◌, Bool, true, false, Option, None, Some, IfSome}
use Rattle.ns_note.specs.Names.{NoteWord}

-- a mark as a bit
abbrev pub flag : Bool → ℕ
flag true = 1
flag false = 0

-- the parent's number plus 1, or 0 for none
abbrev pub parent_code : Option ℕ → ℕ
parent_code None = 0
parent_code (Some parent) = parent + 1

-- the deadline, and above it a bit that tells that there is one
abbrev pub deadline_code : Option ℕ → ℕ
deadline_code None = 0
deadline_code (Some deadline) = 2 ^ 54 + deadline

-- what has room in a word
abbrev pub WordFits : NoteWord → Type 0
WordFits note = IfSome note.parent (λ p. p < 64) × IfSome note.deadline (λ d. d < 2 ^ 54)

-- The word of a note: from the lowest bit up, whether it is notified, whether it is made, seven bits for its parent, and the rest for its deadline.
abbrev pub word_of : NoteWord → ℕ
word_of note = flag note.notified + 2 * flag note.made + 4 * parent_code note.parent + 512 * deadline_code note.deadline

-- the parent that the bits tell of
abbrev pub parent_at : ℕ → Option ℕ
parent_at bits = if bits == 0 then None else Some (bits - 1)

-- the deadline that the bits tell of
abbrev pub deadline_at : ℕ → Option ℕ
deadline_at bits = if nat_lt bits (2 ^ 54) then None else Some (bits - 2 ^ 54)

-- the note that a word tells of
abbrev pub note_of : ℕ → NoteWord
note_of word = record { notified = word % 2 == 1; made = (word / 2) % 2 == 1; parent = parent_at ((word / 4) % 128); deadline = deadline_at (word / 512) }
