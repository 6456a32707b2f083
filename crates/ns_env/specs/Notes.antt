-- A note as a value, and as a history leaves it.
use Rattle.ns_env.specs.Names.{NoteStanding, NoteWord}

-- what a note is in a history
abbrev pub standing_of : NoteWord → NoteStanding
standing_of note = record { made = note.made; called = note.notified; parent = note.parent; deadline = note.deadline }

-- a note of a history as a value
abbrev pub state_of : NoteStanding → NoteWord
state_of note = record { notified = note.called; made = note.made; parent = note.parent; deadline = note.deadline }
