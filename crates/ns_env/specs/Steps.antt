-- What one step on the clock and the notes finds and leaves.
use Rattle.std.specs.Prelude.{◌≡◌, ℕ, ◌+◌, max, nat_lt, true, if◌then◌else◌, List, [], ◌∷◌}
use Rattle.ns_env.specs.Names.{Adding, Advance, Clock, EnvAct, EnvEvent, EnvFound, EnvStanding, LoadClock, LoadNext, LoadNote, Making, MoveClock, New, NextNumber, Note, NoteStanding, Nothing, Notify, NotifyNote, ParentFits, StoreNote, Stored, Take, TakeNext, Taken, but_at, made_note, no_note}
use Rattle.ns_env.specs.Names.{notified_note}
use Rattle.ns_env.specs.Notes.{state_of}
use Rattle.ns_env.specs.declared.view.Making.TheVariants as TheMaking

-- the clock, the next note's number, which goes on past the last, and the notes
pub record EnvPlain : Type 0 where
  pub clock : ℕ
  pub next : ℕ
  pub notes : ℕ → NoteStanding

-- a clock at 0, and no note
abbrev pub fresh_plain : EnvPlain
fresh_plain = record { clock = 0; next = 0; notes = λ note. no_note }

-- What a step finds, what it leaves, and what has happened by it.
pub record Outcome : Type 0 where
  pub found : EnvFound
  pub plain : EnvPlain
  pub events : List EnvEvent

-- a load leaves all as it is
abbrev pub loaded : EnvFound → EnvPlain → Outcome
loaded found plain = record { found = found; plain = plain; events = [] }

-- What this step of the seat comes to. A number past the last is no note's, so by taking it nothing happens. It is a function and no relation, since how the clock and the notes stand determines both
-- what is found and what is left. How far a caller has come in making a note is told by `making_after`, since who keeps the clock and the notes knows no caller.
abbrev pub outcome : ℕ → EnvAct → EnvPlain → Outcome
outcome seat LoadNext plain = loaded (NextNumber plain.next) plain
outcome seat TakeNext plain = record { found = Taken plain.next; plain = record plain { next = plain.next + 1 }; events = if nat_lt plain.next 64 then Take seat plain.next ∷ [] else [] }
outcome seat (StoreNote note parent deadline) plain = record { found = Stored; plain = record plain { notes = but_at note (made_note parent deadline) plain.notes }; events = New seat note parent deadline ∷ [] }
outcome seat (NotifyNote note) plain = record { found = Stored; plain = record plain { notes = but_at note (notified_note (plain.notes note)) plain.notes }; events = Notify seat note ∷ [] }
outcome seat (MoveClock moment) plain = record { found = Stored; plain = record plain { clock = max plain.clock moment }; events = Advance seat moment ∷ [] }
outcome seat LoadClock plain = loaded (Clock plain.clock) plain
outcome seat (LoadNote note) plain = loaded (Note (state_of (plain.notes note))) plain

-- How far its caller has come in making a note then: with a number left it goes to take one, and one that it has taken is to get its note.
abbrev pub making_after : EnvAct → EnvPlain → Making → Making
making_after LoadNext plain making = if nat_lt plain.next 64 then Adding else Nothing
making_after TakeNext plain making = if nat_lt plain.next 64 then TheMaking.Taken plain.next else Nothing
making_after (StoreNote note parent deadline) plain making = Nothing
making_after act plain making = making

-- Which step a caller may make that has come so far in making a note, by what has happened. Only who has seen a number left may take one, and only who has taken a number may make its note.
abbrev pub CanAct : EnvStanding → Making → EnvAct → Type 0
CanAct now making LoadNext = making ≡ Nothing
CanAct now making TakeNext = making ≡ Adding
CanAct now making (StoreNote note parent deadline) = (making ≡ TheMaking.Taken note) × ParentFits now note parent
CanAct now making (NotifyNote note) = (making ≡ Nothing) × ((now.notes note).made ≡ true)
CanAct now making (MoveClock moment) = making ≡ Nothing
CanAct now making LoadClock = Unit {0}
CanAct now making (LoadNote note) = Unit {0}
