-- Which histories of a clock and a tree of notes are legal, and what they leave.
use Rattle.std.specs.Prelude.{◌≡◌, ℕ, zero, suc, ◌+◌, ◌<◌, max, min, Bool, true, false, ◌||◌, ◌==◌, nat_le, if◌then◌else◌, List, [], ◌∷◌, filter, Option, None, Some}
use Rattle.std.specs.List.{list_any}
use Rattle.ns_model.specs.declared.environment.EnvEvent.{EnvEvent}
use Rattle.ns_model.specs.declared.environment.EnvEvent.TheVariants.{Take, New, Notify, Advance}

-- what a history leaves of one note: whether it is made and whether it was notified by a call, its parent and its deadline
pub record NoteStanding : Type 0 where
  pub made : Bool
  pub called : Bool
  pub parent : Option ℕ
  pub deadline : Option ℕ

-- what a history leaves: the clock, how many numbers are taken, who took each, and each note
pub record EnvStanding : Type 0 where
  pub clock : ℕ
  pub takes : ℕ
  pub takers : ℕ → Option ℕ
  pub notes : ℕ → NoteStanding

-- a number without a note
abbrev pub no_note : NoteStanding
no_note = record { made = false; called = false; parent = None; deadline = None }

-- before any event
abbrev pub first_env : EnvStanding
first_env = record { clock = 0; takes = 0; takers = λ note. None; notes = λ note. no_note }

-- the caller of an event
abbrev pub env_who : EnvEvent → ℕ
env_who (Take who note) = who
env_who (New who note parent deadline) = who
env_who (Notify who note) = who
env_who (Advance who to) = who

-- a note may stand below a parent of a smaller number that is already made
abbrev pub ParentFits : EnvStanding → ℕ → Option ℕ → Type 0
ParentFits now note None = Unit {0}
ParentFits now note (Some parent) = (parent < note) × ((now.notes parent).made ≡ true)

-- The event is legal where the events before it have left this standing. Numbers are taken in order, 64 of them; a note is made once, by who took its number; only a note that is made is notified.
abbrev pub IsLegalEnvEvent : EnvStanding → EnvEvent → Type 0
IsLegalEnvEvent now (Take who note) = (note ≡ now.takes) × (note < 64)
IsLegalEnvEvent now (New who note parent deadline) = (now.takers note ≡ Some who) × ((now.notes note).made ≡ false) × ParentFits now note parent
IsLegalEnvEvent now (Notify who note) = (now.notes note).made ≡ true
IsLegalEnvEvent now (Advance who to) = Unit {0}

-- the function, but for one number
abbrev pub but_at : {A : Type 0} → ℕ → A → (ℕ → A) → ℕ → A
but_at note value others n = if n == note then value else others n

-- what the event leaves of its note
abbrev pub notified_note : NoteStanding → NoteStanding
notified_note note = record { made = note.made; called = true; parent = note.parent; deadline = note.deadline }

-- a note as it is made, below this parent and with this deadline
abbrev pub made_note : Option ℕ → Option ℕ → NoteStanding
made_note parent deadline = record { made = true; called = false; parent = parent; deadline = deadline }

-- what the event leaves
abbrev pub env_next : EnvStanding → EnvEvent → EnvStanding
env_next now (Take who note) = record { clock = now.clock; takes = now.takes + 1; takers = but_at note (Some who) now.takers; notes = now.notes }
env_next now (New who note parent deadline) = record { clock = now.clock; takes = now.takes; takers = now.takers; notes = but_at note (made_note parent deadline) now.notes }
env_next now (Notify who note) = record { clock = now.clock; takes = now.takes; takers = now.takers; notes = but_at note (notified_note (now.notes note)) now.notes }
env_next now (Advance who to) = record { clock = max now.clock to; takes = now.takes; takers = now.takers; notes = now.notes }

-- what events leave of a standing, one after another
abbrev pub env_from : EnvStanding → List EnvEvent → EnvStanding
env_from now [] = now
env_from now (event ∷ events) = env_from (env_next now event) events

-- each event is legal after those before it
abbrev pub IsLegalEnvFrom : EnvStanding → List EnvEvent → Type 0
IsLegalEnvFrom now [] = Unit {0}
IsLegalEnvFrom now (event ∷ events) = IsLegalEnvEvent now event × IsLegalEnvFrom (env_next now event) events

-- A legal history of an environment.
abbrev pub IsLegalEnv : List EnvEvent → Type 0
IsLegalEnv history = IsLegalEnvFrom first_env history

-- what a history leaves
abbrev pub env_after : List EnvEvent → EnvStanding
env_after history = env_from first_env history

-- the clock: the latest moment that it was moved to, or 0
abbrev pub clock_of : List EnvEvent → ℕ
clock_of history = (env_after history).clock

-- how many numbers are taken
abbrev pub takes_in : List EnvEvent → ℕ
takes_in history = (env_after history).takes

-- whether the history has made the note
abbrev pub is_made : List EnvEvent → ℕ → Bool
is_made history note = ((env_after history).notes note).made

-- the history has made the note
abbrev pub IsMade : List EnvEvent → ℕ → Type 0
IsMade history note = is_made history note ≡ true

-- ---- a note and its ancestors

-- the line of the parent, if there is one
abbrev pub from_parent : (ℕ → List ℕ) → Option ℕ → List ℕ
from_parent line None = []
from_parent line (Some parent) = line parent

-- the note, its parent and so on, at most so many of them
abbrev pub line : ℕ → (ℕ → NoteStanding) → ℕ → List ℕ
line zero notes note = []
line (suc most) notes note = note ∷ from_parent (line most notes) (notes note).parent

-- The note and its ancestors up to the root. A parent has a smaller number, so there are no more of them than the note's number and one.
abbrev pub line_of : EnvStanding → ℕ → List ℕ
line_of now note = line (suc note) now.notes note

-- a deadline has come: the clock is at least the deadline. Where there is none, it never comes
abbrev pub is_due : ℕ → Option ℕ → Bool
is_due clock None = false
is_due clock (Some deadline) = nat_le deadline clock

-- the note itself was notified, by a call or by its deadline
abbrev pub is_over : ℕ → NoteStanding → Bool
is_over clock note = note.called || is_due clock note.deadline

-- the note is notified: it or an ancestor, by a call or by its deadline
abbrev pub notified_in : EnvStanding → ℕ → Bool
notified_in now note = list_any (λ n. is_over now.clock (now.notes n)) (line_of now note)

-- whether the note is notified after the history
unfoldable pub is_notified : List EnvEvent → ℕ → Bool
is_notified history note = notified_in (env_after history) note

-- the note is notified after the history
abbrev pub IsNotified : List EnvEvent → ℕ → Type 0
IsNotified history note = is_notified history note ≡ true

-- the earlier of two deadlines, where there are two
abbrev pub earlier : Option ℕ → Option ℕ → Option ℕ
earlier None other = other
earlier (Some deadline) None = Some deadline
earlier (Some deadline) (Some other) = Some (min deadline other)

-- the earliest deadline of these notes, or none
abbrev pub earliest : (ℕ → NoteStanding) → List ℕ → Option ℕ
earliest notes [] = None
earliest notes (note ∷ others) = earlier (notes note).deadline (earliest notes others)

-- the expiry: the earliest deadline from the note up to the root, or none
abbrev pub expiry_in : EnvStanding → ℕ → Option ℕ
expiry_in now note = earliest now.notes (line_of now note)

-- the expiry of the note after the history
unfoldable pub expiry_of : List EnvEvent → ℕ → Option ℕ
expiry_of history note = expiry_in (env_after history) note

-- ---- callers

-- the events of a history whose caller is the seat
abbrev pub env_own : List EnvEvent → ℕ → List EnvEvent
env_own history seat = filter (λ event. env_who event == seat) history

-- each caller of the history is one of so many seats
abbrev pub IsEnvBySeats : ℕ → List EnvEvent → Type 0
IsEnvBySeats seats [] = Unit {0}
IsEnvBySeats seats (event ∷ events) = (env_who event < seats) × IsEnvBySeats seats events
