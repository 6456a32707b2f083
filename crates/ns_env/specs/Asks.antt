-- A clock and notes as plain data, with a list of the places where seats stand in calls on them: a step of one seat, and what holds between any two.
use Rattle.std.specs.Prelude.{IfSome, List, None, Option, Some, length, replicate, slice_get, slice_set, suc, true, zero, ℕ, ◌<◌, ◌≡◌, ◌≤◌}
use Rattle.ns_env.specs.Names.{Adding, Advancing, Chain, ClockLoad, EnvAct, EnvEnd, EnvEvent, EnvFound, EnvWalk, ExpiryLoad, IsMade, LoadClock, LoadNext, LoadNote, MakeNote, Making, MoveClock, Next, NextLoad, Note, NoteLoad, NoteStanding, Nothing, NotifyNote, Notifying, On, ParentFits, StoreNote}
use Rattle.ns_env.specs.Names.{TakeNext, TakeNumber, clock_of, earlier, env_after, expiry_of, total}
use Rattle.ns_env.specs.declared.view.Making.TheVariants.{Taken}
use Rattle.ns_env.specs.Lawful.{IsLawful, MakingFits, adds}
use Rattle.ns_env.specs.Notes.{state_of}
use Rattle.ns_env.specs.Steps.{EnvPlain, fresh_plain, outcome}
use Rattle.ns_env.specs.Walks.{chain_note, env_got_of, env_want_of}
use Rattle.ns_env.specs.Nexts.{place_after}

-- the clock and the notes, with each seat's place in a call on them
pub record EnvState : Type 0 where
  pub plain : EnvPlain
  pub askings : List (Option EnvWalk)

-- What an act needs, that it may be made where this is the next number: its note is one of 64, and the number has room for one more.
abbrev pub EnvActFits : ℕ → EnvAct → Type 0
EnvActFits next LoadNext = Unit {0}
EnvActFits next TakeNext = next < 128
EnvActFits next (StoreNote note parent deadline) = note < 64
EnvActFits next (NotifyNote note) = note < 64
EnvActFits next (MoveClock moment) = Unit {0}
EnvActFits next LoadClock = Unit {0}
EnvActFits next (LoadNote note) = note < 64

-- The act of the seat takes the clock and the notes from old to new, finds this, and is these events.
pub record EnvEffect (seat : ℕ) (act : EnvAct) (old : EnvPlain) (found : EnvFound) (new : EnvPlain) (events : List EnvEvent) : Type 0 where
  pub found_is : found ≡ (outcome seat act old).found
  pub leaves : new ≡ (outcome seat act old).plain
  pub events_are : events ≡ (outcome seat act old).events

-- The seat makes the step that its walk wants, and no other seat's place changes.
pub record EnvStep (old : EnvState) (seat : ℕ) (found : EnvFound) (new : EnvState) (events : List EnvEvent) : Type 0 where
  pub walk : EnvWalk
  pub walks : slice_get old.askings seat ≡ Some (Some walk)
  pub effect : EnvEffect seat (env_want_of walk) old.plain found new.plain events
  pub becomes : new.askings ≡ slice_set old.askings seat (place_after (env_got_of walk found))

-- ---- what holds between any two steps

-- how far a seat at this place has come in making a note
abbrev pub making_of : EnvWalk → Making
making_of (TakeNumber parent deadline) = Adding
making_of (MakeNote note parent deadline) = Taken note
making_of walk = Nothing

-- the same of a seat that may be in no call
abbrev pub making_at : Option EnvWalk → Making
making_at None = Nothing
making_at (Some walk) = making_of walk

-- how many seats go to take a number
abbrev pub adders : List (Option EnvWalk) → ℕ
adders walks = total (λ walk. adds (making_at walk)) walks

-- the note, if one is given, is made
abbrev pub IfMade : (ℕ → NoteStanding) → Option ℕ → Type 0
IfMade notes given = IfSome given (λ note. (notes note).made ≡ true)

-- What the place of a seat in its call tells beside that: each note that is named is made, and the parent of a note that is to be made is an earlier one; a clock that was loaded is past; and an expiry has come so far.
abbrev pub AskFits : List EnvEvent → EnvWalk → Type 0
AskFits history (NextLoad parent deadline) = IfMade (env_after history).notes parent
AskFits history (TakeNumber parent deadline) = IfMade (env_after history).notes parent
AskFits history (MakeNote note parent deadline) = ParentFits (env_after history) note parent
AskFits history (Notifying note) = IsMade history note
AskFits history (Advancing moment) = Unit {0}
AskFits history (ClockLoad chain) = IfMade (env_after history).notes (chain_note chain)
AskFits history (NoteLoad chain clock note) = (clock ≤ clock_of history) × IsMade history note × IfMade (env_after history).notes (chain_note chain)
AskFits history (ExpiryLoad asked note least) = IsMade history asked × IsMade history note × (expiry_of history asked ≡ earlier least (expiry_of history note))

-- These events are lawful, where seats stand at these places, and have led each seat to its own.
pub record IsLawfulEnv (events : List EnvEvent) (state : EnvState) : Type 0 where
  pub lawful : IsLawful (length state.askings) state.plain (adders state.askings) events
  pub making : (seat : ℕ) (walk : EnvWalk) → slice_get state.askings seat ≡ Some (Some walk) → MakingFits (env_after events) seat (making_of walk)
  pub each : (seat : ℕ) (walk : EnvWalk) → slice_get state.askings seat ≡ Some (Some walk) → AskFits events walk

-- ---- how it begins, and how a call begins

-- a clock at 0 and no note, with so many seats that stand in no call on them
abbrev pub fresh_asks : ℕ → EnvState
fresh_asks seats = record { plain = fresh_plain; askings = replicate seats None }

-- the first place of a call or of a look, each of whose notes is made
abbrev pub IsFirstAsk : (ℕ → NoteStanding) → EnvWalk → Type 0
IsFirstAsk notes (NextLoad parent deadline) = IfMade notes parent
IsFirstAsk notes (Notifying note) = (notes note).made ≡ true
IsFirstAsk notes (Advancing moment) = Unit {0}
IsFirstAsk notes (ClockLoad chain) = IfMade notes (chain_note chain)
IsFirstAsk notes (ExpiryLoad asked note least) = (note ≡ asked) × (least ≡ None) × ((notes asked).made ≡ true)
IsFirstAsk notes walk = ⊥

-- A seat that stands in no such call begins one: its place changes, and nothing else.
pub record EnvBegins (old : EnvState) (seat : ℕ) (walk : EnvWalk) (new : EnvState) : Type 0 where
  pub over : slice_get old.askings seat ≡ Some None
  pub first : IsFirstAsk old.plain.notes walk
  pub becomes : new ≡ record old { askings = slice_set old.askings seat (Some walk) }

-- ---- a chain in one go

-- a chain's place is followed to the next note; else the walk is where it is
abbrev pub up_by : (ℕ → Next EnvWalk EnvEnd) → Next EnvWalk EnvEnd → Next EnvWalk EnvEnd
up_by follow (On (NoteLoad chain clock note)) = follow note
up_by follow next = next

-- where a chain leads from a note on, at the clock, over at most so many notes, where nothing happens meanwhile
abbrev pub looked : ℕ → EnvPlain → Chain → ℕ → Next EnvWalk EnvEnd
looked zero plain chain note = On (NoteLoad chain plain.clock note)
looked (suc most) plain chain note = up_by (looked most plain chain) (env_got_of (NoteLoad chain plain.clock note) (Note (state_of (plain.notes note))))
