-- The walks of calls on counters and once cells as they stand at their seats, and one step of a seat.
use Rattle.std.specs.List.{list_all}
use Rattle.std.specs.Prelude.{Bool, List, None, Ok, Option, Some, [], bit_or, if◌then◌else◌, length, nat_lt, slice_get, slice_index, slice_set, true, unwrap_or, ℕ, ◌<◌, ◌==◌, ◌^◌, ◌≡◌, ◌≤◌}
use Rattle.ns_counters.specs.Names.{AddExchange, AddLoad, AtCounter, AtNote, BeginOnce, DoneLoad, EndOnce, Env, EnvAct, EnvActFits, EnvEffect, EnvPlain, ExchangeToAdd, FirstClock, InRound, Item, Items, LoadClock, LoadNote, MarkWait, NoteStanding, ObjectAct, ObjectEvent, ObjectFound, ObjectWalk}
use Rattle.ns_counters.specs.Names.{ObjectWant, OnCounterItem as OnCounter, OnEnv, OnNote, OnVariable, OnWord, OnceBegin, OnceEnd, OnceLoad, Place, Round, RoundPlace, Setup, ValueLoad, WaitClock, WaitLoad, WaitMark, Word, judged, most, place_after}
use Rattle.ns_counters.specs.Items.{item_at, items_of}
use Rattle.ns_counters.specs.Lawful.{IsLawful}
use Rattle.ns_counters.specs.Objects.{ObjectStanding, objects_after}
use Rattle.ns_counters.specs.Steps.{outcome, word_at}
use Rattle.ns_counters.specs.Walks.{IsInBounds, object_got, object_place, object_want}
use Rattle.ns_counters.specs.Words.{counter_word}
use Rattle.ns_model.specs.declared.once.OnceState.TheVariants as TheOnce

-- the counters and once cells, and each seat's place in a call on them, if it is in one
pub record ObjectState : Type 0 where
  pub setup : Setup
  pub words : List ℕ
  pub walks : List (Option ObjectWalk)

-- the seat's place in its call on them, if one is in progress
abbrev pub walk_in : List (Option ObjectWalk) → ℕ → Option ObjectWalk
walk_in walks seat = unwrap_or (slice_get walks seat) None

-- ---- one step

-- what a step on a word leaves of it
abbrev pub word_left : ObjectAct → ℕ → ℕ
word_left (ExchangeToAdd counter delta seen value) found = if found == counter_word seen then counter_word (record { value = value; waited = seen.waited }) else found
word_left (MarkWait counter) found = bit_or found (2 ^ 32)
word_left (BeginOnce once) found = if found == 0 then 1 else found
word_left (EndOnce once) found = 2
word_left act found = found

-- The step that a seat at this place wants leaves these words, finds this, and is these events: a step on a word is one of those of counters and once cells, and a load of the clock or of a note changes nothing.
abbrev pub ObjectEffect : ℕ → Place → ObjectWant → List ℕ → EnvPlain → ObjectFound → List ℕ → List ObjectEvent → Type 0
ObjectEffect seat place (OnWord act) words env (Word word) words' events =
    (word ≡ slice_index words (word_at act)) × (words' ≡ slice_set words (word_at act) (outcome seat act place word).word) × (events ≡ (outcome seat act place word).events)
ObjectEffect seat place (OnEnv act) words env (Env found) words' events = EnvEffect seat act env found env [] × (words' ≡ words) × (events ≡ [])
ObjectEffect seat place want words env found words' events = ⊥

-- the act is a load of the clock or of a note
abbrev pub IsLoad : EnvAct → Type 0
IsLoad LoadClock = Unit {0}
IsLoad (LoadNote note) = Unit {0}
IsLoad act = ⊥

-- what a step needs that a place wants: its word is one of 32, or it is a load of the clock or of one of 64 notes
abbrev pub WantFits : ℕ → ObjectWant → Type 0
WantFits number (OnWord act) = word_at act < 32
WantFits number (OnEnv act) = IsLoad act × EnvActFits number act

-- the same of a walk, whose round stands at one of 16 places
abbrev pub StepFits : ℕ → ObjectWalk → Type 0
StepFits number walk = WantFits number (object_want walk) × IsInBounds walk

-- The seat has made the step that its walk wants, and it was this: it stands where that leads, and no other seat has moved.
pub record ObjectStep (env : EnvPlain) (seat : ℕ) (walk : ObjectWalk) (old : ObjectState) (found : ObjectFound) (new : ObjectState) (events : List ObjectEvent) : Type 0 where
  pub words : List ℕ
  pub effect : ObjectEffect seat (object_place (Some walk)) (object_want walk) old.words env found words events
  pub becomes : new ≡ record old { words = words; walks = slice_set old.walks seat (place_after (object_got walk found)) }

-- ---- what holds between any two steps

-- whether there is such an object: a note that is made, one of the counters, or one of four variables
abbrev pub is_there : Setup → (ℕ → NoteStanding) → Item → Bool
is_there setup notes (OnNote note) = (notes note).made
is_there setup notes (OnCounter counter) = nat_lt counter setup.counters
is_there setup notes (OnVariable k) = nat_lt k 4

-- there is each of these objects, which are as many as their list says, and at most 16
abbrev pub AreThere : Setup → (ℕ → NoteStanding) → Items → Type 0
AreThere setup notes items = (items.count ≤ 16) × (list_all (is_there setup notes) (items_of items) ≡ true) × (length (items_of items) ≡ items.count)

-- a round stands at an object of its list, and a note that it is to load is made
abbrev pub RoundFits : (ℕ → NoteStanding) → Round → RoundPlace → Type 0
RoundFits notes round FirstClock = Unit {0}
RoundFits notes round (AtNote at clock asked note) = (item_at round.items at ≡ Some (OnNote asked)) × ((notes note).made ≡ true)
RoundFits notes round (AtCounter at clock counter) = item_at round.items at ≡ Some (OnCounter counter)

-- What the place of a seat in its call tells: its object is one of those that there are; who is to change a counter was told a value that its change leads to; and who is to say that a function has run has begun to run it.
abbrev pub WalkFits : Setup → ObjectStanding → (ℕ → NoteStanding) → ℕ → ObjectWalk → Type 0
WalkFits setup now notes seat (AddLoad counter delta) = counter < setup.counters
WalkFits setup now notes seat (AddExchange counter delta seen value) = (counter < setup.counters) × (judged seen delta ≡ Ok value) × (seen.value ≤ most)
WalkFits setup now notes seat (ValueLoad counter) = counter < setup.counters
WalkFits setup now notes seat (WaitMark counter deadline) = counter < setup.counters
WalkFits setup now notes seat (WaitLoad counter deadline) = counter < setup.counters
WalkFits setup now notes seat (WaitClock counter moment value) = counter < setup.counters
WalkFits setup now notes seat (OnceLoad once) = once < setup.cells
WalkFits setup now notes seat (OnceBegin once) = once < setup.cells
WalkFits setup now notes seat (OnceEnd once) = (once < setup.cells) × (now.onces once ≡ TheOnce.Running seat)
WalkFits setup now notes seat (DoneLoad once) = once < setup.cells
WalkFits setup now notes seat (InRound round place) = AreThere setup notes round.items × RoundFits notes round place

-- These events are all that has happened to the counters and once cells: their words are as these leave them, which are legal, by the seats that there are, and each seat stands where it may.
pub record IsLawfulObjects (history : List ObjectEvent) (state : ObjectState) (notes : ℕ → NoteStanding) : Type 0 where
  pub lawful : IsLawful state.setup state.words history
  pub within : (seat : ℕ) (walk : ObjectWalk) → walk_in state.walks seat ≡ Some walk → seat < state.setup.seats
  pub each : (seat : ℕ) (walk : ObjectWalk) → walk_in state.walks seat ≡ Some walk → WalkFits state.setup (objects_after state.setup history) notes seat walk
