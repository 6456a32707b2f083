-- One round of a wait for any of several objects.
use Rattle.std.specs.Prelude.{List, None, Some, [], drop, if◌then◌else◌, suc, true, ℕ, ◌<◌, ◌==◌, ◌∷◌}
use Rattle.ns_counters.specs.Names.{AtCounter, AtNote, Clock, Done, Env, EnvEnd, EnvWalk, FirstClock, ForIsNotified, Is, Item, LoadClock, LoadNote, LookCounter, Next, NoteLoad, ObjectFound, ObjectWant, On, OnCounterItem as OnCounter, OnEnv, OnNote, OnVariable, OnWord, Over, Round, RoundGo}
use Rattle.ns_counters.specs.Names.{RoundNext, RoundOver, RoundPlace, Word, env_got_of, is_due}
use Rattle.ns_counters.specs.Items.{items_of}
use Rattle.ns_counters.specs.Words.{counter_of}

-- the step that a round wants at each of its places
abbrev pub round_want : RoundPlace → ObjectWant
round_want FirstClock = OnEnv LoadClock
round_want (AtNote at clock asked note) = OnEnv (LoadNote note)
round_want (AtCounter at clock counter) = OnWord (LookCounter counter)

-- where it goes to look at the first of these objects, which begin at this place; it passes over condition variables, and behind the last object it shows how many there are, if the clock had come to the deadline
abbrev pub from_items : Round → ℕ → ℕ → List Item → RoundNext
from_items round clock at [] = if is_due clock round.deadline then RoundOver (Some round.items.count) else RoundOver None
from_items round clock at (OnNote note ∷ items) = RoundGo (AtNote at clock note note)
from_items round clock at (OnCounter counter ∷ items) = RoundGo (AtCounter at clock counter)
from_items round clock at (OnVariable k ∷ items) = from_items round clock (suc at) items

-- where it goes to look at the object at this place, or behind it
abbrev pub from_place : Round → ℕ → ℕ → RoundNext
from_place round clock at = from_items round clock at (drop at (items_of round.items))

-- the chain of notes that is loaded for the object at this place
abbrev pub chain_from : ℕ → ℕ → ℕ → EnvWalk
chain_from asked clock note = NoteLoad (ForIsNotified asked) clock note

-- where it goes by where that chain goes
abbrev pub by_chain : Round → ℕ → ℕ → ℕ → Next EnvWalk EnvEnd → RoundNext
by_chain round at clock asked (On (NoteLoad chain moment above)) = RoundGo (AtNote at clock asked above)
by_chain round at clock asked (Done (Over (Is true))) = RoundOver (Some at)
by_chain round at clock asked next = from_place round clock (suc at)

-- where it goes with what its step found; what no step of the place finds leaves it there
abbrev pub round_got : Round → RoundPlace → ObjectFound → RoundNext
round_got round FirstClock (Env (Clock clock)) = from_place round clock 0
round_got round (AtNote at clock asked note) (Env found) = by_chain round at clock asked (env_got_of (chain_from asked clock note) found)
round_got round (AtCounter at clock counter) (Word word) = if (counter_of word).value == 0 then RoundOver (Some at) else from_place round clock (suc at)
round_got round place found = RoundGo place

-- the place in the list is one of 16
abbrev pub IsInList : RoundPlace → Type 0
IsInList FirstClock = Unit {0}
IsInList (AtNote at clock asked note) = at < 16
IsInList (AtCounter at clock counter) = at < 16
