-- The law of a table of counters and once cells: its words, and where callers stand, are as one history leaves them.
use Rattle.std.specs.Prelude.{List, length, slice_index, ℕ, ◌<◌, ◌≡◌, ◌≤◌}
use Rattle.ns_counters.specs.Names.{Adding, BeginsWith, CounterState, Free, ObjectEvent, ObjectView, Place, Running, Setup, most}
use Rattle.ns_counters.specs.Objects.{ObjectStanding, objects_after, IsLegalObjects, objects_own, AreObjectsBySeats}
use Rattle.ns_counters.specs.Steps.{word_of_once}
use Rattle.ns_counters.specs.Words.{counter_word, stage, stage_word}
use Rattle.ns_model.specs.declared.once.OnceState.TheVariants as TheOnce

-- a word is that of the counter, whose value has room in it
abbrev pub IsWordOf : ℕ → CounterState → Type 0
IsWordOf word counter = (word ≡ counter_word counter) × (counter.value ≤ most)

-- The words are those of the objects as they stand.
pub record AreWordsOf (now : ObjectStanding) (words : List ℕ) : Type 0 where
  pub width : length words ≡ 32
  pub counters : (counter : ℕ) → counter < 16 → IsWordOf (slice_index words counter) (now.counters counter)
  pub onces : (once : ℕ) → once < 16 → slice_index words (word_of_once once) ≡ stage_word (stage (now.onces once))

-- there are no more objects of a kind than there are words for
abbrev pub HasWords : Setup → Type 0
HasWords setup = (setup.counters ≤ 16) × (setup.cells ≤ 16)

-- A caller that is to say that a function has run is the one that has begun to run it.
abbrev pub PlaceFits : Setup → ObjectStanding → ℕ → Place → Type 0
PlaceFits setup now who Free = Unit {0}
PlaceFits setup now who (Adding counter delta) = counter < setup.counters
PlaceFits setup now who (Running once) = (once < setup.cells) × (now.onces once ≡ TheOnce.Running who)

-- What a seat knows fits the history: it has seen a beginning of it, which has all of its own events, and stands where it may.
pub record ViewFits (setup : Setup) (history : List ObjectEvent) (view : ObjectView) : Type 0 where
  pub made : view.setup ≡ setup
  pub below : view.seat < setup.seats
  pub seen : BeginsWith history view.seen
  pub mine : objects_own history view.seat ≡ view.mine
  pub mine_seen : objects_own view.seen view.seat ≡ view.mine
  pub place : PlaceFits setup (objects_after setup history) view.seat view.place

-- The law: the words are those of the objects as this history leaves them, which is legal and by the seats that there are.
pub record IsLawful (setup : Setup) (words : List ℕ) (history : List ObjectEvent) : Type 0 where
  pub few : setup.seats ≤ 64
  pub room : HasWords setup
  pub words_are : AreWordsOf (objects_after setup history) words
  pub legal : IsLegalObjects setup history
  pub by_seats : AreObjectsBySeats setup history
