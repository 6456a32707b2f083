-- What a wait for any of several notes and counters answers, by what the caller had seen of the objects and of the environment, and has seen then.
use Rattle.std.specs.Prelude.{ℕ, ◌<◌, Bool, List, Option}
use Rattle.ns_objects.specs.Names.{AnswersByRounds, AnyItem, Counter, Cv, EnvKnown, IsLater, IsMade, IsReady, Item, Note, OnCounterItem, OnNote, OnVariable, Past, PlainItem, RoundShows, Setup}
use Rattle.ns_objects.specs.Known.{ObjectsKnown}
use Rattle.ns_objects.specs.declared.any.Item.TheVariants as TheItem

-- what a caller knows of both
abbrev pub BothKnown : Type 0
BothKnown = ObjectsKnown × EnvKnown

-- how far both have come, as far as the caller has seen
abbrev pub past_of : BothKnown → Past
past_of now = record { notes = now.1.seen; objects = now.0.seen }

-- a note or a counter, as one of the items that there may be beside variables
abbrev pub any_of : Item → AnyItem
any_of (TheItem.Note note) = Note note
any_of (TheItem.Counter counter) = Counter counter

-- a counter that there is, a note that was seen made, or one of four variables
abbrev pub IsNamed : ObjectsKnown → EnvKnown → AnyItem → Type 0
IsNamed seat watch (Note note) = IsMade watch.seen note.index
IsNamed seat watch (Counter counter) = counter < seat.setup.counters
IsNamed seat watch (Cv k) = k < 4

-- the same of a note or a counter
abbrev pub IsKnown : ObjectsKnown → EnvKnown → Item → Type 0
IsKnown seat watch item = IsNamed seat watch (any_of item)

-- the item that it is for a round, which knows a note by its number
abbrev pub item_of : AnyItem → PlainItem
item_of (Note note) = OnNote note.index
item_of (Counter counter) = OnCounterItem counter
item_of (Cv k) = OnVariable k

-- at a point the item was ready, or wasn't
abbrev pub WasReady : Setup → Bool → Past → AnyItem → Type 0
WasReady setup so point item = IsReady setup so point (item_of item)

-- So it was at some point of a call, or of a part of one.
abbrev pub WasReadyIn : Bool → BothKnown → BothKnown → AnyItem → Type 0
WasReadyIn so old new item = (point : Past) × IsLater (past_of old) point × IsLater point (past_of new) × WasReady old.0.setup so point item

module _ {A : Type 0} (as_any : A → AnyItem) (setup : Setup) (items : List A) (deadline : Option ℕ) where
  -- One round over these items shows this: the clock was looked at, and then each item in order, up to the first that was ready.
  abbrev pub RoundAnswers : Past → Past → Option ℕ → Type 0
  RoundAnswers from to answer = RoundShows (λ so point item. WasReady setup so point (as_any item)) items deadline from to answer

  -- Rounds that showed nothing, and one behind them that shows this: the place of the first item that was ready; or the number of items, where none was and the deadline had come.
  abbrev pub RoundsAnswer : Past → Past → ℕ → Type 0
  RoundsAnswer from to place = AnswersByRounds (λ so point item. WasReady setup so point (as_any item)) items deadline from to place

-- What a wait for any of these answers.
abbrev pub AnyAnswers : List Item → Option ℕ → BothKnown → BothKnown → ℕ → Type 0
AnyAnswers items deadline old new place = RoundsAnswer any_of old.0.setup items deadline (past_of old) (past_of new) place
