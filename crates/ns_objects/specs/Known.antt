-- What a seat knows, and how it grows.
use Rattle.std.specs.Prelude.{◌≡◌, ℕ, List, []}
use Rattle.ns_objects.specs.Names.{AreNewBy, AreObjectsBySeats, AreOfOneHistoryBy, BeginsWith, Free, HasWords, IsLegalObjects, IsOne, Me, ObjectEvent, ObjectStanding, ObjectView, Setup, Sight, TableId, objects_after, objects_own, the_or}
use Rattle.ns_objects.specs.Law.{fresh_seat}

-- what contracts see of a seat: its objects and how they were made, its own number, the history that it has seen, and its own events
pub record ObjectsKnown : Type 0 where
  pub objects : TableId
  pub setup : Setup
  pub seat : ℕ
  pub seen : List ObjectEvent
  pub mine : List ObjectEvent

-- what a seat has seen and done
abbrev pub known : TableId → Setup → ℕ → List ObjectEvent → List ObjectEvent → ObjectsKnown
known objects setup seat seen mine = record { objects = objects; setup = setup; seat = seat; seen = seen; mine = mine }

-- what a seat with this view shows of itself
abbrev pub known_of : TableId → ObjectView → ObjectsKnown
known_of objects view = known objects view.setup view.seat view.seen view.mine

-- what a seat has seen
abbrev pub sight_of : ObjectsKnown → Sight ObjectEvent
sight_of k = record { seat = k.seat; seen = k.seen; mine = k.mine }

-- no objects at all
abbrev pub no_setup : Setup
no_setup = record { seats = 0; counters = 0; starts = []; cells = 0 }

-- the seat that a view stands for, where it is one
abbrev pub the : List ObjectView → ObjectView
the = the_or (fresh_seat no_setup 0)

-- how the objects stand, as far as a seat with this view has seen
abbrev pub standing_in : ObjectView → ObjectStanding
standing_in view = objects_after view.setup view.seen

-- how the objects stand, as far as the seat has seen
abbrev pub standing_of : ObjectsKnown → ObjectStanding
standing_of k = objects_after k.setup k.seen

-- What a seat has seen is a legal history by the seats that there are, and the seat's own events in it are just its own; and there are 16 objects of a kind at most.
pub record IsTrueToHistory (k : ObjectsKnown) : Type 0 where
  pub room : HasWords k.setup
  pub legal : IsLegalObjects k.setup k.seen
  pub by_seats : AreObjectsBySeats k.setup k.seen
  pub own : objects_own k.seen k.seat ≡ k.mine

-- a seat between its calls: it stands for itself alone, holds nothing of the table and is bound to no step
pub record IsAtRest {S : Type 0} (objects : TableId) (me : Me S (List ObjectView)) : Type 0 where
  pub one : IsOne me.0
  pub empty : me.1 ≡ []
  pub free : (the me.0).place ≡ Free
  pub true_to : IsTrueToHistory (known_of objects (the me.0))

-- The same seat later: it has seen a history that begins with what it had seen, and that is one of those above.
pub record Grows (old new : ObjectsKnown) : Type 0 where
  pub objects : new.objects ≡ old.objects
  pub setup : new.setup ≡ old.setup
  pub seat : new.seat ≡ old.seat
  pub begins : BeginsWith new.seen old.seen
  pub true_to : IsTrueToHistory new

-- the seats of new objects, from a number on: none has seen or done anything
abbrev pub AreNew : TableId → Setup → ℕ → List ObjectsKnown → Type 0
AreNew objects setup = AreNewBy (λ seat. known objects setup seat [] [])

-- Of two seats, one has seen all that the other has: a history that begins with what the other has seen, in which the events of both are just their own.
abbrev pub AreOfOneHistory : ObjectsKnown → ObjectsKnown → Type 0
AreOfOneHistory first second = AreOfOneHistoryBy objects_own (sight_of first) (sight_of second)
