-- Counters and once cells side by side: which histories of all of them are legal, and what they leave.
use Rattle.std.specs.List.{fold}
use Rattle.std.specs.Prelude.{List, [], filter, if◌then◌else◌, slice_index, ℕ, ◌<◌, ◌==◌, ◌∷◌}
use Rattle.ns_counters.specs.Names.{Add, Began, Begun, CounterEvent, CounterState, Every, IsLegalCounterEvent, IsLegalFrom, IsLegalOnceEvent, ObjectEvent, OnCounter, OnOnce, OnceEvent, OnceState, Ran, Setup, but_at, counter_next, first_counter, once_next}
use Rattle.ns_model.specs.declared.once.OnceState.TheVariants.{Unused}

-- what a history leaves of each object, by its number
pub record ObjectStanding : Type 0 where
  pub counters : ℕ → CounterState
  pub onces : ℕ → OnceState

-- before any event
abbrev pub first_objects : Setup → ObjectStanding
first_objects setup = record { counters = λ counter. first_counter (slice_index setup.starts counter); onces = λ once. Unused }

-- An event of one object is legal where it is legal of that object, which is one of those that there are.
abbrev pub IsLegalObjectEvent : Setup → ObjectStanding → ObjectEvent → Type 0
IsLegalObjectEvent setup now (OnCounter counter event) = (counter < setup.counters) × IsLegalCounterEvent (now.counters counter) event
IsLegalObjectEvent setup now (OnOnce once event) = (once < setup.cells) × IsLegalOnceEvent (now.onces once) event

-- what an event leaves: it changes one object, and no other
abbrev pub object_next : ObjectStanding → ObjectEvent → ObjectStanding
object_next now (OnCounter counter event) = record { counters = but_at counter (counter_next (now.counters counter) event) now.counters; onces = now.onces }
object_next now (OnOnce once event) = record { counters = now.counters; onces = but_at once (once_next (now.onces once) event) now.onces }

-- what events leave
abbrev pub objects_from : ObjectStanding → List ObjectEvent → ObjectStanding
objects_from now events = fold object_next now events

-- what a history leaves
abbrev pub objects_after : Setup → List ObjectEvent → ObjectStanding
objects_after setup history = objects_from (first_objects setup) history

-- A legal history of the objects.
abbrev pub IsLegalObjects : Setup → List ObjectEvent → Type 0
IsLegalObjects setup history = IsLegalFrom (IsLegalObjectEvent setup) object_next (first_objects setup) history

-- the events of one counter
abbrev pub of_counter : ℕ → List ObjectEvent → List CounterEvent
of_counter number [] = []
of_counter number (OnCounter counter event ∷ events) = if number == counter then event ∷ of_counter number events else of_counter number events
of_counter number (OnOnce once event ∷ events) = of_counter number events

-- the events of one once cell
abbrev pub of_once : ℕ → List ObjectEvent → List OnceEvent
of_once number [] = []
of_once number (OnCounter counter event ∷ events) = of_once number events
of_once number (OnOnce once event ∷ events) = if number == once then event ∷ of_once number events else of_once number events

-- ---- callers

-- the caller of a counter's event
abbrev pub counter_who : CounterEvent → ℕ
counter_who (Add who delta reply) = who
counter_who (Begun who) = who

-- the caller of a once cell's event
abbrev pub once_who : OnceEvent → ℕ
once_who (Began who) = who
once_who (Ran who) = who

-- the caller of an event
abbrev pub object_who : ObjectEvent → ℕ
object_who (OnCounter counter event) = counter_who event
object_who (OnOnce once event) = once_who event

-- the events of a history whose caller is the seat
abbrev pub objects_own : List ObjectEvent → ℕ → List ObjectEvent
objects_own history seat = filter (λ event. object_who event == seat) history

-- each caller of the history is one of the seats
abbrev pub AreObjectsBySeats : Setup → List ObjectEvent → Type 0
AreObjectsBySeats setup history = Every (λ event. object_who event < setup.seats) history
