-- What the answer of a call on counters and once cells means, whatever others do while it is in progress, and how far such a call has come at each of its places.
use Rattle.std.specs.Prelude.{Bool, Err, IsSomeAnd, List, Ok, Option, Some, [], false, take, true, ℕ, ◌++◌, ◌∷◌, ◌≡◌, ◌≢◌, ◌≤◌}
use Rattle.ns_counters.specs.Names.{AddExchange, AddLoad, Already, AtCounter, AtNote, AtSomePoint, DoneLoad, FirstClock, InRound, IsBetween, IsLeftAt, Item, Items, NextIs, Next, Number, ObjectEvent, ObjectReply, ObjectWalk, OnCounter, OnOnce, OnceBegin, OnceEnd, OnceLoad, Refused, Round, RoundPlace}
use Rattle.ns_counters.specs.Names.{Setup, ValueLoad, WaitClock, WaitLoad, WaitMark, clock_of, env_after, is_done, is_notified, is_ready}
use Rattle.ns_counters.specs.Asks.{AreThere}
use Rattle.ns_counters.specs.Items.{items_of}
use Rattle.ns_counters.specs.Objects.{ObjectStanding, objects_after, objects_own}
use Rattle.ns_counters.specs.Rounds.{AnswersByRounds, HaveShownNothing, InTurn, IsLater, Past}
use Rattle.ns_counters.specs.declared.reply.ObjectReply.TheVariants.{Is, Ran}
use Rattle.ns_model.specs.declared.counter.CounterEvent.TheVariants as TheCounter
use Rattle.ns_model.specs.declared.once.OnceEvent.TheVariants as TheOnce
use Rattle.ns_counters.specs.declared.items.Item.TheVariants as TheItem

-- what has happened to the clock and the notes, and to the counters and once cells, with more behind each
abbrev pub past_and : Past → Past → Past
past_and past more = record { notes = past.notes ++ more.notes; objects = past.objects ++ more.objects }

-- ---- what was asked

-- what a call at this place was asked to do, told by its first place
abbrev pub object_asked : ObjectWalk → ObjectWalk
object_asked (AddLoad counter delta) = AddLoad counter delta
object_asked (AddExchange counter delta seen value) = AddLoad counter delta
object_asked (ValueLoad counter) = ValueLoad counter
object_asked (WaitMark counter deadline) = WaitMark counter deadline
object_asked (WaitLoad counter deadline) = WaitMark counter deadline
object_asked (WaitClock counter moment value) = WaitMark counter (Some moment)
object_asked (OnceLoad once) = OnceLoad once
object_asked (OnceBegin once) = OnceLoad once
object_asked (OnceEnd once) = OnceLoad once
object_asked (DoneLoad once) = DoneLoad once
object_asked (InRound round place) = InRound round FirstClock

-- ---- what an answer means

-- at some point between these the counters and once cells stood so
abbrev pub AtSomeMoment : Setup → List ObjectEvent → List ObjectEvent → (ObjectStanding → Type 0) → Type 0
AtSomeMoment setup earlier now P = (point : List ObjectEvent) × IsBetween earlier point now × P (objects_after setup point)

-- At this point an item is ready, or isn't: a note that is notified, and a counter whose value is 0. A condition variable never is.
abbrev pub IsReady : Setup → Bool → Past → Item → Type 0
IsReady setup so point (TheItem.OnNote note) = is_notified point.notes note ≡ so
IsReady setup so point (TheItem.OnCounter counter) = is_ready ((objects_after setup point.objects).counters counter) ≡ so
IsReady setup true point (TheItem.OnVariable k) = ⊥
IsReady setup false point (TheItem.OnVariable k) = Unit {0}

-- at some point between these the clock had come to the deadline
abbrev pub WasDue : Option ℕ → Past → Past → Type 0
WasDue deadline earlier now = IsSomeAnd deadline (λ d. AtSomePoint earlier.notes now.notes (λ point. d ≤ clock_of point))

-- What a wait for any of these answers: rounds of looks at the clock and then at each in order have shown nothing, and the last has shown this.
abbrev pub AnyAnswers : Setup → Past → Past → Items → Option ℕ → ℕ → Type 0
AnyAnswers setup earlier now items deadline place = AnswersByRounds (IsReady setup) (items_of items) deadline earlier now place

-- the wait for 0 that this seat began has begun at a point between these, and from there on the counter had this value at some
abbrev pub HadValue : Setup → Past → Past → ℕ → ℕ → ℕ → Type 0
HadValue setup earlier now seat counter value = (point : List ObjectEvent) × IsBetween earlier.objects point now.objects
    × (objects_own point seat ≡ objects_own earlier.objects seat ++ OnCounter counter (TheCounter.Begun seat) ∷ []) × (((objects_after setup point).counters counter).value ≡ value)

-- What an answer means, of what has happened since the call began. A change has just the event of its answer, of which the history of its counter tells what it means. A wait for 0 has begun, and
-- answers the value at a point since; one that isn't 0 where the clock had come to the deadline. A function has begun and ended by this call, or had ended by another's. All else was so at some point of the call.
abbrev pub ObjectMeans : Setup → Past → Past → ℕ → ObjectWalk → List ObjectEvent → ObjectReply → Type 0
ObjectMeans setup earlier now seat (AddLoad counter delta) events (Number value) = events ≡ OnCounter counter (TheCounter.Add seat delta (Ok value)) ∷ []
ObjectMeans setup earlier now seat (AddLoad counter delta) events (Refused fault) = events ≡ OnCounter counter (TheCounter.Add seat delta (Err fault)) ∷ []
ObjectMeans setup earlier now seat (ValueLoad counter) events (Number value) = (events ≡ []) × AtSomeMoment setup earlier.objects now.objects (λ standing. (standing.counters counter).value ≡ value)
ObjectMeans setup earlier now seat (WaitMark counter deadline) events (Number value) =
    (events ≡ OnCounter counter (TheCounter.Begun seat) ∷ []) × HadValue setup earlier now seat counter value × (value ≢ 0 → WasDue deadline earlier now)
ObjectMeans setup earlier now seat (OnceLoad once) events Ran = events ≡ OnOnce once (TheOnce.Began seat) ∷ OnOnce once (TheOnce.Ran seat) ∷ []
ObjectMeans setup earlier now seat (OnceLoad once) events Already = (events ≡ []) × AtSomeMoment setup earlier.objects now.objects (λ standing. is_done (standing.onces once) ≡ true)
ObjectMeans setup earlier now seat (DoneLoad once) events (Is so) = (events ≡ []) × AtSomeMoment setup earlier.objects now.objects (λ standing. is_done (standing.onces once) ≡ so)
ObjectMeans setup earlier now seat (InRound round place) events (Number answer) = (events ≡ []) × AnyAnswers setup earlier now round.items round.deadline answer
ObjectMeans setup earlier now seat asked events reply = ⊥

-- ---- how far a call has come

-- Behind so many whole rounds that have shown nothing a round has loaded the clock, at this point, and from there on each item before this place was unready, in turn. A walk up from a note is judged by the clock that was loaded, so each note was unready as of then.
pub record HasLookedUpTo (setup : Setup) (earlier now : Past) (round : Round) (start : Past) (clock at : ℕ) : Type 0 where
  pub rounds : ℕ
  pub mid : Past
  pub nothing : HaveShownNothing (IsReady setup) (items_of round.items) round.deadline rounds earlier mid
  pub begins : IsLater mid start
  pub loaded : clock ≡ clock_of start.notes
  pub unready : InTurn (IsReady setup false) start (record { notes = start.notes; objects = now.objects }) (take at (items_of round.items))
  pub since : IsLater start now

-- How far a round has come: before it loads the clock only whole rounds have been; then it has looked at each item before the one at which it stands; and a walk up from a note that is under way has found nobody notified so far, of what had happened as the clock was loaded.
abbrev pub RoundSoFar : Setup → Past → Past → Round → RoundPlace → Type 0
RoundSoFar setup earlier now round FirstClock = (rounds : ℕ) × HaveShownNothing (IsReady setup) (items_of round.items) round.deadline rounds earlier now
RoundSoFar setup earlier now round (AtNote at clock asked note) = (start : Past) × HasLookedUpTo setup earlier now round start clock at × IsLeftAt start.notes asked (Some note)
RoundSoFar setup earlier now round (AtCounter at clock counter) = (start : Past) × HasLookedUpTo setup earlier now round start clock at

-- there was each of these objects as the call began
abbrev pub WereThere : Setup → Past → Items → Type 0
WereThere setup earlier items = AreThere setup (env_after earlier.notes).notes items

-- what a call has done at this place, and what it has found
abbrev pub ObjectSoFar : Setup → Past → Past → ℕ → List ObjectEvent → ObjectWalk → Type 0
ObjectSoFar setup earlier now seat events (WaitLoad counter deadline) = events ≡ OnCounter counter (TheCounter.Begun seat) ∷ []
ObjectSoFar setup earlier now seat events (WaitClock counter moment value) = (events ≡ OnCounter counter (TheCounter.Begun seat) ∷ []) × HadValue setup earlier now seat counter value
ObjectSoFar setup earlier now seat events (OnceEnd once) = events ≡ OnOnce once (TheOnce.Began seat) ∷ []
ObjectSoFar setup earlier now seat events (InRound round place) = (events ≡ []) × WereThere setup earlier round.items × RoundSoFar setup earlier now round place
ObjectSoFar setup earlier now seat events walk = events ≡ []

-- where a step leads a call that was asked to do this: it goes on, and is still the one that was asked; or its answer means what it says
abbrev pub ObjectGoes : Setup → Past → Past → ℕ → ObjectWalk → List ObjectEvent → Next ObjectWalk ObjectReply → Type 0
ObjectGoes setup earlier now seat asked events =
    NextIs (λ walk. (object_asked walk ≡ asked) × ObjectSoFar setup earlier now seat events walk) (ObjectMeans setup earlier now seat asked events)
