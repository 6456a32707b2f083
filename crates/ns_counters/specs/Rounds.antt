-- Rounds of looks at a clock, and then at several things in order, of which a note is one kind and a counter is another: what a wait for any of several goes by.
use Rattle.std.specs.Prelude.{Bool, List, None, Option, Some, [], false, length, slice_get, suc, take, true, zero, ℕ, ◌∷◌, ◌≡◌, ◌⊎◌}
use Rattle.ns_counters.specs.Names.{BeginsWith, EnvEvent, ObjectEvent, clock_of, is_due}

-- how far both have come: the clock and the notes, and the counters and once cells
pub record Past : Type 0 where
  pub notes : List EnvEvent
  pub objects : List ObjectEvent

-- both have come as far as before, or further
pub record IsLater (earlier now : Past) : Type 0 where
  pub notes : BeginsWith now.notes earlier.notes
  pub objects : BeginsWith now.objects earlier.objects

-- Each of these things was so at a point of its own, one point behind another in that order: the first not before the one end, and the last not behind the other.
abbrev pub InTurn : {A : Type 0} → (Past → A → Type 0) → Past → Past → List A → Type 0
InTurn IsSo from to [] = IsLater from to
InTurn IsSo from to (x ∷ xs) = (point : Past) × IsLater from point × IsSo point x × InTurn IsSo point to xs

module _ {A : Type 0} (IsSo : Bool → Past → A → Type 0) (things : List A) (deadline : Option ℕ) where
  -- A round has shown whether the deadline had come, and no thing that was ready: the clock was looked at first, and then each thing in order, which wasn't.
  pub record HasShownNone (come : Bool) (from to : Past) : Type 0 where
    pub clock : Past
    pub begins : IsLater from clock
    pub come_then : is_due (clock_of clock.notes) deadline ≡ come
    pub unready : InTurn (IsSo false) clock to things

  -- A round has shown the thing at this place: it was ready, and behind the look at the clock each before it wasn't, in order.
  pub record HasShownOne (place : ℕ) (from to : Past) : Type 0 where
    pub clock : Past
    pub begins : IsLater from clock
    pub point : Past
    pub unready : InTurn (IsSo false) clock point (take place things)
    pub thing : A
    pub is : slice_get things place ≡ Some thing
    pub ready : IsSo true point thing
    pub ends : IsLater point to

  -- A round has shown nothing; or the place of the first that was ready; or, where none was, how many there are, and then the deadline had come.
  abbrev pub RoundShows : Past → Past → Option ℕ → Type 0
  RoundShows from to None = HasShownNone false from to
  RoundShows from to (Some place) = HasShownOne place from to ⊎ ((place ≡ length things) × HasShownNone true from to)

  -- So many whole rounds, one behind another, have each shown nothing.
  abbrev pub HaveShownNothing : ℕ → Past → Past → Type 0
  HaveShownNothing zero from to = IsLater from to
  HaveShownNothing (suc n) from to = (mid : Past) × HaveShownNothing n from mid × RoundShows mid to None

  -- Up to a point no round has shown anything, however many there were; and the round from there on has shown this.
  pub record AnswersByRounds (from to : Past) (place : ℕ) : Type 0 where
    pub rounds : ℕ
    pub mid : Past
    pub nothing : HaveShownNothing rounds from mid
    pub last : RoundShows mid to (Some place)
