-- What a seat was told: the history that it has seen, its own events, and the calls that it has begun.
use Rattle.std.specs.Prelude.{All, Bool, List, None, Option, Some, [], ℕ, ◌++◌, ◌∷◌, ◌≡◌}
use Rattle.ns_word.specs.Names.{BeginsWith, Event, Found, IsBySeats, IsLegal, Walk, own, place_after, who_of}
use Rattle.ns_word.specs.Begins.{IsFirst}
use Rattle.ns_word.specs.Walks.{got_of}

-- `begun` has the first place of each call
pub record Told (C : Type 0) (N : ℕ) : Type 0 where
  pub seen : List (Event C N)
  pub mine : List (Event C N)
  pub begun : List (Walk C)

-- before any call
abbrev pub nothing_told : {C : Type 0} {N : ℕ} → Told C N
nothing_told = record { seen = []; mine = []; begun = [] }

-- where what its steps found leads a call, over a row of N cells
abbrev pub walk_over : {C : Type 0} → ℕ → List Found → Option (Walk C) → Option (Walk C)
walk_over N [] walk = walk
walk_over N (found ∷ founds) None = None
walk_over N (found ∷ founds) (Some walk) = walk_over N founds (place_after (got_of N walk found))

-- The call in progress is the last that was begun: what its steps found has led from its first place to where it is.
pub record LedBy {C : Type 0} (N : ℕ) (begun : List (Walk C)) (walk : Walk C) : Type 0 where
  pub earlier : List (Walk C)
  pub first : Walk C
  pub founds : List Found
  pub last : begun ≡ earlier ++ first ∷ []
  pub leads : walk_over N founds (Some first) ≡ Some walk

-- the call in progress, if there is one, is the last that was begun
abbrev pub IsLed : {C : Type 0} → ℕ → List (Walk C) → Option (Walk C) → Type 0
IsLed N begun None = Unit {0}
IsLed N begun (Some walk) = LedBy N begun walk

-- What a seat has seen is a beginning of the history, and legal; its own events are those of the history, and it has seen all of them; it has begun these calls, each at a first place, and the last of them is the one in progress, if one is.
pub record IsTold {C : Type 0} {N : ℕ} (holds : C → List ℕ → Bool) (seats : ℕ) (history : List (Event C N)) (seat : ℕ) (walk : Option (Walk C)) (told : Told C N) : Type 0 where
  pub seen_of : BeginsWith history told.seen
  pub legal : IsLegal holds told.seen
  pub by_seats : IsBySeats seats told.seen
  pub own_of : told.mine ≡ own history seat
  pub own_seen : told.mine ≡ own told.seen seat
  pub firsts : All (IsFirst N) told.begun
  pub led : IsLed N told.begun walk

-- the call that a step begins, if it begins one
abbrev pub calls_of : {C : Type 0} → Option (Walk C) → List (Walk C)
calls_of None = []
calls_of (Some walk) = walk ∷ []

-- What a seat was told after a step of its own that commits these events, and begins these calls: none, or one where it is a call's first step. It has then seen the whole history. A step of another seat tells it nothing.
abbrev pub told_after : {C : Type 0} {N : ℕ} → List (Event C N) → List (Event C N) → List (Walk C) → Told C N → Told C N
told_after history commits begins told = record { seen = history ++ commits; mine = told.mine ++ commits; begun = told.begun ++ begins }

-- all these events are the seat's
abbrev pub AreBy : {C : Type 0} {N : ℕ} → ℕ → List (Event C N) → Type 0
AreBy seat [] = Unit {0}
AreBy seat (event ∷ events) = (who_of event ≡ seat) × AreBy seat events
