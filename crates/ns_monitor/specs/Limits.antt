-- What may end a wait early, and what a look has shown of it.
use Rattle.std.specs.Prelude.{IfSome, Option, ℕ, ◌≡◌}
use Rattle.ns_monitor.specs.Names.{BeginsWith, Cause, EnvKnown, HasLooked, IsMade, Limits, TableId}

-- the seat is of the environment, and has seen the note made that the limits name, if they name one
pub record IsLooking (env : TableId) (seat : EnvKnown) (limits : Limits) : Type 0 where
  pub of : seat.env ≡ env
  pub made : IfSome limits.note (IsMade seat.seen)

-- the same seat later, which has seen more and done nothing of its own
pub record HasLookedOn (old new : EnvKnown) : Type 0 where
  pub env : new.env ≡ old.env
  pub seat_count : new.seat_count ≡ old.seat_count
  pub seat : new.seat ≡ old.seat
  pub begins : BeginsWith new.seen old.seen
  pub mine : new.mine ≡ old.mine
  pub makes : (note : ℕ) → IsMade old.seen note → IsMade new.seen note

-- a look between has shown this
abbrev pub LookShows : Limits → EnvKnown → EnvKnown → Option Cause → Type 0
LookShows limits old new shown = HasLooked limits shown old.seen new.seen
