-- What a look at a note and a deadline shows stays so: the laws of what watches for the end of a wait.
use Rattle.std.proofs.Common.{subst, sym, ◌∙◌}
use Rattle.std.specs.Prelude.{IfSome, IsSome, IsSomeAnd, None, Option, Some, refl, ℕ, ◌≡◌}
use Rattle.ns_monitor.specs.Names.{Cause, EnvKnown, Expired, IsMade, Limits, MayShow, Notified, TableId, begins_itself, begins_through}
use Rattle.ns_monitor.specs.Limits.{HasLookedOn, IsLooking, LookShows}
use Rattle.ns_monitor.specs.Several.{at_will}

-- ---- a seat that looks on

pub same_looker : (seat : EnvKnown) → HasLookedOn seat seat
same_looker seat = record { env = refl; seat_count = refl; seat = refl; begins = begins_itself seat.seen; mine = refl; makes = λ given made. made }

pub then_looker : (one two three : EnvKnown) → HasLookedOn one two → HasLookedOn two three → HasLookedOn one three
then_looker one two three s t = record { env = t.env ∙ s.env; seat_count = t.seat_count ∙ s.seat_count; seat = t.seat ∙ s.seat; begins = begins_through three.seen two.seen one.seen t.begins s.begins; mine = t.mine ∙ s.mine; makes = λ given made. t.makes given (s.makes given made) }

-- a note that was made stays so
still_made : (note : Option ℕ) (old new : EnvKnown) → HasLookedOn old new → IfSome note (IsMade old.seen) → IfSome note (IsMade new.seen)
still_made None old new s made = tt
still_made (Some n) old new s made = s.makes n made

pub still_looking : (env env' : TableId) (one two : EnvKnown) (limits : Limits) → env' ≡ env → HasLookedOn one two → IsLooking env one limits → IsLooking env' two limits
still_looking env env' one two limits same s is = record { of = s.env ∙ is.of ∙ sym same; made = still_made limits.note one two s is.made }

-- ---- what was shown

some_and : (o : Option ℕ) (P : ℕ → Type 0) → IsSomeAnd o P → IsSome o
some_and None P is = absurd is
some_and (Some n) P is = refl

-- a wait was given what it shows
pub may_show : (limits : Limits) (old new : EnvKnown) (shown : Option Cause) → LookShows limits old new shown → MayShow limits shown
may_show limits old new None shows = tt
may_show limits old new (Some Expired) shows = some_and limits.deadline _ shows.2.1
may_show limits old new (Some Notified) shows = some_and limits.note _ shows.2

-- where nothing can be shown, nothing is
pub nothing_named : (limits : Limits) (shown : Option Cause) → IfSome shown (λ cause. ⊥) → MayShow limits shown
nothing_named limits None is = tt
nothing_named limits (Some cause) is = absurd is

-- a wait that its caller may end at any time may be shown that
pub shown_at_will : (limits : Limits) (shown : Option Cause) → limits ≡ at_will → shown ≡ Some Expired → MayShow limits shown
shown_at_will limits shown is shows = subst (λ (x : Limits × Option Cause). MayShow x.0 x.1) (λ i. (sym is i, sym shows i)) refl

-- what was shown to one that had seen more was shown to one that had seen less
pub shown_since : (limits : Limits) (one two three : EnvKnown) (shown : Option Cause) → HasLookedOn one two → LookShows limits two three shown → LookShows limits one three shown
shown_since limits one two three shown s shows = (shows.0, (begins_through shows.0 two.seen one.seen shows.1.0 s.begins, shows.1.1), shows.2)

-- and that nothing was shown stays so
pub none_shown : (limits : Limits) (one two three : EnvKnown) → LookShows limits one two None → HasLookedOn two three → LookShows limits one three None
none_shown limits one two three shows s = (shows.0, (shows.1.0, begins_through three.seen two.seen shows.0 s.begins shows.1.1), shows.2)
