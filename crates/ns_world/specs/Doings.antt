-- What a seat is doing, as each machine sees it.
use Rattle.std.specs.Prelude.{Bool, None, Option, Some, false, true, ℕ}
use Rattle.ns_world.specs.Names.{AtRest, Doing, EnvWalk, LooksByLimits, LooksByRound, ObjectWalk, OnLock, OnNotes, OnObjects, Seat, Walk}

-- its place in a call on the lock, if it is in one
abbrev pub walk_of : {C : Type 0} → Doing C → Option (Walk C)
walk_of (OnLock walk wait) = Some walk
walk_of (LooksByLimits walk place) = Some walk
walk_of (LooksByRound walk wait round) = Some walk
walk_of doing = None

-- its place on the clock and the notes, in a call on them or in the look of its wait
abbrev pub asking_of : {C : Type 0} → Doing C → Option EnvWalk
asking_of (LooksByLimits walk place) = Some place
asking_of (OnNotes place) = Some place
asking_of doing = None

-- its place on the counters and once cells, in a call on them or in the round by which its wait looks
abbrev pub operating_of : {C : Type 0} → Doing C → Option ObjectWalk
operating_of (LooksByRound walk wait round) = Some round
operating_of (OnObjects walk) = Some walk
operating_of doing = None

-- a call is in progress
abbrev pub is_call : {C : Type 0} → Doing C → Bool
is_call AtRest = false
is_call doing = true

-- a call that goes on at this place, or is over
abbrev pub there : {C W : Type 0} → (W → Doing C) → Option W → Doing C
there on None = AtRest
there on (Some walk) = on walk

-- a seat put at the first place of a call
abbrev pub placed : {C : Type 0} {N : ℕ} → Seat C N → Doing C → Seat C N
placed seat doing = record seat { doing = doing; tests = 0 }
