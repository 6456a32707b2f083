-- The looks of a wait: what it looks at, and where its seat stands then.
use Rattle.std.specs.Prelude.{Bool, IsSome, None, Option, Some, false, ℕ, ◌≡◌}
use Rattle.ns_world.specs.Names.{Act, AnyWait, ClockLoad, Doing, EnvWalk, FirstClock, ForLook, InRound, Limits, Look, LookBy, LooksByLimits, LooksByRound, Next, NoteLoad, OnLock, Request, Walk, WalkReply, place_after, want_of}
use Rattle.ns_world.specs.Doings.{there}
use Rattle.ns_word.specs.declared.request.Request.TheVariants as TheRequest

-- what a look goes by, where the act is one
abbrev pub looks_at : {C : Type 0} → Act C → Option Limits
looks_at (Look limits again) = Some limits
looks_at act = None

-- the act is a look of a wait that has come back
abbrev pub came_back : {C : Type 0} → Act C → Bool
came_back (Look limits again) = again
came_back act = false

-- the look that the act is, if it is one: what it goes by, and whether the wait has come back
abbrev pub look_in : {C : Type 0} → Act C → Option LookBy
look_in (Look limits again) = Some (record { limits = limits; again = again })
look_in act = None

-- Where a call on the lock stands at this place: where its wait is to look, at the beginning of the look; one for condition variables among notes and counters looks at these by a round, and any other at the clock and the notes.
abbrev pub doing_by : {C : Type 0} → Option LookBy → Option AnyWait → Walk C → Doing C
doing_by None wait walk = OnLock walk wait
doing_by (Some look) None walk = LooksByLimits walk (ClockLoad (ForLook look.limits))
doing_by (Some look) (Some wait) walk = LooksByRound walk wait (InRound wait.round FirstClock)

-- what a seat does whose call on the lock stands here: it looks, where this place wants a look
abbrev pub doing_at : {C : Type 0} → Option AnyWait → Walk C → Doing C
doing_at wait walk = doing_by (look_in (want_of walk)) wait walk

-- where a step on the lock leads
abbrev pub doing_after : {C : Type 0} → Option AnyWait → Next (Walk C) WalkReply → Doing C
doing_after wait next = there (doing_at wait) (place_after next)

-- a place in a look by these limits
abbrev pub LookFits : Limits → EnvWalk → Type 0
LookFits limits (ClockLoad (ForLook by)) = by ≡ limits
LookFits limits (NoteLoad (ForLook by) clock note) = (by ≡ limits) × IsSome limits.note
LookFits limits walk = ⊥

-- the act is a look, and this is a place in it
abbrev pub LooksAt : {C : Type 0} → Act C → EnvWalk → Type 0
LooksAt act place = (limits : Limits) × (looks_at act ≡ Some limits) × LookFits limits place

-- the note that may end what was asked, where that is a wait and a note was given
abbrev pub note_asked : {C : Type 0} → Request C → Option ℕ
note_asked (TheRequest.Await wait) = wait.limits.note
note_asked request = None
