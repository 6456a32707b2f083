-- Which histories of a once cell are legal, and what they leave.
use Rattle.std.specs.Prelude.{◌≡◌, Bool, true, false, List}
use Rattle.std.specs.List.{fold}
use Rattle.ns_model.specs.declared.once.OnceEvent.{OnceEvent}
use Rattle.ns_model.specs.declared.once.OnceEvent.TheVariants.{Began, Ran}
use Rattle.ns_model.specs.declared.once.OnceState.{OnceState}
use Rattle.ns_model.specs.declared.once.OnceState.TheVariants.{Unused, Running, Done}
use Rattle.ns_model.specs.Courses.{IsLegalFrom}

-- The function begins once, where nobody has begun it, and has run where its own beginner says so.
abbrev pub IsLegalOnceEvent : OnceState → OnceEvent → Type 0
IsLegalOnceEvent Unused (Began who) = Unit {0}
IsLegalOnceEvent Unused (Ran who) = ⊥
IsLegalOnceEvent (Running runner) (Began who) = ⊥
IsLegalOnceEvent (Running runner) (Ran who) = who ≡ runner
IsLegalOnceEvent Done event = ⊥

-- what an event leaves
abbrev pub once_next : OnceState → OnceEvent → OnceState
once_next now (Began who) = Running who
once_next now (Ran who) = Done

-- what a history leaves
abbrev pub once_after : List OnceEvent → OnceState
once_after history = fold once_next Unused history

-- A legal history of a once cell.
abbrev pub IsLegalOnce : List OnceEvent → Type 0
IsLegalOnce history = IsLegalFrom IsLegalOnceEvent once_next Unused history

-- The function has run.
abbrev pub is_done : OnceState → Bool
is_done Unused = false
is_done (Running runner) = false
is_done Done = true
