-- What each place in a call on the clock and the notes wants next, and where what its step found leads it.
use Rattle.std.specs.Prelude.{Bool, None, Option, Some, false, if◌then◌else◌, is_some, nat_lt, true, ℕ, ◌||◌}
use Rattle.ns_env.specs.Names.{Advancing, Chain, Clock, ClockLoad, Done, EnvAct, EnvEnd, EnvFound, EnvWalk, Expired, Expiry, ExpiryLoad, ForIsNotified, ForLook, ForNoteWait, Idle, Is, Limits, LoadClock, LoadNext, LoadNote, LookOver, MakeNote, MoveClock, Next, NextLoad, NextNumber, Note, NoteLoad}
use Rattle.ns_env.specs.Names.{NotesFull, Notified, NotifyNote, Notifying, Number, On, Over, StoreNote, Stored, Succeeded, TakeNext, TakeNumber, Taken, earlier, is_due, is_over}
use Rattle.ns_env.specs.Notes.{standing_of}

-- the step that the place wants
abbrev pub env_want_of : EnvWalk → EnvAct
env_want_of (NextLoad parent deadline) = LoadNext
env_want_of (TakeNumber parent deadline) = TakeNext
env_want_of (MakeNote note parent deadline) = StoreNote note parent deadline
env_want_of (Notifying note) = NotifyNote note
env_want_of (Advancing moment) = MoveClock moment
env_want_of (ClockLoad chain) = LoadClock
env_want_of (NoteLoad chain clock note) = LoadNote note
env_want_of (ExpiryLoad asked note least) = LoadNote note

-- something may end the wait early
abbrev pub is_limited : Limits → Bool
is_limited limits = is_some limits.deadline || is_some limits.note

-- the note at which a chain begins, if it has one
abbrev pub chain_note : Chain → Option ℕ
chain_note (ForLook limits) = limits.note
chain_note (ForIsNotified note) = Some note
chain_note (ForNoteWait note deadline) = Some note

-- where a chain goes at a note that is over
abbrev pub stopped : Chain → Next EnvWalk EnvEnd
stopped (ForLook limits) = Done (LookOver (Some Notified))
stopped (ForIsNotified note) = Done (Over (Is true))
stopped (ForNoteWait note deadline) = Done (Over (Is true))

-- where it goes at its end, with the clock that was loaded
abbrev pub passed : Chain → ℕ → Next EnvWalk EnvEnd
passed (ForLook limits) clock = if is_due clock limits.deadline then Done (LookOver (Some Expired)) else Done (LookOver None)
passed (ForIsNotified note) clock = Done (Over (Is false))
passed (ForNoteWait note deadline) clock = if is_due clock deadline then Done (Over (Is false)) else Idle (ClockLoad (ForNoteWait note deadline))

-- where it goes that has this note before it, or none
abbrev pub up_to : Chain → ℕ → Option ℕ → Next EnvWalk EnvEnd
up_to chain clock None = passed chain clock
up_to chain clock (Some note) = On (NoteLoad chain clock note)

-- where an expiry goes that has this note before it, or none, with the earliest deadline so far
abbrev pub lowered_to : ℕ → Option ℕ → Option ℕ → Next EnvWalk EnvEnd
lowered_to asked None least = Done (Over (Expiry least))
lowered_to asked (Some note) least = On (ExpiryLoad asked note least)

-- where it goes with what the step found; what no step of the place finds leaves it there
abbrev pub env_got_of : EnvWalk → EnvFound → Next EnvWalk EnvEnd
env_got_of (NextLoad parent deadline) (NextNumber next) = if nat_lt next 64 then On (TakeNumber parent deadline) else Done (Over NotesFull)
env_got_of (TakeNumber parent deadline) (Taken number) = if nat_lt number 64 then On (MakeNote number parent deadline) else Done (Over NotesFull)
env_got_of (MakeNote note parent deadline) Stored = Done (Over (Number note))
env_got_of (Notifying note) Stored = Done (Over Succeeded)
env_got_of (Advancing moment) Stored = Done (Over Succeeded)
env_got_of (ClockLoad chain) (Clock clock) = up_to chain clock (chain_note chain)
env_got_of (NoteLoad chain clock at) (Note note) = if is_over clock (standing_of note) then stopped chain else up_to chain clock note.parent
env_got_of (ExpiryLoad asked at least) (Note note) = lowered_to asked note.parent (earlier least note.deadline)
env_got_of walk found = On walk
