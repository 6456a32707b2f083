-- What a chain of notes has come to, whatever others do between its loads.
use Rattle.std.specs.Prelude.{Bool, IfSome, IsSomeAnd, List, None, Option, Some, false, true, ℕ, ◌<◌, ◌≡◌, ◌≤◌}
use Rattle.ns_env.specs.Names.{Cause, Chain, ClockLoad, Done, EnvEnd, EnvEvent, EnvWalk, Expired, ForIsNotified, ForLook, ForNoteWait, Idle, Is, IsBetween, IsLeftAt, IsNotified, Limits, LookOver, Next, NoteLoad, Notified, On, Over, clock_of, is_notified}
use Rattle.ns_env.specs.Walks.{chain_note}

-- the note, if one is given, wasn't notified
abbrev pub IsUnnotified : List EnvEvent → Option ℕ → Type 0
IsUnnotified events given = IfSome given (λ note. is_notified events note ≡ false)

-- What a look by these limits has found by now, whose clock was loaded at the point: the note is notified, if one is given; or it wasn't at that point, and the deadline had come, if one is given; or neither.
abbrev pub HasFound : Limits → Option Cause → List EnvEvent → List EnvEvent → Type 0
HasFound limits (Some Notified) point now = IsSomeAnd limits.note (IsNotified now)
HasFound limits (Some Expired) point now = IsUnnotified point limits.note × IsSomeAnd limits.deadline (λ deadline. deadline ≤ clock_of point)
HasFound limits None point now = IsUnnotified point limits.note × IfSome limits.deadline (λ deadline. clock_of point < deadline)

-- A look by these limits that began and ended so has found this: its clock was loaded at some point between.
abbrev pub HasLooked : Limits → Option Cause → List EnvEvent → List EnvEvent → Type 0
HasLooked limits cause before now = (point : List EnvEvent) × IsBetween before point now × HasFound limits cause point now

-- whether a note is notified, which its call waits for until the deadline: it is, or it isn't and the deadline has come
abbrev pub HasWaited : ℕ → Option ℕ → Bool → List EnvEvent → Type 0
HasWaited note deadline true point = IsNotified point note
HasWaited note deadline false point = (is_notified point note ≡ false) × IsSomeAnd deadline (λ moment. moment ≤ clock_of point)

-- What a chain has come to by now, whose clock was loaded at the point: its note is notified by now, or it wasn't at that point.
abbrev pub ChainFits : List EnvEvent → List EnvEvent → Chain → Next EnvWalk EnvEnd → Type 0
ChainFits point now (ForLook limits) (Done (LookOver cause)) = HasFound limits cause point now
ChainFits point now (ForIsNotified note) (Done (Over (Is true))) = IsNotified now note
ChainFits point now (ForIsNotified note) (Done (Over (Is false))) = is_notified point note ≡ false
ChainFits point now (ForNoteWait note deadline) (Done (Over (Is true))) = HasWaited note deadline true now
ChainFits point now (ForNoteWait note deadline) (Done (Over (Is false))) = HasWaited note deadline false point
ChainFits point now (ForNoteWait note deadline) (Idle (ClockLoad chain)) =
    (chain ≡ ForNoteWait note deadline) × (is_notified point note ≡ false) × IfSome deadline (λ moment. clock_of point < moment)
ChainFits point now chain (On (NoteLoad chain' clock at)) = (chain' ≡ chain) × (clock ≡ clock_of point) × IsSomeAnd (chain_note chain) (λ asked. IsLeftAt point asked (Some at))
ChainFits point now chain next = ⊥
