-- What a world keeps, and why none is made.
use Rattle.std.specs.Prelude.{List, ℕ, ◌<◌, ◌≤◌}
use Rattle.ns_world.specs.Names.{Environment, Event, Fault, KeptLock, Lists, ObjectWords, OutOfMemory, Seat, TooManySeats, Word}

-- what a world keeps, with the flags and the notes in lists
pub record Kept (C : Type 0) (N : ℕ) : Type 0 where
  pub word : Word
  pub row : List ℕ
  pub queues : Lists C
  pub flags : List ℕ
  pub env : Environment
  pub seats : List (Seat C N)
  pub history : List (Event C N)
  pub objects : ObjectWords

-- what a world keeps, of its lock and what stands beside that
abbrev pub kept : {C : Type 0} {N : ℕ} → KeptLock C N → Environment → List (Seat C N) → ObjectWords → Kept C N
kept lock env seats objects = record { word = lock.word; row = lock.row; queues = lock.queues; flags = lock.flags; env = env; seats = seats; history = lock.history.items; objects = objects }

-- why no world is made: more than 64 seats, or want of memory where there are no more
abbrev pub RefusesWorld : ℕ → Fault → Type 0
RefusesWorld seats TooManySeats = 64 < seats
RefusesWorld seats OutOfMemory = seats ≤ 64
RefusesWorld seats fault = ⊥
