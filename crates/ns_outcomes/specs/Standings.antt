-- Which threads of a drawn run can go on, and whose turn it is.
use Rattle.std.specs.Prelude.{Bool, List, None, Option, Some, count_by, false, if◌then◌else◌, length, map, slice_get, slice_set, take, true, ℕ, ◌%◌, ◌<◌, ◌≡◌}
use Rattle.ns_outcomes.specs.Names.{Finished, Going, Idle, Made, Nothing, Over, Standing, Step, Stuck, Tried, Waiting, Went}

-- a thread can go on, unless it has been idle twice since a turn last stirred, or has ended its calls
abbrev pub can_go : Standing → Bool
can_go Going = true
can_go Waiting = true
can_go Tried = true
can_go Stuck = false
can_go Over = false

-- A turn stirs: it ended a call, or made a step, not an idle one, of a call that wasn't waiting. A call that is waiting only looks, and its step stirs where it changed the lock word.
abbrev pub stirs_by : Step → Standing → Bool → Bool
stirs_by (Finished reply) standing changed = true
stirs_by Idle standing changed = false
stirs_by Nothing standing changed = false
stirs_by Went Going changed = true
stirs_by Went Over changed = true
stirs_by Went Waiting changed = changed
stirs_by Went Tried changed = changed
stirs_by Went Stuck changed = changed

-- the same of a turn that was made
abbrev pub stirs : Standing → Made → Bool
stirs standing made = stirs_by made.step standing made.changed

-- once a turn has stirred, a thread that was idle looks again
abbrev pub stirred : Standing → Standing
stirred Going = Going
stirred Waiting = Waiting
stirred Tried = Waiting
stirred Stuck = Waiting
stirred Over = Over

-- a thread that is idle again, with no turn in between that stirred, is stuck
abbrev pub idled : Standing → Standing
idled Going = Tried
idled Waiting = Tried
idled Tried = Stuck
idled Stuck = Stuck
idled Over = Tried

-- where a thread stands after a turn of its own
abbrev pub after_step : Step → Standing → Made → Standing
after_step Nothing standing made = Over
after_step (Finished reply) standing made = if made.more then Going else Over
after_step Idle standing made = idled standing
after_step Went standing made = if stirs standing made then Going else standing

-- the same of a turn that was made
abbrev pub stands_after : Standing → Made → Standing
stands_after standing made = after_step made.step standing made

-- where all stand after a turn of one that stood here before
abbrev pub standings_after : List Standing → ℕ → Standing → Made → List Standing
standings_after standings thread before made = slice_set (if stirs before made then map stirred standings else standings) thread (stands_after before made)

-- the same, by where the thread stood before; a thread that isn't there leaves all as they stand
abbrev pub stood_from : Option Standing → List Standing → ℕ → Made → List Standing
stood_from None standings thread made = standings
stood_from (Some before) standings thread made = standings_after standings thread before made

-- where all stand after a turn of this thread
abbrev pub stood : List Standing → ℕ → Made → List Standing
stood standings thread made = stood_from (slice_get standings thread) standings thread made

-- how many can go on
abbrev pub going : List Standing → ℕ
going standings = count_by can_go standings

-- This thread can go on, and so many before it can.
pub record IsNth (standings : List Standing) (nth thread : ℕ) : Type 0 where
  pub there : thread < length standings
  pub standing : Standing
  pub here : slice_get standings thread ≡ Some standing
  pub goes : can_go standing ≡ true
  pub before : going (take thread standings) ≡ nth

-- Whose turn it is by a number that was drawn: nobody's only where nobody can go on, and else that of the one with as many before it as the remainder says.
abbrev pub IsPick : List Standing → ℕ → Option ℕ → Type 0
IsPick standings drawn None = going standings ≡ 0
IsPick standings drawn (Some thread) = (0 < going standings) × IsNth standings (drawn % going standings) thread
