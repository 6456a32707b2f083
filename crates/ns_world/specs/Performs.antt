-- One step on the parts of a world.
use Rattle.std.specs.Prelude.{Bool, IfSome, List, MatchResult, None, Option, Result, [], get_or, if◌then◌else◌, ℕ, ◌++◌, ◌∷◌, ◌≡◌}
use Rattle.ns_world.specs.Names.{Act, ActFits, AnyWait, Effect, Event, Finished, Found, Held, KeptLock, Next, Part, Scanned, Seat, SeatView, Step, Subject, Truths, Walk, WalkReply, exit_for, got_of, section_of, want_of}
use Rattle.ns_world.specs.Commits.{Commits}
use Rattle.ns_world.specs.Among.{reply_for}
use Rattle.ns_world.specs.Doings.{walk_of}
use Rattle.ns_world.specs.Looks.{doing_after}
use Rattle.ns_world.specs.Replies.{step_after, told}

-- the machine's view of a seat
abbrev pub view_of : {C : Type 0} {N : ℕ} → Seat C N → SeatView C N
view_of seat = record { seat = seat.number; walk = walk_of seat.doing; held = seat.held; owed = seat.owed.items }

-- the flags of a list
abbrev pub flag_at : List ℕ → ℕ → ℕ
flag_at flags seat = get_or flags seat 0

-- what a step of the seat reads and writes of a lock and of the seat, as the machine sees it
abbrev pub lock_part : {C : Type 0} {N : ℕ} → KeptLock C N → Seat C N → Part C N
lock_part lock seat = record { word = lock.word; row = lock.row; lists = lock.queues; flags = flag_at lock.flags; held = seat.held; owed = seat.owed.items }

-- the seat may make the act on the lock
abbrev pub MayMake : {C : Type 0} {N : ℕ} → Truths C → Act C → KeptLock C N → Seat C N → Type 0
MayMake truths act lock seat = ActFits truths 64 seat.number act (lock_part lock seat)

-- the seat may have another section and other wakes to pay, and all else of it is as it was
abbrev pub StaysThere : {C : Type 0} {N : ℕ} → Seat C N → Seat C N → Type 0
StaysThere old new = new ≡ record old { held = new.held; owed = new.owed }

-- the seat's act was made on the lock and has found this, and what it commits stands at the end of the history
pub record MakesAct {C : Type 0} {N : ℕ} (truths : Truths C) (act : Act C) (old : KeptLock C N) (here : Seat C N) (found : Found) (new : KeptLock C N) (next : Seat C N) : Type 0 where
  pub commits : List (Event C N)
  pub effect : Effect truths here.number act (lock_part old here) found (lock_part new next) commits
  pub grows : new.history.items ≡ old.history.items ++ commits
  pub stays : StaysThere here next

-- the seat's act was to commit an event, which is refused, and lock and seat are as they were
pub record RefusesAct {C : Type 0} {N : ℕ} (act : Act C) (old : KeptLock C N) (here : Seat C N) (new : KeptLock C N) (next : Seat C N) : Type 0 where
  pub commits : Commits here.number act old.word old.queues
  pub lock : new ≡ record old { history = new.history }
  pub history : new.history.items ≡ old.history.items
  pub seat : next ≡ here

-- it was made, or refused
abbrev pub Acts : {C E : Type 0} {N : ℕ} → Truths C → Act C → KeptLock C N → Seat C N → Result Found E → KeptLock C N → Seat C N → Type 0
Acts truths act old here result new next = MatchResult result (λ found. MakesAct truths act old here found new next) (λ fault. RefusesAct act old here new next)

-- the section in hand is over, and what it commits stands at the end of the history
abbrev pub Leaves : {C : Type 0} {N : ℕ} → (Held C N → List (Event C N)) → Seat C N → List (Event C N) → Seat C N → List (Event C N) → Type 0
Leaves commits here history next history' = IfSome here.held (λ section. history' ≡ history ++ commits section) × (next ≡ record here { held = None })

-- what a wait commits of the section that it leaves: nothing where it queues again
abbrev pub leaves_by : {C : Type 0} {N : ℕ} → (C → List ℕ → Bool) → ℕ → Subject C → Bool → Held C N → List (Event C N)
leaves_by holds seat on again section = if again then [] else section_of holds seat section (exit_for on) ∷ []

-- how many conditions the scan of a seat's call tested
abbrev pub tests_after : Found → ℕ → ℕ
tests_after (Scanned owes tests) before = tests
tests_after found before = before

-- what a step was for the call, by where it leads
abbrev pub step_of : {C : Type 0} → Option AnyWait → Next (Walk C) WalkReply → Step
step_of wait = step_after (λ reply. Finished (reply_for wait (told reply)))

-- the step of the walk was made and has found this, and the seat is where it leads
pub record Performs {C : Type 0} {N : ℕ} (truths : Truths C) (old : Part C N) (seat : Seat C N) (history : List (Event C N)) (walk : Walk C) (wait : Option AnyWait) (found : Found) (new : Part C N) (seat' : Seat C N) (history' : List (Event C N)) (step : Step) : Type 0 where
  pub commits : List (Event C N)
  pub effect : Effect truths seat.number (want_of walk) old found new commits
  pub goes : seat' ≡ record seat { doing = doing_after wait (got_of N walk found); tests = tests_after found seat.tests; held = seat'.held; owed = seat'.owed }
  pub grows : history' ≡ history ++ commits
  pub answers : step ≡ step_of wait (got_of N walk found)
