-- How a call begins in a world, and what one step of a seat is.
use Rattle.std.proofs.Common.{inl, inr}
use Rattle.std.specs.Prelude.{List, None, Option, Some, [], false, length, slice_get, slice_set, ℕ, ◌≡◌, ◌≤◌, ◌⊎◌}
use Rattle.ns_world.specs.Names.{AnyWait, Begun, Busy, Call, EnvEvent, EnvWalk, Every, Fault, Found, LooksByLimits, LooksByRound, Misuse, Next, NoSuchSeat, Nothing, ObjectEvent, ObjectReply, ObjectWalk, OnLock, OnNotes, OnObjects, OutOfMemory, Seat, Started, Step, Walk, env_want_of, env_who}
use Rattle.ns_world.specs.Names.{object_who, outcome, want_of}
use Rattle.ns_world.specs.Among.{waits_then}
use Rattle.ns_world.specs.Asks.{Asked}
use Rattle.ns_world.specs.Calls.{CallFits, mode_of, start_of}
use Rattle.ns_world.specs.Commits.{Commits}
use Rattle.ns_world.specs.Doings.{placed, walk_of}
use Rattle.ns_world.specs.Looked.{LookStep, RoundLeads}
use Rattle.ns_world.specs.Looks.{looks_at}
use Rattle.ns_world.specs.Objects.{ObjectLeads, Operates}
use Rattle.ns_world.specs.Performs.{Performs}
use Rattle.ns_world.specs.Whole.{Whole, WholeIsBusy, WholeIsIdle, in_call, part_in}

-- ---- how a call begins

-- the seat has no call in progress and meets the call's need, and then stands at the first place of the call's walk
pub record WholeStarts {C : Type 0} {N : ℕ} (old new : Whole C N) (seat : ℕ) (call : Call C) : Type 0 where
  pub here : Seat C N
  pub at : slice_get old.seats seat ≡ Some here
  pub idle : in_call here ≡ false
  pub fits : CallFits old.objects.setup old.env.notes call (mode_of here.held)
  pub begins : new ≡ record old { seats = slice_set old.seats seat (placed here (start_of N (mode_of here.held) call)) }

-- the seat has no call in progress, and doesn't meet the call's need
pub record Misuses {C : Type 0} {N : ℕ} (old : Whole C N) (seat : ℕ) (call : Call C) : Type 0 where
  pub here : Seat C N
  pub at : slice_get old.seats seat ≡ Some here
  pub idle : in_call here ≡ false
  pub unfit : CallFits old.objects.setup old.env.notes call (mode_of here.held) → ⊥

-- what the answer says of the call
abbrev pub WholeBegins : {C : Type 0} {N : ℕ} → Whole C N → Whole C N → ℕ → Call C → Begun → Type 0
WholeBegins old new seat call Started = WholeStarts old new seat call
WholeBegins old new seat call Misuse = (new ≡ old) × Misuses old seat call
WholeBegins old new seat call Busy = (new ≡ old) × WholeIsBusy old seat

-- a call is refused only where the number is no seat's
abbrev pub BeginFault : {C : Type 0} {N : ℕ} → Whole C N → ℕ → Fault → Type 0
BeginFault old seat NoSuchSeat = length old.seats ≤ seat
BeginFault old seat fault = ⊥

-- ---- a step

-- The seat makes one step on the lock, and it was this: no look of a wait. Its call goes on where that leads, or it is over. The clock, the notes, the counters and once cells stay.
pub record LockSteps {C : Type 0} {N : ℕ} (old new : Whole C N) (here next : Seat C N) (step : Step) : Type 0 where
  pub walk : Walk C
  pub wait : Option AnyWait
  pub stands : here.doing ≡ OnLock walk wait
  pub is_no_look : looks_at (want_of walk) ≡ None
  pub found : Found
  pub performs : Performs old.truths (part_in old here) here old.history walk wait found (part_in new next) next new.history step
  pub same : new ≡ record old { word = new.word; row = new.row; queues = new.queues; flags = new.flags; seats = new.seats; history = new.history }

-- The seat makes one step of the look of its wait at the clock and the notes, and it was this. Nothing else changes.
pub record Looks {C : Type 0} {N : ℕ} (old new : Whole C N) (here next : Seat C N) (step : Step) : Type 0 where
  pub walk : Walk C
  pub place : EnvWalk
  pub stands : here.doing ≡ LooksByLimits walk place
  pub looks : LookStep old.env here walk place next step
  pub same : new ≡ record old { seats = new.seats }

-- The seat makes one step of the round by which its wait looks, and it was this. Nothing else changes.
pub record GoesRound {C : Type 0} {N : ℕ} (old new : Whole C N) (here next : Seat C N) (step : Step) : Type 0 where
  pub walk : Walk C
  pub wait : AnyWait
  pub round : ObjectWalk
  pub stands : here.doing ≡ LooksByRound walk wait round
  pub leads : Next ObjectWalk ObjectReply
  pub operates : Operates old.env old.objects here.number round new.objects leads
  pub goes : RoundLeads leads here walk wait next step
  pub same : new ≡ record old { seats = new.seats; objects = new.objects }

-- The seat makes one step of a call on the clock and the notes, and it was this. Nothing else changes.
pub record NotesSteps {C : Type 0} {N : ℕ} (old new : Whole C N) (here next : Seat C N) (step : Step) : Type 0 where
  pub walk : EnvWalk
  pub stands : here.doing ≡ OnNotes walk
  pub asks : Asked old.env new.env here walk next step
  pub same : new ≡ record old { env = new.env; seats = new.seats }

-- The seat makes one step of a call on the counters and once cells, and it was this. The call may go on to wait on the lock. Nothing else changes.
pub record ObjectsSteps {C : Type 0} {N : ℕ} (old new : Whole C N) (here next : Seat C N) (step : Step) : Type 0 where
  pub walk : ObjectWalk
  pub stands : here.doing ≡ OnObjects walk
  pub leads : Next ObjectWalk ObjectReply
  pub operates : Operates old.env old.objects here.number walk new.objects leads
  pub goes : ObjectLeads (waits_then walk leads) leads here next step
  pub same : new ≡ record old { seats = new.seats; objects = new.objects }

-- the seat makes one step, by what it is doing
abbrev pub SeatMakes : {C : Type 0} {N : ℕ} → Whole C N → Whole C N → Seat C N → Seat C N → Step → Type 0
SeatMakes old new here next step = LockSteps old new here next step ⊎ (Looks old new here next step ⊎ (GoesRound old new here next step ⊎ (NotesSteps old new here next step ⊎ ObjectsSteps old new here next step)))

-- The same in its world, where no other seat changes.
pub record WholeMoves {C : Type 0} {N : ℕ} (old new : Whole C N) (seat : ℕ) (step : Step) : Type 0 where
  pub here : Seat C N
  pub next : Seat C N
  pub at : slice_get old.seats seat ≡ Some here
  pub seats : new.seats ≡ slice_set old.seats seat next
  pub makes : SeatMakes old new here next step

-- A seat with no call in progress makes no step, and another makes one, which answers something else.
abbrev pub WholeStep : {C : Type 0} {N : ℕ} → Whole C N → Whole C N → ℕ → Step → Type 0
WholeStep old new seat step = ((step ≡ Nothing) × (new ≡ old) × WholeIsIdle old seat) ⊎ WholeMoves old new seat step

-- the events that a step of the seat is on the clock and the notes
abbrev pub notes_by : {C : Type 0} {N : ℕ} {old new : Whole C N} {here next : Seat C N} {step : Step} → ℕ → SeatMakes old new here next step → List EnvEvent
notes_by {old = old} seat (inr (inr (inr (inl p)))) = (outcome seat (env_want_of p.walk) old.env).events
notes_by seat p = []

-- the events that it is on the counters and once cells
abbrev pub objects_by : {C : Type 0} {N : ℕ} {old new : Whole C N} {here next : Seat C N} {step : Step} → SeatMakes old new here next step → List ObjectEvent
objects_by (inr (inr (inl p))) = p.operates.events
objects_by (inr (inr (inr (inr p)))) = p.operates.events
objects_by p = []

-- all these events of the clock and the notes are the seat's
abbrev pub AreEnvBy : ℕ → List EnvEvent → Type 0
AreEnvBy seat events = Every (λ event. env_who event ≡ seat) events

-- all these events of the counters and once cells are the seat's
abbrev pub AreObjectsBy : ℕ → List ObjectEvent → Type 0
AreObjectsBy seat events = Every (λ event. object_who event ≡ seat) events

-- The seat's next step finds the word that it has seen, and so commits an event: a release, a wait that leaves its section, a call that wakes, or that a wait for variables is left in whose lists it still stands.
pub record WholeCommits {C : Type 0} {N : ℕ} (world : Whole C N) (i : ℕ) : Type 0 where
  pub seat : Seat C N
  pub at : slice_get world.seats i ≡ Some seat
  pub walk : Walk C
  pub walks : walk_of seat.doing ≡ Some walk
  pub commits : Commits i (want_of walk) world.word world.queues

-- why a step is refused: the number is no seat's, or there was no memory for the event that it commits
abbrev pub WholeFault : {C : Type 0} {N : ℕ} → Whole C N → ℕ → Fault → Type 0
WholeFault old seat NoSuchSeat = length old.seats ≤ seat
WholeFault old seat OutOfMemory = WholeCommits old seat
WholeFault old seat fault = ⊥
