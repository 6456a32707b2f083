-- A world as a contract sees it, and what holds of it between any two steps.
use Rattle.std.specs.Option.{option_map_or}
use Rattle.std.specs.Prelude.{Bool, IsSome, List, None, Option, Some, [], false, length, map, slice_get, suc, true, zero, ℕ, ◌+◌, ◌∷◌, ◌≡◌, ◌≤◌}
use Rattle.ns_world.specs.Names.{AnyWait, AreAmong, AreNumbered, AreThere, AtRest, Cvs, Doing, EnvEvent, EnvPlain, EnvState, Event, FirstClock, Held, IfMade, InRound, IsLawfulEnv, IsLawfulObjects, Lists, LockState, LooksByLimits, LooksByRound, Mode, NoteStanding, ObjectEvent, ObjectState}
use Rattle.ns_world.specs.Names.{ObjectWalk, ObjectWords, OnLock, OnNotes, OnObjects, Part, Past, Read, Request, Round, Seat, Setup, Truths, Word, Write, asked_of, env_asked_of, fresh_plain, fresh_state, have_variable, items_of, object_asked, want_of}
use Rattle.ns_world.specs.Among.{asks_for_any, waits_for_any}
use Rattle.ns_world.specs.Asks.{IsNoLook, env_state, plain_of}
use Rattle.ns_world.specs.Calls.{mode_of}
use Rattle.ns_world.specs.Doings.{asking_of, is_call, operating_of}
use Rattle.ns_world.specs.Looks.{LooksAt, looks_at, note_asked}
use Rattle.ns_world.specs.Objects.{fresh_words}
use Rattle.ns_world.specs.Performs.{flag_at, view_of}
use Rattle.ns_world.specs.World.{Kept}
use Rattle.ns_world.specs.declared.seats.Sort.{Sort}
use Rattle.ns_world.specs.declared.seats.Sort.TheVariants.{Busy, Reading, Writing}
use Rattle.ns_word.specs.Lawful.{IsLawful}
use Rattle.ns_word.specs.declared.request.Request.TheVariants as TheRequest

-- what the conditions mean, the lock, the clock and the notes, the seats, all that has happened to the row and the variables, and the counters and once cells
pub record Whole (C : Type 0) (N : ℕ) : Type 0 where
  pub truths : Truths C
  pub word : Word
  pub row : List ℕ
  pub queues : Lists C
  pub flags : ℕ → ℕ
  pub env : EnvPlain
  pub seats : List (Seat C N)
  pub history : List (Event C N)
  pub objects : ObjectWords

-- what a world keeps, as the machines see it
abbrev pub whole_of : {C : Type 0} {N : ℕ} → Truths C → Kept C N → Whole C N
whole_of truths world =
    record { truths = truths; word = world.word; row = world.row; queues = world.queues; flags = flag_at world.flags; env = plain_of world.env; seats = world.seats; history = world.history; objects = world.objects }

-- ---- what each machine sees of it

-- that of the lock: each seat's view
abbrev pub lock_of : {C : Type 0} {N : ℕ} → Whole C N → LockState C N
lock_of world = record { word = world.word; row = world.row; lists = world.queues; flags = world.flags; views = map view_of world.seats }

-- that of the clock and the notes: each seat's place there
abbrev pub notes_of : {C : Type 0} {N : ℕ} → Whole C N → EnvState
notes_of world = env_state world.env (map (λ seat. asking_of seat.doing) world.seats)

-- that of the counters and once cells: likewise
abbrev pub objects_of : {C : Type 0} {N : ℕ} → Whole C N → ObjectState
objects_of world = record { setup = world.objects.setup; words = world.objects.words; walks = map (λ seat. operating_of seat.doing) world.seats }

-- what a step of the seat on the lock reads and writes
abbrev pub part_in : {C : Type 0} {N : ℕ} → Whole C N → Seat C N → Part C N
part_in world seat = record { word = world.word; row = world.row; lists = world.queues; flags = world.flags; held = seat.held; owed = seat.owed.items }

-- ---- where a seat may stand

-- a wait on the lock for variables among the objects of a round waits for just these, and each of the objects is there
pub record WaitsAmong {C : Type 0} (setup : Setup) (notes : ℕ → NoteStanding) (request : Request C) (round : Round) : Type 0 where
  pub mode : Mode
  pub cvs : Cvs
  pub asked : request ≡ TheRequest.Await (waits_for_any mode cvs)
  pub among : AreAmong cvs (items_of round.items)
  pub there : AreThere setup notes round.items

-- what was asked of the lock goes with the objects: a wait among them waits for just the variables among them; any other call waits for no set of variables, and the note that may end it is made
abbrev pub WaitsFor : {C : Type 0} → Setup → (ℕ → NoteStanding) → Request C → Option AnyWait → Type 0
WaitsFor setup notes request None = (asks_for_any request ≡ false) × IfMade notes (note_asked request)
WaitsFor setup notes request (Some wait) = WaitsAmong setup notes request wait.round

-- what was asked needs a section in hand, where condition variables are among its objects
abbrev pub NeedsSection : {C : Type 0} {N : ℕ} → ObjectWalk → Option (Held C N) → Type 0
NeedsSection (InRound round place) held = have_variable round.items ≡ true → IsSome held
NeedsSection walk held = Unit {0}

-- A seat may be doing this, with this section in hand: a wait on the lock looks just where its walk wants a look, at its own limits or by a round of those that it is for; a seat that is on the clock and the notes otherwise is in a call there, and in no look; and a round whose call may go on to wait on the lock has a section in hand.
abbrev pub DoingFits : {C : Type 0} {N : ℕ} → Setup → (ℕ → NoteStanding) → Option (Held C N) → Doing C → Type 0
DoingFits setup notes held (OnLock walk wait) = WaitsFor setup notes (asked_of walk) wait × (looks_at (want_of walk) ≡ None)
DoingFits setup notes held (LooksByLimits walk place) = WaitsFor setup notes (asked_of walk) None × LooksAt (want_of walk) place
DoingFits setup notes held (LooksByRound walk wait round) = WaitsFor setup notes (asked_of walk) (Some wait) × (object_asked round ≡ InRound wait.round FirstClock) × IsSome (looks_at (want_of walk))
DoingFits setup notes held (OnNotes walk) = IsNoLook (env_asked_of walk)
DoingFits setup notes held (OnObjects walk) = NeedsSection (object_asked walk) held
DoingFits setup notes held doing = Unit {0}

-- ---- what holds of every world

-- These events are all that has happened to the clock and the notes: they are legal, by seats of the world, and have left both as they are, and each seat that is in a call on them where it is.
abbrev pub LedTo : {C : Type 0} {N : ℕ} → List EnvEvent → Whole C N → Type 0
LedTo events world = IsLawfulEnv events (notes_of world)

-- the same of the counters and once cells
abbrev pub HaveLedTo : {C : Type 0} {N : ℕ} → List ObjectEvent → Whole C N → Type 0
HaveLedTo events world = IsLawfulObjects events (objects_of world) world.env.notes

-- this has led to the world
abbrev pub HasLedTo : {C : Type 0} {N : ℕ} → Past → Whole C N → Type 0
HasLedTo past world = LedTo past.notes world × HaveLedTo past.objects world

-- A world has at most 64 seats, each of which stands as it may, and it keeps the law of the lock with its history. The clock and the notes, and the counters and once cells, are as some past of its seats leaves them.
pub record IsLawfulWhole {C : Type 0} {N : ℕ} (world : Whole C N) : Type 0 where
  pub few : length world.seats ≤ 64
  pub numbered : AreNumbered 0 (map view_of world.seats)
  pub counted : world.objects.setup.seats ≡ length world.seats
  pub lawful : IsLawful world.truths (length world.seats) world.history (lock_of world)
  pub stands : (i : ℕ) (seat : Seat C N) → slice_get world.seats i ≡ Some seat → DoingFits world.objects.setup world.env.notes seat.held seat.doing
  pub past : Past
  pub led : HasLedTo past world

-- ---- a new world

-- a seat with no call in progress, no section and no wake to pay
abbrev pub fresh_seat : {C : Type 0} {N : ℕ} → ℕ → Seat C N
fresh_seat number = record { number = number; doing = AtRest; held = None; owed = record { items = [] }; tests = 0 }

-- so many of them, numbered from this on
abbrev pub fresh_seats : {C : Type 0} {N : ℕ} → ℕ → ℕ → List (Seat C N)
fresh_seats first zero = []
fresh_seats first (suc n) = fresh_seat first ∷ fresh_seats (first + 1) n

-- a free lock over a row of zeros, a clock at 0 and no note, these counters and so many once cells, before any event
abbrev pub fresh_whole : {C : Type 0} {N : ℕ} → Truths C → ℕ → List ℕ → ℕ → Whole C N
fresh_whole {C} {N} truths seats counters onces = record {
  truths = truths;
  word = (fresh_state {C = C} {N = N} seats).word;
  row = (fresh_state {C = C} {N = N} seats).row;
  queues = (fresh_state {C = C} {N = N} seats).lists;
  flags = λ seat. 0;
  env = fresh_plain;
  seats = fresh_seats 0 seats;
  history = [];
  objects = fresh_words seats counters onces;
}

-- ---- who is in a call

-- a call of the seat is in progress
abbrev pub in_call : {C : Type 0} {N : ℕ} → Seat C N → Bool
in_call seat = is_call seat.doing

-- the same of a number, which may be no seat's
abbrev pub whole_busy : {C : Type 0} {N : ℕ} → Whole C N → ℕ → Bool
whole_busy world seat = option_map_or in_call (slice_get world.seats seat) false

-- the number is that of a seat with a call in progress
abbrev pub WholeIsBusy : {C : Type 0} {N : ℕ} → Whole C N → ℕ → Type 0
WholeIsBusy {C} {N} world i = (seat : Seat C N) × (slice_get world.seats i ≡ Some seat) × (in_call seat ≡ true)

-- the number is that of a seat with none
abbrev pub WholeIsIdle : {C : Type 0} {N : ℕ} → Whole C N → ℕ → Type 0
WholeIsIdle {C} {N} world i = (seat : Seat C N) × (slice_get world.seats i ≡ Some seat) × (in_call seat ≡ false)

-- ---- who has a section in hand

-- a section is in hand, in this mode
abbrev pub is_held_in : Mode → Option Mode → Bool
is_held_in Read (Some Read) = true
is_held_in Write (Some Write) = true
is_held_in mode held = false

-- the seat has a section in hand in this mode
abbrev pub holds : {C : Type 0} {N : ℕ} → Mode → Seat C N → Bool
holds mode seat = is_held_in mode (mode_of seat.held)

-- the seat is of this sort
abbrev pub is_of : {C : Type 0} {N : ℕ} → Sort → Seat C N → Bool
is_of Busy seat = in_call seat
is_of Reading seat = holds Read seat
is_of Writing seat = holds Write seat
