-- A run of a schedule, turn by turn.
use Rattle.std.specs.List.{flat_map}
use Rattle.std.specs.Option.{option_map_or}
use Rattle.std.specs.Global.{Vec}
use Rattle.std.specs.Prelude.{All, Bool, List, None, Option, Some, [], false, if◌then◌else◌, length, map, not, replicate, slice_get, slice_index, slice_set, true, unwrap_or, ℕ, ◌++◌, ◌+◌, ◌<◌, ◌==◌, ◌∷◌, ◌≡◌, ◌≤◌, ◌⊎◌}
use Rattle.ns_world.specs.Names.{Call, Fault, Finished, Idle, Line, Misuse, NoSuchSeat, Nothing, OutOfMemory, Reply, Seat, Started, Step, StepLimit, Truths, Turn, Went}
use Rattle.ns_world.specs.Calls.{CallInRange}
use Rattle.ns_world.specs.Moves.{WholeBegins, WholeCommits, WholeMoves}
use Rattle.ns_world.specs.Seen.{Seen, seen_as}
use Rattle.ns_world.specs.Whole.{Whole, WholeIsIdle, WholeIsBusy, whole_busy, whole_of}
use Rattle.ns_world.specs.World.{Kept}
use Rattle.ns_world.specs.declared.run.Tally.{Tally}
use Rattle.ns_world.specs.declared.reply.Reply.TheVariants as TheReply

-- ---- one turn

-- the world, how many calls of each seat are over, and their lines in the order of finishing
pub record Progress (C : Type 0) (N : ℕ) : Type 0 where
  pub world : Whole C N
  pub over : List ℕ
  pub lines : List Line

-- a progress, part by part
abbrev pub progress : {C : Type 0} {N : ℕ} → Whole C N → List ℕ → List Line → Progress C N
progress world over lines = record { world = world; over = over; lines = lines }

-- the progress of a run whose world and tally are these
abbrev pub so_far : {C : Type 0} {N : ℕ} → Truths C → Kept C N → Tally → Progress C N
so_far truths world tally = progress (whole_of truths world) tally.over tally.lines.items

-- before the first turn
abbrev pub start : {C : Type 0} {N : ℕ} → Whole C N → Progress C N
start world = progress world (replicate 64 0) []

-- the calls of each list
abbrev pub lists_of : {C : Type 0} → List (Vec (Call C)) → List (List (Call C))
lists_of lists = map (λ calls. calls.items) lists

-- The calls of a seat. A seat without a list has none.
abbrev pub calls_of : {C : Type 0} → List (List (Call C)) → ℕ → List (Call C)
calls_of lists seat = unwrap_or (slice_get lists seat) []

-- the seat's next call
abbrev pub next_call : {C : Type 0} {N : ℕ} → List (List (Call C)) → Progress C N → ℕ → Option (Call C)
next_call lists p seat = slice_get (calls_of lists seat) (slice_index p.over seat)

-- how many conditions a call's scan tested, by what its seat has kept; a misused call made none
abbrev pub tests_told : Reply → ℕ → ℕ
tests_told TheReply.Misuse tests = 0
tests_told reply tests = tests

-- how many conditions the last scan of a seat's call tested, 0 where it made none; of its last call, where none is in progress
abbrev pub tests_at : {C : Type 0} {N : ℕ} → List (Seat C N) → ℕ → ℕ
tests_at seats seat = option_map_or (λ s. s.tests) (slice_get seats seat) 0

-- the seat's call is over, with this answer
abbrev pub finished : {C : Type 0} {N : ℕ} → Progress C N → ℕ → Reply → Whole C N → Progress C N
finished p seat reply world = record {
  world = world;
  over = slice_set p.over seat (slice_index p.over seat + 1);
  lines = p.lines ++ record { thread = seat; call = slice_index p.over seat; reply = reply; tests = tests_told reply (tests_at world.seats seat) } ∷ [];
}

-- what a seat's step leaves of the progress
abbrev pub progressed : {C : Type 0} {N : ℕ} → Progress C N → ℕ → Step → Whole C N → Progress C N
progressed p seat (Finished reply) world = finished p seat reply world
progressed p seat Went world = record p { world = world }
progressed p seat Idle world = record p { world = world }
progressed p seat Nothing world = record p { world = world }

-- the same of the counts and the lines alone, in whatever world
abbrev pub Counts : List ℕ → List Line → ℕ → Step → ℕ → List ℕ → List Line → Type 0
Counts over lines seat (Finished reply) tests over' lines' =
    (over' ≡ slice_set over seat (slice_index over seat + 1)) × (lines' ≡ lines ++ record { thread = seat; call = slice_index over seat; reply = reply; tests = tests_told reply tests } ∷ [])
Counts over lines seat step tests over' lines' = (over' ≡ over) × (lines' ≡ lines)

-- A seat with a call in progress goes on with it; one with none begins its next, if the call's need is met.
abbrev pub GoesOnOrBegins : {C : Type 0} {N : ℕ} → List (List (Call C)) → Progress C N → ℕ → Whole C N → Type 0
GoesOnOrBegins {C} {N} lists p seat world =
    (WholeIsBusy p.world seat × (world ≡ p.world))
    ⊎ ((call : Call C) × (next_call lists p seat ≡ Some call) × WholeBegins p.world world seat call Started)

-- the seat makes a step of the call that it goes on with or begins
pub record MakesTurn {C : Type 0} {N : ℕ} (lists : List (List (Call C))) (p : Progress C N) (seat : ℕ) (step : Step) (q : Progress C N) : Type 0 where
  pub begun : Whole C N
  pub leads : GoesOnOrBegins lists p seat begun
  pub world : Whole C N
  pub moves : WholeMoves begun world seat step
  pub after : q ≡ progressed p seat step world

-- the need of the seat's next call isn't met: the call is over at once, with no step
pub record MisusesTurn {C : Type 0} {N : ℕ} (lists : List (List (Call C))) (p : Progress C N) (seat : ℕ) (step : Step) (q : Progress C N) : Type 0 where
  pub call : Call C
  pub next : next_call lists p seat ≡ Some call
  pub refused : WholeBegins p.world p.world seat call Misuse
  pub answer : step ≡ Finished TheReply.Misuse
  pub after : q ≡ finished p seat TheReply.Misuse p.world

-- no call of the seat is in progress or left
pub record Rests {C : Type 0} {N : ℕ} (lists : List (List (Call C))) (p : Progress C N) (seat : ℕ) (step : Step) (q : Progress C N) : Type 0 where
  pub idle : WholeIsIdle p.world seat
  pub none : next_call lists p seat ≡ None
  pub answer : step ≡ Nothing
  pub after : q ≡ p

-- A turn of the seat takes the progress p to q, and was this.
abbrev pub TurnOf : {C : Type 0} {N : ℕ} → List (List (Call C)) → Progress C N → ℕ → Step → Progress C N → Type 0
TurnOf lists p seat step q = MakesTurn lists p seat step q ⊎ (MisusesTurn lists p seat step q ⊎ Rests lists p seat step q)

-- A turn takes the world old to the world new, where this is the seat's next call, whatever came before.
abbrev pub TurnsWith : {C : Type 0} {N : ℕ} → Option (Call C) → Whole C N → ℕ → Step → Whole C N → Type 0
TurnsWith {C} {N} next old seat step new =
    (lists : List (List (Call C))) (over : List ℕ) (lines : List Line) → slice_get (calls_of lists seat) (slice_index over seat) ≡ next →
    TurnOf lists (progress old over lines) seat step (progressed (progress old over lines) seat step new)

-- why a turn is refused: the number is no seat's, or there was no memory for its event
abbrev pub TurnFault : {C : Type 0} {N : ℕ} → Whole C N → ℕ → Fault → Type 0
TurnFault world seat OutOfMemory = WholeCommits world seat
TurnFault world seat NoSuchSeat = length world.seats ≤ seat
TurnFault world seat fault = ⊥

-- ---- many turns

-- a turn that was made: whose, and what it was
pub record Turned : Type 0 where
  pub seat : ℕ
  pub step : Step

-- These turns, one after another, each of which takes something on by this, take s to t.
abbrev pub TurnsBy : {S : Type 0} → (S → Turned → S → Type 0) → S → List Turned → S → Type 0
TurnsBy By s [] t = t ≡ s
TurnsBy {S} By s (turned ∷ turns) t = (r : S) × By s turned r × TurnsBy By r turns t

-- a turn takes the progress p to q
abbrev pub Takes : {C : Type 0} {N : ℕ} → List (List (Call C)) → Progress C N → Turned → Progress C N → Type 0
Takes lists p turned q = TurnOf lists p turned.seat turned.step q

-- These turns, one after another, take the progress p to q.
abbrev pub TurnsOf : {C : Type 0} {N : ℕ} → List (List (Call C)) → Progress C N → List Turned → Progress C N → Type 0
TurnsOf lists = TurnsBy (Takes lists)

-- ---- who observes them

-- who is told of the turns of a run in such a world: what it is, is told and becomes
abbrev pub Sees : Type 0 → ℕ → Type 0 → Type 1
Sees C N O = O → Seen (Kept C N) (Call C) → O → Type 0

-- how far a run has come, and what that has made of its observer
pub record Watched (C : Type 0) (N : ℕ) (O : Type 0) : Type 0 where
  pub world : Kept C N
  pub over : List ℕ
  pub lines : List Line
  pub turns : ℕ
  pub observer : O

-- the same of a run whose world and tally are these
abbrev pub watched : {C : Type 0} {N : ℕ} {O : Type 0} → Kept C N → Tally → O → Watched C N O
watched world tally observer = record { world = world; over = tally.over; lines = tally.lines.items; turns = tally.turns; observer = observer }

-- before the first turn
abbrev pub unwatched : {C : Type 0} {N : ℕ} {O : Type 0} → Kept C N → O → Watched C N O
unwatched world observer = record { world = world; over = replicate 64 0; lines = []; turns = 0; observer = observer }

-- how far it has come
abbrev pub reached : {C : Type 0} {N : ℕ} {O : Type 0} → Truths C → Watched C N O → Progress C N
reached truths run = progress (whole_of truths run.world) run.over run.lines

-- the turn with this number, of the seat, of whose calls so many were over, which takes one world to the other
abbrev pub seen : {C : Type 0} {N : ℕ} → List (List (Call C)) → List ℕ → ℕ → ℕ → Step → Kept C N → Kept C N → Seen (Kept C N) (Call C)
seen lists over turn seat step before after = seen_as turn seat (slice_get (calls_of lists seat) (slice_index over seat)) before after step

-- A turn takes the run on, and its observer is told of it.
pub record IsSeen {C : Type 0} {N : ℕ} {O : Type 0} (truths : Truths C) (sees : Sees C N O) (lists : List (List (Call C))) (p : Watched C N O) (turned : Turned) (q : Watched C N O) : Type 0 where
  pub turn : TurnOf lists (reached truths p) turned.seat turned.step (reached truths q)
  pub one : q.turns ≡ p.turns + 1
  pub told : sees p.observer (seen lists p.over q.turns turned.seat turned.step p.world q.world) q.observer

-- ---- the schedule

-- one item of a schedule: whose turn it is, and whether it goes on until the call returns
pub record Item : Type 0 where
  pub seat : ℕ
  pub whole : Bool

-- an item, part by part
abbrev pub item_for : ℕ → Bool → Item
item_for seat whole = record { seat = seat; whole = whole }

-- an item of a word of a schedule
abbrev pub item_of : Turn → Item
item_of turn = record { seat = turn.thread; whole = turn.whole }

-- a word of a schedule is as many items as it says
abbrev pub word_items : Turn → List Item
word_items turn = replicate turn.times (item_of turn)

-- the items of a schedule, word by word
abbrev pub items_of : List Turn → List Item
items_of schedule = flat_map word_items schedule

-- an item ends with this turn of its seat: each does but a whole one whose call goes on and isn't idle
abbrev pub is_end : Bool → Step → Bool
is_end whole Went = not whole
is_end whole Idle = true
is_end whole (Finished reply) = true
is_end whole Nothing = true

-- the turn finished its call
abbrev pub IsFinished : Step → Type 0
IsFinished (Finished reply) = Unit {0}
IsFinished step = ⊥

-- what is left of the items after these turns, or nothing where the turns don't follow them
abbrev pub rest_of : List Item → List Turned → Option (List Item)
rest_of items [] = Some items
rest_of [] (turned ∷ turns) = None
rest_of (item ∷ items) (turned ∷ turns) =
    if turned.seat == item.seat then (if is_end item.whole turned.step then rest_of items turns else rest_of (item ∷ items) turns) else None

-- ---- a run

-- Turns that follow the items and leave some of them take s to t by this, and their number from `before` to `after`, at most the limit.
pub record AdvancesBy {S : Type 0} (By : S → Turned → S → Type 0) (limit : ℕ) (s : S) (before : ℕ) (items left : List Item) (t : S) (after : ℕ) : Type 0 where
  pub turns : List Turned
  pub made : TurnsBy By s turns t
  pub rest : rest_of items turns ≡ Some left
  pub count : after ≡ before + length turns
  pub within : after ≤ limit

-- such turns take the progress p to q
abbrev pub Advances : {C : Type 0} {N : ℕ} → List (List (Call C)) → ℕ → Progress C N → ℕ → List Item → List Item → Progress C N → ℕ → Type 0
Advances lists = AdvancesBy (Takes lists)

-- such turns take a run from p to q, and its observer is told of each
abbrev pub AdvancesSeen : {C : Type 0} {N : ℕ} {O : Type 0} → Truths C → Sees C N O → List (List (Call C)) → ℕ → Watched C N O → List Item → List Item → Watched C N O → Type 0
AdvancesSeen truths sees lists limit p items left q = AdvancesBy (IsSeen truths sees lists) limit p p.turns items left q q.turns

-- The call that the last of these turns finished isn't told: the progress q is the end but for that call's line and count.
pub record EndUntold {C : Type 0} {N : ℕ} (turns : List Turned) (end q : Progress C N) : Type 0 where
  pub earlier : List Turned
  pub seat : ℕ
  pub reply : Reply
  pub last : turns ≡ earlier ++ record { seat = seat; step = Finished reply } ∷ []
  pub untold : end ≡ finished q seat reply q.world

-- the next item's turn commits an event
abbrev pub CommitsFirst : {C : Type 0} {N : ℕ} → Whole C N → List Item → Type 0
CommitsFirst world [] = ⊥
CommitsFirst world (item ∷ left) = WholeCommits world item.seat

-- Why a run stops. These turns, so many, led to this end, and these items are left. The next item needs one turn more than the limit, or its thread is no seat, or memory was refused for the event of its turn: then the run leaves the end, as the progress q. Or memory was
-- refused for the line of the call that the last turn finished: then q doesn't tell that call.
abbrev pub StopsFor : {C : Type 0} {N : ℕ} → ℕ → Progress C N → ℕ → List Turned → List Item → Progress C N → Fault → Type 0
StopsFor limit end made turns left q OutOfMemory = ((q ≡ end) × CommitsFirst end.world left) ⊎ EndUntold turns end q
StopsFor limit end made turns (item ∷ left) q StepLimit = (q ≡ end) × (made ≡ limit) × (item.seat < length end.world.seats)
StopsFor limit end made turns (item ∷ left) q NoSuchSeat = (q ≡ end) × (length end.world.seats ≤ item.seat)
StopsFor limit end made turns left q fault = ⊥

-- The same, where the run has an observer that may refuse memory: it may have refused it for the last turn, which is made and counted.
abbrev pub HaltsFor : {C : Type 0} {N : ℕ} → Bool → ℕ → Progress C N → ℕ → List Turned → List Item → Progress C N → Fault → Type 0
HaltsFor false limit end made turns left q fault = StopsFor limit end made turns left q fault
HaltsFor true limit end made turns left q fault = StopsFor limit end made turns left q fault ⊎ ((q ≡ end) × (fault ≡ OutOfMemory))

-- Turns that follow a front of the items lead from the progress p to an end, and take their number from `before` to `after`; and there the run stops, and leaves the progress q.
pub record Halts {C : Type 0} {N : ℕ} (refuses : Bool) (lists : List (List (Call C))) (limit : ℕ) (p : Progress C N) (before : ℕ) (items : List Item) (q : Progress C N) (after : ℕ) (fault : Fault) : Type 0 where
  pub left : List Item
  pub end : Progress C N
  pub advances : Advances lists limit p before items left end after
  pub why : HaltsFor refuses limit end after advances.turns left q fault

-- the same of a run whose observer refuses nothing
abbrev pub Stops : {C : Type 0} {N : ℕ} → List (List (Call C)) → ℕ → Progress C N → ℕ → List Item → Progress C N → ℕ → Fault → Type 0
Stops = Halts false

-- A whole run takes the world old to the world new, and gives these lines: turns from the start that follow the schedule to its end, no more than the limit.
pub record Runs {C : Type 0} {N : ℕ} (lists : List (List (Call C))) (schedule : List Turn) (limit : ℕ) (old new : Whole C N) (lines : List Line) : Type 0 where
  pub end : Progress C N
  pub after : ℕ
  pub advances : Advances lists limit (start old) 0 (items_of schedule) [] end after
  pub here : end.world ≡ new
  pub tells : end.lines ≡ lines

-- A whole run takes the world old to the world new, and the observer who is told of its turns from one to the other.
pub record RunsSeen {C : Type 0} {N : ℕ} {O : Type 0} (truths : Truths C) (sees : Sees C N O) (lists : List (List (Call C))) (schedule : List Turn) (limit : ℕ) (old : Kept C N) (first : O) (new : Kept C N) (last : O) : Type 0 where
  pub end : Watched C N O
  pub advances : AdvancesSeen truths sees lists limit (unwatched old first) (items_of schedule) [] end
  pub here : end.world ≡ new
  pub observer : end.observer ≡ last

-- A refused run takes the world old to the world new: from the start it stops on its way, and the progress that it leaves has the new world.
pub record RunHalts {C : Type 0} {N : ℕ} (refuses : Bool) (lists : List (List (Call C))) (schedule : List Turn) (limit : ℕ) (old new : Whole C N) (fault : Fault) : Type 0 where
  pub leaves : Progress C N
  pub after : ℕ
  pub stops : Halts refuses lists limit (start old) 0 (items_of schedule) leaves after fault
  pub here : leaves.world ≡ new

-- the same of a run whose observer refuses nothing
abbrev pub RunFault : {C : Type 0} {N : ℕ} → List (List (Call C)) → List Turn → ℕ → Whole C N → Whole C N → Fault → Type 0
RunFault = RunHalts false

-- ---- what a run needs

-- no call is in progress
abbrev pub AllIdle : {C : Type 0} {N : ℕ} → Whole C N → Type 0
AllIdle world = (seat : ℕ) → whole_busy world seat ≡ false

-- No seat is past its last call, which keeps a call's number below 256.
pub record IsCounted {C : Type 0} {N : ℕ} (world : Whole C N) (over : List ℕ) : Type 0 where
  pub many : length over ≡ 64
  pub most : (seat : ℕ) → slice_index over seat + (if whole_busy world seat then 1 else 0) ≤ 256

-- One turn was made and counted: it takes the progress p to q, in which no seat is past its last call, and it is one turn more, of at most the limit.
pub record CountsTurn {C : Type 0} {N : ℕ} (lists : List (List (Call C))) (limit : ℕ) (p : Progress C N) (before seat : ℕ) (step : Step) (q : Progress C N) (after : ℕ) : Type 0 where
  pub turn : TurnOf lists p seat step q
  pub counted : IsCounted q.world q.over
  pub turns : (after ≡ before + 1) × (after ≤ limit)

-- a list has at most 256 calls, and what each names is in range
abbrev pub ListFits : {C : Type 0} → ℕ → List (Call C) → Type 0
ListFits n calls = (length calls ≤ 256) × All (CallInRange n) calls
