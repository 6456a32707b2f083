-- Runs whose turns a generator draws.
use Rattle.std.specs.List.{range_with_len}
use Rattle.std.specs.Prelude.{List, Some, [], false, if◌then◌else◌, is_some, length, map, true, ℕ, ◌+◌, ◌<◌, ◌||◌, ◌∷◌, ◌≡◌, ◌≢◌, ◌≤◌, ◌⊎◌}
use Rattle.ns_outcomes.specs.Names.{Advances, Call, Drawing, Fault, Going, Item, Lcg, Made, OutOfMemory, Over, Plan, Progress, ScriptCondition, Standing, StepLimit, Turn, TurnOf, Turned, WorldFault, items_of, next_call, pcg32, pcg32_of_seed, pcg32_seed, progress, script_truths, start, whole_busy}
use Rattle.ns_outcomes.specs.Names.{whole_of, world_for}
use Rattle.ns_world.specs.declared.fault.Fault.TheVariants as world
use Rattle.ns_outcomes.specs.Standings.{IsPick, going, stood}

-- the calls of each thread
abbrev pub Lists : Type 0
Lists = List (List (Call ScriptCondition))

-- how far a run has come, and where its threads stand
pub record Stage : Type 0 where
  pub progress : Progress ScriptCondition 8
  pub standings : List Standing

-- the stage of a run that is being drawn
abbrev pub stage_of : Drawing → Stage
stage_of drawing = record { progress = progress (whole_of script_truths drawing.world) drawing.tally.over drawing.tally.lines.items; standings = drawing.standings.items }

-- ---- before a turn is drawn

-- A thread can go on where a call of it is in progress or left.
abbrev pub first_standing : Lists → Progress ScriptCondition 8 → ℕ → Standing
first_standing lists p thread = if whole_busy p.world thread || is_some (next_call lists p thread) then Going else Over

-- where the threads stand then
abbrev pub first_standings : Lists → Progress ScriptCondition 8 → List Standing
first_standings lists p = map (first_standing lists p) (range_with_len 0 (length lists))

-- ---- a turn

-- What a turn was: its step, whether it changed the lock word, and whether a call of its thread is still to end.
pub record IsMade (lists : Lists) (p : Progress ScriptCondition 8) (turned : Turned) (q : Progress ScriptCondition 8) (made : Made) : Type 0 where
  pub step : made.step ≡ turned.step
  pub same : made.changed ≡ false → q.world.word ≡ p.world.word
  pub other : made.changed ≡ true → q.world.word ≢ p.world.word
  pub more : made.more ≡ is_some (next_call lists q turned.seat)

-- A turn takes a run from one stage to another: it is one of the thread's next call or of the one in progress, and by it the threads stand where they do after it.
pub record TurnStands (lists : Lists) (p : Stage) (turned : Turned) (q : Stage) : Type 0 where
  pub turn : TurnOf lists p.progress turned.seat turned.step q.progress
  pub made : Made
  pub is_made : IsMade lists p.progress turned q.progress made
  pub stands : q.standings ≡ stood p.standings turned.seat made

-- ---- drawn turns

-- These turns take the stage p to q, and the generator g to h: each is a turn of the thread that the generator's next number picks.
abbrev pub Draws : Lists → Lcg → Stage → List Turned → Lcg → Stage → Type 0
Draws lists g p [] h q = (h ≡ g) × (q ≡ p)
Draws lists g p (turned ∷ turns) h q = (r : Stage) × IsPick p.standings (pcg32 g).0 (Some turned.seat) × TurnStands lists p turned r × Draws lists (pcg32 g).1 r turns h q

-- a turn as an item of a schedule
abbrev pub turn_item : Turned → Item
turn_item turned = record { seat = turned.seat; whole = false }

-- A word of drawn turns spells at least one, and at most as many as a word of a script may.
pub record IsDrawnWord (word : Turn) : Type 0 where
  pub plain : word.whole ≡ false
  pub some : 0 < word.times
  pub few : word.times ≤ 1000000

-- The next word is another thread's, unless this one spells as many turns as a word may.
abbrev pub GoesBefore : Turn → Turn → Type 0
GoesBefore word next = (word.thread ≢ next.thread) ⊎ (word.times ≡ 1000000)

-- These are words of drawn turns, and no fewer would spell the same.
abbrev pub AreFewest : List Turn → Type 0
AreFewest [] = Unit {0}
AreFewest (word ∷ []) = IsDrawnWord word
AreFewest (word ∷ next ∷ words) = IsDrawnWord word × GoesBefore word next × AreFewest (next ∷ words)

-- Turns were drawn from the stage p on, before which there were so many, and just these words spell them.
pub record Drew (lists : Lists) (limit : ℕ) (g : Lcg) (p : Stage) (before : ℕ) (words : List Turn) (h : Lcg) (q : Stage) (after : ℕ) : Type 0 where
  pub turns : List Turned
  pub draws : Draws lists g p turns h q
  pub spelled : items_of words ≡ map turn_item turns
  pub fewest : AreFewest words
  pub count : after ≡ before + length turns
  pub within : after ≤ limit

-- the same, until nobody can go on
pub record HasDrawn (lists : Lists) (limit : ℕ) (g : Lcg) (p : Stage) (before : ℕ) (words : List Turn) (q : Stage) (after : ℕ) : Type 0 where
  pub ends : Lcg
  pub drew : Drew lists limit g p before words ends q after
  pub over : going q.standings ≡ 0

-- As many turns were drawn as the limit allows, and then somebody could still go on.
pub record IsCutShort (lists : Lists) (limit : ℕ) (g : Lcg) (p : Stage) (before : ℕ) : Type 0 where
  pub words : List Turn
  pub ends : Lcg
  pub end : Stage
  pub drew : Drew lists limit g p before words ends end limit
  pub left : 0 < going end.standings

-- Why drawing stops before its end: want of memory, or the limit.
abbrev pub IsDrawingFault : Lists → ℕ → Lcg → Stage → ℕ → Fault → Type 0
IsDrawingFault lists limit g p before OutOfMemory = Unit {0}
IsDrawingFault lists limit g p before StepLimit = IsCutShort lists limit g p before
IsDrawingFault lists limit g p before fault = ⊥

-- what the fault of a run comes to: the limit, or else want of memory
abbrev pub drawing_fault : WorldFault → Fault
drawing_fault world.StepLimit = StepLimit
drawing_fault fault = OutOfMemory

-- ---- the run of a seed

-- the generator of a seed
abbrev pub generator : ℕ → Lcg
generator seed = pcg32_of_seed (pcg32_seed 16 seed)

-- The script's own schedule was made, in so many turns, and no turn is drawn yet.
pub record HasBegun (limit : ℕ) (plan : Plan) (p : Stage) (before : ℕ) : Type 0 where
  pub own : Advances plan.threads limit (start (world_for plan)) 0 (items_of plan.schedule) [] p.progress before
  pub stands : p.standings ≡ first_standings plan.threads p.progress

-- The seed drew these words behind the script's own, until nobody could go on.
pub record IsDrawn (limit : ℕ) (plan : Plan) (seed : ℕ) (words : List Turn) (q : Stage) (after : ℕ) : Type 0 where
  pub first : Stage
  pub before : ℕ
  pub begun : HasBegun limit plan first before
  pub drawn : HasDrawn plan.threads limit (generator seed) first before words q after

-- The limit cuts short what the seed draws behind the script's own schedule.
pub record IsSeedCut (limit : ℕ) (plan : Plan) (seed : ℕ) : Type 0 where
  pub first : Stage
  pub before : ℕ
  pub begun : HasBegun limit plan first before
  pub cut : IsCutShort plan.threads limit (generator seed) first before
