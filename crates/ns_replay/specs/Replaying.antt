-- What a replay answers and writes.
use Rattle.std.specs.Io.KnownBytes.{Appends, IsAtEnd, Keeps}
use Rattle.std.specs.Prelude.{Err, List, Ok, Option, Result, if◌then◌else◌, length, nat_lt, ℕ, ⊤, ◌++◌, ◌<◌, ◌≡◌, ◌≤◌, ◌⊎◌}
use Rattle.ns_replay.specs.Names.{Fault, Line, Options, OutOfMemory, Read, Kept, RunFault, Runs, RunsSeen, ScriptCondition, Sees, StepLimit, TooMany, Whole, Write, fresh_whole}
use Rattle.ns_world.specs.Whole.{whole_of}
use Rattle.ns_replay.specs.Condition.{script_truths}
use Rattle.ns_replay.specs.Runnable.{IsRunnable}
use Rattle.ns_replay.specs.Script.{Plan, script_of}
use Rattle.ns_replay.specs.Streams.{Counts}
use Rattle.ns_replay.specs.Text.{text_of}
use Rattle.ns_replay.specs.Transfer.{max_bytes}
use Rattle.ns_world.specs.declared.fault.Fault.TheVariants as TheFault
use Rattle.ns_replay.specs.declared.path.ScriptPath.TheVariants as at

-- ---- a run

-- before the run of a script: a free lock, its counters and once cells, and a seat for each thread
abbrev pub world_for : Plan → Whole ScriptCondition 8
world_for plan = fresh_whole script_truths (length plan.threads) plan.counters plan.onces

-- A run of the script in at most so many turns ends in this world, and gives these lines.
abbrev pub RunsTo : ℕ → Plan → Whole ScriptCondition 8 → List Line → Type 0
RunsTo limit plan world lines = Runs plan.threads plan.schedule limit (world_for plan) world lines

-- An observer is told of each turn of a run of the script, in at most so many turns, which ends in this world: it was the one, and has become the other.
pub record IsToldTo {O : Type 0} (sees : Sees ScriptCondition 8 O) (limit : ℕ) (plan : Plan) (first : O) (world : Kept ScriptCondition 8) (last : O) : Type 0 where
  pub old : Kept ScriptCondition 8
  pub is : whole_of script_truths old ≡ world_for plan
  pub runs : RunsSeen script_truths sees plan.threads plan.schedule limit old first world last

-- A run of the script has made as many turns as it may, and its schedule needs one more.
abbrev pub NeedsMore : ℕ → Plan → Type 0
NeedsMore limit plan = (world : Whole ScriptCondition 8) × RunFault plan.threads plan.schedule limit (world_for plan) world TheFault.StepLimit

-- a run fails by want of memory, or by the limit
abbrev pub IsRunFault : ℕ → Plan → Fault → Type 0
IsRunFault limit plan OutOfMemory = Unit {0}
IsRunFault limit plan StepLimit = NeedsMore limit plan
IsRunFault limit plan fault = ⊥

-- ---- an answer

-- the script that bytes give, or their first refusal
unfoldable pub plan_from : List ℕ → Result Plan Fault
plan_from bytes = if nat_lt max_bytes (length bytes) then Err (TooMany at.Root) else script_of bytes

-- The bytes give this script, and it runs to this world and gives these lines, in at most so many turns.
pub record HasRun (limit : ℕ) (bytes : List ℕ) (plan : Plan) (world : Whole ScriptCondition 8) (lines : List Line) : Type 0 where
  pub read : plan_from bytes ≡ Ok plan
  pub runs : RunsTo limit plan world lines
  pub runnable : IsRunnable plan

-- The text is that of a run of the script that the bytes give.
pub record IsText (options : Options) (bytes text : List ℕ) : Type 0 where
  pub plan : Plan
  pub world : Whole ScriptCondition 8
  pub lines : List Line
  pub has_run : HasRun options.limit bytes plan world lines
  pub is : text ≡ text_of options plan.cvs plan.threads lines world

-- the bytes give a script, and its schedule needs more turns than the limit
pub record IsPastLimit (limit : ℕ) (bytes : List ℕ) : Type 0 where
  pub plan : Plan
  pub read : plan_from bytes ≡ Ok plan
  pub needs : NeedsMore limit plan

-- Why the bytes give no text: want of memory, or the limit, or their first refusal. No stream is at fault.
abbrev pub IsRefused : ℕ → List ℕ → Fault → Type 0
IsRefused limit bytes OutOfMemory = Unit {0}
IsRefused limit bytes StepLimit = IsPastLimit limit bytes
IsRefused limit bytes Read = ⊥
IsRefused limit bytes Write = ⊥
IsRefused limit bytes fault = plan_from bytes ≡ Err fault

-- What was read: the source to its end, but where memory was refused or a read failed, or as much as shows that it is too much.
abbrev pub WasRead : List ℕ → Option (List ℕ) → Result ⊤ Fault → Type 0
WasRead bytes left (Ok _) = IsAtEnd left
WasRead bytes left (Err OutOfMemory) = Unit {0}
WasRead bytes left (Err Read) = length bytes ≤ max_bytes
WasRead bytes left (Err (TooMany at.Root)) = (max_bytes < length bytes) ⊎ IsAtEnd left
WasRead bytes left (Err fault) = IsAtEnd left

-- How often the source's end came: once where all was to be read, and else not.
abbrev pub Ended : ℕ → ℕ → Result ⊤ Fault → Type 0
Ended before after (Ok _) = Counts before after 1
Ended before after (Err OutOfMemory) = Counts before after 0 ⊎ Counts before after 1
Ended before after (Err Read) = Counts before after 0
Ended before after (Err (TooMany at.Root)) = Counts before after 0 ⊎ Counts before after 1
Ended before after (Err fault) = Counts before after 1

-- What was written, where these bytes may give such texts: a whole text after Ok, a front of one after a failed write, and else nothing.
abbrev pub Answers : Option (List ℕ) → Option (List ℕ) → (List ℕ → List ℕ → Type 0) → ℕ → List ℕ → Result ⊤ Fault → Type 0
Answers old new IsSuch limit bytes (Ok _) = (text : List ℕ) × IsSuch bytes text × Appends old new text
Answers old new IsSuch limit bytes (Err Write) = (front : List ℕ) × (rest : List ℕ) × IsSuch bytes (front ++ rest) × (0 < length rest) × Appends old new front
Answers old new IsSuch limit bytes (Err Read) = Keeps old new
Answers old new IsSuch limit bytes (Err fault) = IsRefused limit bytes fault × Keeps old new
