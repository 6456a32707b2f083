-- The outcome of a run, and what is an outcome of a script.
use Rattle.std.specs.List.{range_with_len}
use Rattle.std.specs.Prelude.{Bool, List, [], codes, decimal, flat_map, if◌then◌else◌, length, ℕ, ◌++◌, ◌==◌, ◌≡◌, ◌⊎◌}
use Rattle.ns_outcomes.specs.Names.{Fault, Line, NeedsMore, OutOfMemory, Plan, Runs, ScriptCondition, StepLimit, Turn, Whole, left_text, reply_text, row_text, whole_busy, world_for}
use Rattle.ns_outcomes.specs.Drawn.{IsDrawn, IsSeedCut, Stage}

-- ---- the text of an outcome

-- `T C ANSWER`
abbrev pub call_text : Line → List ℕ
call_text line = decimal line.thread ++ codes " " ++ decimal line.call ++ codes " " ++ reply_text line.reply ++ codes "\n"

-- the line, if it is of a call of the thread
abbrev pub call_of_text : ℕ → Line → List ℕ
call_of_text thread line = if line.thread == thread then call_text line else []

-- the lines of the thread's finished calls, in order
abbrev pub calls_text : List Line → ℕ → List ℕ
calls_text lines thread = flat_map (call_of_text thread) lines

-- the lines of a thread: its finished calls, and `T C left` if one is in progress
abbrev pub thread_text : (ℕ → Bool) → List Line → ℕ → List ℕ
thread_text is_busy lines thread = calls_text lines thread ++ left_text is_busy lines thread

-- The outcome of a run of so many threads: their lines, thread by thread, and the row. In what order calls of several threads ended is no part of it.
unfoldable pub outcome_text : ℕ → Whole ScriptCondition 8 → List Line → List ℕ
outcome_text threads world lines = flat_map (thread_text (whole_busy world) lines) (range_with_len 0 threads) ++ row_text world.row

-- ---- a run

-- the plan with more words behind its schedule
abbrev pub lengthened : Plan → List Turn → Plan
lengthened plan words = record plan { schedule = plan.schedule ++ words }

-- The run of a seed: it draws these words behind the script's own, until nobody can go on, and a run under all of them comes to this outcome. It has so many turns, at most the limit.
pub record IsSeedRun (limit : ℕ) (plan : Plan) (seed : ℕ) (words : List Turn) (text : List ℕ) (turns : ℕ) : Type 0 where
  pub end : Stage
  pub drawn : IsDrawn limit plan seed words end turns
  pub runs : Runs plan.threads (plan.schedule ++ words) limit (world_for plan) end.progress.world end.progress.lines
  pub is : text ≡ outcome_text (length plan.threads) end.progress.world end.progress.lines

-- the text is the outcome of the seed's run, which has so many turns
abbrev pub IsOutcomeOf : ℕ → Plan → ℕ → List ℕ → ℕ → Type 0
IsOutcomeOf limit plan seed text turns = (words : List Turn) × IsSeedRun limit plan seed words text turns

-- The run of the seed needs more turns than the limit: the script's own schedule does, or what the seed draws behind it.
abbrev pub IsLong : ℕ → Plan → ℕ → Type 0
IsLong limit plan seed = NeedsMore limit plan ⊎ IsSeedCut limit plan seed

-- Why a seed has no run: want of memory, or the limit.
abbrev pub IsDrawFault : ℕ → Plan → ℕ → Fault → Type 0
IsDrawFault limit plan seed OutOfMemory = Unit {0}
IsDrawFault limit plan seed StepLimit = IsLong limit plan seed
IsDrawFault limit plan seed fault = ⊥
