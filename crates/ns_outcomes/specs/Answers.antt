-- What is answered and written, for the outcomes of a script, and for a script with a schedule of its own.
use Rattle.std.specs.Io.KnownBytes.{Appends, Keeps}
use Rattle.std.specs.Prelude.{Err, List, Ok, Option, Result, length, ℕ, ⊤, ◌++◌, ◌<◌, ◌≡◌, ◌≢◌, ◌≤◌, ◌⊎◌}
use Rattle.ns_outcomes.specs.Names.{BadScript, Fault, Found, HasRun, IsRefused, Line, OutOfMemory, Plan, Read, ScriptCondition, Seeds, StepLimit, TooMany, Turn, Whole, Write, max_bytes, plan_from}
use Rattle.ns_replay.specs.declared.path.ScriptPath.TheVariants as at
use Rattle.ns_outcomes.specs.Outcomes.{IsLong, IsSeedRun, lengthened, outcome_text}
use Rattle.ns_outcomes.specs.Tallies.{HasLongRun, HasMade, report_text}
use Rattle.ns_outcomes.specs.Texts.{IsScriptText}

-- The text shows what the script that the bytes give comes to in the runs of these seeds: each distinct outcome once, with how many of the runs came to it and the first seed of them; and how many runs, distinct outcomes and turns there are.
pub record IsReport (seeds : Seeds) (bytes text : List ℕ) : Type 0 where
  pub plan : Plan
  pub read : plan_from bytes ≡ Ok plan
  pub found : List Found
  pub turns : ℕ
  pub made : HasMade seeds plan found turns
  pub is : text ≡ report_text seeds.count found turns

-- Two plans declare the same, and have the same schedule. It says nothing of their calls: those of a text that `schedule` writes are printed from the bytes' own JSON.
pub record IsLike (one other : Plan) : Type 0 where
  pub counters : one.counters ≡ other.counters
  pub onces : one.onces ≡ other.onces
  pub cvs : one.cvs ≡ other.cvs
  pub schedule : one.schedule ≡ other.schedule

-- The text is a script like this plan, and a replay of it comes to this outcome.
pub record ComesTo (limit : ℕ) (text : List ℕ) (plan : Plan) (outcome : List ℕ) : Type 0 where
  pub read : Plan
  pub world : Whole ScriptCondition 8
  pub lines : List Line
  pub has_run : HasRun limit text read world lines
  pub like : IsLike read plan
  pub is : outcome ≡ outcome_text (length read.threads) world lines

-- A replay of the text comes to an end. But the text is a script unlike this plan, or the outcome is another.
pub record EndsOtherwise (limit : ℕ) (text : List ℕ) (plan : Plan) (outcome : List ℕ) : Type 0 where
  pub read : Plan
  pub world : Whole ScriptCondition 8
  pub lines : List Line
  pub has_run : HasRun limit text read world lines
  pub other : IsLike read plan → outcome ≢ outcome_text (length read.threads) world lines

-- A replay of the text is refused, and not for want of memory.
pub record IsNoScript (limit : ℕ) (text : List ℕ) : Type 0 where
  pub fault : Fault
  pub refused : IsRefused limit text fault
  pub why : fault ≢ OutOfMemory

-- The text isn't read back as this plan with this outcome.
abbrev pub ComesElsewhere : ℕ → List ℕ → Plan → List ℕ → Type 0
ComesElsewhere limit text plan outcome = IsNoScript limit text ⊎ EndsOtherwise limit text plan outcome

-- The bytes give a script, of which a run of this seed draws these words and comes to this outcome.
pub record HasSeedRun (limit seed : ℕ) (bytes : List ℕ) : Type 0 where
  pub plan : Plan
  pub read : plan_from bytes ≡ Ok plan
  pub words : List Turn
  pub outcome : List ℕ
  pub turns : ℕ
  pub comes : IsSeedRun limit plan seed words outcome turns

-- The text is the bytes' script with the words of the seed's run behind its schedule.
pub record HasText (limit seed : ℕ) (bytes text : List ℕ) : Type 0 where
  pub run : HasSeedRun limit seed bytes
  pub made : IsScriptText bytes (run.plan.schedule ++ run.words) text

-- The text is such a one, and a replay of it comes to the outcome of the seed's run.
pub record IsScheduled (limit seed : ℕ) (bytes text : List ℕ) : Type 0 where
  pub has : HasText limit seed bytes text
  pub again : ComesTo limit text (lengthened has.run.plan has.run.words) has.run.outcome

-- ---- refusals

-- The bytes give a script, and this is so of its plan.
pub record HasPlan (bytes : List ℕ) (Is : Plan → Type 0) : Type 0 where
  pub plan : Plan
  pub read : plan_from bytes ≡ Ok plan
  pub is : Is plan

-- The limit is too low: for the script's own schedule, and the seed that was told last is the same as before; or for the run of one of the seeds.
abbrev pub IsPast : Seeds → Option ℕ → Option ℕ → List ℕ → Type 0
IsPast seeds before told bytes = (IsRefused seeds.limit bytes StepLimit × (told ≡ before)) ⊎ HasPlan bytes (λ plan. HasLongRun seeds plan told)

-- Why the bytes give no outcomes: as a replay would say, but for the limit, which is that of each run.
abbrev pub IsUndrawn : Seeds → Option ℕ → Option ℕ → List ℕ → Fault → Type 0
IsUndrawn seeds before told bytes StepLimit = IsPast seeds before told bytes
IsUndrawn seeds before told bytes fault = IsRefused seeds.limit bytes fault

-- a schedule has at most so many words
abbrev pub max_words : ℕ
max_words = 4096

-- The schedule of the seed's run has more words than a script may have.
pub record HasManyWords (limit seed : ℕ) (bytes : List ℕ) : Type 0 where
  pub run : HasSeedRun limit seed bytes
  pub many : max_words < length (run.plan.schedule ++ run.words)

-- The schedule has no more words than a script may have, but the text would have more bytes.
pub record IsTooLong (limit seed : ℕ) (bytes : List ℕ) : Type 0 where
  pub text : List ℕ
  pub has : HasText limit seed bytes text
  pub few : length (has.run.plan.schedule ++ has.run.words) ≤ max_words
  pub long : max_bytes < length text

-- The text has no more words and bytes than a script may have, but it isn't read back as the script with the seed's schedule and outcome. No lemma says that this never comes.
pub record IsUnread (limit seed : ℕ) (bytes : List ℕ) : Type 0 where
  pub text : List ℕ
  pub has : HasText limit seed bytes text
  pub few : length (has.run.plan.schedule ++ has.run.words) ≤ max_words
  pub short : length text ≤ max_bytes
  pub other : ComesElsewhere limit text (lengthened has.run.plan has.run.words) has.run.outcome

-- Why the bytes give no script with a schedule of its own: as a replay would say, but the limit is that of the seed's run; or the schedule or the text is too long, or the text isn't read back.
abbrev pub IsUnscheduled : ℕ → ℕ → List ℕ → Fault → Type 0
IsUnscheduled limit seed bytes StepLimit = HasPlan bytes (λ plan. IsLong limit plan seed)
IsUnscheduled limit seed bytes (TooMany at.Schedule) = IsRefused limit bytes (TooMany at.Schedule) ⊎ HasManyWords limit seed bytes
IsUnscheduled limit seed bytes (TooMany at.Root) = IsRefused limit bytes (TooMany at.Root) ⊎ IsTooLong limit seed bytes
IsUnscheduled limit seed bytes (BadScript at.Root) = IsRefused limit bytes (BadScript at.Root) ⊎ IsUnread limit seed bytes
IsUnscheduled limit seed bytes fault = IsRefused limit bytes fault

-- ---- the whole

-- What was written, where these bytes may give such texts, or such refusals: a whole text after Ok, a front of one after a failed write, and else nothing.
abbrev pub Answers : Option (List ℕ) → Option (List ℕ) → (List ℕ → List ℕ → Type 0) → (List ℕ → Fault → Type 0) → List ℕ → Result ⊤ Fault → Type 0
Answers old new IsSuch IsWhy bytes (Ok _) = (text : List ℕ) × IsSuch bytes text × Appends old new text
Answers old new IsSuch IsWhy bytes (Err Write) = (front : List ℕ) × (rest : List ℕ) × IsSuch bytes (front ++ rest) × (0 < length rest) × Appends old new front
Answers old new IsSuch IsWhy bytes (Err Read) = Keeps old new
Answers old new IsSuch IsWhy bytes (Err fault) = IsWhy bytes fault × Keeps old new
