-- Distinct outcomes, as they are counted, and the text that shows them.
use Rattle.std.specs.BTreeMap.{get_by_text}
use Rattle.std.specs.List.{sum}
use Rattle.std.specs.Prelude.{All, AllPairs, Contains, List, None, Option, Some, String, [], bytes_eq, codes, count_by, decimal, get_or, if◌then◌else◌, length, map, option_map, position, string_bytes, ℕ, ◌%◌, ◌++◌, ◌+◌, ◌<◌, ◌^◌, ◌∷◌, ◌≡◌, ◌≢◌, ◌≤◌, ◌⊎◌}
use Rattle.std.specs.declared.alloc.Global.{Global}
use Rattle.ns_outcomes.specs.Names.{Count, Counts, Fault, Found, OutOfMemory, Plan, Seeds, StepLimit}
use Rattle.ns_outcomes.specs.Outcomes.{IsLong, IsOutcomeOf}

-- ---- the runs of some seeds

-- the seed of the k-th run, numbered from 0: after the greatest number of 64 bits comes 0
abbrev pub seed_at : ℕ → ℕ → ℕ
seed_at from k = (from + k) % 2 ^ 64

-- These are the outcomes of so many runs and how many turns they have, in order: each as the run of its own seed has it.
pub record AreRuns (limit from count : ℕ) (plan : Plan) (runs : List (List ℕ)) (turns : List ℕ) : Type 0 where
  pub many : length runs ≡ count
  pub counted : length turns ≡ count
  pub each : (k : ℕ) → k < count → IsOutcomeOf limit plan (seed_at from k) (get_or runs k []) (get_or turns k 0)

-- ---- how they are counted

-- the texts of outcomes
abbrev pub texts_of : List Found → List (List ℕ)
texts_of found = map (λ f. string_bytes f.text) found

-- how many of the runs came to the text
abbrev pub times : List (List ℕ) → List ℕ → ℕ
times runs text = count_by (bytes_eq text) runs

-- the seed of the first run that came to the text, where one did
abbrev pub first_seed : ℕ → List (List ℕ) → List ℕ → Option ℕ
first_seed from runs text = option_map (seed_at from) (position (bytes_eq text) runs)

-- Runs came to this outcome: as many as it says, and the first of them by the seed that it says.
pub record IsFound (from : ℕ) (runs : List (List ℕ)) (found : Found) : Type 0 where
  pub count : found.count ≡ times runs (string_bytes found.text)
  pub first : first_seed from runs (string_bytes found.text) ≡ Some found.first

-- More runs came to the one than to the other; or as many did, and its first seed is no higher.
abbrev pub IsBefore : Found → Found → Type 0
IsBefore one other = (other.count < one.count) ⊎ ((one.count ≡ other.count) × (one.first ≤ other.first))

-- These are the distinct outcomes of the runs, of which the first has this seed: each that a run came to, once, with its exact count and first seed, and the most frequent first.
pub record IsTally (from : ℕ) (runs : List (List ℕ)) (found : List Found) : Type 0 where
  pub each : All (IsFound from runs) found
  pub complete : All (Contains (texts_of found)) runs
  pub distinct : AllPairs (λ one other. one ≢ other) (texts_of found)
  pub order : AllPairs IsBefore found

-- These are the distinct outcomes of the runs of all seeds, and so many turns have the runs together.
pub record HasMade (seeds : Seeds) (plan : Plan) (found : List Found) (all : ℕ) : Type 0 where
  pub runs : List (List ℕ)
  pub turns : List ℕ
  pub made : AreRuns seeds.limit seeds.from seeds.count plan runs turns
  pub tally : IsTally seeds.from runs found
  pub total : all ≡ sum turns

-- ---- why they aren't counted

-- The run of one of the seeds needs more turns than the limit, and no earlier one does. This seed was told last. (That no seed is told where the own schedule needs more is shown by a row.)
pub record HasLongRun (seeds : Seeds) (plan : Plan) (told : Option ℕ) : Type 0 where
  pub earlier : ℕ
  pub few : earlier < seeds.count
  pub runs : List (List ℕ)
  pub turns : List ℕ
  pub made : AreRuns seeds.limit seeds.from earlier plan runs turns
  pub long : IsLong seeds.limit plan (seed_at seeds.from earlier)
  pub named : told ≡ Some (seed_at seeds.from earlier)

-- Why the outcomes aren't counted: want of memory, or the limit.
abbrev pub IsCountFault : Seeds → Plan → Option ℕ → Fault → Type 0
IsCountFault seeds plan told OutOfMemory = Unit {0}
IsCountFault seeds plan told StepLimit = HasLongRun seeds plan told
IsCountFault seeds plan told fault = ⊥

-- ---- the counts, as a function of the text

-- so many runs, of which the first stands at this place
abbrev pub counted_at : ℕ → ℕ → ℕ → Count
counted_at from count place = record { count = count; first = seed_at from place }

-- what is counted of a text: how many of the runs came to it and the first seed, or nothing where none did
abbrev pub counted : ℕ → List (List ℕ) → List ℕ → Option Count
counted from runs text = option_map (counted_at from (times runs text)) (position (bytes_eq text) runs)

-- the outcome of a text, with what is counted of it
abbrev pub found_of : String Global × Count → Found
found_of entry = record { text = entry.0; count = entry.1.count; first = entry.1.first }

-- The counts are of just these runs.
abbrev pub HasCounted : ℕ → List (List ℕ) → Counts → Type 0
HasCounted from runs counts = (text : List ℕ) → get_by_text counts.by_text text ≡ counted from runs text

-- one run more, of this seed: the count is one higher and the first seed stays, or this is the first
abbrev pub once_more : Option Count → ℕ → Count
once_more None seed = record { count = 1; first = seed }
once_more (Some before) seed = record { count = before.count + 1; first = before.first }

-- The new counts have one run more of the text, by this seed, and of every other text what the old ones have.
abbrev pub CountsOnceMore : Counts → List ℕ → ℕ → Counts → Type 0
CountsOnceMore old text seed new = (other : List ℕ) → get_by_text new.by_text other ≡ (if bytes_eq text other then Some (once_more (get_by_text old.by_text text) seed) else get_by_text old.by_text other)

-- ---- the text

-- the first line of an outcome's block
unfoldable pub head_text : ℕ → ℕ → Found → List ℕ
head_text all number found = codes "outcome " ++ decimal number ++ codes ": " ++ decimal found.count ++ codes " of " ++ decimal all ++ codes ", first by seed " ++ decimal found.first ++ codes "\n"

-- the block of an outcome, which has this number, of runs for so many seeds
abbrev pub block_text : ℕ → ℕ → Found → List ℕ
block_text all number found = head_text all number found ++ string_bytes found.text

-- the blocks of outcomes, which are numbered from this one on
abbrev pub blocks_text : ℕ → ℕ → List Found → List ℕ
blocks_text all number [] = []
blocks_text all number (found ∷ more) = block_text all number found ++ blocks_text all (number + 1) more

-- the last line
unfoldable pub last_line : ℕ → ℕ → ℕ → List ℕ
last_line all distinct turns = codes "schedules " ++ decimal all ++ codes " outcomes " ++ decimal distinct ++ codes " turns " ++ decimal turns ++ codes "\n"

-- the whole text
unfoldable pub report_text : ℕ → List Found → ℕ → List ℕ
report_text all found turns = blocks_text all 1 found ++ last_line all (length found) turns
