-- How a run ends, and what is said of it.
use Rattle.std.specs.Prelude.{◌≡◌, ◌⊎◌, ℕ, ⊤, List, [], ◌++◌, Bool, true, false, Option, Some, None, Result, Ok, Err, codes, decimal}
use Rattle.std.specs.List.{list_any}
use Rattle.std.specs.Io.KnownBytes.{Appends, Keeps}
use Rattle.clap.specs.Words.{Kinds}
use Rattle.clap.specs.declared.error.kind.ErrorKind.{ErrorKind}
use Rattle.clap.specs.declared.error.kind.ErrorKind.TheVariants as kind
use Rattle.ns_replay.specs.declared.fault.Fault.{Fault}
use Rattle.ns_replay.specs.declared.fault.Fault.TheVariants.{OutOfMemory, NotJson, BadScript, TooMany, StepLimit, Read, Write}
use Rattle.ns_replay.specs.Faults.{fault_text}
use Rattle.ns_command.specs.declared.ending.Ending.{Ending}
use Rattle.ns_command.specs.declared.ending.Ending.TheVariants.{Replayed, Lived, NoThread, PastLimit, Failed, HelpShown, Misused}
use Rattle.ns_command.specs.Printing.{PrintsSome, is_mistake, is_request}

-- 4 where a stream is at fault, and else 3
abbrev pub fault_status : Fault → ℕ
fault_status OutOfMemory = 3
fault_status NotJson = 3
fault_status (BadScript path) = 3
fault_status (TooMany path) = 3
fault_status StepLimit = 3
fault_status Read = 4
fault_status Write = 4

-- the exit status of what a replay came to
abbrev pub outcome_status : Result ⊤ Fault → ℕ
outcome_status (Ok _) = 0
outcome_status (Err fault) = fault_status fault

-- the exit status
abbrev pub status_of : Ending → ℕ
status_of Replayed = 0
status_of Lived = 0
status_of NoThread = 3
status_of (PastLimit seed) = 3
status_of (Failed fault) = fault_status fault
status_of HelpShown = 0
status_of Misused = 2

-- the ending by what a replay answered
abbrev pub ending_of : Result ⊤ Fault → Ending
ending_of (Ok _) = Replayed
ending_of (Err fault) = Failed fault

-- a fault's line on the error side
abbrev pub fault_line : Fault → List ℕ
fault_line fault = fault_text fault ++ codes "\n"

-- the line on the error side where a live thread could not be made
abbrev pub no_thread_line : List ℕ
no_thread_line = codes "refused 12: no thread\n"

-- the line on the error side where the run of a seed needs more turns than the limit
abbrev pub past_limit_line : ℕ → List ℕ
past_limit_line seed = codes "refused 9: step limit by seed " ++ decimal seed ++ codes "\n"

-- the ending by what the runs of some seeds came to, and the seed of the last one
abbrev pub ending_by_seeds : Result ⊤ Fault → Option ℕ → Ending
ending_by_seeds (Err StepLimit) (Some seed) = PastLimit seed
ending_by_seeds result last = ending_of result

-- What was printed on the error side: the line of a fault, a text on wrong words, and else nothing. Where printing failed, nothing is said.
abbrev pub Says : Bool → Option (List ℕ) → Option (List ℕ) → Ending → Type 0
Says true old new ending = Unit {0}
Says false old new Replayed = Keeps old new
Says false old new Lived = Keeps old new
Says false old new NoThread = Appends old new no_thread_line
Says false old new (PastLimit seed) = Appends old new (past_limit_line seed)
Says false old new (Failed fault) = Appends old new (fault_line fault)
Says false old new HelpShown = Keeps old new
Says false old new Misused = PrintsSome old new

-- What was printed on the output side, beside the text of a run: help or the version, or some of it before a failure.
abbrev pub Shows : Option (List ℕ) → Option (List ℕ) → Ending → Type 0
Shows old new Replayed = Keeps old new
Shows old new Lived = Keeps old new
Shows old new NoThread = Keeps old new
Shows old new (PastLimit seed) = Keeps old new
Shows old new (Failed Write) = PrintsSome old new
Shows old new (Failed fault) = Keeps old new
Shows old new HelpShown = PrintsSome old new
Shows old new Misused = Keeps old new

-- the ending where clap says this of the words
abbrev pub EndsFor : ErrorKind → Ending → Type 0
EndsFor what Replayed = ⊥
EndsFor what Lived = ⊥
EndsFor what NoThread = ⊥
EndsFor what (PastLimit seed) = ⊥
EndsFor what (Failed OutOfMemory) = what ≡ kind.OutOfMemory
EndsFor what (Failed Write) = is_request what ≡ true
EndsFor what (Failed fault) = ⊥
EndsFor what HelpShown = is_request what ≡ true
EndsFor what Misused = is_mistake what ≡ true

-- The ending where clap has one of these to say of the words, or none, if they are right. No run by the words alone has made threads.
abbrev pub EndsForOneOf : Kinds → Ending → Type 0
EndsForOneOf kinds Replayed = kinds ≡ []
EndsForOneOf kinds Lived = ⊥
EndsForOneOf kinds NoThread = ⊥
EndsForOneOf kinds (PastLimit seed) = kinds ≡ []
EndsForOneOf kinds (Failed OutOfMemory) = Unit {0}
EndsForOneOf kinds (Failed Write) = (kinds ≡ []) ⊎ (list_any is_request kinds ≡ true)
EndsForOneOf kinds (Failed fault) = kinds ≡ []
EndsForOneOf kinds HelpShown = list_any is_request kinds ≡ true
EndsForOneOf kinds Misused = list_any is_mistake kinds ≡ true

-- what a replay answered, where there was one
abbrev pub outcome_of : Ending → Result ⊤ Fault
outcome_of (Failed fault) = Err fault
outcome_of (PastLimit seed) = Err StepLimit
outcome_of ending = Ok tt

-- the seed whose run needs more turns than the limit, where the ending names one
abbrev pub seed_of : Ending → Option ℕ
seed_of (PastLimit seed) = Some seed
seed_of ending = None
