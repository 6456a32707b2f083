-- What is printed of live threads, and how a run of them ends.
use Rattle.std.specs.Prelude.{◌≡◌, ◌⊎◌, ℕ, ⊤, List, ◌++◌, codes, decimal, Option, Result, Ok, Err}
use Rattle.std.specs.Io.KnownBytes.{Appends, Keeps}
use Rattle.ns_replay.specs.declared.fault.Fault.{Fault}
use Rattle.ns_replay.specs.declared.fault.Fault.TheVariants.{OutOfMemory, Write}
use Rattle.ns_replay.specs.Transfer.{WritesFront}
use Rattle.ns_command.specs.declared.living.NoSum.{NoSum}
use Rattle.ns_command.specs.declared.living.NoSum.TheVariants as none
use Rattle.ns_command.specs.declared.ending.Ending.{Ending}
use Rattle.ns_command.specs.declared.ending.Ending.TheVariants.{Lived, NoThread, Failed}

-- what is printed where so many items had this sum
abbrev pub live_lines : ℕ → ℕ → List ℕ
live_lines items sum = codes "items " ++ decimal items ++ codes "\n" ++ codes "sum " ++ decimal sum ++ codes "\n"

-- What was written of the lines: all, a front after a failed write, and nothing where memory was refused.
abbrev pub WritesLines : Option (List ℕ) → Option (List ℕ) → List ℕ → Result ⊤ Fault → Type 0
WritesLines old new lines (Ok _) = Appends old new lines
WritesLines old new lines (Err OutOfMemory) = Keeps old new
WritesLines old new lines (Err Write) = WritesFront old new lines
WritesLines old new lines (Err fault) = ⊥

-- The ending by what the threads answered. A sum may still meet want of memory, or a failed write.
abbrev pub EndsLive : Result ℕ NoSum → Ending → Type 0
EndsLive (Ok sum) ending = (ending ≡ Lived) ⊎ (ending ≡ Failed OutOfMemory) ⊎ (ending ≡ Failed Write)
EndsLive (Err none.OutOfMemory) ending = ending ≡ Failed OutOfMemory
EndsLive (Err none.NoThread) ending = ending ≡ NoThread

-- What was written: the lines of the sum, or a front of them, by the ending.
abbrev pub WritesLive : Option (List ℕ) → Option (List ℕ) → ℕ → Result ℕ NoSum → Ending → Type 0
WritesLive old new items (Ok sum) Lived = Appends old new (live_lines items sum)
WritesLive old new items (Ok sum) (Failed Write) = WritesFront old new (live_lines items sum)
WritesLive old new items outcome ending = Keeps old new
