-- Faults, their texts, and readings that may fail.
use Rattle.std.specs.Prelude.{Err, List, None, Ok, Option, Result, Some, [], codes, decimal, ℕ, ◌++◌, ◌+◌, ◌∷◌, ◌≡◌}
use Rattle.ns_replay.specs.Names.{BadScript, Fault, NotJson, OutOfMemory, Read, ScriptPath, StepLimit, TooMany, WorldFault, Write}
use Rattle.ns_world.specs.declared.fault.Fault.TheVariants as world
use Rattle.ns_replay.specs.declared.path.ScriptPath.TheVariants as at

-- a path, as it is printed
abbrev pub path_text : ScriptPath → List ℕ
path_text at.Root = codes "/"
path_text at.Version = codes "/version"
path_text at.Counters = codes "/counters"
path_text (at.Counter counter) = codes "/counters/" ++ decimal counter
path_text at.Onces = codes "/onces"
path_text at.Variables = codes "/cvs"
path_text at.Threads = codes "/threads"
path_text (at.Thread thread) = codes "/threads/" ++ decimal thread
path_text (at.Call thread call) = codes "/threads/" ++ decimal thread ++ codes "/" ++ decimal call
path_text at.Schedule = codes "/schedule"
path_text (at.Word word) = codes "/schedule/" ++ decimal word

-- a fault as it prints
abbrev pub fault_text : Fault → List ℕ
fault_text OutOfMemory = codes "refused 2: out of memory"
fault_text NotJson = codes "refused 6: not JSON"
fault_text (BadScript path) = codes "refused 7: bad script at " ++ path_text path
fault_text (TooMany path) = codes "refused 8: too many at " ++ path_text path
fault_text StepLimit = codes "refused 9: step limit"
fault_text Read = codes "fault 10: read"
fault_text Write = codes "fault 11: write"

-- what a world refuses, as a script's fault
abbrev pub fault_of_world : WorldFault → Fault
fault_of_world world.OutOfMemory = OutOfMemory
fault_of_world world.NoSuchSeat = BadScript at.Schedule
fault_of_world world.TooManySeats = TooMany at.Threads
fault_of_world world.StepLimit = StepLimit

-- what was read, read further
infixl 10 ◌>>=◌
abbrev pub ◌>>=◌ : {A B : Type 0} → Result A Fault → (A → Result B Fault) → Result B Fault
(Ok x) >>= f = f x
(Err fault) >>= f = Err fault

-- what is there, or a bad script at the path
abbrev pub need : {A : Type 0} → ScriptPath → Option A → Result A Fault
need path None = Err (BadScript path)
need path (Some x) = Ok x

-- f of each element and its place, from left to right, up to the first fault
abbrev pub each_from : {A B : Type 0} → (ℕ → A → Result B Fault) → ℕ → List A → Result (List B) Fault
each_from f i [] = Ok []
each_from f i (x ∷ xs) = f i x >>= λ y. each_from f (i + 1) xs >>= λ ys. Ok (y ∷ ys)

-- the fault is that of the reading, unless it is want of memory; no run and no stream is at fault
abbrev pub Fails : {Y : Type 0} → Fault → Result Y Fault → Type 0
Fails OutOfMemory reading = Unit {0}
Fails StepLimit reading = ⊥
Fails Read reading = ⊥
Fails Write reading = ⊥
Fails fault reading = reading ≡ Err fault

-- what a function returned, seen by view, is what the reading gives, unless memory ran out
abbrev pub Gives : {X Y : Type 0} → (X → Y) → Result X Fault → Result Y Fault → Type 0
Gives view (Ok x) reading = reading ≡ Ok (view x)
Gives view (Err fault) reading = Fails fault reading
