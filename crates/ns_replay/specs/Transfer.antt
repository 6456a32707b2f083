-- All the bytes of a source, and all the bytes to a sink.
use Rattle.std.specs.Global.{Vec}
use Rattle.std.specs.Io.KnownBytes.{Appends, Consumes, IsAtEnd}
use Rattle.std.specs.Prelude.{Bool, Err, List, Ok, Option, Result, false, length, true, ℕ, ◌++◌, ◌+◌, ◌<◌, ◌≡◌, ◌≤◌, ◌⊎◌}
use Rattle.ns_replay.specs.Names.{Fault, OutOfMemory, Read, TooMany}
use Rattle.ns_replay.specs.Streams.{Counts}
use Rattle.ns_replay.specs.declared.path.ScriptPath.TheVariants as at

-- a script has at most 1 MiB
abbrev pub max_bytes : ℕ
max_bytes = 1048576

-- a source is asked at most so often
abbrev pub max_reads : ℕ
max_reads = 2097152

-- it is asked for so many bytes
abbrev pub max_piece : ℕ
max_piece = 4096

-- the source gave these bytes, where it knows them
abbrev pub Gave : Option (List ℕ) → Option (List ℕ) → (List ℕ → Type 0) → Type 0
Gave old new P = (bytes : List ℕ) × Consumes old new bytes × P bytes

-- Before the last read, which gave so many of these bytes, no more had come than a script may have; and a read gives no more than it is asked for.
pub record IsEnough (bytes : List ℕ) (last : ℕ) : Type 0 where
  pub before : length bytes ≤ max_bytes + last
  pub piece : length bytes ≤ max_bytes + max_piece

-- what was read of a source: all of it, or as much as shows that it is too much
abbrev pub Collects : List ℕ → Option (List ℕ) → Result (Vec ℕ) Fault → Type 0
Collects bytes left (Ok v) = (v.items ≡ bytes) × (length bytes ≤ max_bytes) × IsAtEnd left
Collects bytes left (Err OutOfMemory) = Unit {0}
Collects bytes left (Err Read) = length bytes ≤ max_bytes
Collects bytes left (Err (TooMany at.Root)) = max_bytes < length bytes
Collects bytes left (Err fault) = ⊥

-- a source was asked no more often than it may be
abbrev pub IsAskedEnough : ℕ → ℕ → Type 0
IsAskedEnough before after = (times : ℕ) × (times ≤ max_reads) × Counts before after times

-- how often the end came, where all was to be read
abbrev pub ends_for : {A : Type 0} → Result A Fault → ℕ
ends_for (Ok _) = 1
ends_for (Err _) = 0

-- a read failed, or the last read that is allowed was asked for
abbrev pub IsReadFault : Bool → ℕ → ℕ → Type 0
IsReadFault has_failed before after = (has_failed ≡ true) ⊎ Counts before after max_reads

-- a front of the bytes was taken, but not all
abbrev pub WritesFront : Option (List ℕ) → Option (List ℕ) → List ℕ → Type 0
WritesFront old new bytes = (front : List ℕ) × (rest : List ℕ) × (bytes ≡ front ++ rest) × (0 < length rest) × Appends old new front

-- no write failed, and each took some byte
abbrev pub IsFine : Bool → ℕ → ℕ → Type 0
IsFine has_failed before after = (has_failed ≡ false) × Counts before after 0

-- a write failed, or else one took no byte
abbrev pub IsWriteFault : Bool → ℕ → ℕ → Type 0
IsWriteFault has_failed before after = ((has_failed ≡ true) × Counts before after 0) ⊎ ((has_failed ≡ false) × Counts before after 1)
