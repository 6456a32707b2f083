-- What a read and a write do to the bytes, and what is counted of them.
use Rattle.std.specs.Io.KnownBytes.{Appends, Consumes, IsAtEnd, Keeps}
use Rattle.std.specs.Prelude.{Bool, List, None, Option, Some, false, length, suc, take, true, zero, ℕ, ◌%◌, ◌+◌, ◌^◌, ◌≡◌, ◌≤◌}
use Rattle.ns_replay.specs.Names.{Bytes, Failed, Got, Interrupted}

-- a count went up so many times, modulo 2^64
abbrev pub Counts : ℕ → ℕ → ℕ → Type 0
Counts old new times = new % 2 ^ 64 ≡ (old + times) % 2 ^ 64

-- the buffer begins with the bytes that came; none come only at the end
abbrev pub Reads : Option (List ℕ) → Option (List ℕ) → Got → List ℕ → Type 0
Reads old new (Bytes n) buffer = (n ≤ length buffer) × Consumes old new (take n buffer) × (n ≡ 0 → IsAtEnd new)
Reads old new Interrupted buffer = Keeps old new
Reads old new Failed buffer = Keeps old new

-- the read failed
abbrev pub is_failure : Got → Bool
is_failure (Bytes n) = false
is_failure Interrupted = false
is_failure Failed = true

-- how many bytes a read gave
abbrev pub given : Got → ℕ
given (Bytes n) = n
given Interrupted = 0
given Failed = 0

-- how often a read gave the end
abbrev pub ends_by : Got → ℕ
ends_by (Bytes zero) = 1
ends_by (Bytes (suc n)) = 0
ends_by Interrupted = 0
ends_by Failed = 0

-- the front of the bytes was taken, or the write failed and took none
abbrev pub Writes : Option (List ℕ) → Option (List ℕ) → Option ℕ → List ℕ → Type 0
Writes old new (Some n) bytes = (n ≤ length bytes) × Appends old new (take n bytes)
Writes old new None bytes = Keeps old new

-- the write failed
abbrev pub is_refusal : Option ℕ → Bool
is_refusal (Some n) = false
is_refusal None = true

-- how often a write took no byte, and did not fail
abbrev pub stuck_by : Option ℕ → ℕ
stuck_by (Some zero) = 1
stuck_by (Some (suc n)) = 0
stuck_by None = 0
