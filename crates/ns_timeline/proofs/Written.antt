-- What a write of a whole text answers and leaves.
use Rattle.std.proofs.Common.{◌≡◌, ℕ, List, Option, Result, Ok, Err, subst}
use Rattle.std.specs.Prelude.{⊤, IfErr, OnErr, OnOk}
use Rattle.std.specs.Io.KnownBytes.{Appends, IsAtEnd}
use Rattle.ns_replay.specs.declared.fault.Fault.{Fault}
use Rattle.ns_replay.specs.declared.fault.Fault.TheVariants.{OutOfMemory, NotJson, BadScript, TooMany, StepLimit, Read, Write}
use Rattle.ns_replay.specs.Replaying.{Answers, WasRead}
use Rattle.ns_replay.specs.Transfer.{WritesFront}

-- Of a text that the bytes may give, all or a front was written.
pub written : (old new : Option (List ℕ)) (IsSuch : List ℕ → List ℕ → Type 0) (limit : ℕ) (bytes text : List ℕ) (result : Result ⊤ Fault) → IsSuch bytes text
    → OnOk result (Appends old new text) → OnErr result (WritesFront old new text) → IfErr result (λ fault. fault ≡ Write) → Answers old new IsSuch limit bytes result
written old new IsSuch limit bytes text (Ok done) such all front is = (text, such, all)
written old new IsSuch limit bytes text (Err Write) such all (front, rest, whole, more, appends) is = (front, rest, subst (IsSuch bytes) whole such, more, appends)
written old new IsSuch limit bytes text (Err OutOfMemory) such all front is = absurd cc
written old new IsSuch limit bytes text (Err NotJson) such all front is = absurd cc
written old new IsSuch limit bytes text (Err (BadScript path)) such all front is = absurd cc
written old new IsSuch limit bytes text (Err (TooMany path)) such all front is = absurd cc
written old new IsSuch limit bytes text (Err StepLimit) such all front is = absurd cc
written old new IsSuch limit bytes text (Err Read) such all front is = absurd cc

-- Who only can fail to write has read all.
pub read_all : (bytes : List ℕ) (left : Option (List ℕ)) (result : Result ⊤ Fault) → IsAtEnd left → IfErr result (λ fault. fault ≡ Write) → WasRead bytes left result
read_all bytes left (Ok done) end is = end
read_all bytes left (Err Write) end is = end
read_all bytes left (Err OutOfMemory) end is = absurd cc
read_all bytes left (Err NotJson) end is = absurd cc
read_all bytes left (Err (BadScript path)) end is = absurd cc
read_all bytes left (Err (TooMany path)) end is = absurd cc
read_all bytes left (Err StepLimit) end is = absurd cc
read_all bytes left (Err Read) end is = absurd cc

pub only_write : (P : Type 0) (result : Result ⊤ Fault) → IfErr result (λ fault. (fault ≡ Write) × P) → IfErr result (λ fault. fault ≡ Write)
only_write P (Ok done) h = tt
only_write P (Err fault) h = h.0
