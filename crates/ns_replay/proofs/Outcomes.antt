-- What a fault leaves.
use Rattle.std.proofs.Common.{Err, List, Ok, Option, arith, false, inl, length, nat_lt, refl, true, ℕ, ◌<◌, ◌≡◌, ◌≤◌}
use Rattle.ns_replay.proofs.Prelude.{Answers, BadScript, Collects, Counts, Ended, Fails, Fault, Gave, IsEnough, IsRefused, IsRunFault, Keeps-refl, NotJson, OutOfMemory, Plan, Read, StepLimit, TooMany, WasRead, max_bytes, nat_tests, plan_from, script_of}
use Rattle.ns_replay.specs.declared.path.ScriptPath.TheVariants as at

-- ---- bytes that are not too many

plan_few : (bytes : List ℕ) → length bytes ≤ max_bytes → plan_from bytes ≡ script_of bytes
unfolding plan_from
plan_few bytes few =
    let fits : nat_lt max_bytes (length bytes) ≡ false = grind (arith, nat_tests) in
    rw fits refl

pub plan_read : (bytes : List ℕ) (plan : Plan) → length bytes ≤ max_bytes → script_of bytes ≡ Ok plan → plan_from bytes ≡ Ok plan
plan_read bytes plan few read = rw (plan_few bytes few) read

pub script_refused : (limit : ℕ) (bytes : List ℕ) (fault : Fault) → length bytes ≤ max_bytes → Fails fault (script_of bytes) → IsRefused limit bytes fault
script_refused limit bytes OutOfMemory few h = tt
script_refused limit bytes NotJson few h = rw (plan_few bytes few) h
script_refused limit bytes (BadScript path) few h = rw (plan_few bytes few) h
script_refused limit bytes (TooMany path) few h = rw (plan_few bytes few) h
script_refused limit bytes other few h = absurd h

pub run_refused : (limit : ℕ) (bytes : List ℕ) (plan : Plan) (fault : Fault) → plan_from bytes ≡ Ok plan → IsRunFault limit plan fault → IsRefused limit bytes fault
run_refused limit bytes plan OutOfMemory read h = tt
run_refused limit bytes plan StepLimit read h = record { plan = plan; read = read; needs = h }
run_refused limit bytes plan other read h = absurd h

-- ---- bytes that are too many

too_many : (bytes : List ℕ) → max_bytes < length bytes → plan_from bytes ≡ Err (TooMany at.Root)
unfolding plan_from
too_many bytes lt =
    let many : nat_lt max_bytes (length bytes) ≡ true = grind (arith, nat_tests) in
    rw many refl

not_collected : (taken left : Option (List ℕ)) (IsSuch : List ℕ → List ℕ → Type 0) (limit : ℕ) (bytes : List ℕ) (fault : Fault) → Collects bytes left (Err fault) → Answers taken taken IsSuch limit bytes (Err fault)
not_collected taken left IsSuch limit bytes OutOfMemory h = (tt, Keeps-refl taken)
not_collected taken left IsSuch limit bytes Read h = Keeps-refl taken
not_collected taken left IsSuch limit bytes (TooMany at.Root) h = (too_many bytes h, Keeps-refl taken)
not_collected taken left IsSuch limit bytes (TooMany at.Version) h = absurd h
not_collected taken left IsSuch limit bytes (TooMany at.Counters) h = absurd h
not_collected taken left IsSuch limit bytes (TooMany (at.Counter i)) h = absurd h
not_collected taken left IsSuch limit bytes (TooMany at.Onces) h = absurd h
not_collected taken left IsSuch limit bytes (TooMany at.Variables) h = absurd h
not_collected taken left IsSuch limit bytes (TooMany at.Threads) h = absurd h
not_collected taken left IsSuch limit bytes (TooMany (at.Thread t)) h = absurd h
not_collected taken left IsSuch limit bytes (TooMany (at.Call t c)) h = absurd h
not_collected taken left IsSuch limit bytes (TooMany at.Schedule) h = absurd h
not_collected taken left IsSuch limit bytes (TooMany (at.Word i)) h = absurd h
not_collected taken left IsSuch limit bytes other h = absurd h

-- ---- what was read

-- all of it, or as much as shows that it is too much
read_part : (bytes : List ℕ) (left : Option (List ℕ)) (fault : Fault) → Collects bytes left (Err fault) → WasRead bytes left (Err fault)
read_part bytes left OutOfMemory h = tt
read_part bytes left Read h = h
read_part bytes left (TooMany at.Root) h = inl h
read_part bytes left (TooMany at.Version) h = absurd h
read_part bytes left (TooMany at.Counters) h = absurd h
read_part bytes left (TooMany (at.Counter i)) h = absurd h
read_part bytes left (TooMany at.Onces) h = absurd h
read_part bytes left (TooMany at.Variables) h = absurd h
read_part bytes left (TooMany at.Threads) h = absurd h
read_part bytes left (TooMany (at.Thread t)) h = absurd h
read_part bytes left (TooMany (at.Call t c)) h = absurd h
read_part bytes left (TooMany at.Schedule) h = absurd h
read_part bytes left (TooMany (at.Word i)) h = absurd h
read_part bytes left other h = absurd h

pub unread : (old new taken : Option (List ℕ)) (last : ℕ) (IsSuch : List ℕ → List ℕ → Type 0) (limit : ℕ) (fault : Fault) → Gave old new (λ bytes. IsEnough bytes last × Collects bytes new (Err fault))
    → Gave old new (λ bytes. IsEnough bytes last × WasRead bytes new (Err fault) × Answers taken taken IsSuch limit bytes (Err fault))
unread old new taken last IsSuch limit fault (bytes, consumed, (enough, h)) = (bytes, consumed, (enough, read_part bytes new fault h, not_collected taken new IsSuch limit bytes fault h))

-- ---- whether the end came

-- not where all could not be read
ended_part : (bytes : List ℕ) (left : Option (List ℕ)) (before after : ℕ) (fault : Fault) → Collects bytes left (Err fault) → Counts before after 0 → Ended before after (Err fault)
ended_part bytes left before after OutOfMemory h count = inl count
ended_part bytes left before after Read h count = count
ended_part bytes left before after (TooMany at.Root) h count = inl count
ended_part bytes left before after (TooMany at.Version) h count = absurd h
ended_part bytes left before after (TooMany at.Counters) h count = absurd h
ended_part bytes left before after (TooMany (at.Counter i)) h count = absurd h
ended_part bytes left before after (TooMany at.Onces) h count = absurd h
ended_part bytes left before after (TooMany at.Variables) h count = absurd h
ended_part bytes left before after (TooMany at.Threads) h count = absurd h
ended_part bytes left before after (TooMany (at.Thread t)) h count = absurd h
ended_part bytes left before after (TooMany (at.Call t c)) h count = absurd h
ended_part bytes left before after (TooMany at.Schedule) h count = absurd h
ended_part bytes left before after (TooMany (at.Word i)) h count = absurd h
ended_part bytes left before after other h count = absurd h

pub unended : (old new : Option (List ℕ)) (last before after : ℕ) (fault : Fault) → Gave old new (λ bytes. IsEnough bytes last × Collects bytes new (Err fault)) → Counts before after 0 → Ended before after (Err fault)
unended old new last before after fault (bytes, consumed, (enough, h)) count = ended_part bytes new before after fault h count
