-- What a fault leaves, and what a write of a whole text answers.
use Rattle.std.proofs.Common.{Err, IfErr, List, Ok, OnErr, OnOk, Option, Result, inl, inr, refl, subst, ℕ, ◌≡◌}
use Rattle.ns_outcomes.proofs.Prelude.{Answers, Appends, BadScript, Fault, Gave, IsAtEnd, IsCountFault, IsDrawFault, IsEnough, IsRefused, IsUndrawn, IsUnscheduled, NotJson, OutOfMemory, Plan, Read, ReplayAnswers, Seeds, StepLimit, TooMany, WasRead, Write, WritesFront, plan_from, ⊤}
use Rattle.ns_replay.specs.declared.path.ScriptPath.TheVariants as at

-- ---- refusals

-- what a replay refuses gives no outcomes either, and no seed is told
pub refused : (seeds : Seeds) (told : Option ℕ) (bytes : List ℕ) (fault : Fault) → IsRefused seeds.limit bytes fault → IsUndrawn seeds told told bytes fault
refused seeds told bytes OutOfMemory h = h
refused seeds told bytes StepLimit h = inl (h, refl)
refused seeds told bytes NotJson h = h
refused seeds told bytes (BadScript path) h = h
refused seeds told bytes (TooMany path) h = h
refused seeds told bytes Read h = h
refused seeds told bytes Write h = h

-- nor does a script whose outcomes aren't counted
pub uncounted : (seeds : Seeds) (before told : Option ℕ) (bytes : List ℕ) (plan : Plan) (fault : Fault) → plan_from bytes ≡ Ok plan → IsCountFault seeds plan told fault → IsUndrawn seeds before told bytes fault
uncounted seeds before told bytes plan OutOfMemory read h = tt
uncounted seeds before told bytes plan StepLimit read h = inr (record { plan = plan; read = read; is = h })
uncounted seeds before told bytes plan NotJson read h = absurd h
uncounted seeds before told bytes plan (BadScript path) read h = absurd h
uncounted seeds before told bytes plan (TooMany path) read h = absurd h
uncounted seeds before told bytes plan Read read h = absurd h
uncounted seeds before told bytes plan Write read h = absurd h

-- a script in which the seed has no run gives no schedule
pub no_run : (limit seed : ℕ) (bytes : List ℕ) (plan : Plan) (fault : Fault) → plan_from bytes ≡ Ok plan → IsDrawFault limit plan seed fault → IsUnscheduled limit seed bytes fault
no_run limit seed bytes plan OutOfMemory read h = tt
no_run limit seed bytes plan StepLimit read h = record { plan = plan; read = read; is = h }
no_run limit seed bytes plan NotJson read h = absurd h
no_run limit seed bytes plan (BadScript path) read h = absurd h
no_run limit seed bytes plan (TooMany path) read h = absurd h
no_run limit seed bytes plan Read read h = absurd h
no_run limit seed bytes plan Write read h = absurd h

-- nor does what a replay refuses
pub unscheduled : (limit seed : ℕ) (bytes : List ℕ) (fault : Fault) → IsRefused limit bytes fault → IsUnscheduled limit seed bytes fault
unscheduled limit seed bytes OutOfMemory h = h
unscheduled limit seed bytes StepLimit h = record { plan = h.plan; read = h.read; is = inl h.needs }
unscheduled limit seed bytes NotJson h = h
unscheduled limit seed bytes Read h = h
unscheduled limit seed bytes Write h = h
unscheduled limit seed bytes (BadScript at.Root) h = inl h
unscheduled limit seed bytes (BadScript at.Schedule) h = h
unscheduled limit seed bytes (BadScript at.Version) h = h
unscheduled limit seed bytes (BadScript at.Counters) h = h
unscheduled limit seed bytes (BadScript (at.Counter i)) h = h
unscheduled limit seed bytes (BadScript at.Onces) h = h
unscheduled limit seed bytes (BadScript at.Variables) h = h
unscheduled limit seed bytes (BadScript at.Threads) h = h
unscheduled limit seed bytes (BadScript (at.Thread t)) h = h
unscheduled limit seed bytes (BadScript (at.Call t c)) h = h
unscheduled limit seed bytes (BadScript (at.Word i)) h = h
unscheduled limit seed bytes (TooMany at.Root) h = inl h
unscheduled limit seed bytes (TooMany at.Schedule) h = inl h
unscheduled limit seed bytes (TooMany at.Version) h = h
unscheduled limit seed bytes (TooMany at.Counters) h = h
unscheduled limit seed bytes (TooMany (at.Counter i)) h = h
unscheduled limit seed bytes (TooMany at.Onces) h = h
unscheduled limit seed bytes (TooMany at.Variables) h = h
unscheduled limit seed bytes (TooMany at.Threads) h = h
unscheduled limit seed bytes (TooMany (at.Thread t)) h = h
unscheduled limit seed bytes (TooMany (at.Call t c)) h = h
unscheduled limit seed bytes (TooMany (at.Word i)) h = h

-- ---- what was not read

answers_by : (old : Option (List ℕ)) (IsSuch : List ℕ → List ℕ → Type 0) (IsWhy : List ℕ → Fault → Type 0) (limit : ℕ) (bytes : List ℕ) (fault : Fault) → ((f : Fault) → IsRefused limit bytes f → IsWhy bytes f)
    → ReplayAnswers old old IsSuch limit bytes (Err fault) → Answers old old IsSuch IsWhy bytes (Err fault)
answers_by old IsSuch IsWhy limit bytes OutOfMemory why h = (why OutOfMemory h.0, h.1)
answers_by old IsSuch IsWhy limit bytes StepLimit why h = (why StepLimit h.0, h.1)
answers_by old IsSuch IsWhy limit bytes NotJson why h = (why NotJson h.0, h.1)
answers_by old IsSuch IsWhy limit bytes (BadScript path) why h = (why (BadScript path) h.0, h.1)
answers_by old IsSuch IsWhy limit bytes (TooMany path) why h = (why (TooMany path) h.0, h.1)
answers_by old IsSuch IsWhy limit bytes Read why h = h
answers_by old IsSuch IsWhy limit bytes Write why h = h

-- Where not all could be read, what a replay answers is answered.
pub unread_by : (old new taken : Option (List ℕ)) (last : ℕ) (IsSuch : List ℕ → List ℕ → Type 0) (IsWhy : List ℕ → Fault → Type 0) (limit : ℕ) (fault : Fault) → ((bytes : List ℕ) (f : Fault) → IsRefused limit bytes f → IsWhy bytes f)
    → Gave old new (λ bytes. IsEnough bytes last × WasRead bytes new (Err fault) × ReplayAnswers taken taken IsSuch limit bytes (Err fault))
    → Gave old new (λ bytes. IsEnough bytes last × WasRead bytes new (Err fault) × Answers taken taken IsSuch IsWhy bytes (Err fault))
unread_by old new taken last IsSuch IsWhy limit fault why (bytes, consumed, (enough, was, answers)) = (bytes, consumed, (enough, was, answers_by taken IsSuch IsWhy limit bytes fault (why bytes) answers))

-- ---- what was written

-- Of a text that the bytes may give, all or a front was written.
pub written : (old new : Option (List ℕ)) (IsSuch : List ℕ → List ℕ → Type 0) (IsWhy : List ℕ → Fault → Type 0) (bytes text : List ℕ) (result : Result ⊤ Fault) → IsSuch bytes text
    → OnOk result (Appends old new text) → OnErr result (WritesFront old new text) → IfErr result (λ fault. fault ≡ Write) → Answers old new IsSuch IsWhy bytes result
written old new IsSuch IsWhy bytes text (Ok done) such all front is = (text, such, all)
written old new IsSuch IsWhy bytes text (Err Write) such all (front, rest, whole, more, appends) is = (front, rest, subst (IsSuch bytes) whole such, more, appends)
written old new IsSuch IsWhy bytes text (Err OutOfMemory) such all front is = absurd cc
written old new IsSuch IsWhy bytes text (Err NotJson) such all front is = absurd cc
written old new IsSuch IsWhy bytes text (Err (BadScript path)) such all front is = absurd cc
written old new IsSuch IsWhy bytes text (Err (TooMany path)) such all front is = absurd cc
written old new IsSuch IsWhy bytes text (Err StepLimit) such all front is = absurd cc
written old new IsSuch IsWhy bytes text (Err Read) such all front is = absurd cc

-- Who only can fail to write has read all.
pub read_all : (bytes : List ℕ) (left : Option (List ℕ)) (result : Result ⊤ Fault) → IsAtEnd left → IfErr result (λ fault. fault ≡ Write) → WasRead bytes left result
read_all bytes left (Ok done) end is = end
read_all bytes left (Err Write) end is = end
read_all bytes left (Err OutOfMemory) end is = absurd cc
read_all bytes left (Err NotJson) end is = absurd cc
read_all bytes left (Err (BadScript path)) end is = absurd cc
read_all bytes left (Err (TooMany path)) end is = absurd cc
read_all bytes left (Err StepLimit) end is = absurd cc
read_all bytes left (Err Read) end is = absurd cc

pub only_write : (P : Type 0) (result : Result ⊤ Fault) → IfErr result (λ fault. (fault ≡ Write) × P) → IfErr result (λ fault. fault ≡ Write)
only_write P (Ok done) h = tt
only_write P (Err fault) h = h.0
