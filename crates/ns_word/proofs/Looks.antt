-- Which places look, which load their seat's flag, and which acquire.
use Rattle.std.proofs.Common.{Bool, None, Option, Some, ap, false, refl, sym, true, ℕ, ◌≡◌}
use Rattle.ns_word.proofs.Prelude.{Acquire, AcquireExchange, AcquireLoad, Act, Arrival, AsFresh, AwaitWake, AwaitWakeInWait, AwaitWakeToLeave, GetLoad, InAcquire, InCells, InLeaving, InQueuing, InRelease, InShow, InSignal, InTry, InWait, LeaveLoad, Limits, Load, LoadFlag, Look, LookIn, LookOut}
use Rattle.ns_word.proofs.Prelude.{Mode, OnCondition, OnVariables, ReleaseLoad, ShowLoad, SignalLoad, Subject, TestLast, TryAcquire, TryLoad, Walk, Word, has_come_back, judge_of, mode_for, want_of, ◌∙◌}

-- what a look goes by, where the act is one, and whether its wait has come back; whether the act loads the flag; and how it acquires, and by which word, if it does
abbrev pub marks_of : {C : Type 0} → Act C → Option (Limits × Bool) × Bool × Option (Mode × Arrival × Word)
marks_of (Look limits again) = (Some (limits, again), false, None)
marks_of LoadFlag = (None, true, None)
marks_of (Acquire aim arrival last) = (None, false, Some (mode_for aim, arrival, last))
marks_of act = (None, false, None)

-- the look that a place wants, whether it wants its flag, and how it wants to acquire
abbrev pub look_in : {C : Type 0} → Walk C → Option (Limits × Bool)
look_in (InWait wait (InQueuing again LookIn)) = Some (wait.limits, again)
look_in (InWait wait LookOut) = Some (wait.limits, false)
look_in walk = None

abbrev pub flag_in : {C : Type 0} → Walk C → Bool
flag_in (InAcquire aim (AwaitWake tries)) = true
flag_in (InWait wait AwaitWakeInWait) = true
flag_in (InWait wait (InLeaving cause AwaitWakeToLeave)) = true
flag_in walk = false

abbrev pub acquire_in : {C : Type 0} → Walk C → Option (Mode × Arrival × Word)
acquire_in (InTry mode (TryAcquire last)) = Some (mode, AsFresh, last)
acquire_in (InAcquire aim (AcquireExchange arrival last)) = Some (mode_for aim, arrival, last)
acquire_in walk = None

judges : {C : Type 0} (on : Subject C) (i : ℕ) → marks_of (judge_of on i) ≡ (None, false, None)
judges (OnCondition c) i = refl
judges (OnVariables variables) i = refl

-- naming one place of each group makes the last line stand for each of the others
pub marks_at : {C : Type 0} (walk : Walk C) → marks_of (want_of walk) ≡ (look_in walk, flag_in walk, acquire_in walk)
marks_at (InTry mode TryLoad) = refl
marks_at (InAcquire aim (AcquireLoad arrival)) = refl
marks_at (InRelease releasing ReleaseLoad) = refl
marks_at (InCells (GetLoad i)) = refl
marks_at (InWait wait (TestLast visit i)) = judges wait.on i
marks_at (InWait wait (InQueuing again Load)) = refl
marks_at (InWait wait (InLeaving cause LeaveLoad)) = refl
marks_at (InSignal waking k SignalLoad) = refl
marks_at (InShow ShowLoad) = refl
marks_at walk = refl

-- so of an act that is known
pub look_here : {C : Type 0} (walk : Walk C) (limits : Limits) (again : Bool) → want_of walk ≡ Look limits again → look_in walk ≡ Some (limits, again)
look_here walk limits again e = sym (ap (λ marks. marks.0) (marks_at walk)) ∙ ap (λ act. (marks_of act).0) e

pub flag_here : {C : Type 0} (walk : Walk C) → want_of walk ≡ LoadFlag → flag_in walk ≡ true
flag_here walk e = sym (ap (λ marks. marks.1) (marks_at walk)) ∙ ap (λ act. (marks_of act).1) e

-- a look with the section in hand of a wait that has come back
abbrev pub again_by : Option (Limits × Bool) → Bool
again_by None = false
again_by (Some look) = look.1

abbrev pub looks_again : {C : Type 0} → Act C → Bool
looks_again act = again_by (marks_of act).0

pub looks_by : {C : Type 0} (walk : Walk C) → has_come_back walk ≡ false → looks_again (want_of walk) ≡ false
looks_by walk out = ap again_by (ap (λ marks. marks.0) (marks_at walk)) ∙ first walk out where
  first : {C : Type 0} (walk : Walk C) → has_come_back walk ≡ false → again_by (look_in walk) ≡ false
  first (InWait wait (InQueuing again LookIn)) e = e
  first walk e = refl
