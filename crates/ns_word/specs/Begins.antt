-- How a lock begins, and how a seat's call begins.
use Rattle.std.specs.Prelude.{List, None, Option, Some, [], false, replicate, suc, zero, ℕ, ◌++◌, ◌+◌, ◌∷◌, ◌≡◌}
use Rattle.ns_word.specs.Names.{AcquireLoad, AsFresh, Event, ForLock, Found, GetLoad, InAcquire, InCells, InQueuing, InRelease, InShow, InSignal, InTry, InWait, Load, OnCondition, OnEntry, OnVariables, QuietCells, QuietLast, ReleaseLoad, SeatView, SetLoad, ShowLoad, SignalLoad, Subject, TestCells}
use Rattle.ns_word.specs.Names.{TestLast, Truths, TryLoad, Walk, Word, first_row}
use Rattle.ns_word.specs.Steps.{LockState, Step}
use Rattle.ns_word.specs.Places.{PlaceFits}

-- the word of a free lock for which nobody waits
abbrev pub free_word : Word
free_word = record { write = false; spin = false; waiting = false; desig = false; cond = false; writer_waits = false; all_false = false; long = false; readers = 0 }

-- seats with no call in progress, no section and no wake to pay, numbered from here on
abbrev pub fresh_views : {C : Type 0} {N : ℕ} → ℕ → ℕ → List (SeatView C N)
fresh_views first zero = []
fresh_views first (suc n) = record { seat = first; walk = None; held = None; owed = [] } ∷ fresh_views (first + 1) n

-- a free lock with so many seats, over a row of zeros
abbrev pub fresh_state : {C : Type 0} {N : ℕ} → ℕ → LockState C N
fresh_state {C} {N} seats = record { word = free_word; row = first_row N; lists = record { lock = []; cvs = replicate 4 [] }; flags = λ seat. 0; views = fresh_views 0 seats }

-- the wait is for variables
abbrev pub IsForVariables : {C : Type 0} → Subject C → Type 0
IsForVariables (OnCondition c) = ⊥
IsForVariables (OnVariables variables) = Unit {0}

-- the first place of a call, over a row of N cells; a wait for a condition begins with its test
abbrev pub IsFirst : {C : Type 0} → ℕ → Walk C → Type 0
IsFirst N (InTry mode TryLoad) = Unit {0}
IsFirst N (InAcquire (ForLock mode) (AcquireLoad arrival)) = arrival ≡ AsFresh
IsFirst N (InCells (QuietCells judging i)) = i ≡ 0
IsFirst N (InCells (QuietLast judging i)) = i ≡ 0
IsFirst N (InRelease releasing ReleaseLoad) = Unit {0}
IsFirst N (InCells (GetLoad i)) = Unit {0}
IsFirst N (InCells (SetLoad i v)) = Unit {0}
IsFirst N (InWait wait (TestCells OnEntry i)) = i ≡ 0
IsFirst N (InWait wait (TestLast OnEntry i)) = i ≡ 0
IsFirst N (InWait wait (InQueuing again Load)) = (again ≡ false) × IsForVariables wait.on
IsFirst N (InSignal waking k SignalLoad) = Unit {0}
IsFirst N (InShow ShowLoad) = Unit {0}
IsFirst N walk = ⊥

-- A seat whose last call is over begins one whose need is met: its place in a call changes, and nothing else.
pub record Begins {C : Type 0} {N : ℕ} (truths : Truths C) (old : LockState C N) (view : SeatView C N) (walk : Walk C) (new : LockState C N) : Type 0 where
  pub over : view.walk ≡ None
  pub first : IsFirst N walk
  pub fits : PlaceFits truths (Some walk) view.held
  pub front : List (SeatView C N)
  pub back : List (SeatView C N)
  pub was : old.views ≡ front ++ view ∷ back
  pub becomes : new ≡ record old { views = front ++ record view { walk = Some walk } ∷ back }

-- the same where it may begin none; then nothing changes
abbrev pub BeginsIf : {C : Type 0} {N : ℕ} → Truths C → LockState C N → SeatView C N → Option (Walk C) → LockState C N → Type 0
BeginsIf truths old view None new = new ≡ old
BeginsIf truths old view (Some walk) new = Begins truths old view walk new

-- the seat in the call that it begins, if it begins one
abbrev pub view_in : {C : Type 0} {N : ℕ} → SeatView C N → Option (Walk C) → SeatView C N
view_in view None = view
view_in view (Some walk) = record view { walk = Some walk }

-- A seat makes a step: the next of its call in progress, or the first of a call that it begins at once.
pub record SeatStep {C : Type 0} {N : ℕ} (truths : Truths C) (old : LockState C N) (view : SeatView C N) (begun : Option (Walk C)) (found : Found) (new : LockState C N) (commits : List (Event C N)) : Type 0 where
  pub between : LockState C N
  pub begins : BeginsIf truths old view begun between
  pub step : Step truths between (view_in view begun) found new commits
