-- How a call loads the cells of the row one after another, and what the test of a wait tells.
use Rattle.std.specs.Prelude.{Bool, List, None, Option, Some, false, if◌then◌else◌, length, slice_index, ℕ, ◌-◌, ◌<◌, ◌≡◌}
use Rattle.ns_monitor.specs.Names.{Answered, Await, Bounded, Done, HasMadeSteps, HasMode, HasReached, HasUnchangedQueues, InCells, InQueuing, InRelease, InWait, IsAtPlace, IsAtRest, IsFirst, LoadToScan, Met, Next, OnCondition, OnEntry, OnVariables, PlaceFits, QueueToWait, QuietCells, QuietLast, Reply}
use Rattle.ns_monitor.specs.Names.{ScanAndRelease, ScanCells, SeatOf, Subject, TestCells, TestLast, Truths, Visit, Wait, Waiter, Walk, Word, left_of, load_place, meets_at, quiet_place, row_in, scan_place, test_place, the, unmet_by, wait_first, woken_of}

-- ---- cells one after another

-- how a call loads cells: how many, its place as it is about to load one, and its place once it has loaded them all
pub record Loading (C : Type 0) : Type 0 where
  pub count : ℕ
  pub at : ℕ → Walk C
  pub last : Walk C

-- how the call that stands at such a place loads the cells of a row of N; a test or a judgement leaves the last cell, which tells
abbrev pub loading : {C : Type 0} → ℕ → Walk C → Loading C
loading N (InWait wait (TestCells visit i)) = record { count = N - 1; at = λ k. InWait wait (TestCells visit k); last = InWait wait (TestLast visit (N - 1)) }
loading N (InCells (QuietCells judges i)) = record { count = N - 1; at = λ k. InCells (QuietCells judges k); last = InCells (QuietLast judges (N - 1)) }
loading N (InRelease releasing (ScanCells word i)) = record { count = N; at = λ k. InRelease releasing (ScanCells word k); last = InRelease releasing (ScanAndRelease word) }
loading N (InWait wait (InQueuing again (LoadToScan word i))) =
    record { count = N; at = λ k. InWait wait (InQueuing again (LoadToScan word k)); last = InWait wait (InQueuing again (QueueToWait word)) }
loading N walk = record { count = 0; at = λ k. walk; last = walk }

-- its place once it has loaded so many
abbrev pub loading_at : {C : Type 0} → ℕ → Walk C → ℕ → Walk C
loading_at N (InWait wait (TestCells visit i)) k = test_place N wait visit k
loading_at N (InCells (QuietCells judges i)) k = InCells (quiet_place N judges k)
loading_at N (InRelease releasing (ScanCells word i)) k = InRelease releasing (scan_place N word k)
loading_at N (InWait wait (InQueuing again (LoadToScan word i))) k = InWait wait (InQueuing again (load_place N word k))
loading_at N walk k = walk

-- a call stands at this place, or its seat, at rest, may begin it there
abbrev pub StandsAt : {C : Type 0} {N : ℕ} → Truths C → Option (Walk C) → Walk C → SeatOf C N → Type 0
StandsAt truths None walk me = IsAtPlace truths walk me
StandsAt {C} {N} truths (Some first) walk me = (first ≡ walk) × IsAtRest truths me × IsFirst N first × PlaceFits truths (Some first) (the me.0).at.held

-- the seat has made steps of a call that begins so; or that call is yet to begin, and nothing has changed
abbrev pub HasGone : {C : Type 0} {N : ℕ} → Option (Walk C) → Option (Walk C) → Bounded C N → Bounded C N → Type 0
HasGone begins None old new = HasMadeSteps begins old new
HasGone begins (Some first) old new = (begins ≡ Some first) × (new ≡ old)

-- so many cells of a row of N were read into another
pub record AreRead (N : ℕ) (row read : List ℕ) (count : ℕ) : Type 0 where
  pub width : length read ≡ N
  pub cells : (k : ℕ) → k < count → slice_index read k ≡ slice_index row k

-- A call has loaded so many cells of the section in hand. The section is as it was, nothing was committed, and the queues are as they were, if they are in hand as they stood.
pub record HasLoaded {C : Type 0} {N : ℕ} (truths : Truths C) (begins left : Option (Walk C)) (walk : Walk C) (count : ℕ) (row : List ℕ) (old new : Bounded C N) : Type 0 where
  pub at : StandsAt truths left (loading_at N walk count) new.me
  pub since : HasGone begins left old new
  pub held : (the new.me.0).at.held ≡ (the old.me.0).at.held
  pub mine : (the new.me.0).told.mine ≡ (the old.me.0).told.mine
  pub taken : HasUnchangedQueues old.me → HasUnchangedQueues new.me × ((the new.me.0).stood ≡ (the old.me.0).stood)
  pub read : AreRead N (row_in (the old.me.0).at.held) row count

-- ---- the test of a wait

-- where a wait goes that has tested its condition
abbrev pub tested_by : {C : Type 0} → Wait C → Visit → Bool → Next (Walk C) Reply
tested_by wait visit met = if met then Done (Answered Met) else unmet_by wait visit

-- a wait may test its condition, as it has come back, or as a seat at rest with a section in the wait's mode begins it
abbrev pub MayTest : {C : Type 0} {N : ℕ} → Truths C → Option (Walk C) → Wait C → Visit → SeatOf C N → Type 0
MayTest {C} {N} truths None wait visit me = IsAtPlace truths (test_place N wait visit 0) me
MayTest {C} {N} truths (Some first) wait visit me = (first ≡ wait_first N wait) × (visit ≡ OnEntry) × IsAtRest truths me × HasMode wait.mode (the me.0).at.held

-- a wait has tested its condition, of the row of the section in hand, which was loaded, and has found this; the section is as it was, and nothing was committed
pub record HasTested {C : Type 0} {N : ℕ} (truths : Truths C) (wait : Wait C) (visit : Visit) (c : C) (met : Bool) (row : List ℕ) (me now : SeatOf C N) : Type 0 where
  pub leads : HasReached truths (Await wait) (tested_by wait visit met) now
  pub held : (the now.0).at.held ≡ (the me.0).at.held
  pub mine : (the now.0).told.mine ≡ (the me.0).told.mine
  pub row_is : row ≡ row_in (the me.0).at.held
  pub is : met ≡ truths.holds c row

-- ---- the row of a scan

-- a scan of the lock list at this row takes and leaves the same as one at that
pub record ScansAs {C : Type 0} (truths : Truths C) (row held : List ℕ) (lock : List (Waiter C)) : Type 0 where
  pub woken : woken_of (meets_at truths row) lock ≡ woken_of (meets_at truths held) lock
  pub left : left_of (meets_at truths row) lock ≡ left_of (meets_at truths held) lock

-- A call has the queues in hand as they stood, and a row at which a scan takes and leaves the same as at its section's.
pub record IsReady {C : Type 0} {N : ℕ} (truths : Truths C) (walk : Walk C) (row : List ℕ) (me : SeatOf C N) : Type 0 where
  pub at : IsAtPlace truths walk me
  pub taken : HasUnchangedQueues me
  pub scans : ScansAs truths row (row_in (the me.0).at.held) (the me.0).stood.lock

-- it has made the row ready so, and the lists stood as they do
pub record HasMadeReady {C : Type 0} {N : ℕ} (truths : Truths C) (walk : Walk C) (row : List ℕ) (me now : SeatOf C N) : Type 0 where
  pub ready : IsReady truths walk row now
  pub stood : (the now.0).stood ≡ (the me.0).stood

-- a wait for a condition has this row at hand, since it has tested it; one for variables has none
abbrev pub HasRow : {C : Type 0} → Subject C → List ℕ → List ℕ → Type 0
HasRow (OnCondition c) row held = row ≡ held
HasRow (OnVariables variables) row held = Unit {0}

-- so it has to load it where some waiter has a condition, as the word tells
abbrev pub lacks_row : {C : Type 0} → Subject C → Word → Bool
lacks_row (OnCondition c) word = false
lacks_row (OnVariables variables) word = word.cond
