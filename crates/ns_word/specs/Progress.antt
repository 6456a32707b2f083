-- How far calls go on: which steps count, how many are left at most, and what a call pays as it begins.
use Rattle.std.specs.Bool.{beq}
use Rattle.std.specs.Prelude.{Bool, List, None, Option, Some, false, if◌then◌else◌, is_some, length, nat_lt, not, true, ℕ, ◌&&◌, ◌*◌, ◌+◌, ◌-◌, ◌==◌}
use Rattle.ns_word.specs.Names.{Acquire, Act, Aim, Arm, ArmToWait, AwaitWake, AwaitWakeToLeave, Flag, ForLock, ForWait, Found, Idle, InAcquire, InCells, InLeaving, InQueuing, InRelease, InShow, InSignal, InTry, InWait, Judging, Leave, Load, LoadFlag, LoadToScan, LoadWord, Look, LookIn, Looked}
use Rattle.ns_word.specs.Names.{Next, OnCondition, OnEntry, OnReturn, Outcome, Pay, PayTheWoken, Queue, QueueToWait, QuietCells, QuietLast, Release, ReleaseReturning, Reply, ReturnQueues, ReturnShown, ScanAndRelease, ScanCells, SeatView, SetLoad, SetStore, Subject, Take, TakeQueues, TestCells}
use Rattle.ns_word.specs.Names.{TestLast, ToRelease, ToTell, Truths, TryAcquire, TryLoad, Visit, WaitReturning, Waiter, WakeAndReturn, Walk, Woken, Word, one_if, times_in, total}
use Rattle.ns_word.specs.Lawful.{is_armed}
use Rattle.ns_word.specs.Steps.{LockState, meets_at}
use Rattle.ns_word.specs.Walks.{got_of, want_of}

-- ---- which steps count

-- Each step counts, but for a load of the word that finds the queues with another and leaves nothing to do but to load it again, a load of one's own flag that finds it set, and a look of one that waits in its list, or was taken from it, where it shows nothing.
abbrev pub counts_by : {C : Type 0} → Act C → Found → Next (Walk C) Reply → Bool
counts_by LoadWord found (Idle next) = false
counts_by (Look limits again) (Looked None) (Idle next) = false
counts_by LoadFlag (Flag v) next = not (is_armed v)
counts_by act found next = true

-- whether the step counts that the place makes next, where it finds this, over a row of N cells
abbrev pub counts : {C : Type 0} → ℕ → Walk C → Found → Bool
counts N walk found = counts_by (want_of walk) found (got_of N walk found)

-- ---- what is left to a seat, by its place

-- whether it is about to store into the row
abbrev pub will_store : {C : Type 0} → Option (Walk C) → Bool
will_store (Some (InCells (SetLoad i v))) = true
will_store (Some (InCells (SetStore i v))) = true
will_store walk = false

-- A wait that comes back waits again, and releases its section for that, only where it was woken and its condition is false of the row.
abbrev pub waits_again : {C : Type 0} → (C → Bool) → Subject C → Outcome → Bool
waits_again meets (OnCondition c) (Woken by) = not (meets c)
waits_again meets on outcome = false

abbrev pub waits_again_for : {C : Type 0} → (C → Bool) → Aim C → Bool
waits_again_for meets (ForLock mode) = false
waits_again_for meets (ForWait wait outcome) = waits_again meets wait.on outcome

-- one that has just begun may wait
abbrev pub may_wait : {C : Type 0} → (C → Bool) → Subject C → Visit → Bool
may_wait meets on OnEntry = true
may_wait meets on (OnReturn outcome) = waits_again meets on outcome

-- a call that releases a quiet section judges it first
abbrev pub is_to_release : Judging → Bool
is_to_release ToRelease = true
is_to_release ToTell = false

-- Whether it may release a section before its call is over, where it stands in the lock list or not. One that waits there for its condition is taken only where that is true; one that was taken may find it false by now. One that ends early waits no more.
abbrev pub may_release : {C : Type 0} → (C → Bool) → Bool → Option (Walk C) → Bool
may_release meets stands (Some (InAcquire aim place)) = waits_again_for meets aim
may_release meets stands (Some (InRelease releasing Pay)) = false
may_release meets stands (Some (InRelease releasing place)) = true
may_release meets stands (Some (InCells (QuietCells judging i))) = is_to_release judging
may_release meets stands (Some (InCells (QuietLast judging i))) = is_to_release judging
may_release meets stands (Some (InWait wait (TestCells visit i))) = may_wait meets wait.on visit
may_release meets stands (Some (InWait wait (TestLast visit i))) = may_wait meets wait.on visit
may_release meets stands (Some (InWait wait (InQueuing again place))) = true
may_release meets stands (Some (InWait wait (InLeaving cause place))) = false
may_release meets stands (Some (InWait wait place)) = not stands && waits_again meets wait.on (Woken None)
may_release meets stands walk = false

-- steps of its own up to its next acquire or release, or until it rests in a list, but for loads of the word and exchanges that fail
abbrev pub rank : {C : Type 0} → ℕ → Bool → Option (Walk C) → ℕ
rank N stands None = 0
rank N stands (Some (InTry mode TryLoad)) = 2
rank N stands (Some (InTry mode (TryAcquire last))) = 1
rank N stands (Some (InAcquire aim (AwaitWake tries))) = if stands then 0 else 4
rank N stands (Some (InAcquire aim (Arm arrival last))) = 2
rank N stands (Some (InAcquire aim (Queue arrival last))) = 1
rank N stands (Some (InAcquire aim place)) = 3
rank N stands (Some (InRelease releasing (ScanCells last i))) = N - i
rank N stands (Some (InRelease releasing (ScanAndRelease last))) = 0
rank N stands (Some (InRelease releasing Pay)) = 0
rank N stands (Some (InRelease releasing place)) = N + 1
rank N stands (Some (InCells (QuietCells judging i))) = (N - i) + (N + 1)
rank N stands (Some (InCells (QuietLast judging i))) = (N - i) + (N + 1)
rank N stands (Some (InCells (SetStore i v))) = 0
rank N stands (Some (InCells place)) = 1
rank N stands (Some (InWait wait (TestCells visit i))) = (N - i) + (N + 3)
rank N stands (Some (InWait wait (TestLast visit i))) = (N - i) + (N + 3)
rank N stands (Some (InWait wait (InQueuing again LookIn))) = N + 3
rank N stands (Some (InWait wait (InQueuing again Load))) = N + 2
rank N stands (Some (InWait wait (InQueuing again (Take last)))) = N + 2
rank N stands (Some (InWait wait (InQueuing again (ArmToWait last)))) = N + 1
rank N stands (Some (InWait wait (InQueuing again (LoadToScan last i)))) = N - i
rank N stands (Some (InWait wait (InQueuing again (QueueToWait last)))) = 0
rank N stands (Some (InWait wait (InLeaving cause (Leave last)))) = 5
rank N stands (Some (InWait wait (InLeaving cause AwaitWakeToLeave))) = 4
rank N stands (Some (InWait wait (InLeaving cause place))) = 6
rank N stands (Some (InWait wait place)) = 7
rank N stands (Some (InSignal waking k (WakeAndReturn last))) = 1
rank N stands (Some (InSignal waking k PayTheWoken)) = 0
rank N stands (Some (InSignal waking k place)) = 2
rank N stands (Some (InShow (ReturnShown last))) = 1
rank N stands (Some (InShow place)) = 2

-- two words are the same
abbrev pub same_word : Word → Word → Bool
same_word one other =
    beq one.write other.write && (beq one.spin other.spin && (beq one.waiting other.waiting && (beq one.desig other.desig && (beq one.cond other.cond
    && (beq one.writer_waits other.writer_waits && (beq one.all_false other.all_false && (beq one.long other.long && (one.readers == other.readers))))))))

-- an exchange that compares this word: 2 where it will fail, since it leads to a load at most, else 0
abbrev pub stale : Word → Word → ℕ
stale word last = if same_word last word then 0 else 2

-- loads of the word and exchanges that fail, while the word is this
abbrev pub stale_by : {C : Type 0} → Word → Act C → ℕ
stale_by word LoadWord = 1
stale_by word (Acquire aim arrival last) = stale word last
stale_by word (TakeQueues taking last) = stale word last
stale_by word (ReturnQueues change last) = stale word last
stale_by word (Release releasing last) = stale word last
stale_by word (ReleaseReturning releasing last) = stale word last
stale_by word (WaitReturning wait again last) = stale word last
stale_by word act = 0

abbrev pub stale_at : {C : Type 0} → Word → Option (Walk C) → ℕ
stale_at word None = 0
stale_at word (Some walk) = stale_by word (want_of walk)

-- ---- what is left to each, and to all

-- What is left to a seat by its place, in counted steps, for up to 64 seats and 16 cells. What a step may add elsewhere is paid with it: a step of its own pays 200, for the exchanges of 63 others that fail then, 2 each,
-- and for up to 64 wakes that it owes; a release 60000, for an acquire, for 7 steps of its own, and for 4 of each of 63 others whom it wakes; a store 3800001, for a release by each of 63 others.
abbrev pub weigh_at : {C : Type 0} → ℕ → (C → Bool) → Bool → Option (Walk C) → ℕ
weigh_at N meets stands walk = 3800001 * one_if (will_store walk) + 60000 * one_if (may_release meets stands walk) + 200 * rank N stands walk

-- with the loads of the word and exchanges that fail
abbrev pub left_at : {C : Type 0} → ℕ → (C → Bool) → Bool → Word → Option (Walk C) → ℕ
left_at N meets stands word walk = weigh_at N meets stands walk + stale_at word walk

-- whether the seat stands in the lock list
abbrev pub stands_in : {C : Type 0} → List (Waiter C) → ℕ → Bool
stands_in lock seat = nat_lt 0 (times_in seat lock)

-- What is left to a seat. Without a section in hand it may acquire one, which pays 6600, for the test of a condition over 16 cells that may come next. And it has to pay each wake that it owes.
abbrev pub left_to : {C : Type 0} {N : ℕ} → Truths C → LockState C N → SeatView C N → ℕ
left_to {C} {N} truths s view = left_at N (meets_at truths s.row) (stands_in s.lists.lock view.seat) s.word view.walk + 6600 * one_if (not (is_some view.held)) + length view.owed

-- steps that count and are left to all at most, while no call begins
abbrev pub steps_left : {C : Type 0} {N : ℕ} → Truths C → LockState C N → ℕ
steps_left truths s = total (left_to truths s) s.views

-- what a call pays as it begins at this place, over a row of N cells
abbrev pub cost_of : {C : Type 0} → ℕ → Walk C → ℕ
cost_of N walk = weigh_at N (λ c. false) false (Some walk) + 1
