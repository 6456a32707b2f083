-- A scan of the lock list by a release, or by a wait that leaves its section: it takes waiters out of the list, the wait puts itself into its own, the queues go back, and those who were taken are paid their wakes.
use Rattle.std.specs.Prelude.{List, None, [], false, ℕ, ◌≡◌}
use Rattle.ns_monitor.specs.Names.{Bounded, HasMadeSteps, HasReached, InQueuing, InRelease, InWait, IsInRange, IsPackable, Lists, Paid, Pay, PayInWait, QueueToWait, Released, Returning, ScanAndRelease, Scanning, SeatOf, Sought, StandsNowhere, ToRelease, ToWait, Truths, Waited, Walk, Word, asked_of, got_of, sought_at, the, times, waits_at}
use Rattle.ns_monitor.specs.Several.{HasSeenTrue}
use Rattle.ns_monitor.specs.Tests.{IsReady}

-- what the queues are put back for after it
abbrev pub returning_for : {C : Type 0} → Scanning C → Returning C
returning_for (ToRelease releasing) = Released releasing
returning_for (ToWait queuing) = Waited queuing.wait queuing.again

-- where its call stands with a row ready for it, by the word last seen
abbrev pub ready_at : {C : Type 0} → Scanning C → Word → Walk C
ready_at (ToRelease releasing) last = InRelease releasing (ScanAndRelease last)
ready_at (ToWait queuing) last = InWait queuing.wait (InQueuing queuing.again (QueueToWait last))

-- where its call pays the wakes
abbrev pub paying_at : {C : Type 0} → Scanning C → Walk C
paying_at (ToRelease releasing) = InRelease releasing Pay
paying_at (ToWait queuing) = InWait queuing.wait PayInWait

-- the lists once a wait of this seat has queued, if the call is one
abbrev pub entered : {C : Type 0} → Scanning C → ℕ → Lists C → Lists C
entered (ToRelease releasing) seat lists = lists
entered (ToWait queuing) seat lists = waits_at queuing.wait.on seat queuing.wait.mode queuing.again lists

-- a wait is for variables that there are, if it is for variables, and its seat stands in no list
abbrev pub MayScan : {C : Type 0} {N : ℕ} → Scanning C → SeatOf C N → Type 0
MayScan (ToRelease releasing) me = Unit {0}
MayScan (ToWait queuing) me = IsInRange queuing.wait.on × (times (the me.0).at.seat (the me.0).stood ≡ 0)

-- a wait may queue by the lists in hand
abbrev pub MayEnter : {C : Type 0} {N : ℕ} → Scanning C → SeatOf C N → Type 0
MayEnter (ToRelease releasing) me = Unit {0}
MayEnter (ToWait queuing) me = IsInRange queuing.wait.on × StandsNowhere (the me.0).at.seat me

-- A call has the queues in hand as they stood, taken at this word, and a row ready for its scan. At this row the scan takes readers, and this is what the search of the lock list finds, which ends at the first of them.
pub record FindsReaders {C : Type 0} {N : ℕ} (truths : Truths C) (scanning : Scanning C) (word : Word) (row : List ℕ) (sought : Sought) (me : SeatOf C N) : Type 0 where
  pub packs : IsPackable word
  pub may : MayScan scanning me
  pub ready : IsReady truths (ready_at scanning word) row me
  pub found : sought ≡ sought_at truths row (the me.0).stood

-- The queues are back, the section is released or left, and each wake that was owed is paid.
pub record HasScanned {C : Type 0} {N : ℕ} (truths : Truths C) (scanning : Scanning C) (old new : Bounded C N) : Type 0 where
  pub since : HasMadeSteps None old new
  pub paid : HasReached truths (asked_of (paying_at scanning)) (got_of N (paying_at scanning) (Paid false)) new.me
  pub none : (the new.me.0).at.owed ≡ []
  pub true_to : HasSeenTrue truths new.me
