-- What the loops of a call are told of the place at which it stands, and where they lead it.
use Rattle.std.specs.Prelude.{Bool, Err, List, None, Ok, Option, Result, Some, false, [], if◌then◌else◌, not, true, ℕ, ◌<◌, ◌≡◌, ◌≢◌}
use Rattle.ns_monitor.specs.Names.{Acquire, AcquireExchange, AcquireLoad, Acquiring, Act, Aim, Arm, ArmToWait, Arrival, AtLock, Changed, Changing, Done, Flag, Going, HasMadeBoth, HasReached, HasTurned, HasUnchangedQueues, Idle, InAcquire, InLeaving, InQueuing, InRelease, InShow, InSignal, Bounded, HasMadeSteps, found_back}
use Rattle.ns_monitor.specs.Names.{InWait, IsAtPlace, IsOrderly, IsPackable, Leave, LeaveLoad, LeaveSelf, Leaving, Load, LoadFlag, LoadWord, Next, Nothing, On, Owed, Paid, PayWake, Performed, Queue, QueueSelf, QueueToWait, Release, ReleaseExchange, ReleaseLoad, ReleasePlace, Released, Releasing}
use Rattle.ns_monitor.specs.Names.{Reply, ReturnShown, Returning, Saw, ScanAndRelease, SeatOf, SignalLoad, Succeeded, Take, TakeToLeave, TakeToQueue, TakeToScan, TakeToWake, Taking, ToChange, ToQueue, Truths, Turned, Waited, WakeAndReturn, Walk, Word, acquire_by, acquired_for, asked_of, bits_of}
use Rattle.ns_monitor.specs.Names.{called_of, got_of, has_queues, has_some, home_of, may_acquire, meets_at, mode_for, needs_scan, release_by, request_for, row_in, scan_place, the, want_of, woken_of}
use Rattle.ns_word.specs.declared.request.Request.TheVariants as TheRequest
use Rattle.ns_monitor.specs.Several.{HasSeenTrue}

-- the seat has made some steps of one call, and this is so of it then
pub record HasMadeStepsTo {C : Type 0} {N : ℕ} (begun : Option (Walk C)) (to : SeatOf C N → Type 0) (old new : Bounded C N) : Type 0 where
  pub since : HasMadeSteps begun old new
  pub so : to new.me

-- the seat's number, as its caller has it at hand
abbrev pub IsNumberOf : {C : Type 0} {N : ℕ} → ℕ → SeatOf C N → Type 0
IsNumberOf number me = (number ≡ (the me.0).at.seat) × (number < 64)

-- ---- at the flag

-- a call at this place waits until its flag is cleared, and has nothing else to do while it is set
pub record Sleeps {C : Type 0} (N : ℕ) (walk : Walk C) : Type 0 where
  pub loads : want_of walk ≡ LoadFlag
  pub free : has_queues (Some walk) ≡ false
  pub rests : got_of N walk (Flag 1) ≡ Idle walk

-- a call stands where it waits so
pub record SleepsAt {C : Type 0} {N : ℕ} (truths : Truths C) (me : SeatOf C N) : Type 0 where
  pub walk : Walk C
  pub sleeps : Sleeps N walk
  pub at : IsAtPlace truths walk me

-- it has found this value in its flag, which isn't set any more, and goes on as its place says
pub record HasSeenCleared {C : Type 0} {N : ℕ} (truths : Truths C) (flag : ℕ) (me now : SeatOf C N) : Type 0 where
  pub cleared : flag ≢ 1
  pub woken : (walk : Walk C) → Sleeps N walk → IsAtPlace truths walk me → HasReached truths (asked_of walk) (got_of N walk (Flag flag)) now

-- the same of one place
pub record IsWoken {C : Type 0} {N : ℕ} (truths : Truths C) (walk : Walk C) (flag : ℕ) (me : SeatOf C N) : Type 0 where
  pub cleared : flag ≢ 1
  pub woken : HasReached truths (asked_of walk) (got_of N walk (Flag flag)) me

-- a call at this place pays the wakes that it owes, until it owes none
pub record Pays {C : Type 0} (N : ℕ) (walk : Walk C) : Type 0 where
  pub pays : want_of walk ≡ PayWake
  pub free : has_queues (Some walk) ≡ false
  pub more : got_of N walk (Paid true) ≡ On walk

-- a call stands where it pays the wakes that it owes, if it owes any
pub record PaysAt {C : Type 0} {N : ℕ} (truths : Truths C) (me : SeatOf C N) : Type 0 where
  pub walk : Walk C
  pub pays : Pays N walk
  pub at : HasReached truths (asked_of walk) (got_of N walk (Paid (has_some (the me.0).at.owed))) me

-- it has paid them all, and goes on as its place says; where it had seen a legal history in which its own events are just its own, it still has
pub record HasPaid {C : Type 0} {N : ℕ} (truths : Truths C) (me now : SeatOf C N) : Type 0 where
  pub paid : (walk : Walk C) → Pays N walk → HasReached truths (asked_of walk) (got_of N walk (Paid (has_some (the me.0).at.owed))) me → HasReached truths (asked_of walk) (got_of N walk (Paid false)) now
  pub none : (the now.0).at.owed ≡ []
  pub true_to : HasSeenTrue truths me → HasSeenTrue truths now

-- ---- by the word last seen

-- A call loads the word at this place, and goes on by what it sees: an acquire, a release, or one that has to change the lists.
abbrev pub Decides : {C : Type 0} → Walk C → Type 0
Decides (InAcquire aim (AcquireLoad arrival)) = Unit {0}
Decides (InRelease releasing ReleaseLoad) = Unit {0}
Decides (InWait wait (InQueuing again Load)) = Unit {0}
Decides (InWait wait (InLeaving cause LeaveLoad)) = Unit {0}
Decides (InSignal waking k SignalLoad) = Unit {0}
Decides walk = ⊥

-- what it would do without the queues
abbrev pub going_of : {C : Type 0} → Walk C → Going C
going_of (InAcquire aim (AcquireLoad arrival)) = Acquiring aim arrival
going_of (InRelease releasing place) = Leaving releasing
going_of walk = Changing

-- the word last seen lets it
abbrev pub may_go : {C : Type 0} → Going C → Word → Bool
may_go (Acquiring aim arrival) word = may_acquire (mode_for aim) arrival word
may_go (Leaving releasing) word = not (needs_scan releasing word)
may_go Changing word = false

-- by this exchange
abbrev pub going_act : {C : Type 0} → Going C → Word → Act C
going_act (Acquiring aim arrival) last = Acquire aim arrival last
going_act (Leaving releasing) last = Release releasing last
going_act Changing last = LoadWord

-- what it tells the others as it takes the queues
abbrev pub taking_for : {C : Type 0} → Going C → Taking
taking_for (Acquiring aim arrival) = ToQueue (mode_for aim) arrival
taking_for (Leaving releasing) = ToChange
taking_for Changing = ToChange

-- where it stands that is about to go
abbrev pub going_at : {C : Type 0} → Walk C → Word → Walk C
going_at (InAcquire aim (AcquireLoad arrival)) word = InAcquire aim (AcquireExchange arrival word)
going_at (InRelease releasing place) word = InRelease releasing (ReleaseExchange word)
going_at walk word = walk

-- or to take the queues
abbrev pub taking_at : {C : Type 0} → Walk C → Word → Walk C
taking_at (InAcquire aim (AcquireLoad arrival)) word = InAcquire aim (TakeToQueue arrival word)
taking_at (InRelease releasing place) word = InRelease releasing (TakeToScan word)
taking_at (InWait wait (InQueuing again Load)) word = InWait wait (InQueuing again (Take word))
taking_at (InWait wait (InLeaving cause LeaveLoad)) word = InWait wait (InLeaving cause (TakeToLeave word))
taking_at (InSignal waking k SignalLoad) word = InSignal waking k (TakeToWake word)
taking_at walk word = walk

-- where a release goes that has taken the queues at this word: it loads the row where some waiter has a condition
abbrev pub scanning_at : ℕ → Word → ReleasePlace
scanning_at N word = if word.cond then scan_place N word 0 else ScanAndRelease word

-- a call that decides so has seen this word last, and stands where it leads
pub record GoesBy {C : Type 0} {N : ℕ} (truths : Truths C) (walk : Walk C) (going : Going C) (word : Word) (me : SeatOf C N) : Type 0 where
  pub decides : Decides walk
  pub is : going ≡ going_of walk
  pub packs : IsPackable word
  pub at : HasReached truths (asked_of walk) (got_of N walk (Saw word)) me

-- where a call goes that has gone without the queues
abbrev pub gone_to : {C : Type 0} → ℕ → Walk C → Next (Walk C) Reply
gone_to N (InAcquire aim place) = acquired_for N aim
gone_to N (InRelease releasing place) = Done Succeeded
gone_to N walk = Idle walk

-- where it stands that has taken them, at this word
abbrev pub taken_at : {C : Type 0} → ℕ → Walk C → Word → Walk C
taken_at N (InAcquire aim (AcquireLoad arrival)) word = InAcquire aim (Arm arrival word)
taken_at N (InRelease releasing place) word = InRelease releasing (scanning_at N word)
taken_at N (InWait wait (InQueuing again Load)) word = InWait wait (InQueuing again (ArmToWait word))
taken_at N (InWait wait (InLeaving cause LeaveLoad)) word = InWait wait (InLeaving cause (Leave word))
taken_at N (InSignal waking k SignalLoad) word = InSignal waking k (WakeAndReturn word)
taken_at N walk word = walk

-- A call has taken the queues, at a word that has a number and tells whether some waiter has a condition; its section is as it was, and the lists stood orderly.
pub record HasTakenAt {C : Type 0} {N : ℕ} (truths : Truths C) (walk : Walk C) (word : Word) (me now : SeatOf C N) : Type 0 where
  pub at : IsAtPlace truths (taken_at N walk word) now
  pub taken : HasUnchangedQueues now
  pub packs : IsPackable word
  pub held : (the now.0).at.held ≡ (the me.0).at.held
  pub tells : word.cond ≡ (bits_of (the now.0).stood.lock).conditional
  pub orderly : IsOrderly (the now.0).stood

-- it may go without the queues at all
abbrev pub MayGoAlone : {C : Type 0} → Going C → Type 0
MayGoAlone Changing = ⊥
MayGoAlone going = Unit {0}

-- A call has gone by the words that it has seen, or has taken the queues; then this is the word.
abbrev pub WentOrTook : {C : Type 0} {N : ℕ} → Truths C → Walk C → Option Word → SeatOf C N → SeatOf C N → Type 0
WentOrTook {C} {N} truths walk None me now = MayGoAlone (going_of walk) × HasReached truths (asked_of walk) (gone_to N walk) now
WentOrTook truths walk (Some word) me now = HasTakenAt truths walk word me now

-- A call that has begun, and has loaded the word, has gone by it; or it has seen this word last, and stands where its decision leads.
abbrev pub WentAtOnce : {C : Type 0} {N : ℕ} → Truths C → Walk C → Option Word → SeatOf C N → Type 0
WentAtOnce {C} {N} truths walk None now = MayGoAlone (going_of walk) × HasReached truths (asked_of walk) (gone_to N walk) now
WentAtOnce {C} {N} truths walk (Some last) now = IsPackable last × HasReached truths (asked_of walk) (got_of N walk (Saw last)) now

-- A call has begun with a load of the lock word, and has then gone by the word that it found, which let it.
pub record HasGoneBehind {C : Type 0} {N : ℕ} (truths : Truths C) (walk : Walk C) (going : Going C) (me now : SeatOf C N) : Type 0 where
  pub word : Word
  pub may : may_go going word ≡ true
  pub both : HasMadeBoth truths walk word (going_act going word) me now

-- A call has begun with a load of the lock word, which found this word, or has then gone by what it found.
abbrev pub HasBegunBy : {C : Type 0} {N : ℕ} → Truths C → Walk C → Going C → Result Unit Word → SeatOf C N → SeatOf C N → Type 0
HasBegunBy truths walk going (Ok x) me now = HasGoneBehind truths walk going me now
HasBegunBy truths walk going (Err word) me now = IsPackable word × Performed truths (Some walk) LoadWord (Saw word) me now

-- ---- with the queues in hand

-- A call puts the queues back at this place: one that acquires, or that waits, with itself in its list or without, or that releases, or that shows.
abbrev pub PutsBack : {C : Type 0} → Walk C → Type 0
PutsBack (InAcquire aim (Queue arrival last)) = Unit {0}
PutsBack (InRelease releasing (ScanAndRelease last)) = Unit {0}
PutsBack (InWait wait (InQueuing again (QueueToWait last))) = Unit {0}
PutsBack (InWait wait (InLeaving cause (Leave last))) = Unit {0}
PutsBack (InShow (ReturnShown last)) = Unit {0}
PutsBack walk = ⊥

-- what for; another place puts back none
abbrev pub returning_of : {C : Type 0} → Walk C → Returning C
returning_of (InAcquire aim (Queue arrival last)) = Changed (QueueSelf (mode_for aim) arrival)
returning_of (InRelease releasing place) = Released releasing
returning_of (InWait wait (InQueuing again place)) = Waited wait again
returning_of (InWait wait place) = Changed (LeaveSelf (home_of wait.on))
returning_of (InShow place) = Changed Nothing
returning_of walk = Changed (LeaveSelf AtLock)

-- the same place, by another word
abbrev pub returning_at : {C : Type 0} → Walk C → Word → Walk C
returning_at (InAcquire aim (Queue arrival last)) word = InAcquire aim (Queue arrival word)
returning_at (InRelease releasing place) word = InRelease releasing (ScanAndRelease word)
returning_at (InWait wait (InQueuing again place)) word = InWait wait (InQueuing again (QueueToWait word))
returning_at (InWait wait (InLeaving cause place)) word = InWait wait (InLeaving cause (Leave word))
returning_at (InShow place) word = InShow (ReturnShown word)
returning_at walk word = walk

-- the seat has in hand what is put back for this, whatever the word is; this tells of it
abbrev pub HasInHand : {C : Type 0} {N : ℕ} → Truths C → Returning C → Turned → SeatOf C N → Type 0
HasInHand truths returning turned me = (last : Word) → HasTurned truths returning last turned me

-- the wakes that it then owes: those of them whom a scan of the lock list takes at the row of the section in hand
abbrev pub OwesTheWoken : {C : Type 0} {N : ℕ} → Truths C → Returning C → SeatOf C N → List Owed → Type 0
OwesTheWoken truths (Changed change) me owed = Unit {0}
OwesTheWoken truths returning me owed = owed ≡ called_of (woken_of (meets_at truths (row_in (the me.0).at.held)) (the me.0).stood.lock)

-- a call puts the queues back for this at the place where it stands, by the word last seen
pub record PutsBackAt {C : Type 0} {N : ℕ} (truths : Truths C) (returning : Returning C) (last : Word) (me : SeatOf C N) : Type 0 where
  pub walk : Walk C
  pub puts : PutsBack walk
  pub is : returning ≡ returning_of walk
  pub at : IsAtPlace truths (returning_at walk last) me

-- The queues are back, by a word that was as this one but for what others changed: the call goes on as its place says; where it has scanned, it owes the wakes of those whom the scan took; and it has seen a legal history in which its own events are just its own.
pub record HasPutBack {C : Type 0} {N : ℕ} (truths : Truths C) (returning : Returning C) (first : Word) (me now : SeatOf C N) : Type 0 where
  pub returned : (walk : Walk C) → PutsBack walk → returning ≡ returning_of walk → IsAtPlace truths (returning_at walk first) me → HasReached truths (asked_of walk) (got_of N walk (found_back truths returning first me)) now
  pub owes : OwesTheWoken truths returning me (the now.0).at.owed
  pub true_to : HasSeenTrue truths now

-- ---- acquires and releases

-- an acquire has seen this word, and stands where its decision leads
abbrev pub AcquiresBy : {C : Type 0} {N : ℕ} → Truths C → Aim C → Arrival → Word → SeatOf C N → Type 0
AcquiresBy truths aim arrival word me = IsPackable word × HasReached truths (request_for aim) (acquire_by aim arrival word) me

-- an acquire was made: a call that locks is over, and a wait stands where it goes on
abbrev pub HasAcquired : {C : Type 0} {N : ℕ} → Truths C → Aim C → SeatOf C N → Type 0
HasAcquired {C} {N} truths aim me = HasReached truths (request_for aim) (acquired_for N aim) me

-- a release has seen this word, and stands where its decision leads
abbrev pub ReleasesBy : {C : Type 0} {N : ℕ} → Truths C → Releasing → Word → SeatOf C N → Type 0
ReleasesBy truths releasing word me = IsPackable word × HasReached truths (TheRequest.Release releasing) (release_by releasing word) me
