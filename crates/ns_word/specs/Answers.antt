-- When a wait for a condition has come back, and is about to answer; and what ends it early, once a look has shown that.
use Rattle.ns_word.specs.Names.{Aim, Bool, Cause, ForLock, ForWait, InAcquire, InLeaving, InQueuing, InWait, LookIn, None, OnEntry, OnReturn, Option, Some, TestCells, TestLast, Visit, WaitPlace, Walk, false, true}
use Rattle.ns_word.specs.Waits.{cause_in}

-- the condition is tested after the lock was acquired again
abbrev pub comes_back : Visit → Bool
comes_back OnEntry = false
comes_back (OnReturn outcome) = true

-- the place is one of a wait that has come back with the lock, and hasn't settled whether it is to answer or to queue again
abbrev pub place_has_come_back : WaitPlace → Bool
place_has_come_back (TestCells visit i) = comes_back visit
place_has_come_back (TestLast visit i) = comes_back visit
place_has_come_back (InQueuing again LookIn) = again
place_has_come_back place = false

-- the call is a wait that has come back with the lock, and hasn't settled whether it is to answer or to queue again
abbrev pub has_come_back : {C : Type 0} → Walk C → Bool
has_come_back (InWait wait place) = place_has_come_back place
has_come_back walk = false

-- the same of a seat's place, if it is in a call
abbrev pub is_back : {C : Type 0} → Option (Walk C) → Bool
is_back None = false
is_back (Some walk) = has_come_back walk

-- what ended the wait early that this acquire is for, if it is for one and anything did
abbrev pub cause_for : {C : Type 0} → Aim C → Option Cause
cause_for (ForLock mode) = None
cause_for (ForWait wait outcome) = cause_in outcome

-- what ended the wait early before the condition is tested, if anything did
abbrev pub cause_by : Visit → Option Cause
cause_by OnEntry = None
cause_by (OnReturn outcome) = cause_in outcome

-- what ends the wait early, by its place
abbrev pub place_cause_kept : WaitPlace → Option Cause
place_cause_kept (TestCells visit i) = cause_by visit
place_cause_kept (TestLast visit i) = cause_by visit
place_cause_kept (InLeaving cause place) = Some cause
place_cause_kept place = None

-- what ends the wait early that the call is, by its place: kept while the wait leaves the lock list, acquires the lock again and tests its condition
abbrev pub cause_kept : {C : Type 0} → Walk C → Option Cause
cause_kept (InAcquire aim place) = cause_for aim
cause_kept (InWait wait place) = place_cause_kept place
cause_kept walk = None
