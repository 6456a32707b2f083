-- The first place of a call: nothing has been seen, kept or come back yet.
use Rattle.std.proofs.Common.{None, Some, false, refl, ℕ, ◌≡◌}
use Rattle.ns_word.proofs.Prelude.{AcquireLoad, ForLock, InAcquire, InCells, InQueuing, InRelease, InShow, InSignal, InTry, InWait, IsFirst, Load, OnEntry, ReleaseLoad, ShowLoad, SignalLoad, TestCells, TestLast, TryLoad, Walk, cause_kept, has_come_back, word_seen}

-- no word was seen, no cause of a wait's end is kept, and no wait has come back
pub record IsBare {C : Type 0} (walk : Walk C) : Type 0 where
  pub unseen : word_seen (Some walk) ≡ None
  pub unkept : cause_kept walk ≡ None
  pub out : has_come_back walk ≡ false

module _ {C : Type 0} (N : ℕ) where
  pub first_is_bare : (walk : Walk C) → IsFirst N walk → IsBare walk
  first_is_bare (InTry mode TryLoad) p = record { unseen = refl; unkept = refl; out = refl }
  first_is_bare (InAcquire (ForLock mode) (AcquireLoad arrival)) p = record { unseen = refl; unkept = refl; out = refl }
  first_is_bare (InRelease releasing ReleaseLoad) p = record { unseen = refl; unkept = refl; out = refl }
  first_is_bare (InCells place) p = record { unseen = refl; unkept = refl; out = refl }
  first_is_bare (InWait wait (TestCells OnEntry i)) p = record { unseen = refl; unkept = refl; out = refl }
  first_is_bare (InWait wait (TestLast OnEntry i)) p = record { unseen = refl; unkept = refl; out = refl }
  first_is_bare (InWait wait (InQueuing again Load)) p = record { unseen = refl; unkept = refl; out = refl }
  first_is_bare (InSignal waking k SignalLoad) p = record { unseen = refl; unkept = refl; out = refl }
  first_is_bare (InShow ShowLoad) p = record { unseen = refl; unkept = refl; out = refl }
  first_is_bare _ p = absurd p
