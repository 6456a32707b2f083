-- Where calls begin, and what acts may be made.
use Rattle.std.proofs.Common.{Bool, IsSome, List, MatchOption, None, Option, Some, [], ap, arith, cond, false, nat_lt, refl, subst, sym, true, ℕ, ◌-◌, ◌<◌, ◌∷◌, ◌≡◌, ◌≤◌}
use Rattle.ns_world.proofs.Prelude.{Act, ActFits, Add, Any, AreVariables, ArmFlag, Broadcast, Call, CallFits, CallInRange, CanLeave, CounterWait, CvWait, Cvs, Doing, Done, Expiry, Fit, Get, HasMode, Held, IfMade, InCells, InQueuing, InWait, IsFirst, IsFirstAsk, IsNoLook}
use Rattle.ns_world.proofs.Prelude.{IsNotified, IsSettled, Limits, Load, LoadFlag, MayWait, Mode, NeedsSection, NewNote, NoteStanding, NoteWait, Notify, ObjectStanding, OnCondition, OnEntry, OnLock, OnNotes, OnObjects, OnVariables, Once, Only, Owed, OwesOne, Part, PayWake}
use Rattle.ns_world.proofs.Prelude.{PlaceFits, QuietCells, QuietLast, RLock, RUnlock, Read, Reader, ReturnQueues, Set, Setup, Signal, Subject, TestCells, TestLast, ToRelease, Truths, TryLock, TryRLock, Unlock, UnlockQuiet, Value, WaitAny, WaitFor, WaitReturning, Write, Writer, asked_of}
use Rattle.ns_world.proofs.Prelude.{asks_for_any, env_asked_of, few, items_of, looks_at, mode_of, mode_waited, nat_tests, note_asked, object_asked, operating_of, quiet_asks, quiet_is_first, some_among, start_of, test_asks, there, wait_first, wait_is_first, waits_for_any, want_of}
use Rattle.ns_world.specs.Prelude.{Lock, Wait}

-- a call that begins where a test says that its need is met
pub begins_where : {C : Type 0} (n : ℕ) (setup : Setup) (notes : ℕ → NoteStanding) (call : Call C) (mode : Option Mode) (met : Bool) (start : Doing C) (r : Option (Doing C)) → r ≡ cond met (Some start) None →
    start ≡ start_of n mode call → (met ≡ true → CallFits setup notes call mode) → (CallFits setup notes call mode → met ≡ true) →
    MatchOption r (CallFits setup notes call mode → ⊥) (λ s. (s ≡ start_of n mode call) × CallFits setup notes call mode)
begins_where n setup notes call mode true start r e is fits needs = subst (λ o. MatchOption o (CallFits setup notes call mode → ⊥) (λ s. (s ≡ start_of n mode call) × CallFits setup notes call mode)) (sym e) (is, fits refl)
begins_where n setup notes call mode false start r e is fits needs = subst (λ o. MatchOption o (CallFits setup notes call mode → ⊥) (λ s. (s ≡ start_of n mode call) × CallFits setup notes call mode)) (sym e) (λ p. let no = needs p in absurd (cc))

-- the first place of a call goes with the seat and the notes
abbrev pub StartFits : {C : Type 0} {N : ℕ} → Truths C → (ℕ → NoteStanding) → Doing C → Option (Held C N) → Type 0
StartFits {C} {N} truths notes (OnLock walk None) held = IsFirst N walk × PlaceFits truths (Some walk) held × IfMade notes (note_asked (asked_of walk)) × (looks_at (want_of walk) ≡ None)
StartFits truths notes (OnNotes walk) held = IsNoLook (env_asked_of walk)
StartFits truths notes (OnObjects walk) held = NeedsSection (object_asked walk) held
StartFits truths notes doing held = ⊥

some_held : {C : Type 0} {N : ℕ} (held : Option (Held C N)) → IsSome (mode_of held) → IsSome held
some_held None some = some
some_held (Some section) some = refl

owes_more : (few many : ℕ) (owed : List Owed) → few ≤ many → OwesOne few owed → OwesOne many owed
owes_more few many [] le p = p
owes_more few many (x ∷ xs) le p = omega (arith, le, p)

module _ {C : Type 0} {N : ℕ} (truths : Truths C) (notes : ℕ → NoteStanding) where
  nothing : (held : Option (Held C N)) → mode_of held ≡ None → held ≡ None
  nothing None e = refl
  nothing (Some held) e = absurd (cc)

  has_mode : (mode : Mode) (held : Option (Held C N)) → mode_of held ≡ Some mode → HasMode mode held
  has_mode mode None e = absurd (cc)
  has_mode mode (Some held) e = cc

  can_write : (held : Option (Held C N)) → mode_of held ≡ Some Write → IsSettled truths held → CanLeave truths Writer held
  can_write None e settled = absurd (cc)
  can_write (Some held) e settled = (cc, tt, settled)

  can_read : (held : Option (Held C N)) → mode_of held ≡ Some Read → IsSettled truths held → CanLeave truths Reader held
  can_read None e settled = absurd (cc)
  can_read (Some held) e settled = (cc, tt, settled)

  quiet_fits : (held : Option (Held C N)) (more : Bool) → nat_lt 0 (N - 1) ≡ more → 1 ≤ N → HasMode Write held → IsSettled truths held →
      StartFits truths notes (OnLock (InCells (cond more (QuietCells ToRelease 0) (QuietLast ToRelease (N - 1)))) None) held
  quiet_fits held true e some mode settled = (refl, ((mode, grind (arith, nat_tests)), settled), tt, refl)
  quiet_fits held false e some mode settled = (grind (arith, nat_tests), ((mode, omega (arith, some)), settled), tt, refl)

  -- a wait in the mode of the section in hand
  abbrev wait_for : Held C N → Subject C → Limits → WaitFor C
  wait_for held on limits = record { mode = held.mode; on = on; limits = limits }

  wait_fits : (c : C) (limits : Limits) (held : Held C N) (more : Bool) → nat_lt 0 (N - 1) ≡ more → 1 ≤ N → IfMade notes limits.note → IsSettled truths (Some held) →
      StartFits truths notes (OnLock (cond more (InWait (wait_for held (OnCondition c) limits) (TestCells OnEntry 0)) (InWait (wait_for held (OnCondition c) limits) (TestLast OnEntry (N - 1)))) None) (Some held)
  wait_fits c limits held true e some made settled = (refl, (((refl, settled), grind (arith, nat_tests), tt), tt), made, refl)
  wait_fits c limits held false e some made settled = (grind (arith, nat_tests), (((refl, settled), omega (arith, some), tt), tt), made, refl)

  cv_wait_fits : (k : ℕ) (limits : Limits) (held : Held C N) → k < 4 → IfMade notes limits.note → IsSettled truths (Some held) →
      StartFits truths notes (OnLock (InWait (wait_for held (OnVariables (Only k)) limits) (InQueuing false Load)) None) (Some held)
  cv_wait_fits k limits held few made settled =
      let may : MayWait truths (wait_for held (OnVariables (Only k)) limits) false held = record { mode = refl; unmet = few; settled = λ e. settled; back = λ e. absurd (cc) } in
      ((refl, tt), ((may, tt), tt), made, refl)

  -- a call whose need is met begins at the first place of a walk: on the lock, at one that goes with the section in hand; on the clock and the notes, at one of a call
  pub start_fits : (setup : Setup) (call : Call C) (held : Option (Held C N)) → 1 ≤ N → CallInRange N call → CallFits setup notes call (mode_of held) → IsSettled truths held → StartFits truths notes (start_of N (mode_of held) call) held
  start_fits setup Lock held some range fits settled = (refl, (nothing held fits, tt, tt), tt, refl)
  start_fits setup RLock held some range fits settled = (refl, (nothing held fits, tt, tt), tt, refl)
  start_fits setup TryLock held some range fits settled = (tt, (nothing held fits, tt), tt, refl)
  start_fits setup TryRLock held some range fits settled = (tt, (nothing held fits, tt), tt, refl)
  start_fits setup Unlock held some range fits settled = (tt, can_write held fits settled, tt, refl)
  start_fits setup RUnlock held some range fits settled = (tt, can_read held fits settled, tt, refl)
  start_fits setup UnlockQuiet held some range fits settled = quiet_fits held (nat_lt 0 (N - 1)) refl some (has_mode Write held fits) settled
  start_fits setup (Get i) None some range fits settled = absurd (cc)
  start_fits setup (Get i) (Some held) some range fits settled = (tt, ((refl, range), settled), tt, refl)
  start_fits setup (Set i v) held some range fits settled = (tt, ((has_mode Write held fits, range), settled), tt, refl)
  start_fits setup (Wait c limits) None some range fits settled = absurd (cc (fits.0))
  start_fits setup (Wait c limits) (Some held) some range fits settled = wait_fits c limits held (nat_lt 0 (N - 1)) refl some fits.1 settled
  start_fits setup (CvWait k limits) None some range fits settled = absurd (cc (fits.0))
  start_fits setup (CvWait k limits) (Some held) some range fits settled = cv_wait_fits k limits held range.0 fits.1 settled
  start_fits setup (Signal k) held some range fits settled = (tt, (tt, range, settled), tt, refl)
  start_fits setup (Broadcast k) held some range fits settled = (tt, (tt, range, settled), tt, refl)
  start_fits setup (WaitAny items deadline) held some range fits settled = λ named. let one = some_among (items_of items) named in some_held held (fits.1 one.0 one.1)
  start_fits setup other held some range fits settled = tt

module _ {C : Type 0} {N : ℕ} (truths : Truths C) where
  -- what may be made by one of few seats may be by one of more
  pub fits_more : (few many seat : ℕ) (act : Act C) (part : Part C N) → few ≤ many → ActFits truths few seat act part → ActFits truths many seat act part
  fits_more few many seat (ReturnQueues change last) part le p = (omega (arith, le, p.0), p.1)
  fits_more few many seat (WaitReturning wait again last) part le p = (p.0, p.1, omega (arith, le, p.2), p.3)
  fits_more few many seat ArmFlag part le p = omega (arith, le, p)
  fits_more few many seat PayWake part le p = owes_more few many part.owed le p
  fits_more few many seat LoadFlag part le p = omega (arith, le, p)
  fits_more few many seat other part le p = p

-- ---- what the first place of a call is to its seat

-- it is a first place
abbrev pub IsFirstAt : {C : Type 0} → ℕ → (ℕ → NoteStanding) → Doing C → Type 0
IsFirstAt N notes (OnLock walk None) = IsFirst N walk
IsFirstAt N notes (OnNotes walk) = IsFirstAsk notes walk
IsFirstAt N notes (OnObjects walk) = Unit {0}
IsFirstAt N notes doing = ⊥

pub first_at : {C : Type 0} (N : ℕ) (setup : Setup) (notes : ℕ → NoteStanding) (mode : Option Mode) (call : Call C) → CallFits setup notes call mode → IsFirstAt N notes (start_of N mode call)
first_at {C} N setup notes mode Lock fits = refl
first_at {C} N setup notes mode RLock fits = refl
first_at {C} N setup notes mode UnlockQuiet fits = quiet_is_first C N ToRelease
first_at {C} N setup notes mode (Wait c limits) fits = wait_is_first N (record { mode = mode_waited mode; on = OnCondition c; limits = limits })
first_at {C} N setup notes mode (CvWait k limits) fits = wait_is_first {C = C} N (record { mode = mode_waited mode; on = OnVariables (Only k); limits = limits })
first_at {C} N setup notes mode (NewNote parent deadline) fits = fits
first_at {C} N setup notes mode (Notify note) fits = fits
first_at {C} N setup notes mode (IsNotified note) fits = fits
first_at {C} N setup notes mode (Expiry note) fits = (refl, refl, fits)
first_at {C} N setup notes mode (NoteWait note deadline) fits = fits
first_at {C} N setup notes mode other fits = tt

-- a call begins at no wait for a set of variables
abbrev pub begins_among : {C : Type 0} → Doing C → Bool
begins_among (OnLock walk wait) = asks_for_any (asked_of walk)
begins_among doing = false

pub start_alone : {C : Type 0} (N : ℕ) (mode : Option Mode) (call : Call C) → begins_among (start_of N mode call) ≡ false
start_alone {C} N mode UnlockQuiet = ap asks_for_any (quiet_asks C N ToRelease 0)
start_alone {C} N mode (Wait c limits) = ap asks_for_any (test_asks C N (record { mode = mode_waited mode; on = OnCondition c; limits = limits }) OnEntry 0)
start_alone N mode other = refl

-- the objects that a call names are there
pub first_fits : {C : Type 0} (N : ℕ) (setup : Setup) (now : ObjectStanding) (notes : ℕ → NoteStanding) (mode : Option Mode) (seat : ℕ) (call : Call C) → CallFits setup notes call mode → Fit setup now notes seat (operating_of (start_of N mode call))
first_fits N setup now notes mode seat (Add counter delta) fits = fits
first_fits N setup now notes mode seat (Value counter) fits = fits
first_fits N setup now notes mode seat (CounterWait counter deadline) fits = fits
first_fits N setup now notes mode seat (Once once) fits = fits
first_fits N setup now notes mode seat (Done once) fits = fits
first_fits N setup now notes mode seat (WaitAny items deadline) fits = (fits.0, tt)
first_fits N setup now notes mode seat other fits = tt

-- a wait for variables begins where there is a section in hand
pub section_fits : {C : Type 0} {N : ℕ} (truths : Truths C) (cvs : Cvs) (held : Option (Held C N)) → IsSome held → AreVariables (Any cvs) → IsSettled truths held → PlaceFits truths (Some (wait_first N (waits_for_any (mode_waited (mode_of held)) cvs))) held
section_fits truths cvs None some there settled = absurd (cc)
section_fits truths cvs (Some section) some there settled =
    let may : MayWait truths (waits_for_any section.mode cvs) false section = record { mode = refl; unmet = there; settled = λ e. settled; back = λ e. absurd (cc) } in
    ((may, tt), tt)
