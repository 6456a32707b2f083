-- What a call owes once it is over, whom it wakes, and when it looks and acquires as woken.
use Rattle.std.proofs.Common.{Bool, List, None, Some, [], ap, cond, drop, false, inl, inr, length, refl, slice_get, subst, suc, sym, take, true, ℕ, ◌<◌, ◌∷◌, ◌≡◌, ◌≤◌, ◌⊎◌}
use Rattle.ns_word.proofs.Prelude.{Await, AwaitWakeInWait, Broadcasting, Cv, EachFits, Effect, Event, Every, Flag, ForLock, Found, Idle, InAcquire, InCells, InQueuing, InSignal, InWait, IsLawful, Left, Limits, Lists, LockState, Look, LookIn, LookOut, Made, On, Paid, Part, PayTheWoken, PlaceFits}
use Rattle.ns_word.proofs.Prelude.{QuietCells, QuietLast, Reply, Saw, SeatView, SignalLoad, SignalPlace, Signaling, Step, TakeToWake, Tells, ToTell, Truths, ViewFits, Wait, Waiter, Wake, WakeAndReturn, WakeWaiters, Waking, Walk, Woke, Word, asked_of, broadcast_outside, calls_from_lock, changed}
use Rattle.ns_word.proofs.Prelude.{cvs_without, every_parts, got_of, has_come_back, is_held, is_limited, kept_by, outside, part_of, pays, place_after, signal_outside, standing_after, taken_by, taken_set, times_in, waiters_of, wake_of, want_of, want_signaling, was_woken, ◌∙◌}
use Rattle.ns_word.proofs.Bases.{OnceInEach, moved_at, none_of, place_at, taken_at}
use Rattle.ns_word.proofs.Looks.{look_here, look_in}
use Rattle.ns_word.proofs.Follows.{FoundCalled, follows}
use Rattle.ns_word.proofs.Numbers.{split_at}

-- A seat whose call is over owes nobody a wake.
pub over_owes_nothing : {C : Type 0} {N : ℕ} (truths : Truths C) (seats : ℕ) (h : List (Event C N)) (s : LockState C N) (at : ℕ) (view : SeatView C N) → IsLawful truths seats h s → slice_get s.views at ≡ Some view → view.walk ≡ None → view.owed ≡ []
over_owes_nothing truths seats h s at view lawful here over =
    let fits = (every_parts (ViewFits truths seats (standing_after h) s.row) (take at s.views) view (drop (suc at) s.views) (subst (λ vs. EachFits truths seats (standing_after h) s.row vs) (split_at s.views at view here) lawful.one_history.each)).1 in
    none_of view.owed (fits.owes.0 ∙ ap pays over)

-- What a seat owes tells from where those were taken to whom it is owed.
pub owed_tells : {C : Type 0} {N : ℕ} (truths : Truths C) (seats : ℕ) (h : List (Event C N)) (s : LockState C N) (at : ℕ) (view : SeatView C N) → IsLawful truths seats h s → slice_get s.views at ≡ Some view → Every (Tells (calls_from_lock view.walk)) view.owed
owed_tells truths seats h s at view lawful here =
    (every_parts (ViewFits truths seats (standing_after h) s.row) (take at s.views) view (drop (suc at) s.views) (subst (λ vs. EachFits truths seats (standing_after h) s.row vs) (split_at s.views at view here) lawful.one_history.each)).1.owes.1

-- ---- whom a call wakes

module _ (C : Type 0) (N : ℕ) (truths : Truths C) (seat : ℕ) (waking : Waking) (k : ℕ) where
  -- there are four variables, and no seat stands in the list of one twice
  abbrev IsWhole : Lists C → Type 0
  IsWhole lists = (length lists.cvs ≡ 4) × OnceInEach lists

  -- what a step of such a call commits, and what it leaves of the lists
  abbrev WakesBy : Part C N → Part C N → List (Event C N) → Type 0
  WakesBy old new commits =
      ((commits ≡ []) × (new.lists ≡ old.lists))
      ⊎ ((commits ≡ wake_of seat waking k (taken_by waking (waiters_of old.lists (Cv k))) ∷ []) × (waiters_of new.lists (Cv k) ≡ kept_by waking (waiters_of old.lists (Cv k))))

  -- those who are left stay there
  left_there : (waking : Waking) (ws : List (Waiter C)) → ((seat : ℕ) → times_in seat ws ≤ 1) → outside (taken_set (taken_by waking ws)) ws ≡ kept_by waking ws
  left_there Signaling ws once = signal_outside ws once
  left_there Broadcasting ws once = broadcast_outside ws

  kept_there : (last : Word) (lists : Lists C) → k < 4 → IsWhole lists → waiters_of (changed seat (WakeWaiters waking k) last lists) (Cv k) ≡ kept_by waking (waiters_of lists (Cv k))
  kept_there last lists below whole =
      let taken = taken_by waking (waiters_of lists (Cv k)) in
      moved_at (is_held last) taken (cvs_without (taken_set taken) lists) k
      ∙ taken_at (taken_set taken) k lists whole.0 below ∙ left_there waking (waiters_of lists (Cv k)) (λ seat. whole.1 seat k below)

  wakes_at : (place : SignalPlace) (found : Found) (old new : Part C N) (commits : List (Event C N)) → k < 4 → IsWhole old.lists → Effect truths seat (want_signaling waking k place) old found new commits → WakesBy old new commits
  wakes_at SignalLoad (Saw word) old new commits below four e = inl (e.2, ap (λ p. p.lists) e.1)
  wakes_at (TakeToWake last) (Saw word) old new commits below four e = inl (e.3, ap (λ p. p.lists) e.2)
  wakes_at (TakeToWake last) Made old new commits below four e = inl (e.3, ap (λ p. p.lists) e.2)
  wakes_at (WakeAndReturn last) (Saw word) old new commits below four e = inl (e.3, ap (λ p. p.lists) e.2)
  wakes_at (WakeAndReturn last) Made old new commits below four e = inr (e.3, ap (λ p. waiters_of p.lists (Cv k)) e.2 ∙ kept_there last old.lists below four)
  wakes_at (WakeAndReturn last) (Left stood) old new commits below four e = inr (e.3, ap (λ p. waiters_of p.lists (Cv k)) e.2 ∙ kept_there last old.lists below four)
  wakes_at (WakeAndReturn last) (Woke owes) old new commits below four e = inr (e.3, ap (λ p. waiters_of p.lists (Cv k)) e.2 ∙ kept_there last old.lists below four)
  wakes_at PayTheWoken (Paid owes) old new commits below four e = inl (e.5, ap (λ p. p.lists) e.3)
  wakes_at _ _ old new commits below four e = absurd e

  -- only the place of such a call is asked so
  wakes_by : (walk : Walk C) (found : Found) (old new : Part C N) (commits : List (Event C N)) → asked_of walk ≡ Wake waking k → PlaceFits truths (Some walk) old.held → IsWhole old.lists → Effect truths seat (want_of walk) old found new commits → WakesBy old new commits
  wakes_by (InSignal other j place) found old new commits asked fits four e =
      let one : other ≡ waking = cc in let two : j ≡ k = cc in
      wakes_at place found old new commits (subst (λ n. n < 4) two fits.1) four (subst (λ n. Effect truths seat (want_signaling waking n place) old found new commits) two (subst (λ w. Effect truths seat (want_signaling w j place) old found new commits) one e))
  wakes_by (InAcquire (ForLock mode) place) found old new commits asked fits four e = absurd (cc)
  wakes_by (InCells (QuietCells ToTell i)) found old new commits asked fits four e = absurd (cc)
  wakes_by (InCells (QuietLast ToTell i)) found old new commits asked fits four e = absurd (cc)
  wakes_by walk found old new commits asked fits four e = absurd (cc)

-- A step of a call that wakes commits whom the rule takes, or nothing.
pub wakes_by_rule : {C : Type 0} {N : ℕ} (truths : Truths C) (seats : ℕ) (h : List (Event C N)) (old new : LockState C N) (view : SeatView C N) (found : Found) (commits : List (Event C N)) (waking : Waking) (k : ℕ) →
    (step : Step truths old view found new commits) → IsLawful truths seats h old → asked_of step.walk ≡ Wake waking k →
    WakesBy C N truths view.seat waking k (part_of old view.held view.owed) (part_of new step.held step.owed) commits
wakes_by_rule {C} {N} truths seats h old new view found commits waking k step lawful asked =
    wakes_by C N truths view.seat waking k step.walk found (part_of old view.held view.owed) (part_of new step.held step.owed) commits asked (place_at step seats h step.walk refl lawful) (lawful.waiters_placed.four, lawful.waiters_placed.once) step.effect

-- ---- looks

module _ {C : Type 0} (limits : Limits) (again : Bool) where
  abbrev LooksBy : Walk C → Type 0
  LooksBy walk = (wait : Wait C) × (asked_of walk ≡ Await wait) × (wait.limits ≡ limits) × (again ≡ has_come_back walk)

  pub looks_by_asked : (walk : Walk C) → want_of walk ≡ Look limits again → LooksBy walk
  looks_by_asked walk e = found walk (look_here walk limits again e) where
    found : (walk : Walk C) → look_in walk ≡ Some (limits, again) → LooksBy walk
    found (InWait wait (InQueuing flag LookIn)) is = let same : ◌≡◌ {A = Limits × Bool} (wait.limits, flag) (limits, again) = cc in (wait, refl, ap (λ look. look.0) same, ap (λ look. look.1) (sym same))
    found (InWait wait LookOut) is = let same : ◌≡◌ {A = Limits × Bool} (wait.limits, false) (limits, again) = cc in (wait, refl, ap (λ look. look.0) same, ap (λ look. look.1) (sym same))
    found walk is = absurd (cc)

-- A wait that something may end early looks where it finds its flag set.
pub set_flag_looks : {C : Type 0} (N : ℕ) (wait : Wait C) → is_limited wait.limits ≡ true → (next : Walk C) × (place_after (got_of N (InWait wait AwaitWakeInWait) (Flag 1)) ≡ Some next) × (want_of next ≡ Look wait.limits false)
set_flag_looks N wait e = (InWait wait LookOut, ap (λ b. place_after {R = Reply} (cond b (On (InWait wait LookOut)) (Idle (InWait wait AwaitWakeInWait)))) e, refl)

-- ---- who acquires as woken

-- Who acquires as woken was woken before, or found its flag cleared by a wake from the lock list.
pub woken_was_called : (C : Type 0) (N : ℕ) (walk : Walk C) (found : Found) → was_woken (place_after (got_of N walk found)) ≡ true → (was_woken (Some walk) ≡ true) ⊎ FoundCalled walk found
woken_was_called C N walk found = (follows N walk found).woken
