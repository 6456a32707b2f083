-- Where a seat stands that queues, and where those go that a call wakes.
use Rattle.std.proofs.Common.{Bool, List, None, Some, [], ap, arith, cond, false, inl, inr, length, ltb, ltb-false, ltb-true, min, refl, subst, sym, true, ℕ, ◌++◌, ◌+◌, ◌<◌, ◌∷◌, ◌≡◌}
use Rattle.ns_word.proofs.Prelude.{Aim, AreCalled, Arrival, AsFresh, AsWoken, Cv, Event, InAcquire, InQueuing, InSignal, InWait, IsInRange, IsLawful, Lists, LockState, Made, Mode, OnCondition, OnVariables, Queue, QueueSelf, QueueToWait, QueuesFor, Scanned, SeatView, Step, Subject, Truths, Wait}
use Rattle.ns_word.proofs.Prelude.{Waiter, WaitsFor, WakeAndReturn, WakeWaiters, Waking, Woke, Word, cases_Bool, changed, cvs_without, has, is_held, is_woken, left_of, meets_at, mode_for, moved_to, outside, queued, taken_by, taken_set, tries_of, waiter, waiters_of, waits_at, wakes_of, with_lock}
use Rattle.ns_word.proofs.Prelude.{◌∙◌}
use Rattle.ns_word.proofs.Acts.{can_in_range}
use Rattle.ns_word.proofs.Bases.{effect_at, entered_at, moved_at, place_at, taken_at}

-- one try more, and none above 30
one_more : (tries : ℕ) (b : Bool) → ltb tries 30 ≡ b → cond b (tries + 1) 30 ≡ min (tries + 1) 30
one_more tries true e = let less = ltb-true tries 30 e in omega (arith, less)
one_more tries false e = let most = ltb-false tries 30 e in omega (arith, most)

module _ (C : Type 0) (N : ℕ) (truths : Truths C) (seat : ℕ) where
  queues_for : (mode : Mode) (arrival : Arrival) (lock : List (Waiter C)) → QueuesFor seat mode arrival lock (queued seat mode None (tries_of arrival) (is_woken arrival) lock)
  queues_for mode AsFresh lock = refl
  queues_for mode (AsWoken tries) lock = ap (λ n. waiter seat mode None n None ∷ lock) (one_more tries (ltb tries 30) refl)

  waits_for : (mode : Mode) (on : Subject C) (again : Bool) (row : List ℕ) (lists : Lists C) → length lists.cvs ≡ 4 → IsInRange on → WaitsFor truths seat mode on again row lists (waits_at on seat mode again (with_lock lists (left_of (meets_at truths row) lists.lock)))
  waits_for mode (OnCondition c) false row lists four range = (refl, refl)
  waits_for mode (OnCondition c) true row lists four range = (refl, refl)
  waits_for mode (OnVariables variables) again row lists four range =
      let entered = entered_at variables seat mode again (with_lock lists (left_of (meets_at truths row) lists.lock)) four range in
      let stays : (k : ℕ) → List (Waiter C) = λ k. waiters_of lists (Cv k) in
      let one_more : (k : ℕ) → List (Waiter C) = λ k. waiters_of lists (Cv k) ++ waiter seat mode None 0 (Some k) ∷ [] in (
        λ k low. elim (cases_Bool (has variables k)) [
          | inl is ↦ entered.into k low is ∙ sym (ap (λ b. cond b (one_more k) (stays k)) is)
          | inr lacks ↦ entered.others k low lacks ∙ sym (ap (λ b. cond b (one_more k) (stays k)) lacks)
        ],
        entered.lock,
      )

  are_called : (waking : Waking) (k : ℕ) (held : Bool) (lists : Lists C) → let taken = taken_by waking (waiters_of lists (Cv k)) in
      AreCalled held k taken lists.lock (moved_to held taken (cvs_without (taken_set taken) lists)).lock (cond held [] (wakes_of k taken))
  are_called waking k true lists = (refl, refl)
  are_called waking k false lists = (refl, refl)

pub queues_in_place : {C : Type 0} {N : ℕ} (truths : Truths C) (old new : LockState C N) (view : SeatView C N) (commits : List (Event C N)) (aim : Aim C) (arrival : Arrival) (last : Word) → (step : Step truths old view Made new commits) → step.walk ≡ InAcquire aim (Queue arrival last) →
    QueuesFor view.seat (mode_for aim) arrival old.lists.lock new.lists.lock × (new.lists.cvs ≡ old.lists.cvs)
queues_in_place {C} {N} truths old new view commits aim arrival last step walks =
    let e = effect_at step (InAcquire aim (Queue arrival last)) walks in
    let lists : new.lists ≡ changed view.seat (QueueSelf (mode_for aim) arrival) last old.lists = ap (λ p. p.lists) e.2 in
    (subst (λ lock. QueuesFor view.seat (mode_for aim) arrival old.lists.lock lock) (sym (ap (λ l. l.lock) lists)) (queues_for C N truths view.seat (mode_for aim) arrival old.lists.lock), ap (λ l. l.cvs) lists)

pub waits_in_place : {C : Type 0} {N : ℕ} (truths : Truths C) (seats : ℕ) (h : List (Event C N)) (old new : LockState C N) (view : SeatView C N) (commits : List (Event C N)) (wait : Wait C) (again : Bool) (last : Word) (owes : Bool) (tests : ℕ) →
    (step : Step truths old view (Scanned owes tests) new commits) → IsLawful truths seats h old → step.walk ≡ InWait wait (InQueuing again (QueueToWait last)) → WaitsFor truths view.seat wait.mode wait.on again old.row old.lists new.lists
waits_in_place {C} {N} truths seats h old new view commits wait again last owes tests step lawful walks =
    let e = effect_at step (InWait wait (InQueuing again (QueueToWait last))) walks in
    let place = place_at step seats h (InWait wait (InQueuing again (QueueToWait last))) walks lawful in
    let range = can_in_range truths wait again view.held place.0.0 in
    subst (λ lists. WaitsFor truths view.seat wait.mode wait.on again old.row old.lists lists) (sym (ap (λ p. p.lists) e.4)) (waits_for C N truths view.seat wait.mode wait.on again old.row old.lists lawful.waiters_placed.four range)

-- who stays in a variable's list behind a wake
pub stays_behind_wake : {C : Type 0} {N : ℕ} (truths : Truths C) (seats : ℕ) (h : List (Event C N)) (old new : LockState C N) (view : SeatView C N) (commits : List (Event C N)) (waking : Waking) (k : ℕ) (last : Word) (owes : Bool) (j : ℕ) →
    (step : Step truths old view (Woke owes) new commits) → step.walk ≡ InSignal waking k (WakeAndReturn last) →
    IsLawful truths seats h old → j < 4 → waiters_of new.lists (Cv j) ≡ outside (taken_set (taken_by waking (waiters_of old.lists (Cv k)))) (waiters_of old.lists (Cv j))
stays_behind_wake {C} {N} truths seats h old new view commits waking k last owes j step walks lawful low =
    let e = effect_at step (InSignal waking k (WakeAndReturn last)) walks in
    let taken = taken_by waking (waiters_of old.lists (Cv k)) in
    ap (λ p. waiters_of p.lists (Cv j)) e.2 ∙ (moved_at (is_held last) taken (cvs_without (taken_set taken) old.lists) j ∙ taken_at (taken_set taken) j old.lists lawful.waiters_placed.four low)

pub taken_called : {C : Type 0} {N : ℕ} (truths : Truths C) (old new : LockState C N) (view : SeatView C N) (commits : List (Event C N)) (waking : Waking) (k : ℕ) (last : Word) (owes : Bool) →
    (step : Step truths old view (Woke owes) new commits) → step.walk ≡ InSignal waking k (WakeAndReturn last) →
    AreCalled (is_held last) k (taken_by waking (waiters_of old.lists (Cv k))) old.lists.lock new.lists.lock step.owed
taken_called {C} {N} truths old new view commits waking k last owes step walks =
    let e = effect_at step (InSignal waking k (WakeAndReturn last)) walks in
    let taken = taken_by waking (waiters_of old.lists (Cv k)) in
    subst (λ lock. AreCalled (is_held last) k taken old.lists.lock lock step.owed) (sym (ap (λ p. p.lists.lock) e.2)) (subst (λ owed. AreCalled (is_held last) k taken old.lists.lock (changed view.seat (WakeWaiters waking k) last old.lists).lock owed) (sym (ap (λ p. p.owed) e.2))
    (are_called C N truths view.seat waking k (is_held last) old.lists))
