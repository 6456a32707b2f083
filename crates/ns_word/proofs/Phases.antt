-- A waiter that has a condition is in the wait for it, by the history.
use Rattle.std.proofs.Common.{Bool, List, None, Option, Some, ap, arith, cond, drop, false, refl, slice_get, subst, suc, take, true, ℕ, ◌≡◌, ◌≤◌}
use Rattle.ns_word.proofs.Prelude.{AwaitWake, AwaitWakeInWait, Cond, Event, Held, InAcquire, InLeaving, InWait, IsExpected, IsLawful, LockState, LookOut, Mode, OnCondition, OnVariables, PayInWait, PlaceFits, SeatView, SectionFits, Stance, Standing, Subject, Truths, Wait, WaitFits, WaitPlace, Waiter}
use Rattle.ns_word.proofs.Prelude.{WaiterFits, WaitersOwn, Walk, cond_on, every_parts, expected_for, lock_stance, mode_for, phase_of, place_awaits, standing_after, waits_in, walk_at, ◌∙◌}
use Rattle.ns_word.proofs.Views.{view_with}
use Rattle.ns_word.proofs.Numbers.{split_at}

-- how one waits that waits for this condition in this mode
abbrev pub waiting_for : {C : Type 0} → Mode → C → ℕ → Option (Stance C)
waiting_for mode c tries = Some (record { mode = mode; on = Some (OnCondition c); tries = tries })

module _ {C : Type 0} where
  -- one that stands in the lock list with a condition waits for that
  stance_of : (stance : Option (Stance C)) (mode : Mode) (c : C) (tries : ℕ) → lock_stance stance ≡ Some (mode, Some c, tries) → stance ≡ waiting_for mode c tries
  stance_of None mode c tries e = absurd (cc)
  stance_of (Some stance) mode c tries e =
      let same : ◌≡◌ {A = Mode × Option C × ℕ} (stance.mode, cond_on stance.on, stance.tries) (mode, Some c, tries) = cc in go stance.on (ap (λ s. s.0) same) (ap (λ s. s.1) same) (ap (λ s. s.2) same)
    where
      go : (on : Option (Subject C)) → stance.mode ≡ mode → cond_on on ≡ Some c → stance.tries ≡ tries → ◌≡◌ {A = Option (Stance C)} (Some (record { mode = stance.mode; on = on; tries = stance.tries })) (waiting_for mode c tries)
      go None m f n = absurd (cc)
      go (Some (OnCondition d)) m f n = let same : d ≡ c = cc in λ i. Some (record { mode = m i; on = Some (OnCondition (same i)); tries = n i })
      go (Some (OnVariables variables)) m f n = absurd (cc)

module _ {C : Type 0} {N : ℕ} (truths : Truths C) where
  -- one that waits has no section in hand
  waits_free : (wait : Wait C) (place : WaitPlace) (held : Option (Held C N)) → place_awaits place ≡ true → WaitFits truths wait place held → held ≡ None
  waits_free wait PayInWait held a p = p.0
  waits_free wait AwaitWakeInWait held a p = p.0
  waits_free wait LookOut held a p = p.0
  waits_free wait (InLeaving cause place) held a p = p.0
  waits_free wait _ held a p = absurd (cc)

  module _ (now : Standing C) (row : List ℕ) where
    phase_by_place : (seat : ℕ) (walk : Option (Walk C)) (held : Option (Held C N)) (mode : Mode) (c : C) (tries : ℕ) → waits_in walk ≡ waiting_for mode c tries → PlaceFits truths walk held → SectionFits now row seat walk held → now.phases seat ≡ Cond c mode
    phase_by_place seat (Some (InAcquire aim (AwaitWake count))) held mode c tries e place section =
        let same : ◌≡◌ {A = Stance C} (record { mode = mode_for aim; on = None; tries = count }) (record { mode = mode; on = Some (OnCondition c); tries = tries }) = cc in
        let never : ◌≡◌ {A = Option (Subject C)} None (Some (OnCondition c)) = ap (λ s. s.on) same in absurd (cc)
    phase_by_place seat (Some (InWait wait at_place)) held mode c tries e place section = go (place_awaits at_place) refl e where
      go : (b : Bool) → place_awaits at_place ≡ b → cond b (Some (record { mode = wait.mode; on = Some wait.on; tries = 0 })) None ≡ waiting_for mode c tries → now.phases seat ≡ Cond c mode
      go true a f =
          let same : ◌≡◌ {A = Stance C} (record { mode = wait.mode; on = Some wait.on; tries = 0 }) (record { mode = mode; on = Some (OnCondition c); tries = tries }) = cc in
          let for : ◌≡◌ {A = Option (Subject C)} (Some wait.on) (Some (OnCondition c)) = ap (λ (s : Stance C). s.on) same in
          let on : wait.on ≡ OnCondition c = cc in
          let modes : wait.mode ≡ mode = ap (λ (s : Stance C). s.mode) same in
          subst (λ (x : Mode × Subject C). IsExpected (expected_for x.1 x.0) (now.phases seat)) (λ i. (modes i, on i)) (subst (λ x. SectionFits now row seat (Some (InWait wait at_place)) x) (waits_free wait at_place held a place.0) section)
      go false a f = absurd (cc)
    phase_by_place seat _ held mode c tries e place section = absurd (cc)

module _ {C : Type 0} {N : ℕ} where
  own_at : (ws : List (Waiter C)) (views : List (SeatView C N)) (at : ℕ) (w : Waiter C) → slice_get ws at ≡ Some w → WaitersOwn ws views → WaiterFits views w
  own_at ws views at w found p = (every_parts (WaiterFits views) (take at ws) w (drop (suc at) ws) (subst (λ all. WaitersOwn all views) (split_at ws at w found) p)).1

  -- nobody has failed more than 30 times
  few_tries : (truths : Truths C) (walk : Option (Walk C)) (held : Option (Held C N)) (mode : Mode) (c : Option C) (tries : ℕ) → PlaceFits truths walk held → lock_stance (waits_in walk) ≡ Some (mode, c, tries) → tries ≤ 30
  few_tries truths (Some (InAcquire aim (AwaitWake count))) held mode c tries place e = let same : ◌≡◌ {A = Mode × Option C × ℕ} (mode_for aim, None, count) (mode, c, tries) = cc in subst (λ n. n ≤ 30) (ap (λ s. s.2) same) place.1
  few_tries truths (Some (InWait wait at_place)) held mode c tries place e = go (place_awaits at_place) e where
    go : (b : Bool) → lock_stance (cond b (Some (record { mode = wait.mode; on = Some wait.on; tries = 0 })) None) ≡ Some (mode, c, tries) → tries ≤ 30
    go true f = let same : ◌≡◌ {A = Mode × Option C × ℕ} (wait.mode, cond_on (Some wait.on), 0) (mode, c, tries) = cc in let none : 0 ≡ tries = ap (λ s. s.2) same in omega (arith, none)
    go false f = absurd (cc)
  few_tries truths _ held mode c tries place e = absurd (cc)

  pub waiter_tries : (truths : Truths C) (seats : ℕ) (h : List (Event C N)) (s : LockState C N) (at : ℕ) (w : Waiter C) → IsLawful truths seats h s → slice_get s.lists.lock at ≡ Some w → w.tries ≤ 30
  waiter_tries truths seats h s at w p found =
      let own = own_at s.lists.lock s.views at w found p.waiters_own in
      let view = view_with truths seats (standing_after h) s.row (λ walk. lock_stance (waits_in walk) ≡ Some (w.mode, w.cond, w.tries)) w.seat s.views (λ e. absurd (cc)) p.one_history.each own in
      few_tries truths view.0.walk view.0.held w.mode w.cond w.tries view.3.place view.2

  pub waiter_phase : (truths : Truths C) (seats : ℕ) (h : List (Event C N)) (s : LockState C N) (at : ℕ) (w : Waiter C) (c : C) → IsLawful truths seats h s → slice_get s.lists.lock at ≡ Some w → w.cond ≡ Some c → phase_of h w.seat ≡ Cond c w.mode
  waiter_phase truths seats h s at w c p found e =
      let own = own_at s.lists.lock s.views at w found p.waiters_own in
      let stance = stance_of (waits_in (walk_at w.seat s.views)) w.mode c w.tries (own ∙ ap (λ x. Some (w.mode, x, w.tries)) e) in
      let view = view_with truths seats (standing_after h) s.row (λ walk. waits_in walk ≡ waiting_for w.mode c w.tries) w.seat s.views (λ e. absurd (cc)) p.one_history.each stance in
      subst (λ seat. phase_of h seat ≡ Cond c w.mode) view.1 (phase_by_place truths (standing_after h) s.row view.0.seat view.0.walk view.0.held w.mode c w.tries view.2 view.3.place view.3.section)
