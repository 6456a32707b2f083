-- What the steps leave of the waiters: each is its seat's own.
use Rattle.std.proofs.Common.{Bool, List, None, Option, Some, [], ap, arith, cond, eqb-true, false, refl, subst, suc, sym, true, ℕ, ◌++◌, ◌+◌, ◌||◌, ◌∷◌, ◌≡◌}
use Rattle.ns_word.proofs.Prelude.{AwaitWake, Every, InAcquire, InWait, Lists, Mode, Phase, SeatView, VariableWaiterFits, Waiter, WaiterFits, WaitersOwn, WaitersPlaced, Walk, cond_on, counts_in, every-append, every_map, has_eligible, is_eligible, is_long, is_unwoken, left_of, list_any, lock_stance}
use Rattle.ns_word.proofs.Prelude.{mode_for, one_if, or_right, owed_to, place_awaits, queued, times, times_in, waits_in, walk_at, ◌∙◌}
use Rattle.ns_word.proofs.Bases.{Move, counts_none, every_apart, listed_left, listed_queued, news, olds, stance_same, stance_stays, times_scan, walk_is, walk_was}

module _ {C : Type 0} {N : ℕ} (m : Move C N) where
  open m use {who, walk, walk'}

  -- a seat that stands nowhere in the list may go anywhere
  pub own_stays : (ws : List (Waiter C)) → times_in who ws ≡ 0 → WaitersOwn ws (olds m) → WaitersOwn ws (news m)
  own_stays ws none p = every_apart (WaiterFits (olds m)) (WaiterFits (news m)) who ws none (λ w ne fit. ap lock_stance (stance_stays m w.seat ne) ∙ fit) p

  -- and one that stands there may go where it waits in the same mode
  pub own_same : (ws : List (Waiter C)) → waits_in walk' ≡ waits_in walk → WaitersOwn ws (olds m) → WaitersOwn ws (news m)
  own_same ws same p = every_map (WaiterFits (olds m)) (WaiterFits (news m)) (λ w fit. ap lock_stance (stance_same m same w.seat) ∙ fit) ws p

  -- one that isn't due stands nowhere
  pub nowhere : (lists : Lists C) (flags : ℕ → ℕ) → is_unwoken walk (flags who) ≡ false → WaitersPlaced lists flags (olds m) → times who lists ≡ 0
  nowhere lists flags undue p =
      let sum : counts_in who lists + owed_to who (olds m) ≡ 0 = p.placed who ∙ ap (λ w. one_if (is_unwoken w (flags who))) (walk_was m) ∙ ap one_if undue in
      counts_none who lists (omega (arith, sum))

  -- a seat puts itself in
  pub own_queued : (mode : Mode) (c : Option C) (tries : ℕ) (first : Bool) (ws : List (Waiter C)) → times_in who ws ≡ 0 → lock_stance (waits_in walk') ≡ Some (mode, c, tries) →
      WaitersOwn ws (olds m) → WaitersOwn (queued who mode c tries first ws) (news m)
  own_queued mode c tries first ws none waits p =
      let self : WaiterFits (news m) (record { seat = who; mode = mode; cond = c; tries = tries; via = None }) = ap (λ w. lock_stance (waits_in w)) (walk_is m) ∙ waits in
      let rest = own_stays ws none p in
      listed_queued (WaiterFits (news m)) who mode c tries first ws self rest

  -- a scan takes some, and the seat stands nowhere
  pub own_scanned : (meets : C → Bool) (ws : List (Waiter C)) → times_in who ws ≡ 0 → WaitersOwn ws (olds m) → WaitersOwn (left_of meets ws) (news m)
  own_scanned meets ws none p = let parts = times_scan who meets ws in own_stays (left_of meets ws) (omega (arith, parts, none)) (listed_left (WaiterFits (olds m)) meets ws p)

-- those who wait for a variable may stand in the lock list, where they have no condition
pub own_moved : {C : Type 0} {N : ℕ} (phases : ℕ → Phase C) (views : List (SeatView C N)) (k : ℕ) (ws taken : List (Waiter C)) → WaitersOwn ws views → Every (VariableWaiterFits phases views k) taken → WaitersOwn (ws ++ taken) views
own_moved phases views k ws taken p q = every-append (WaiterFits views) ws taken p (plain taken q) where
  plain : (vs : List (Waiter _)) → Every (VariableWaiterFits phases views k) vs → WaitersOwn vs views
  plain [] f = tt
  plain (v ∷ vs) f = (ap lock_stance f.0.stands ∙ (λ i. Some (v.mode, sym f.0.plain i, sym f.0.untried i)), plain vs f.1)

-- one that has failed waits for the lock alone
tried_plain : {C : Type 0} (walk : Option (Walk C)) (mode : Mode) (c : Option C) (tries : ℕ) → lock_stance (waits_in walk) ≡ Some (mode, c, suc tries) → c ≡ None
tried_plain {C} (Some (InAcquire aim (AwaitWake count))) mode c tries e = let same : ◌≡◌ {A = Mode × Option C × ℕ} (mode_for aim, None, count) (mode, c, suc tries) = cc in sym (ap (λ s. s.1) same)
tried_plain {C} (Some (InWait wait place)) mode c tries e = go (place_awaits place) e where
  go : (b : Bool) → lock_stance (cond b (Some (record { mode = wait.mode; on = Some wait.on; tries = 0 })) None) ≡ Some (mode, c, suc tries) → c ≡ None
  go true f = let same : ◌≡◌ {A = Mode × Option C × ℕ} (wait.mode, cond_on (Some wait.on), 0) (mode, c, suc tries) = cc in let never : 0 ≡ suc tries = ap (λ s. s.2) same in absurd (cc)
  go false f = absurd (cc)
tried_plain _ mode c tries e = absurd (cc)

-- so one that has failed too often could go on
pub long_eligible : {C : Type 0} {N : ℕ} (meets : C → Bool) (ws : List (Waiter C)) (views : List (SeatView C N)) → WaitersOwn ws views → list_any is_long ws ≡ true → has_eligible meets ws ≡ true
long_eligible meets [] views p e = absurd (cc)
long_eligible meets (w ∷ ws) views p e = go (long_eligible meets ws views p.1) (is_long w) refl where
  go : (list_any is_long ws ≡ true → has_eligible meets ws ≡ true) → (b : Bool) → is_long w ≡ b → has_eligible meets (w ∷ ws) ≡ true
  go rest true f =
      let thirty : w.tries ≡ 30 = eqb-true w.tries 30 f in
      let none : w.cond ≡ None = tried_plain (walk_at w.seat views) w.mode w.cond 29 (p.0 ∙ ap (λ n. Some (w.mode, w.cond, n)) thirty) in
      rw none refl
  go rest false f = or_right (is_eligible meets w) (has_eligible meets ws) (rest (subst (λ b. (b || list_any is_long ws) ≡ true) f e))
