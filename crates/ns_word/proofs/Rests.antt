-- Where nothing is left to any seat but to look again, each call in progress has a reason to wait.
use Rattle.std.proofs.Common.{Bool, IsSome, List, None, Option, Some, [], ap, arith, cond, eq-eqb, eqb-true, false, inl, inr, is_some, lt-ltb, ltb, ltb-true, ne_eqb, not, refl, subst, sym, true, ℕ, ◌&&◌, ◌+◌, ◌∷◌, ◌≡◌, ◌≢◌, ◌≤◌, ◌⊎◌}
use Rattle.ns_word.proofs.Prelude.{AcquireExchange, AcquireLoad, Act, AsFresh, AwaitWake, AwaitWakeInWait, AwaitWakeToLeave, Busy, Cause, Done, Effect, Event, Every, Flag, Found, GetLoad, HasOne, Held, Idle, InAcquire, InCells, InLeaving, InQueuing, InRelease, InShow, InSignal, InTry, InWait}
use Rattle.ns_word.proofs.Prelude.{IsLawful, LeaveLoad, Limits, Load, LoadFlag, LoadWord, LockState, Look, LookIn, LookOut, Looked, Next, On, OnCondition, OnVariables, Part, PlaceFits, ReleaseExchange, ReleaseLoad, Reply, Saw, SeatView, ShowLoad, SignalLoad, Step, Subject, Take, TakeToLeave}
use Rattle.ns_word.proofs.Prelude.{TakeToQueue, TakeToScan, TakeToShow, TakeToWake, TestLast, Truths, TryLoad, ViewFits, Visit, Wait, Walk, Word, and_parts, awaits, both_ways, called_to, cases_Bool, cases_eq, counts_in, every_map, false_from_ne_true, got_of, has_queues, is_armed, is_held}
use Rattle.ns_word.proofs.Prelude.{is_on_way, is_reading, is_writing, judge_of, may_acquire, mode_for, needs_scan, one_if, or_cases, or_parts, owed_in, owed_to, part_of, pays, readers, standing_after, takers, times_among, total, walk_at, want_of, was_woken, writers, ◌∙◌}
use Rattle.ns_word.specs.Progress.{counts, counts_by}
use Rattle.ns_model.proofs.Tallies.{every_both}
use Rattle.ns_word.specs.Rests.{AllRest, HasReason, IsIdleLook, WaitsInList, is_idle, rests_at, rests_by}
use Rattle.ns_word.proofs.Listed.{none_of}
use Rattle.ns_word.proofs.Others.{every_at}
use Rattle.ns_word.proofs.Ranks.{either}
use Rattle.ns_word.proofs.Views.{called_most}

-- ---- one place

-- no test is a look
tests_on : {C : Type 0} (N : ℕ) (word : Word) (flag : ℕ) (wait : Wait C) (visit : Visit) (i : ℕ) (on : Subject C) → rests_by N word flag (InWait wait (TestLast visit i)) (judge_of on i) ≡ false
tests_on N word flag wait visit i (OnCondition c) = refl
tests_on N word flag wait visit i (OnVariables variables) = refl

module _ {C : Type 0} {M : ℕ} (truths : Truths C) (N : ℕ) (word : Word) (flag : ℕ) where
  -- a call waits, wasn't woken, and has its flag set and no section in hand
  abbrev Waits : Option (Walk C) → Option (Held C M) → Type 0
  Waits walk held = (awaits walk ≡ true) × (was_woken walk ≡ false) × (flag ≡ 1) × (held ≡ None)

  -- At rest a seat has no queues and pays no wake; while nobody has the queues, it waits, if it is in a call.
  pub record Rests (walk : Option (Walk C)) (held : Option (Held C M)) : Type 0 where
    pub untaken : has_queues walk ≡ false
    pub unpaying : pays walk ≡ false
    pub waits : word.spin ≡ false → (walk ≡ None) ⊎ Waits walk held

  -- a decision idles only while another has the queues
  idles_there : (walk : Option (Walk C)) (held : Option (Held C M)) (first idle last : Next (Walk C) Reply) (may : Bool) → has_queues walk ≡ false → pays walk ≡ false → is_idle first ≡ false → is_idle last ≡ false →
      is_idle (cond may first (cond word.spin idle last)) ≡ true → Rests walk held
  idles_there walk held first idle last may q p f l r = record { untaken = q; unpaying = p; waits = λ clear. absurd (both_ways (is_idle (cond may first (cond word.spin idle last))) (by may word.spin clear) r) } where
    by : (may spin : Bool) → spin ≡ false → is_idle (cond may first (cond spin idle last)) ≡ false
    by true spin clear = f
    by false true clear = absurd (cc)
    by false false clear = l

  -- who waits finds its flag set
  waits_there : (walk : Walk C) (held : Option (Held C M)) → has_queues (Some walk) ≡ false → pays (Some walk) ≡ false → awaits (Some walk) ≡ true → was_woken (Some walk) ≡ false → held ≡ None → is_armed flag ≡ true → Rests (Some walk) held
  waits_there walk held q p w n none set = record { untaken = q; unpaying = p; waits = λ clear. inr (w, n, eqb-true flag 1 set, none) }

  pub call_rests : (walk : Option (Walk C)) (held : Option (Held C M)) → PlaceFits truths walk held → rests_at N word flag walk ≡ true → Rests walk held
  call_rests None held fits r = record { untaken = refl; unpaying = refl; waits = λ clear. inl refl }
  call_rests (Some (InTry mode TryLoad)) held fits r = absurd (both_ways _ (either (λ (next : Next (Walk C) Reply). is_idle next ≡ false) (may_acquire mode AsFresh word) (λ e. refl) (λ e. refl)) r)
  call_rests (Some (InAcquire aim (AcquireLoad arrival))) held fits r =
      idles_there _ held (On (InAcquire aim (AcquireExchange arrival word))) (Idle (InAcquire aim (AcquireLoad arrival))) (On (InAcquire aim (TakeToQueue arrival word))) (may_acquire (mode_for aim) arrival word) refl refl refl refl r
  call_rests (Some (InAcquire aim (AwaitWake tries))) held fits r = waits_there (InAcquire aim (AwaitWake tries)) held refl refl refl refl fits.0 r
  call_rests (Some (InRelease releasing ReleaseLoad)) held fits r =
      idles_there _ held (On (InRelease releasing (ReleaseExchange word))) (Idle (InRelease releasing ReleaseLoad)) (On (InRelease releasing (TakeToScan word))) (not (needs_scan releasing word)) refl refl refl refl r
  call_rests (Some (InCells (GetLoad i))) held fits r = absurd (cc)
  call_rests (Some (InWait wait (TestLast visit i))) held fits r = absurd (both_ways _ (tests_on N word flag wait visit i wait.on) r)
  call_rests (Some (InWait wait (InQueuing again Load))) held fits r =
      idles_there _ held (Done Busy) (Idle (InWait wait (InQueuing again Load))) (On (InWait wait (InQueuing again (Take word)))) false refl refl refl refl r
  call_rests (Some (InWait wait AwaitWakeInWait)) held fits r = waits_there (InWait wait AwaitWakeInWait) held refl refl refl refl fits.0.0 r
  call_rests (Some (InWait wait LookOut)) held fits r = waits_there (InWait wait LookOut) held refl refl refl refl fits.0.0 (and_parts (is_armed flag) true r).0
  call_rests (Some (InWait wait (InQueuing again LookIn))) held fits r = absurd (both_ways false refl (and_parts (is_armed flag) false r).1)
  call_rests (Some (InWait wait (InLeaving cause LeaveLoad))) held fits r =
      idles_there _ held (Done Busy) (Idle (InWait wait (InLeaving cause LeaveLoad))) (On (InWait wait (InLeaving cause (TakeToLeave word)))) false refl refl refl refl r
  call_rests (Some (InWait wait (InLeaving cause AwaitWakeToLeave))) held fits r = waits_there (InWait wait (InLeaving cause AwaitWakeToLeave)) held refl refl refl refl fits.0.0 r
  call_rests (Some (InSignal waking k SignalLoad)) held fits r = idles_there _ held (Done Busy) (Idle (InSignal waking k SignalLoad)) (On (InSignal waking k (TakeToWake word))) false refl refl refl refl r
  call_rests (Some (InShow ShowLoad)) held fits r = idles_there _ held (Done Busy) (Idle (InShow ShowLoad)) (On (InShow (TakeToShow word))) false refl refl refl refl r
  call_rests _ held fits r = absurd (cc)

-- ---- all seats

module _ {C : Type 0} {N : ℕ} where
  nothing : (f : SeatView C N → ℕ) (views : List (SeatView C N)) → Every (λ view. f view ≡ 0) views → total f views ≡ 0
  nothing f [] p = refl
  nothing f (u ∷ views) p = omega (arith, p.0, nothing f views p.1)

  -- where no seat owes a wake, none is owed
  nothing_owed : (views : List (SeatView C N)) → Every (λ view. view.owed ≡ []) views → owed_in views ≡ []
  nothing_owed [] p = refl
  nothing_owed (u ∷ views) p = rw p.0 (nothing_owed views p.1)

  owed_nobody : (seat : ℕ) (views : List (SeatView C N)) → Every (λ view. view.owed ≡ []) views → owed_to seat views ≡ 0
  owed_nobody seat views p = nothing (λ view. times_among seat view.owed) views (every_map _ _ (λ view e. ap (times_among seat) e) views p)

  -- what holds of each view's seat and place holds of each seat
  at_each : (P : ℕ → Option (Walk C) → Type 0) → ((seat : ℕ) → P seat None) → (seat : ℕ) (views : List (SeatView C N)) → Every (λ view. P view.seat view.walk) views → P seat (walk_at seat views)
  at_each P none seat [] p = none seat
  at_each P none seat (u ∷ views) p = elim (cases_eq u.seat seat) [
    | inl e ↦ subst (λ b. P seat (cond b u.walk (walk_at seat views))) (sym (eq-eqb u.seat seat e)) (subst (λ s. P s u.walk) e p.0)
    | inr ne ↦ subst (λ b. P seat (cond b u.walk (walk_at seat views))) (sym (ne_eqb u.seat seat ne)) (at_each P none seat views p.1)
  ]

  holds_none : (held : Option (Held C N)) → is_some held ≡ false → (one_if (is_writing held) ≡ 0) × (one_if (is_reading held) ≡ 0)
  holds_none None e = (refl, refl)
  holds_none (Some held) e = absurd (cc)

  -- somebody has a section in hand where one is counted
  some_holder : (views : List (SeatView C N)) → 1 ≤ writers views + readers views → HasOne (λ view. IsSome view.held) views
  some_holder [] some = absurd (omega (arith, some))
  some_holder (u ∷ views) some = elim (cases_Bool (is_some u.held)) [
    | inl here ↦ inl here
    | inr none ↦ let counted = holds_none u.held none in inr (some_holder views (omega (arith, some, counted.0, counted.1)))
  ]

  one_of_each : (P Q R : SeatView C N → Type 0) → ((view : SeatView C N) → P view → Q view → R view) → (views : List (SeatView C N)) → Every P views → HasOne Q views → HasOne R views
  one_of_each P Q R f [] p one = absurd one
  one_of_each P Q R f (u ∷ views) p (inl here) = inl (f u p.0 here)
  one_of_each P Q R f (u ∷ views) p (inr there) = inr (one_of_each P Q R f views p.1 there)

module _ {C : Type 0} {N : ℕ} (truths : Truths C) (seats : ℕ) (h : List (Event C N)) (s : LockState C N) (p : IsLawful truths seats h s) (rest : AllRest s) where
  abbrev views : List (SeatView C N)
  views = s.views

  each_rests : Every (λ view. Rests truths N s.word (s.flags view.seat) view.walk view.held) views
  each_rests = every_both (ViewFits truths seats (standing_after h) s.row) _ _ (λ view fits r. call_rests truths N s.word (s.flags view.seat) view.walk view.held fits.place r) views p.one_history.each rest

  untaken : s.word.spin ≡ false
  untaken = elim (cases_Bool s.word.spin) [
    | inl set ↦
        let none = nothing (λ view. one_if (has_queues view.walk)) views (every_map _ _ (λ view rests. ap one_if rests.untaken) views each_rests) in
        let one : takers views ≡ 1 = p.spin_held_once ∙ ap (λ b. cond b 1 0) set in absurd (omega (arith, none, one))
    | inr clear ↦ clear
  ]

  nobody_owes : Every (λ view. view.owed ≡ []) views
  nobody_owes = every_both (ViewFits truths seats (standing_after h) s.row) _ _ (λ view fits rests. none_of view.owed (fits.owes.0 ∙ rests.unpaying)) views p.one_history.each each_rests

  -- a seat is in no call, or waits with its flag set
  abbrev Stays : ℕ → Option (Walk C) → Type 0
  Stays seat walk = (walk ≡ None) ⊎ ((awaits walk ≡ true) × (was_woken walk ≡ false) × (s.flags seat ≡ 1))

  nobody_on_way : (seat : ℕ) → is_on_way (walk_at seat views) (s.flags seat) (called_to seat views) ≡ false
  nobody_on_way seat = go (walk_at seat views) (at_each Stays (λ seat. inl refl) seat views (every_map _ (λ view. Stays view.seat view.walk) (λ view rests. elim (rests.waits untaken) [ inl none ↦ inl none | inr is ↦ inr (is.0, is.1, is.2) ]) views each_rests)) where
    none_called : called_to seat views ≡ 0
    none_called = let most = called_most seat views in let none = owed_nobody seat views nobody_owes in omega (arith, most, none)

    go : (walk : Option (Walk C)) → Stays seat walk → is_on_way walk (s.flags seat) (called_to seat views) ≡ false
    go walk (inl none) = rw none refl
    go walk (inr is) = rw (is.0, is.1, is.2, none_called) refl

  undesignated : s.word.desig ≡ false
  undesignated = false_from_ne_true s.word.desig (λ set. let one = p.desig_on_its_way set in absurd (both_ways _ (nobody_on_way one.0) one.1))

  listed : (view : SeatView C N) → walk_at view.seat views ≡ view.walk → (view.walk ≡ None) ⊎ Waits truths N s.word (s.flags view.seat) view.walk view.held → (view.walk ≡ None) ⊎ WaitsInList s view
  listed view own (inl none) = inl none
  listed view own (inr is) = inr (record { waits = is.0; armed = is.2; listed = counted; empty = is.3 }) where
    counted : counts_in view.seat s.lists ≡ 1
    counted =
        let sum : counts_in view.seat s.lists + owed_to view.seat views ≡ 1 = p.waiters_placed.placed view.seat ∙ rw (own, is.0, is.2) refl in
        let none = owed_nobody view.seat views nobody_owes in omega (arith, sum, none)

  all_listed : Every (λ view. (view.walk ≡ None) ⊎ WaitsInList s view) views
  all_listed = every_both (λ view. walk_at view.seat views ≡ view.walk) _ _ (λ view own rests. listed view own (rests.waits untaken)) views (every_at views p.apart) each_rests

  holder_between : (view : SeatView C N) → (view.walk ≡ None) ⊎ WaitsInList s view → IsSome view.held → (view.walk ≡ None) × IsSome view.held
  holder_between view (inl none) holds = (none, holds)
  holder_between view (inr waits) holds = absurd (both_ways false refl (subst (λ held. IsSome held) waits.empty holds))

  counted_holders : is_held s.word ≡ true → 1 ≤ writers views + readers views
  counted_holders held = elim (or_cases s.word.write (ltb 0 s.word.readers) held) [
    | inl writes ↦ let one : writers views ≡ 1 = p.one_writer.bit ∙ ap (λ b. cond b 1 0) writes in omega (arith, one)
    | inr reads ↦ let some = ltb-true 0 s.word.readers reads in let count : s.word.readers ≡ readers views = p.readers_counted in omega (arith, some, count)
  ]

  pub has_reason : HasReason truths h s
  has_reason = record {
    untaken = untaken;
    undesignated = undesignated;
    paid = nothing_owed views nobody_owes;
    waits = all_listed;
    held = λ held. one_of_each (λ view. (view.walk ≡ None) ⊎ WaitsInList s view) (λ view. IsSome view.held) (λ view. (view.walk ≡ None) × IsSome view.held) holder_between views all_listed (some_holder views (counted_holders held));
    free = λ free. let parts = or_parts s.word.write (ltb 0 s.word.readers) free in p.idle_waiters_false parts.0 (none_below s.word.readers parts.1) undesignated;
  }
    where
      none_below : (n : ℕ) → ltb 0 n ≡ false → n ≡ 0
      none_below n e = elim (cases_eq n 0) [ inl none ↦ none | inr some ↦ absurd (both_ways _ e (lt-ltb 0 n (omega (arith, some)))) ]

-- ---- who doesn't rest goes on

module _ {C : Type 0} where
  load_counts : (word : Word) (next : Next (Walk C) Reply) → counts_by LoadWord (Saw word) next ≡ not (is_idle next)
  load_counts word (Idle place) = refl
  load_counts word (On place) = refl
  load_counts word (Done reply) = refl

  look_counts : (limits : Limits) (again : Bool) (set : Bool) (next : Next (Walk C) Reply) → (counts_by (Look limits again) (Looked None) next ≡ not (set && is_idle next)) ⊎ ((is_idle next ≡ true) × (set ≡ false))
  look_counts limits again false (Idle place) = inr (refl, refl)
  look_counts limits again true (Idle place) = inl refl
  look_counts limits again false next = inl refl
  look_counts limits again true (On place) = inl refl
  look_counts limits again true (Done reply) = inl refl

  judges : (on : Subject C) (i : ℕ) (limits : Limits) (again : Bool) → judge_of on i ≢ Look limits again
  judges (OnCondition c) i limits again e = absurd (cc)
  judges (OnVariables variables) i limits again e = absurd (cc)

  -- only a wait that waits looks and, shown nothing, repeats
  looks_out : (N : ℕ) (walk : Walk C) (limits : Limits) (again : Bool) → want_of walk ≡ Look limits again → is_idle (got_of N walk (Looked None)) ≡ true → (wait : Wait C) × (walk ≡ InWait wait LookOut)
  looks_out N (InTry mode TryLoad) limits again e idle = absurd (cc)
  looks_out N (InAcquire aim (AcquireLoad arrival)) limits again e idle = absurd (cc)
  looks_out N (InRelease releasing ReleaseLoad) limits again e idle = absurd (cc)
  looks_out N (InCells (GetLoad i)) limits again e idle = absurd (cc)
  looks_out N (InWait wait LookOut) limits again e idle = (wait, refl)
  looks_out N (InWait wait (InQueuing back Load)) limits again e idle = absurd (cc)
  looks_out N (InWait wait (InLeaving cause LeaveLoad)) limits again e idle = absurd (cc)
  looks_out N (InWait wait (TestLast visit i)) limits again e idle = absurd (judges wait.on i limits again e)
  looks_out N (InSignal waking k SignalLoad) limits again e idle = absurd (cc)
  looks_out N (InShow ShowLoad) limits again e idle = absurd (cc)
  looks_out N _ limits again e idle = absurd (cc)

  -- A step counts just where its place doesn't rest; but a look that shows something counts, and one that shows nothing with the flag clear doesn't.
  abbrev Goes : ℕ → Walk C → Act C → Word → ℕ → Found → Type 0
  Goes N walk act word flag found = (counts_by act found (got_of N walk found) ≡ not (rests_by N word flag walk act)) ⊎ (((cause : Cause) × (found ≡ Looked (Some cause)) × (counts_by act found (got_of N walk found) ≡ true)) ⊎ IsIdleLook walk found flag)

module _ {C : Type 0} {N : ℕ} (truths : Truths C) where
  by_act : (seat : ℕ) (old new : Part C N) (commits : List (Event C N)) (walk : Walk C) (act : Act C) (found : Found) → want_of walk ≡ act → Effect truths seat act old found new commits → Goes N walk act old.word (old.flags seat) found
  by_act seat old new commits walk LoadWord (Saw word) is e = inl (load_counts word (got_of N walk (Saw word)) ∙ ap (λ x. not (is_idle (got_of N walk (Saw x)))) e.0)
  by_act seat old new commits walk LoadFlag (Flag v) is e = inl (ap (λ x. not (is_armed x)) e.0)
  by_act seat old new commits walk (Look limits again) (Looked None) is e = elim (look_counts limits again (is_armed (old.flags seat)) (got_of N walk (Looked None))) [
    | inl same ↦ inl same
    | inr idle ↦ let out = looks_out N walk limits again is idle.0 in inr (inr (record { wait = out.0; place = out.1; nothing = refl; clear = λ set. both_ways _ idle.1 (eq-eqb (old.flags seat) 1 set) }))
  ]
  by_act seat old new commits walk (Look limits again) (Looked (Some cause)) is e = inr (inl (cause, refl, refl))
  by_act seat old new commits walk LoadWord _ is e = absurd e
  by_act seat old new commits walk LoadFlag _ is e = absurd e
  by_act seat old new commits walk (Look limits again) _ is e = absurd e
  by_act seat old new commits walk act found is e = inl refl

  module _ (old : LockState C N) (view : SeatView C N) (found : Found) (new : LockState C N) (commits : List (Event C N)) (step : Step truths old view found new commits) where
    goes : Goes N step.walk (want_of step.walk) old.word (old.flags view.seat) found
    goes = by_act view.seat (part_of old view.held view.owed) (part_of new step.held step.owed) commits step.walk (want_of step.walk) found refl step.effect

    pub step_goes_on : rests_at N old.word (old.flags view.seat) view.walk ≡ false → (counts N step.walk found ≡ true) ⊎ IsIdleLook step.walk found (old.flags view.seat)
    step_goes_on r = elim goes [
      | inl same ↦ inl (same ∙ ap not (ap (rests_at N old.word (old.flags view.seat)) (sym step.walks) ∙ r))
      | inr (inl shown) ↦ inl shown.2
      | inr (inr idle) ↦ inr idle
    ]

    pub step_rests : rests_at N old.word (old.flags view.seat) view.walk ≡ true → (counts N step.walk found ≡ false) ⊎ ((cause : Cause) × (found ≡ Looked (Some cause)))
    step_rests r = elim goes [
      | inl same ↦ inl (same ∙ ap not (ap (rests_at N old.word (old.flags view.seat)) (sym step.walks) ∙ r))
      | inr (inl shown) ↦ inr (shown.0, shown.1)
      | inr (inr idle) ↦ inl (λ i. counts N (idle.place i) (idle.nothing i))
    ]
