-- Where a decision leads: the place goes with the section in hand, and tells the same as the place before.
use Rattle.std.proofs.Common.{Bool, List, None, Option, Some, ap, arith, cond, false, is_some, length, ltb, ltb-true, not, refl, subst, sym, true, ℕ, ◌&&◌, ◌-◌, ◌<◌, ◌||◌, ◌≡◌}
use Rattle.ns_word.proofs.Prelude.{AcquireExchange, AcquireLoad, Aim, AimFits, Answered, Arrival, AsFresh, AwaitWakeInWait, Busy, CameBack, CanLeave, CanWait, Cause, ComesBack, Done, Ended, Expected, ForLock, ForWait, HasMode, Held, Idle, InAcquire, InCells, InLeaving, InQueuing, InRelease, InShow}
use Rattle.ns_word.proofs.Prelude.{InSignal, InTry, InWait, IsExpected, IsForCondition, IsInRange, IsLeft, IsSettled, IsSettledBy, IsUnmet, IsWokenBy, Judging, LeaveLoad, Load, LoadToScan, LookIn, LookOut, MayShow, MayWait, Met, Mode, On, OnCondition, OnEntry, OnReturn, OnVariables, Outcome}
use Rattle.ns_word.proofs.Prelude.{OutcomeFits, PlaceFits, QueueToWait, QuietCells, QuietKeeps, QuietLast, QuietWriter, Read, Reader, ReleaseExchange, ReleaseLoad, Releasing, Saw, ScanAndRelease, ScanCells, ShowLoad, SignalLoad, Stance, Subject, Take, TakeToLeave, TakeToQueue, TakeToScan}
use Rattle.ns_word.proofs.Prelude.{TakeToShow, TakeToWake, TestCells, TestLast, Tests, ToRelease, ToTell, Truths, TryAcquire, TryLoad, Visit, Wait, Waiter, Waking, Walk, Woken, Word, Write, Writer, acquire_by, acquired_for, after_judging, armed_place, back_with, calls_from_lock, cause_by}
use Rattle.ns_word.proofs.Prelude.{expected_for, got_trying, has_armed, has_eligible, has_queues, held_after, is_from_lock, is_limited, is_on_way, is_queuing, leave_by, load_place, look_or_queue, may_acquire, meets_at, mode_for, mode_released, needs_scan, newly_held, not-false, not-true, opening_by}
use Rattle.ns_word.proofs.Prelude.{pay_releasing, pay_waiting, pay_woken, pays, phase_before, phase_by, phase_kept, place_after, queue_by, quiet_place, release_by, rest_or_look, row_in, scan_place, show_by, signal_by, test_place, unmet_by, waits_in, was_woken, ◌∙◌}
use Rattle.ns_word.proofs.Scans.{quiet_eligible}
use Rattle.ns_word.proofs.Knows.{is_loud}
use Rattle.ns_word.proofs.Keeps.{Same, Way}
use Rattle.ns_word.proofs.Safes.{SameSection}
use Rattle.ns_model.specs.declared.phase.Phase.TheVariants as ThePhase

-- a wait with its section in hand, and one that stands in the lock list
abbrev pub inside : {C : Type 0} → Wait C → Option (Walk C)
inside wait = Some (InWait wait (InQueuing false Load))

abbrev pub outside : {C : Type 0} → Wait C → Option (Walk C)
outside wait = Some (InWait wait AwaitWakeInWait)

-- what ends a wait for a condition changes nothing of its phase
shown_phase : {C : Type 0} (mode : Mode) (cause : Cause) (on : Subject C) (outcome : Outcome) → IsForCondition on → phase_kept on mode (Ended cause) ≡ phase_kept on mode outcome
shown_phase mode cause (OnCondition c) outcome is = refl
shown_phase mode cause (OnVariables variables) outcome is = absurd is

-- what ended a wait settles it
ended_settled : {C : Type 0} (holds : C → List ℕ → Bool) (before : List ℕ) (on : Subject C) (cause : Cause) → IsSettledBy holds before (CameBack on (Ended cause))
ended_settled holds before (OnCondition c) cause = tt
ended_settled holds before (OnVariables variables) cause = tt

-- a wait for a condition is woken by a wake of no variable
woken_by_none : {C : Type 0} (on : Subject C) (by : Option ℕ) → IsForCondition on → IsWokenBy on by → by ≡ None
woken_by_none (OnCondition c) by for is = is
woken_by_none (OnVariables variables) by for is = absurd for

-- what a place tells of its seat
abbrev Tags : Type 0 → Type 0
Tags C = Bool × Bool × Option (Stance C) × Bool × Bool × Bool × Expected C

abbrev pub tags_of : {C : Type 0} → Option (Walk C) → Tags C
tags_of walk = (pays walk, has_queues walk, waits_in walk, has_armed walk, is_queuing walk, was_woken walk, phase_by walk)

-- a seat at such a place is on its way, as `is_on_way` says of the place
abbrev is_tag_on_way : {C : Type 0} → Tags C → ℕ → ℕ → Bool
is_tag_on_way tags flag n = tags.5 || (is_some tags.2 && (is_from_lock flag || ltb 0 n))

module _ {C : Type 0} {N : ℕ} (truths : Truths C) where
  -- The step changes the place in the call alone: the new place fits, and tells what the old one told.
  pub record LeadsBy (tags : Tags C) (next : Option (Walk C)) (held : Option (Held C N)) : Type 0 where
    pub place : PlaceFits truths next held
    pub same : (pays next ≡ tags.0) × (has_queues next ≡ tags.1) × (waits_in next ≡ tags.2) × (has_armed next ≡ tags.3)
    pub queuing : is_queuing next ≡ tags.4
    pub way : (flag n : ℕ) → is_tag_on_way tags flag n ≡ true → is_on_way next flag n ≡ true
    pub stays : held ≡ None → phase_by next ≡ tags.6

  abbrev pub Leads : Option (Walk C) → Option (Walk C) → Option (Held C N) → Type 0
  Leads walk next held = LeadsBy (tags_of walk) next held

  -- another phase only where a section is in hand
  pub leads_as : {tags : Tags C} {next : Option (Walk C)} {held : Option (Held C N)} (phase : Expected C) → tags_of next ≡ (tags.0, tags.1, tags.2, tags.3, tags.4, tags.5, phase) → (held ≡ None → phase ≡ tags.6) → PlaceFits truths next held → LeadsBy tags next held
  leads_as phase e stays p = record {
    place = p;
    same = (ap (λ (t : Tags C). t.0) e, ap (λ (t : Tags C). t.1) e, ap (λ (t : Tags C). t.2) e, ap (λ (t : Tags C). t.3) e);
    queuing = ap (λ (t : Tags C). t.4) e;
    way = λ flag n on. subst (λ t. is_tag_on_way t flag n ≡ true) (sym e) on;
    stays = λ none. ap (λ (t : Tags C). t.6) e ∙ stays none;
  }

  pub leads_to : {tags : Tags C} {next : Option (Walk C)} {held : Option (Held C N)} → tags_of next ≡ tags → PlaceFits truths next held → LeadsBy tags next held
  leads_to {tags} e p = leads_as tags.6 e (λ none. refl) p

  either : {A : Type 0} {tags : Tags C} {held : Option (Held C N)} (go : A → Option (Walk C)) (b : Bool) (one other : A) → (b ≡ true → LeadsBy tags (go one) held) → (b ≡ false → LeadsBy tags (go other) held) → LeadsBy tags (go (cond b one other)) held
  either go true one other p q = p refl
  either go false one other p q = q refl

  -- where nothing is in hand, nothing is open
  pub none_settled : (held : Option (Held C N)) → held ≡ None → IsSettled truths held
  none_settled held e = subst (λ x. IsSettled truths x) (sym e) tt

  pub try_leads : (mode : Mode) (word : Word) (held : Option (Held C N)) → held ≡ None → Leads None (place_after (got_trying mode TryLoad (Saw word))) held
  try_leads mode word held p = either place_after (may_acquire mode AsFresh word) (On (InTry mode (TryAcquire word))) (Done Busy) (λ e. leads_to refl (p, e)) (λ e. leads_to refl (none_settled held p))

  pub acquire_leads : (aim : Aim C) (arrival : Arrival) (word : Word) (held : Option (Held C N)) → held ≡ None → AimFits aim → Leads (Some (InAcquire aim (AcquireLoad arrival))) (place_after (acquire_by aim arrival word)) held
  acquire_leads aim arrival word held p kept =
      either place_after (may_acquire (mode_for aim) arrival word) (On (InAcquire aim (AcquireExchange arrival word))) _ (λ e. leads_to refl (p, e, kept))
      (λ e. either place_after word.spin (Idle (InAcquire aim (AcquireLoad arrival))) (On (InAcquire aim (TakeToQueue arrival word))) (λ f. leads_to refl (p, tt, kept)) (λ f. leads_to refl (p, (f, e), kept)))

  pub release_leads : (releasing : Releasing) (word : Word) (held : Option (Held C N)) → CanLeave truths releasing held → Leads None (place_after (release_by releasing word)) held
  release_leads releasing word held p =
      either place_after (not (needs_scan releasing word)) (On (InRelease releasing (ReleaseExchange word))) _ (λ e. leads_to refl (p, not-true (needs_scan releasing word) e))
      (λ e. either place_after word.spin (Idle (InRelease releasing ReleaseLoad)) (On (InRelease releasing (TakeToScan word))) (λ f. leads_to refl p) (λ f. leads_to refl (p, f, not-false (needs_scan releasing word) e)))

  pub scan_leads : (releasing : Releasing) (last : Word) (held : Option (Held C N)) (loaded : ℕ) → CanLeave truths releasing held →
      Leads (Some (InRelease releasing (ScanAndRelease last))) (Some (InRelease releasing (scan_place N last loaded))) held
  scan_leads releasing last held loaded p = either (λ x. Some (InRelease releasing x)) (ltb loaded N) (ScanCells last loaded) (ScanAndRelease last) (λ e. leads_to refl (p, ltb-true loaded N e)) (λ e. leads_to refl p)

  -- after the queues were taken to scan
  pub taken_leads : (releasing : Releasing) (last : Word) (held : Option (Held C N)) (b : Bool) → CanLeave truths releasing held →
      Leads (Some (InRelease releasing (ScanAndRelease last))) (Some (InRelease releasing (cond b (scan_place N last 0) (ScanAndRelease last)))) held
  taken_leads releasing last held b p = either (λ x. Some (InRelease releasing x)) b _ _ (λ e. scan_leads releasing last held 0 p) (λ e. leads_to refl p)

  pub quiet_leads : (judging : Judging) (held : Option (Held C N)) (loaded : ℕ) → 0 < N → HasMode Write held → IsSettled truths held → Leads None (Some (InCells (quiet_place N judging loaded))) held
  quiet_leads judging held loaded some p settled =
      either (λ x. Some (InCells x)) (ltb loaded (N - 1)) (QuietCells judging loaded) (QuietLast judging (N - 1)) (λ e. let less = ltb-true loaded (N - 1) e in leads_to refl ((p, omega (arith, less)), settled))
      (λ e. leads_to refl ((p, omega (arith, some)), settled))

  pub judged_leads : (judging : Judging) (held : Option (Held C N)) (b : Bool) → (b ≡ true → CanLeave truths QuietWriter held) → IsSettled truths held → Leads None (place_after (after_judging judging b)) held
  judged_leads ToTell held b p settled = leads_to refl settled
  judged_leads ToRelease held true p settled = leads_to refl (p refl)
  judged_leads ToRelease held false p settled = leads_to refl settled

  pub pay_leads : (releasing : Releasing) (held : Option (Held C N)) (b : Bool) → let next = place_after (pay_releasing releasing b) in
      (held ≡ None → PlaceFits truths next held) × (pays next ≡ b) × (has_queues next ≡ false) × (waits_in next ≡ None) × (has_armed next ≡ false) × (is_queuing next ≡ false) × Way None next × (calls_from_lock next ≡ true) × IsExpected (phase_by next) ThePhase.Idle × (was_woken next ≡ false)
  pay_leads releasing held true = (λ e. e, refl, refl, refl, refl, refl, λ flag n f. f, refl, refl, refl)
  pay_leads releasing held false = (λ e. none_settled held e, refl, refl, refl, refl, refl, λ flag n f. f, refl, refl, refl)

  -- ---- waits

  pub test_leads : (wait : Wait C) (visit : Visit) (held : Option (Held C N)) (loaded : ℕ) → 0 < N → Tests truths wait visit held → MayShow wait.limits (cause_by visit) → IsForCondition wait.on → Leads (inside wait) (Some (test_place N wait visit loaded)) held
  test_leads wait visit held loaded some p kept on =
      either Some (ltb loaded (N - 1)) (InWait wait (TestCells visit loaded)) (InWait wait (TestLast visit (N - 1))) (λ e. let less = ltb-true loaded (N - 1) e in leads_to refl ((p, omega (arith, less), on), kept))
      (λ e. leads_to refl ((p, omega (arith, some), on), kept))

  -- after an acquire
  back_leads : (on : Subject C) (wait : Wait C) (outcome : Outcome) (row : List ℕ) → wait.on ≡ on → 0 < N → AimFits (ForWait wait outcome) → let next = place_after (back_with N on wait outcome) in
      PlaceFits truths next (Some (newly_held {C = C} {N = N} (ForWait wait outcome) row)) × Same None next × (is_queuing next ≡ false)
  back_leads (OnCondition c) wait outcome row is some fits =
      let to = test_leads wait (OnReturn outcome) (Some (newly_held {C = C} {N = N} (ForWait wait outcome) row)) 0 some (refl, record { entry = refl; cells = refl; fits = fits.0 }) fits.1 (subst IsForCondition (sym is) tt) in (to.place, to.same, to.queuing)
  back_leads (OnVariables variables) wait outcome row is some fits = (subst (λ on. IsSettledBy truths.holds row (CameBack on outcome)) (sym is) (subst (λ on. OutcomeFits on outcome) is fits.0), (refl, refl, refl, refl), refl)

  pub acquired_leads : (aim : Aim C) (row : List ℕ) → 0 < N → AimFits aim → let next = place_after (acquired_for N aim) in
      PlaceFits truths next (Some (newly_held {C = C} {N = N} aim row)) × Same None next × (is_queuing next ≡ false)
  acquired_leads (ForLock mode) row some fits = (tt, (refl, refl, refl, refl), refl)
  acquired_leads (ForWait wait outcome) row some fits = back_leads wait.on wait outcome row refl some fits

  look_leads : (wait : Wait C) (again : Bool) (held : Held C N) → IsForCondition wait.on → MayWait truths wait again held → Leads (inside wait) (place_after (look_or_queue wait again)) (Some held)
  look_leads wait again held on p = either place_after (is_limited wait.limits) (On (InWait wait (InQueuing again LookIn))) (On (InWait wait (InQueuing again Load))) (λ e. leads_to refl ((p, on), tt)) (λ e. leads_to refl ((p, tt), tt))

  unmet_leads : (wait : Wait C) (visit : Visit) (held : Option (Held C N)) → Tests truths wait visit held → IsForCondition wait.on → IsUnmet truths wait.on (row_in held) → Leads (inside wait) (place_after (unmet_by wait visit)) held
  unmet_leads wait visit None p on e = absurd p
  unmet_leads wait OnEntry (Some held) p on e = look_leads wait false held on (record { mode = p.0; unmet = e; settled = λ first. p.1; back = λ again. absurd (cc) })
  unmet_leads wait (OnReturn (Woken by)) (Some held) p on e =
      let back : ComesBack wait (Woken None) held = subst (λ one. ComesBack wait (Woken one) held) (woken_by_none wait.on by on p.1.fits) p.1 in
      look_leads wait true held on (record { mode = p.0; unmet = e; settled = λ first. absurd (cc); back = λ again. (on, back) })
  unmet_leads wait (OnReturn (Ended cause)) (Some held) p on e = leads_as _ refl (λ none. absurd (cc)) (subst (λ x. IsSettledBy truths.holds held.before x) (sym p.1.entry) (ended_settled truths.holds held.before wait.on cause))

  -- a section whose wait has met its condition is settled
  met_settled : (wait : Wait C) (c : C) (visit : Visit) (held : Option (Held C N)) → wait.on ≡ OnCondition c → Tests truths wait visit held → truths.holds c (row_in held) ≡ true → IsSettled truths held
  met_settled wait c visit None is p e = absurd p
  met_settled wait c OnEntry (Some held) is p e = p.1
  met_settled wait c (OnReturn (Woken by)) (Some held) is p e = subst (λ x. IsSettledBy truths.holds held.before x) (sym (p.1.entry ∙ ap (λ on. CameBack on (Woken by)) is)) (ap (truths.holds c) (sym p.1.cells) ∙ e)
  met_settled wait c (OnReturn (Ended cause)) (Some held) is p e = subst (λ x. IsSettledBy truths.holds held.before x) (sym p.1.entry) (ended_settled truths.holds held.before wait.on cause)

  -- the condition was tested
  pub met_leads : (wait : Wait C) (c : C) (visit : Visit) (held : Option (Held C N)) (b : Bool) → wait.on ≡ OnCondition c → Tests truths wait visit held → truths.holds c (row_in held) ≡ b →
      Leads (inside wait) (place_after (cond b (Done (Answered Met)) (unmet_by wait visit))) held
  met_leads wait c visit held true is p e = leads_as _ refl (λ none. absurd (subst (λ x. Tests truths wait visit x) none p)) (met_settled wait c visit held is p e)
  met_leads wait c visit held false is p e = unmet_leads wait visit held p (subst IsForCondition (sym is) tt) (subst (λ on. IsUnmet truths on (row_in held)) (sym is) e)

  pub queue_leads : (wait : Wait C) (again : Bool) (word : Word) (held : Option (Held C N)) → CanWait truths wait again held → Leads (inside wait) (place_after (queue_by wait again word)) held
  queue_leads wait again word held p = either place_after word.spin (Idle (InWait wait (InQueuing again Load))) (On (InWait wait (InQueuing again (Take word)))) (λ e. leads_to refl ((p, tt), tt)) (λ e. leads_to refl ((p, e), tt))

  pub leave_leads : (wait : Wait C) (cause : Cause) (word : Word) (held : Option (Held C N)) → held ≡ None → IsInRange wait.on → MayShow wait.limits (Some cause) → Leads (outside wait) (place_after (leave_by wait cause word)) held
  leave_leads wait cause word held p range given =
      either place_after word.spin (Idle (InWait wait (InLeaving cause LeaveLoad))) (On (InWait wait (InLeaving cause (TakeToLeave word)))) (λ e. leads_to refl ((p, tt, range), given)) (λ e. leads_to refl ((p, e, range), given))

  pub rest_leads : (wait : Wait C) (held : Option (Held C N)) → held ≡ None → IsInRange wait.on → Leads (outside wait) (place_after (rest_or_look wait)) held
  rest_leads wait held p range = either place_after (is_limited wait.limits) (On (InWait wait LookOut)) (Idle (InWait wait AwaitWakeInWait)) (λ e. leads_to refl ((p, range), tt)) (λ e. leads_to refl ((p, range), tt))

  pub pay_waiting_leads : (wait : Wait C) (held : Option (Held C N)) (b : Bool) → let next = place_after (pay_waiting wait b) in
      (held ≡ None → IsInRange wait.on → PlaceFits truths next held) × (pays next ≡ b) × (has_queues next ≡ false) × (waits_in next ≡ waits_in (outside wait))
      × (has_armed next ≡ false) × (is_queuing next ≡ false) × (calls_from_lock next ≡ true) × (phase_by next ≡ expected_for wait.on wait.mode) × (was_woken next ≡ false)
  pay_waiting_leads wait held true = (λ e range. ((e, range), tt), refl, refl, refl, refl, refl, refl, refl, refl)
  pay_waiting_leads wait held false = (λ e range. ((e, range), tt), refl, refl, refl, refl, refl, refl, refl, refl)

  -- ---- a wait for a variable loads the row for its scan

  pub load_leads : (wait : Wait C) (again : Bool) (last : Word) (held : Option (Held C N)) (loaded : ℕ) → CanWait truths wait again held →
      Leads (Some (InWait wait (InQueuing again (QueueToWait last)))) (Some (InWait wait (InQueuing again (load_place N last loaded)))) held
  load_leads wait again last held loaded p =
      either (λ x. Some (InWait wait (InQueuing again x))) (ltb loaded N) (LoadToScan last loaded) (QueueToWait last) (λ e. leads_to refl ((p, ltb-true loaded N e), tt)) (λ e. leads_to refl ((p, tt), tt))

  -- after its flag was set
  pub armed_leads : (wait : Wait C) (on : Subject C) (again : Bool) (last : Word) (held : Option (Held C N)) → CanWait truths wait again held →
      Leads (Some (InWait wait (InQueuing again (QueueToWait last)))) (Some (InWait wait (InQueuing again (armed_place N on last)))) held
  armed_leads wait (OnCondition c) again last held p = leads_to refl ((p, tt), tt)
  armed_leads wait (OnVariables variables) again last held p = either (λ x. Some (InWait wait (InQueuing again x))) last.cond (load_place N last 0) (QueueToWait last) (λ e. load_leads wait again last held 0 p) (λ e. leads_to refl ((p, tt), tt))

  -- ---- calls that wake

  pub signal_leads : (waking : Waking) (k : ℕ) (word : Word) (held : Option (Held C N)) → k < 4 → IsSettled truths held → Leads None (place_after (signal_by waking k word)) held
  signal_leads waking k word held low p = either place_after word.spin (Idle (InSignal waking k SignalLoad)) (On (InSignal waking k (TakeToWake word))) (λ e. leads_to refl (tt, low, p)) (λ e. leads_to refl (e, low, p))

  pub pay_woken_leads : (waking : Waking) (k : ℕ) (held : Option (Held C N)) (b : Bool) → let next = place_after (pay_woken waking k b) in
      (k < 4 → IsSettled truths held → PlaceFits truths next held) × (pays next ≡ b) × (has_queues next ≡ false) × (waits_in next ≡ None) × (has_armed next ≡ false) × (is_queuing next ≡ false) × Way None next × (phase_by next ≡ phase_by {C = C} None) × (was_woken next ≡ false)
  pay_woken_leads waking k held true = (λ low p. (tt, low, p), refl, refl, refl, refl, refl, λ flag n f. f, refl, refl)
  pay_woken_leads waking k held false = (λ low p. p, refl, refl, refl, refl, refl, λ flag n f. f, refl, refl)

  -- ---- calls that show

  pub show_leads : (word : Word) (held : Option (Held C N)) → IsSettled truths held → Leads None (place_after (show_by word)) held
  show_leads word held p = either place_after word.spin (Idle (InShow ShowLoad)) (On (InShow (TakeToShow word))) (λ e. leads_to refl (tt, p)) (λ e. leads_to refl (e, p))

  -- a section whose wait a look has ended is settled
  pub shown_settled : (wait : Wait C) (again : Bool) (cause : Cause) (held : Option (Held C N)) → CanWait truths wait again held → IsSettled truths (held_after again (Some cause) held)
  shown_settled wait again cause None p = absurd p
  shown_settled wait true cause (Some held) p = subst (λ x. IsSettledBy truths.holds held.before (opening_by cause x)) (sym (p.back refl).1.entry) (ended_settled truths.holds held.before wait.on cause)
  shown_settled wait false cause (Some held) p = p.settled refl

  -- one that has come back goes by what a look shows
  pub shown_section : (wait : Wait C) (again : Bool) (cause : Cause) (held : Option (Held C N)) → CanWait truths wait again held → SameSection (Some (InWait wait (InQueuing again LookIn))) held None (held_after again (Some cause) held)
  shown_section wait again cause None p = absurd p
  shown_section wait true cause (Some held) p = record {
    writing = refl;
    reading = refl;
    fits = λ now row seat q. record {
      starts = q.starts;
      enters = q.enters ∙ ap (phase_before held.mode) (p.back refl).1.entry ∙ sym (shown_phase held.mode cause wait.on (Woken None) (p.back refl).0) ∙ sym (ap (λ x. phase_before held.mode (opening_by cause x)) (p.back refl).1.entry);
      cells = q.cells;
      reads = q.reads;
    };
  }
  shown_section wait false cause (Some held) p = record { writing = refl; reading = refl; fits = λ now row seat q. q }

-- a reader's release and a quiet one make no condition true
pub calm_release : {C : Type 0} {N : ℕ} (truths : Truths C) → QuietKeeps N truths → (releasing : Releasing) (held : Held C N) → held.mode ≡ mode_released releasing → IsLeft truths releasing held →
    length held.before ≡ N → length held.row ≡ N → (held.mode ≡ Read → held.row ≡ held.before) → is_loud releasing ≡ false → (ws : List (Waiter C)) →
    has_eligible (meets_at truths held.before) ws ≡ false → has_eligible (meets_at truths held.row) ws ≡ false
calm_release truths quiet Writer held is left b c reads loud ws e = absurd (cc)
calm_release truths quiet QuietWriter held is left b c reads loud ws e = quiet_eligible truths.holds held.before held.row (λ x met. quiet x held.before held.row b c left met) ws e
calm_release truths quiet Reader held is left b c reads loud ws e = subst (λ r. has_eligible (meets_at truths r) ws ≡ false) (sym (reads is)) e
