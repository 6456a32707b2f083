-- A step keeps the law: which kind of step it is, by the place in the walk and what was found.
use Rattle.std.proofs.Common.{Bool, List, None, Option, Some, [], ap, append-nil, arith, cond, eq-eqb, eqb, false, inl, inr, is_some, le-ltb, lt-ltb, ltb, ltb-true, not, refl, subst, sym, true, ℕ, ◌&&◌, ◌++◌, ◌+◌, ◌<◌, ◌||◌, ◌∷◌, ◌≡◌, ◌≢◌, ◌≤◌, ◌⊎◌}
use Rattle.ns_word.proofs.Prelude.{Acquire, AcquireExchange, AcquireLoad, Aim, AimFits, AreWaiting, Arm, ArmToWait, Arrival, AsFresh, AsWoken, AtVariables, AwaitWake, AwaitWakeInWait, AwaitWakeToLeave, Broadcasting, CanLeave, CanWait, Cause, Cell, Cond, Cv, Effect, Ended, Event, Every, Flag}
use Rattle.ns_word.proofs.Prelude.{ForLock, ForWait, Found, GetLoad, HasMode, HasNumber, Held, Idle, InAcquire, InCells, InLeaving, InQueuing, InRelease, InShow, InSignal, InTry, InWait, IsExpected, IsInRange, IsLawful, IsLegalEvent, IsSettled, IsToldSo, Leave, LeaveLoad, Left, Limits, Load}
use Rattle.ns_word.proofs.Prelude.{LoadFlag, LoadToScan, LockState, LookIn, LookOut, Looked, Made, MayShow, MayWait, Mode, Next, On, OnCondition, OnVariables, Outcome, OutcomeFits, Owed, Paid, Part, Pay, PayInWait, PayTheWoken, PayWake, Phase, PlaceFits, Queue, QueueToWait, Quiet, QuietCells}
use Rattle.ns_word.proofs.Prelude.{QuietKeeps, QuietLast, QuietWriter, Read, ReleaseExchange, ReleaseLoad, Releasing, Reply, ReturnQueues, ReturnShown, Saw, ScanAndRelease, ScanCells, Scanned, SeatView, SetLoad, SetStore, ShowLoad, ShowPlace, SignalLoad, SignalPlace, Signaling, Step, Subject, Take}
use Rattle.ns_word.proofs.Prelude.{TakeQueues, TakeToLeave, TakeToQueue, TakeToScan, TakeToShow, TakeToWake, TestCells, TestLast, Tested, ToChange, ToQueue, ToldOn, Truths, TryAcquire, TryLoad, VariableWaiterFits, ViewFits, Visit, Wait, WaitPlace, WaitReturning, Waiter, Waiting, WakeAndReturn}
use Rattle.ns_word.proofs.Prelude.{WakeWaiters, Waking, Walk, Woke, Word, Write, acquired_for, and_parts, armed_place, arrival_of, awaits, bits_of, both_ways, broadcast_legal, called_of, calls_from_lock, cause_in, change_found, changed, counts_in, cvs_without, every_join, every_parts}
use Rattle.ns_word.proofs.Prelude.{every_signaled, expected_for, got_leaving, got_of, got_showing, got_signaling, got_waiting, has, has_armed, has_queues, has_some, held_after, home_of, is_from_lock, is_held, is_met, is_on_way, is_queuing, is_woken, judge_of, kept_by, leave_of, left_of, may_acquire}
use Rattle.ns_word.proofs.Prelude.{meets_at, mode_for, mode_released, moved_to, moves, needs_scan, newly_held, opening_for, outcome_taken, owed_after, part_of, pay_releasing, pay_waiting, pay_woken, pays, phase_before, phase_by, phase_for, phase_kept, place_after, queued, releasing_of, rest_or_look}
use Rattle.ns_word.proofs.Prelude.{row_in, signal_legal, standing_after, standing_next, stands_at, sum_by, taken_by, taken_set, times_in, times_signaled, tries_of, variable_told, waited_in, waiters_of, waits_in, wake_of, wakes_of, want_of, want_showing, want_signaling, want_waiting, was_woken}
use Rattle.ns_word.proofs.Prelude.{who_of, with_lock, without, without_in, woken_by, woken_of, woken_phases, word_acquired, word_released, word_released_returning, word_returned, word_seen, word_taken, ◌∙◌}
use Rattle.ns_model.specs.declared.phase.Phase.TheVariants.{Woken}
use Rattle.ns_word.proofs.Bases.{Groups, apart_parts, counts_somewhere, cvs_left, groups_of, lawful_by, left_told, none_of, not_left, out_of_cvs, out_of_lock, some_wakes, view_of, walk_here}
use Rattle.ns_word.proofs.Variables.{are_waiting}
use Rattle.ns_word.proofs.Ranges.{counts_once, lists_orderly}
use Rattle.ns_word.proofs.Safes.{same_section}
use Rattle.ns_word.proofs.Follows.{follows}
use Rattle.ns_word.proofs.Seen.{found_fits, packable}
use Rattle.ns_word.proofs.Keeps.{PutsBack, Same, Stays, Way, acquires, arms, enqueues, leaves as leaves_variable, releases, rests, returns, scans, sees, stores, takes_to_change, takes_to_queue, waits, waits_for, waits_on, wakes, wakes_waiters, withdraws}
use Rattle.ns_word.proofs.Leads.{Leads, acquire_leads, acquired_leads, armed_leads, calm_release, judged_leads, leads_to, leave_leads, load_leads, met_leads, none_settled, pay_leads, pay_waiting_leads, pay_woken_leads, queue_leads, quiet_leads, release_leads, rest_leads, scan_leads, show_leads}
use Rattle.ns_word.proofs.Leads.{shown_section, shown_settled, signal_leads, taken_leads, test_leads, try_leads}

-- whether one that leaves found itself in the list
abbrev stood_in : Found → Bool
stood_in (Left stood) = stood
stood_in _ = false

-- tries are counted up to 30
tries_most : (arrival : Arrival) → tries_of arrival ≤ 30
tries_most AsFresh = omega arith
tries_most (AsWoken tries) = go (ltb tries 30) refl where
  go : (b : Bool) → ltb tries 30 ≡ b → cond b (tries + 1) 30 ≤ 30
  go true e = let few = ltb-true tries 30 e in omega (arith, few)
  go false e = omega arith

phase_opened : {C : Type 0} (aim : Aim C) → phase_for aim ≡ phase_before (mode_for aim) (opening_for aim)
phase_opened (ForLock mode) = refl
phase_opened (ForWait wait outcome) = refl

left_mode : (mode : Mode) → mode_released (releasing_of mode) ≡ mode
left_mode Write = refl
left_mode Read = refl

-- what one that put the queues back owes
abbrev owes_in : Found → Bool
owes_in (Woke owes) = owes
owes_in _ = false

-- what a call takes and what it leaves is all
parts_of : {C : Type 0} (waking : Waking) (ws : List (Waiter C)) (seat : ℕ) → times_in seat (taken_by waking ws) + times_in seat (kept_by waking ws) ≡ times_in seat ws
parts_of Signaling ws seat = times_signaled ws seat
parts_of Broadcasting ws seat = omega arith

-- those whom a call that wakes owes wakes were not taken from the lock list
from_by : (C : Type 0) (waking : Waking) (k : ℕ) (owes : Bool) (owed : List Owed) → owes ≡ has_some owed → (calls_from_lock {C = C} (place_after (pay_woken waking k owes)) ≡ false) ⊎ (owed ≡ [])
from_by C waking k true owed e = inl refl
from_by C waking k false owed e = inr (none_of owed (sym e))

paid_phase : {C : Type 0} (releasing : Releasing) (b : Bool) → phase_by (place_after (pay_releasing {C = C} releasing b)) ≡ phase_by {C = C} None
paid_phase releasing true = refl
paid_phase releasing false = refl

-- one that waits and was not woken from the lock list is on its way with no wake owed only where its flag tells so
not_way : (w a z : Bool) → w ≡ false → z ≡ false → (w || (a && (z || ltb 0 0))) ≡ true → ⊥
not_way w a z p q e = let off : (a && false) ≡ true = rw (p, q) at e in absurd (both_ways false refl (and_parts a false off).1)

way_seen : {C : Type 0} (walk : Option (Walk C)) (aim : Aim C) (tries v : ℕ) → was_woken walk ≡ false → is_on_way walk v 0 ≡ true → is_on_way (Some (InAcquire aim (AcquireLoad (arrival_of tries v)))) v 0 ≡ true
way_seen walk aim tries v none e = go (is_from_lock v) refl where
  go : (b : Bool) → is_from_lock v ≡ b → is_on_way (Some (InAcquire aim (AcquireLoad (arrival_of tries v)))) v 0 ≡ true
  go true z = rw z refl
  go false z = absurd (not_way (was_woken walk) (awaits walk) (is_from_lock v) none z e)

-- the variable that a flag tells
told_variable : (k value : ℕ) → k < 4 → (value ≡ 2 + k) ⊎ (value ≡ 6 + k) → variable_told value ≡ k
told_variable k value low (inl e) = ap variable_told e ∙ rw (le-ltb 5 (2 + k) (omega (arith, low))) (omega arith)
told_variable k value low (inr e) = ap variable_told e ∙ rw (lt-ltb 5 (6 + k) (omega arith)) (omega arith)

-- a wait that is told what is so comes back in the phase that goes with what came of it, and that goes with what it is for
abbrev ComesSo : {C : Type 0} → Subject C → Mode → Phase C → Outcome → Type 0
ComesSo on mode ph outcome = (IsExpected (expected_for on mode) ph → ph ≡ phase_kept on mode outcome) × OutcomeFits on outcome

woken_so : {C : Type 0} (on : Subject C) (mode : Mode) (flag : ℕ) (ph : Phase C) → ToldOn (Some on) mode ph flag → ComesSo on mode ph (woken_by on flag)
woken_so (OnCondition c) mode flag ph told = (λ is. is, refl)
woken_so (OnVariables variables) mode flag ph told =
    let number : told.0 ≡ variable_told flag = sym (told_variable told.0 flag told.3 told.4) in
    (λ is. told.2 ∙ ap (λ j. Woken j mode) number, subst (λ j. has variables j ≡ true) number told.1)

-- and so of one that was about to leave
taken_so : {C : Type 0} (on : Subject C) (mode : Mode) (cause : Cause) (flag : ℕ) (ph : Phase C) → ToldOn (Some on) mode ph flag → ComesSo on mode ph (outcome_taken on cause flag)
taken_so (OnCondition c) mode cause flag ph told = (λ is. is, tt)
taken_so (OnVariables variables) mode cause flag ph told = woken_so (OnVariables variables) mode flag ph told

-- it was given its cause, if that is kept
taken_given : {C : Type 0} (on : Subject C) (limits : Limits) (cause : Cause) (flag : ℕ) → MayShow limits (Some cause) → MayShow limits (cause_in (outcome_taken on cause flag))
taken_given (OnCondition c) limits cause flag given = given
taken_given (OnVariables variables) limits cause flag given = tt

module _ {C : Type 0} {N : ℕ} (truths : Truths C) (seats : ℕ) (h : List (Event C N)) (front : List (SeatView C N)) (who : ℕ) (back : List (SeatView C N)) where
  -- the state with this part of a seat's
  abbrev at : Part C N → Option (Walk C) → LockState C N
  at part walk = record { word = part.word; row = part.row; lists = part.lists; flags = part.flags; views = front ++ view_of who walk part.held part.owed ∷ back }

  place : (walk : Walk C) (part : Part C N) → Groups truths seats h (at part (Some walk)) → PlaceFits truths (Some walk) part.held
  place walk part p = (every_parts (ViewFits truths seats (standing_after h) part.row) front (view_of who (Some walk) part.held part.owed) back p.safe.one_history.each).1.place

  puts_back : (wait : Wait C) (again : Bool) (last : Word) (owes : Bool) (took : List Owed) → owes ≡ has_some took → PutsBack (Some (InWait wait (InQueuing again (QueueToWait last)))) (place_after (pay_waiting wait owes)) took
  puts_back wait again last true took e = record { idle = refl; owes = e; from = refl; had = refl; gave = refl; still = refl; unarmed = refl; unqueued = refl; off_way = λ flag n. refl }
  puts_back wait again last false took e = record { idle = refl; owes = e; from = refl; had = refl; gave = refl; still = refl; unarmed = refl; unqueued = refl; off_way = λ flag n. refl }

  -- the event of a call that wakes is its own and legal, and wakes just those
  wake_so : (waking : Waking) (k : ℕ) (ws : List (Waiter C)) → who < 64 → let now = standing_after h in let took = taken_by waking ws in let event = wake_of {C = C} {N = N} who waking k took in
      AreWaiting k now.phases ws → (who_of event ≡ who) × IsLegalEvent truths.holds now event × (standing_next now event ≡ record { row = now.row; phases = woken_phases k (taken_set took) now.phases })
  wake_so Signaling k ws low are = (refl, (low, signal_legal k (standing_after h).phases ws are), refl)
  wake_so Broadcasting k ws low are = (refl, (low, broadcast_legal k (standing_after h).phases ws are), refl)

  module _ (part next : Part C N) (commits : List (Event C N)) (few : seats ≤ 64) where
    -- what holds before the step, with the seat at this place, and after it
    abbrev Old : Option (Walk C) → Type 0
    Old walk = Groups truths seats h (at part walk)

    abbrev New : Option (Walk C) → Type 0
    New walk = Groups truths seats (h ++ commits) (at next walk)

    moved : {made : Part C N} {events : List (Event C N)} (walk : Option (Walk C)) → next ≡ made → commits ≡ events → Groups truths seats (h ++ events) (at made walk) → New walk
    moved {made} {events} walk e f p = subst (λ x. Groups truths seats (h ++ x) (at next walk)) (sym f) (subst (λ x. Groups truths seats (h ++ events) (at x walk)) (sym e) p)

    -- a step that commits nothing
    silent : {made : Part C N} (walk : Option (Walk C)) → next ≡ made → commits ≡ [] → Groups truths seats h (at made walk) → New walk
    silent {made} walk e f p = moved walk e f (subst (λ x. Groups truths seats x (at made walk)) (sym (append-nil h)) p)

    -- a step that finds something and changes nothing
    finds : {to : Option (Walk C)} (walk : Walk C) → next ≡ part → commits ≡ [] → pays (Some walk) ≡ false → Leads truths (Some walk) to part.held → Old (Some walk) → New to
    finds {to} walk e f idle fits p = silent to e f (rests truths seats h front who (Some walk) to back part part.held idle fits.place fits.same fits.queuing fits.way (same_section (Some walk) to part.held fits.stays) p)

    -- the part with another section
    with_held : (walk : Walk C) (held : Option (Held C N)) → part.held ≡ held → Old (Some walk) → Groups truths seats h (at (record part { held = held }) (Some walk))
    with_held walk held e p = subst (λ x. Groups truths seats h (at (record part { held = x }) (Some walk))) e p

    acquired : (walk : Walk C) (to : Option (Walk C)) (aim : Aim C) (arrival : Arrival) (last : Word) → Effect truths who (Acquire aim arrival last) part Made next commits →
        pays (Some walk) ≡ false → ((ph : Phase C) → IsExpected (phase_by (Some walk)) ph → ph ≡ phase_for aim) → PlaceFits {N = N} truths to (Some (newly_held aim part.row)) → Same (Some walk) to → is_queuing to ≡ is_queuing (Some walk) →
        ((flag n : ℕ) → is_woken arrival ≡ false → is_on_way (Some walk) flag n ≡ true → is_on_way to flag n ≡ true) → Old (Some walk) → New to
    acquired walk to aim arrival last e idle phase fits tags q o p =
        silent to (e.3 ∙ ap (λ word. record part { word = word_acquired (mode_for aim) arrival word; held = Some (newly_held aim part.row) }) e.0) e.4
        (acquires truths seats h front who (Some walk) to back (mode_for aim) (opening_for aim) arrival part idle (subst (λ word. may_acquire (mode_for aim) arrival word ≡ true) e.0 e.1) (λ ph is. phase ph is ∙ phase_opened aim) fits tags q o (with_held walk None e.2 p))

    -- the queues are taken for anything but to queue
    took : (walk walk' : Walk C) (last : Word) → Effect truths who (TakeQueues ToChange last) part Made next commits → PlaceFits truths (Some walk') part.held →
        pays (Some walk) ≡ false → pays (Some walk') ≡ pays (Some walk) → has_queues (Some walk) ≡ false → has_queues (Some walk') ≡ true → waits_in (Some walk') ≡ waits_in (Some walk) → has_armed (Some walk') ≡ false → Stays (Some walk) (Some walk') part.held →
        is_queuing (Some walk') ≡ is_queuing (Some walk) → Way (Some walk) (Some walk') → Old (Some walk) → New (Some walk')
    took walk walk' last e fits idle pay s s' a set stays q o p =
        silent (Some walk') (e.2 ∙ ap (λ word. record part { word = word_taken ToChange word }) e.0) e.3 (takes_to_change truths seats h front who (Some walk) (Some walk') back part idle (ap (λ word. word.spin) (sym e.0) ∙ e.1) fits pay s s' a set stays q o p)

    -- a wake is paid
    paid : (walk : Walk C) (to : Option (Walk C)) (owes : Bool) → (e : Effect truths who PayWake part (Paid owes) next commits) → (calls_from_lock to ≡ calls_from_lock (Some walk)) ⊎ (e.1 ≡ []) → PlaceFits truths to part.held → pays to ≡ owes → has_queues to ≡ has_queues (Some walk) →
        waits_in to ≡ waits_in (Some walk) →
        was_woken to ≡ was_woken (Some walk) → has_armed to ≡ false → is_queuing to ≡ is_queuing (Some walk) → Stays (Some walk) to part.held → Old (Some walk) → New to
    paid walk to owes e from fits pay s a w set q stays p = silent to e.3 e.5 (wakes truths seats h front who (Some walk) to back part e.0 e.1 from fits (pay ∙ e.4) s a w set q stays (subst (λ x. Groups truths seats h (at (record part { owed = x }) (Some walk))) e.2 p))

    -- a seat looks at its flag: cleared, it goes on to acquire, as woken where it was taken from the lock list; else where it waits on
    checks : (walk : Walk C) (aim : Aim C) (tries : ℕ) (other : Next (Walk C) Reply) (v : ℕ) (b : Bool) → eqb v 1 ≡ b → Effect truths who LoadFlag part (Flag v) next commits → part.held ≡ None →
        pays (Some walk) ≡ false → has_queues (Some walk) ≡ false → was_woken (Some walk) ≡ false → is_queuing (Some walk) ≡ false →
        ((ph : Phase C) → IsToldSo (waits_in (Some walk)) ph v → (IsExpected (phase_by (Some walk)) ph → ph ≡ phase_for aim) × AimFits aim) → Leads truths (Some walk) (place_after other) part.held →
        Old (Some walk) → New (place_after (cond b other (On (InAcquire aim (AcquireLoad (arrival_of tries v))))))
    checks walk aim tries other v true z e none pay s w q so leads p = finds walk e.1 e.2 pay leads p
    checks walk aim tries other v false z e none pay s w q so leads p =
        let to : Option (Walk C) = Some (InAcquire aim (AcquireLoad (arrival_of tries v))) in
        let phase = (standing_after h).phases who in
        let clear : part.flags who ≢ 1 = λ one. absurd (both_ways (eqb v 1) z (eq-eqb v 1 (e.0 ∙ one))) in
        let stance = ap waits_in (walk_here front (view_of who (Some walk) part.held part.owed) back (apart_parts front (view_of who (Some walk) part.held part.owed) back p.safe.apart).0) in
        let told = so phase (subst (λ flag. IsToldSo (waits_in (Some walk)) phase flag) (sym e.0) (subst (λ x. IsToldSo x phase (part.flags who)) stance (p.taken.flag who clear))) in
        silent to (e.1 ∙ ap (λ x. record part { held = x }) none) e.2 (sees truths seats h front who (Some walk) to back part clear pay (refl, tt, told.1) (sym pay) (sym s) refl refl refl (sym q)
        (subst (λ flag. is_on_way (Some walk) flag 0 ≡ true → is_on_way to flag 0 ≡ true) e.0 (way_seen (Some walk) aim tries v w)) told.0 (with_held walk None none p))

    -- a wait with the queues takes itself from its list
    withdrawn : (mode : Mode) (on : Subject C) (limits : Limits) (cause : Cause) (last : Word) (stood : Bool) → stands_at who (home_of on) part.lists ≡ stood → last ≡ part.word →
        let wait : Wait C = record { mode = mode; on = on; limits = limits } in let lists = cond stood (without who part.lists) part.lists in
        next ≡ record part { word = word_returned false (bits_of lists.lock) last; lists = lists } → commits ≡ leave_of who (home_of on) (stands_at who (home_of on) part.lists) → part.held ≡ None → MayShow limits (Some cause) → IsInRange on → counts_in who part.lists ≤ 1 →
        Old (Some (InWait wait (InLeaving cause (Leave last)))) → New (place_after (got_leaving wait cause (Leave last) (Left stood)))
    withdrawn mode (OnCondition c) limits cause last true stands same e f none given range most p =
        let wait : Wait C = record { mode = mode; on = OnCondition c; limits = limits } in
        let walk = InWait wait (InLeaving cause (Leave last)) in
        let to : Option (Walk C) = Some (InAcquire (ForWait wait (Ended cause)) (AcquireLoad AsFresh)) in
        let lock = without_in who part.lists.lock in
        let stood = ltb-true 0 (times_in who part.lists.lock) stands in
        let out = out_of_lock who part.lists most stood in
        silent to (e ∙ (λ i. record part { word = word_returned false (bits_of (out i).lock) (same i); lists = out i }) ∙ ap (λ x. record part { word = word_returned false (bits_of lock) part.word; lists = with_lock part.lists lock; held = x }) none) f
        (withdraws truths seats h front who (Some walk) to back part refl stood (refl, tt, (tt, given)) refl refl refl refl refl refl refl refl refl (with_held walk None none p))
    withdrawn mode (OnVariables variables) limits cause last true stands same e f none given range most p =
        let wait : Wait C = record { mode = mode; on = OnVariables variables; limits = limits } in
        let walk = InWait wait (InLeaving cause (Leave last)) in
        let to : Option (Walk C) = Some (InAcquire (ForWait wait (Ended cause)) (AcquireLoad AsFresh)) in
        let here = ltb-true 0 (sum_by (times_in who) part.lists.cvs) stands in
        let out = out_of_cvs who part.lists (let there = counts_somewhere who part.lists here in omega (arith, there, most)) in
        moved to (e ∙ (λ i. record part { word = word_returned false (bits_of (out i).lock) (same i); lists = out i }) ∙ ap (λ x. record part { word = word_returned false (bits_of part.lists.lock) part.word; lists = cvs_left who part.lists; held = x }) none)
        (f ∙ ap (leave_of who (AtVariables variables)) stands ∙ left_told C N who variables)
        (leaves_variable truths seats h front who (Some walk) to back variables mode part few refl here refl (refl, tt, (tt, given)) refl refl refl refl refl refl refl refl refl (with_held walk None none p))
    withdrawn mode on limits cause last false stands same e f none given range most p =
        let wait : Wait C = record { mode = mode; on = on; limits = limits } in
        let to : Option (Walk C) = Some (InWait wait (InLeaving cause AwaitWakeToLeave)) in
        silent to (e ∙ ap (λ word. record part { word = word_returned false (bits_of part.lists.lock) word }) same) (f ∙ ap (leave_of who (home_of on)) stands ∙ not_left C N who (home_of on))
        (returns truths seats h front who (Some (InWait wait (InLeaving cause (Leave last)))) to back part refl ((none, tt, range), given) refl refl refl refl refl refl refl (λ flag n g. g) (λ n. refl) p)

    -- a wait for a condition tests it
    tested : (mode : Mode) (on : Subject C) (limits : Limits) (visit : Visit) (i : ℕ) (found : Found) → let wait : Wait C = record { mode = mode; on = on; limits = limits } in
        Effect truths who (judge_of on i) part found next commits → Old (Some (InWait wait (TestLast visit i))) → New (place_after (got_waiting N wait (TestLast visit i) found))
    tested mode (OnCondition c) limits visit i (Tested is_met) e p =
        let wait : Wait C = record { mode = mode; on = OnCondition c; limits = limits } in
        finds (InWait wait (TestLast visit i)) e.3 e.4 refl (met_leads truths wait c visit part.held is_met refl (place (InWait wait (TestLast visit i)) part p).0.0 (ap (λ x. truths.holds c (row_in x)) e.1 ∙ sym e.2)) p
    tested mode (OnCondition c) limits visit i _ e p = absurd e
    tested mode (OnVariables variables) limits visit i found e p = absurd ((place (InWait (record { mode = mode; on = OnVariables variables; limits = limits }) (TestLast visit i)) part p).0.2)

    -- what a wait puts back that queues, where this is the word
    abbrev put_back : Wait C → Bool → Word → Part C N
    put_back wait again word =
        let woken = woken_of (meets_at truths part.row) part.lists.lock in let lists = waited_in truths who wait again part.row part.lists in
        record part { word = word_released_returning (releasing_of wait.mode) (has_some woken) (bits_of lists.lock) word; lists = lists; held = None; owed = called_of woken }

    -- a wait queues, and leaves its section; one that queues again says nothing of it
    queued_up : (mode : Mode) (on : Subject C) (limits : Limits) (again : Bool) (last : Word) (owes : Bool) (tests : ℕ) → let wait : Wait C = record { mode = mode; on = on; limits = limits } in
        Effect truths who (WaitReturning wait again last) part (Scanned owes tests) next commits → Old (Some (InWait wait (InQueuing again (QueueToWait last)))) → New (place_after (pay_waiting wait owes))
    queued_up mode (OnCondition c) limits false last owes tests e p =
        let wait : Wait C = record { mode = mode; on = OnCondition c; limits = limits } in
        let walk = InWait wait (InQueuing false (QueueToWait last)) in
        let to = pay_waiting_leads {C = C} {N = N} truths wait None owes in
        let may : MayWait truths wait false e.0 = subst (λ x. CanWait truths wait false x) e.1 (place walk part p).0.0 in
        moved (place_after (pay_waiting wait owes)) (e.4 ∙ ap (put_back wait false) e.3) e.7
        (waits truths seats h front who (Some walk) (place_after (pay_waiting wait owes)) back (releasing_of mode) mode c false part e.0 (e.2 ∙ sym (left_mode mode)) few (may.settled refl) may.unmet
        (subst (λ x. IsExpected x (Cond c e.0.mode)) (sym to.7) (ap (Cond c) e.2)) (to.0 refl tt) (puts_back wait false last owes _ e.5) refl to.3 (with_held walk (Some e.0) e.1 p))
    queued_up mode (OnCondition c) limits true last owes tests e p =
        let wait : Wait C = record { mode = mode; on = OnCondition c; limits = limits } in
        let walk = InWait wait (InQueuing true (QueueToWait last)) in
        let to = pay_waiting_leads {C = C} {N = N} truths wait None owes in
        let may : MayWait truths wait true e.0 = subst (λ x. CanWait truths wait true x) e.1 (place walk part p).0.0 in
        let back_from = (may.back refl).1 in
        silent (place_after (pay_waiting wait owes)) (e.4 ∙ ap (put_back wait true) e.3) e.7
        (waits_on truths seats h front who (Some walk) (place_after (pay_waiting wait owes)) back (releasing_of mode) mode c true part e.0 (e.2 ∙ sym (left_mode mode)) back_from.cells (ap (λ entry. phase_before e.0.mode entry) back_from.entry)
        may.unmet (subst (λ x. IsExpected x (Cond c e.0.mode)) (sym to.7) (ap (Cond c) e.2)) (to.0 refl tt) (puts_back wait true last owes _ e.5) refl to.3 (with_held walk (Some e.0) e.1 p))
    queued_up mode (OnVariables variables) limits false last owes tests e p =
        let wait : Wait C = record { mode = mode; on = OnVariables variables; limits = limits } in
        let walk = InWait wait (InQueuing false (QueueToWait last)) in
        let to = pay_waiting_leads {C = C} {N = N} truths wait None owes in
        let may : MayWait truths wait false e.0 = subst (λ x. CanWait truths wait false x) e.1 (place walk part p).0.0 in
        moved (place_after (pay_waiting wait owes)) (e.4 ∙ ap (put_back wait false) e.3) e.7
        (waits_for truths seats h front who (Some walk) (place_after (pay_waiting wait owes)) back (releasing_of mode) mode variables part e.0 (e.2 ∙ sym (left_mode mode)) e.2 few may.unmet (may.settled refl)
        (subst (λ x. IsExpected x (Waiting variables e.0.mode)) (sym to.7) (inl (ap (Waiting variables) e.2))) (to.0 refl may.unmet) (puts_back wait false last owes _ e.5) refl to.3 (with_held walk (Some e.0) e.1 p))
    queued_up mode (OnVariables variables) limits true last owes tests e p =
        let wait : Wait C = record { mode = mode; on = OnVariables variables; limits = limits } in
        let may : MayWait truths wait true e.0 = subst (λ x. CanWait truths wait true x) e.1 (place (InWait wait (InQueuing true (QueueToWait last))) part p).0.0 in
        absurd ((may.back refl).0)

    -- what a call takes from its variable's list
    abbrev Fitting : Option (Walk C) → ℕ → Waiter C → Type 0
    Fitting walk k = VariableWaiterFits (standing_after h).phases (front ++ view_of who walk part.held part.owed ∷ back) k

    taken_fit : (waking : Waking) (walk : Option (Walk C)) (k : ℕ) (ws : List (Waiter C)) → Every (Fitting walk k) ws → Every (Fitting walk k) (taken_by waking ws)
    taken_fit Signaling walk k ws all = every_signaled (Fitting walk k) ws all
    taken_fit Broadcasting walk k ws all = all

    -- where those go who were taken: to the back of the lock list, or they are owed their wakes
    woken_to : (waking : Waking) (k : ℕ) (last : Word) (owes : Bool) (moved : Bool) (lock' : List (Waiter C)) (owed' : List Owed) →
        let took = taken_by waking (waiters_of part.lists (Cv k)) in let put = cvs_without (taken_set took) part.lists in
        ((moved ≡ true) × (is_held part.word ≡ true) × (has_some took ≡ true) × (lock' ≡ part.lists.lock ++ took) × (owed' ≡ [])) ⊎ ((moved ≡ false) × (lock' ≡ part.lists.lock) × (owed' ≡ wakes_of k took)) → owes ≡ has_some owed' →
        Old (Some (InSignal waking k (WakeAndReturn last))) →
        Groups truths seats (h ++ wake_of who waking k took ∷ []) (at (record part { word = word_returned moved (bits_of lock') part.word; lists = with_lock put lock'; owed = owed' }) (place_after (pay_woken waking k owes)))
    woken_to waking k last owes moved lock' owed' ways is p =
        let walk = InSignal waking k (WakeAndReturn last) in
        let ws = waiters_of part.lists (Cv k) in
        let here = place walk part p in
        let fit = (every_parts (ViewFits truths seats (standing_after h) part.row) front (view_of who (Some walk) part.held part.owed) back p.safe.one_history.each).1 in
        let to = pay_woken_leads truths waking k part.held owes in
        let orderly = lists_orderly truths seats h (at part (Some walk)) p.placed p.safe.one_history.each few in
        let so = wake_so waking k ws (omega (arith, few, fit.in_range)) (are_waiting (standing_after h).phases part.lists _ k orderly here.1 p.told) in
        wakes_waiters truths seats h front who (Some walk) (place_after (pay_woken waking k owes)) back (wake_of who waking k (taken_by waking ws)) k (taken_by waking ws) part owed' lock' moved few here.1
        so.0 so.1 so.2
        (λ seat. omega (arith, parts_of waking ws seat)) (taken_fit waking (Some walk) k ws (p.told.own k here.1)) refl ways (to.0 here.1 here.2) (to.1 ∙ is) (from_by C waking k owes owed' is) refl to.2 refl to.3 to.4 refl to.5 to.6 (λ none. to.7) p

    woken_at : (waking : Waking) (k : ℕ) (last : Word) (owes : Bool) (held some : Bool) →
        let took = taken_by waking (waiters_of part.lists (Cv k)) in let put = cvs_without (taken_set took) part.lists in is_held part.word ≡ held → has_some took ≡ some → (not held && some) ≡ owes → Old (Some (InSignal waking k (WakeAndReturn last))) →
        Groups truths seats (h ++ wake_of who waking k took ∷ []) (at (record part { word = word_returned (held && some) (bits_of (moved_to held took put).lock) part.word; lists = moved_to held took put; owed = cond held [] (wakes_of k took) }) (place_after (pay_woken waking k owes)))
    woken_at waking k last owes true true is some owing p = woken_to waking k last owes true (part.lists.lock ++ taken_by waking (waiters_of part.lists (Cv k))) [] (inl (refl, is, some, refl, refl)) (sym owing) p
    woken_at waking k last owes true false is some owing p =
        let took = taken_by waking (waiters_of part.lists (Cv k)) in
        let none = none_of took some in
        woken_to waking k last owes false (part.lists.lock ++ took) [] (inr (refl, ap (λ xs. part.lists.lock ++ xs) none ∙ append-nil part.lists.lock, sym (ap (wakes_of k) none))) (sym owing) p
    woken_at waking k last owes false some is held owing p =
        let took = taken_by waking (waiters_of part.lists (Cv k)) in woken_to waking k last owes false part.lists.lock (wakes_of k took) (inr (refl, refl, refl)) (sym owing ∙ sym held ∙ sym (some_wakes k took)) p

    woken_up : (waking : Waking) (k : ℕ) (last : Word) (owes : Bool) → Effect truths who (ReturnQueues (WakeWaiters waking k) last) part (Woke owes) next commits → Old (Some (InSignal waking k (WakeAndReturn last))) → New (place_after (pay_woken waking k owes))
    woken_up waking k last owes e p =
        let took = taken_by waking (waiters_of part.lists (Cv k)) in
        let change = WakeWaiters waking k in
        let same = subst (λ word. (change_found who change word part.lists ≡ Woke owes)
        × (next ≡ record part { word = word_returned (moves change word part.lists) (bits_of (changed who change word part.lists).lock) word; lists = changed who change word part.lists; owed = owed_after change word part.lists part.owed })) e.1
        (e.0, e.2) in
        moved (place_after (pay_woken waking k owes)) same.1 e.3 (woken_at waking k last owes (is_held part.word) (has_some took) refl refl (ap owes_in same.0) p)

    by_wait : (wait : Wait C) (at_place : WaitPlace) (found : Found) → 0 < N → Effect truths who (want_waiting wait at_place) part found next commits → PlaceFits truths (Some (InWait wait at_place)) part.held → Old (Some (InWait wait at_place)) → New (place_after (got_waiting N wait at_place found))
    -- it tests its condition
    by_wait wait (TestCells visit i) (Cell v) some e here p = finds (InWait wait (TestCells visit i)) e.1 e.2 refl (test_leads truths wait visit part.held (i + 1) some here.0.0 here.1 here.0.2) p
    by_wait wait (TestLast visit i) found some e here p = tested wait.mode wait.on wait.limits visit i found e p
    -- it looks
    by_wait wait (InQueuing again LookIn) (Looked None) some e here p = finds (InWait wait (InQueuing again LookIn)) e.1 e.2 refl (leads_to truths refl ((here.0.0, tt), tt)) p
    by_wait wait (InQueuing again LookIn) (Looked (Some cause)) some e here p =
        silent None e.1 e.2 (rests truths seats h front who (Some (InWait wait (InQueuing again LookIn))) None back part (held_after again (Some cause) part.held) refl
        (shown_settled truths wait again cause part.held here.0.0) (refl, refl, refl, refl) refl (λ flag n f. f) (shown_section truths wait again cause part.held here.0.0) p)
    by_wait wait LookOut (Looked None) some e here p = finds (InWait wait LookOut) e.1 e.2 refl (leads_to truths refl here) p
    by_wait wait LookOut (Looked (Some cause)) some e here p = finds (InWait wait LookOut) e.1 e.2 refl (leads_to truths refl ((here.0.0, tt, here.0.1), e.0)) p
    -- it sees the word
    by_wait wait (InQueuing again Load) (Saw word) some e here p = finds (InWait wait (InQueuing again Load)) e.1 e.2 refl (queue_leads truths wait again word part.held here.0.0) p
    by_wait wait (InQueuing again (Take last)) (Saw word) some e here p = finds (InWait wait (InQueuing again (Take last))) e.2 e.3 refl (queue_leads truths wait again word part.held here.0.0) p
    by_wait wait (InQueuing again (QueueToWait last)) (Saw word) some e here p = finds (InWait wait (InQueuing again (QueueToWait last))) e.2 e.3 refl (leads_to truths refl here) p
    by_wait wait (InLeaving cause LeaveLoad) (Saw word) some e here p = finds (InWait wait (InLeaving cause LeaveLoad)) e.1 e.2 refl (leave_leads truths wait cause word part.held here.0.0 here.0.2 here.1) p
    by_wait wait (InLeaving cause (TakeToLeave last)) (Saw word) some e here p = finds (InWait wait (InLeaving cause (TakeToLeave last))) e.2 e.3 refl (leave_leads truths wait cause word part.held here.0.0 here.0.2 here.1) p
    by_wait wait (InLeaving cause (Leave last)) (Saw word) some e here p = finds (InWait wait (InLeaving cause (Leave last))) e.2 e.3 refl (leads_to truths refl here) p
    -- it takes the queues, and sets its flag
    by_wait wait (InQueuing again (Take last)) Made some e here p =
        took (InWait wait (InQueuing again (Take last))) (InWait wait (InQueuing again (ArmToWait (word_taken ToChange last)))) last e ((here.0.0, tt), tt) refl refl refl refl refl refl (λ n. refl) refl (λ flag n g. g) p
    by_wait wait (InLeaving cause (TakeToLeave last)) Made some e here p =
        took (InWait wait (InLeaving cause (TakeToLeave last))) (InWait wait (InLeaving cause (Leave (word_taken ToChange last)))) last e ((here.0.0, tt, here.0.2), here.1) refl refl refl refl refl refl (λ n. refl) refl (λ flag n g. g) p
    by_wait wait (InQueuing again (ArmToWait last)) Made some e here p =
        let to = armed_leads truths wait wait.on again last part.held here.0.0 in
        silent (Some (InWait wait (InQueuing again (armed_place N wait.on last)))) e.0 e.1
        (arms truths seats h front who (Some (InWait wait (InQueuing again (ArmToWait last)))) (Some (InWait wait (InQueuing again (armed_place N wait.on last)))) back part refl to.place to.same.0 to.same.1 refl to.same.2 to.queuing (λ flag n. refl) to.stays p)
    by_wait wait (InQueuing again (LoadToScan last i)) (Cell v) some e here p = finds (InWait wait (InQueuing again (LoadToScan last i))) e.1 e.2 refl (load_leads truths wait again last part.held (i + 1) here.0.0) p
    -- it queues, and leaves its section
    by_wait wait (InQueuing again (QueueToWait last)) (Scanned owes tests) some e here p = queued_up wait.mode wait.on wait.limits again last owes tests e p
    -- it pays a wake
    by_wait wait PayInWait (Paid owes) some e here p =
        let to = pay_waiting_leads truths wait part.held owes in
        paid (InWait wait PayInWait) (place_after (pay_waiting wait owes)) owes e (inl to.6) (to.0 here.0.0 here.0.1) to.1 to.2 to.3 to.8 to.4 to.5 (λ n. to.7) p
    -- it looks at its flag
    by_wait wait AwaitWakeInWait (Flag v) some e here p =
        checks (InWait wait AwaitWakeInWait) (ForWait wait (woken_by wait.on v)) 0 (rest_or_look wait) v (eqb v 1) refl e here.0.0 refl refl refl refl
        (λ ph told. let is = woken_so wait.on wait.mode v ph told in (is.0, (is.1, tt))) (rest_leads truths wait part.held here.0.0 here.0.1) p
    by_wait wait (InLeaving cause AwaitWakeToLeave) (Flag v) some e here p =
        checks (InWait wait (InLeaving cause AwaitWakeToLeave)) (ForWait wait (outcome_taken wait.on cause v)) 0 (Idle (InWait wait (InLeaving cause AwaitWakeToLeave))) v (eqb v 1) refl e here.0.0 refl refl refl refl
        (λ ph told. let is = taken_so wait.on wait.mode cause v ph told in (is.0, (is.1, taken_given wait.on wait.limits cause v here.1))) (leads_to truths refl here) p
    -- it leaves
    by_wait wait (InLeaving cause (Leave last)) (Left stood) some e here p =
        let stands = ap stood_in e.0 in
        withdrawn wait.mode wait.on wait.limits cause last stood stands e.1 (e.2 ∙ ap (λ b. record part { word = word_returned false (bits_of (cond b (without who part.lists) part.lists).lock) last; lists = cond b (without who part.lists) part.lists }) stands) e.3
        here.0.0 here.1 here.0.2 (counts_once truths seats h (at part (Some (InWait wait (InLeaving cause (Leave last))))) p.placed p.safe.one_history.each who) p
    by_wait wait (InLeaving cause (Leave last)) Made some e here p = let never : Left (stands_at who (home_of wait.on) part.lists) ≡ Made = e.0 in absurd (cc)
    by_wait wait (InLeaving cause (Leave last)) (Woke owes) some e here p = let never : Left (stands_at who (home_of wait.on) part.lists) ≡ Woke owes = e.0 in absurd (cc)
    by_wait wait _ _ some e here p = absurd e

    -- ---- calls that wake

    by_signal : (waking : Waking) (k : ℕ) (at_place : SignalPlace) (found : Found) →
        Effect truths who (want_signaling waking k at_place) part found next commits → PlaceFits truths (Some (InSignal waking k at_place)) part.held → Old (Some (InSignal waking k at_place)) → New (place_after (got_signaling waking k at_place found))
    by_signal waking k SignalLoad (Saw word) e here p = finds (InSignal waking k SignalLoad) e.1 e.2 refl (signal_leads truths waking k word part.held here.1 here.2) p
    by_signal waking k (TakeToWake last) (Saw word) e here p = finds (InSignal waking k (TakeToWake last)) e.2 e.3 refl (signal_leads truths waking k word part.held here.1 here.2) p
    by_signal waking k (WakeAndReturn last) (Saw word) e here p = finds (InSignal waking k (WakeAndReturn last)) e.2 e.3 refl (leads_to truths refl here) p
    by_signal waking k (TakeToWake last) Made e here p =
        took (InSignal waking k (TakeToWake last)) (InSignal waking k (WakeAndReturn (word_taken ToChange last))) last e (tt, here.1, here.2) refl refl refl refl refl refl (λ none. refl) refl (λ flag n f. f) p
    by_signal waking k (WakeAndReturn last) (Woke owes) e here p = woken_up waking k last owes e p
    by_signal waking k (WakeAndReturn last) Made e here p = let never : Woke (not (is_held last) && has_some (taken_by waking (waiters_of part.lists (Cv k)))) ≡ Made = e.0 in absurd (cc)
    by_signal waking k (WakeAndReturn last) (Left stood) e here p = let never : Woke (not (is_held last) && has_some (taken_by waking (waiters_of part.lists (Cv k)))) ≡ Left stood = e.0 in absurd (cc)
    by_signal waking k PayTheWoken (Paid owes) e here p =
        let to = pay_woken_leads truths waking k part.held owes in
        paid (InSignal waking k PayTheWoken) (place_after (pay_woken waking k owes)) owes e (from_by C waking k owes e.1 e.4) (to.0 here.1 here.2) to.1 to.2 to.3 to.8 to.4 to.5 (λ n. to.7) p
    by_signal waking k _ _ e here p = absurd e

    -- ---- calls that show

    by_show : (at_place : ShowPlace) (found : Found) → Effect truths who (want_showing at_place) part found next commits → PlaceFits truths (Some (InShow at_place)) part.held → Old (Some (InShow at_place)) → New (place_after (got_showing at_place found))
    by_show ShowLoad (Saw word) e here p = finds (InShow ShowLoad) e.1 e.2 refl (show_leads truths word part.held here.1) p
    by_show (TakeToShow last) (Saw word) e here p = finds (InShow (TakeToShow last)) e.2 e.3 refl (show_leads truths word part.held here.1) p
    by_show (ReturnShown last) (Saw word) e here p = finds (InShow (ReturnShown last)) e.2 e.3 refl (leads_to truths refl here) p
    by_show (TakeToShow last) Made e here p = took (InShow (TakeToShow last)) (InShow (ReturnShown (word_taken ToChange last))) last e (tt, here.1) refl refl refl refl refl refl (λ none. refl) refl (λ flag n f. f) p
    by_show (ReturnShown last) Made e here p =
        silent None (e.2 ∙ ap (λ word. record part { word = word_returned false (bits_of part.lists.lock) word }) e.1) e.3
        (returns truths seats h front who (Some (InShow (ReturnShown last))) None back part refl here.1 refl refl refl refl refl refl refl (λ flag n f. f) (λ none. refl) p)
    by_show (ReturnShown last) (Left stood) e here p = let never : Made ≡ Left stood = e.0 in absurd (cc)
    by_show (ReturnShown last) (Woke owes) e here p = let never : Made ≡ Woke owes = e.0 in absurd (cc)
    by_show _ _ e here p = absurd e

    by_walk : (walk : Walk C) (found : Found) → 0 < N → QuietKeeps N truths → Effect truths who (want_of walk) part found next commits → PlaceFits truths (Some walk) part.held → Old (Some walk) → New (place_after (got_of N walk found))
    -- found and no more
    by_walk (InTry mode TryLoad) (Saw word) some quiet e here p = finds (InTry mode TryLoad) e.1 e.2 refl (try_leads truths mode word part.held here.0) p
    by_walk (InTry mode (TryAcquire last)) (Saw word) some quiet e here p = finds (InTry mode (TryAcquire last)) e.2 e.3 refl (leads_to truths refl (none_settled truths part.held here.0)) p
    by_walk (InAcquire aim (AcquireLoad arrival)) (Saw word) some quiet e here p = finds (InAcquire aim (AcquireLoad arrival)) e.1 e.2 refl (acquire_leads truths aim arrival word part.held here.0 here.2) p
    by_walk (InAcquire aim (AcquireExchange arrival last)) (Saw word) some quiet e here p = finds (InAcquire aim (AcquireExchange arrival last)) e.2 e.3 refl (acquire_leads truths aim arrival word part.held here.0 here.2) p
    by_walk (InAcquire aim (TakeToQueue arrival last)) (Saw word) some quiet e here p = finds (InAcquire aim (TakeToQueue arrival last)) e.2 e.3 refl (acquire_leads truths aim arrival word part.held here.0 here.2) p
    by_walk (InAcquire aim (Queue arrival last)) (Saw word) some quiet e here p = finds (InAcquire aim (Queue arrival last)) e.2 e.3 refl (leads_to truths refl here) p
    by_walk (InRelease releasing ReleaseLoad) (Saw word) some quiet e here p = finds (InRelease releasing ReleaseLoad) e.1 e.2 refl (release_leads truths releasing word part.held here) p
    by_walk (InRelease releasing (ReleaseExchange last)) (Saw word) some quiet e here p = finds (InRelease releasing (ReleaseExchange last)) e.2 e.3 refl (release_leads truths releasing word part.held here.0) p
    by_walk (InRelease releasing (TakeToScan last)) (Saw word) some quiet e here p = finds (InRelease releasing (TakeToScan last)) e.2 e.3 refl (release_leads truths releasing word part.held here.0) p
    by_walk (InRelease releasing (ScanAndRelease last)) (Saw word) some quiet e here p = finds (InRelease releasing (ScanAndRelease last)) e.2 e.3 refl (leads_to truths refl here) p
    by_walk (InCells (GetLoad i)) (Cell v) some quiet e here p = finds (InCells (GetLoad i)) e.1 e.2 refl (leads_to truths refl here.1) p
    by_walk (InCells (SetLoad i v)) (Cell w) some quiet e here p = finds (InCells (SetLoad i v)) e.1 e.2 refl (leads_to truths refl here) p
    by_walk (InRelease releasing (ScanCells last i)) (Cell v) some quiet e here p = finds (InRelease releasing (ScanCells last i)) e.1 e.2 refl (scan_leads truths releasing last part.held (i + 1) here.0) p
    by_walk (InCells (QuietCells judging i)) (Cell v) some quiet e here p = finds (InCells (QuietCells judging i)) e.1 e.2 refl (quiet_leads truths judging part.held (i + 1) (omega (arith, here.0.1)) here.0.0 here.1) p
    by_walk (InCells (QuietLast judging i)) (Quiet is_quiet) some quiet e here p =
        let writes : HasMode Write (Some e.0) = subst (λ x. HasMode Write x) e.1 here.0.0 in
        let settled : IsSettled truths (Some e.0) = subst (λ x. IsSettled truths x) e.1 here.1 in
        finds (InCells (QuietLast judging i)) e.3 e.4 refl (judged_leads truths judging part.held is_quiet (λ f. subst (λ x. CanLeave truths QuietWriter x) (sym e.1) (writes, sym e.2 ∙ f, settled)) here.1) p
    -- acquires
    by_walk (InTry mode (TryAcquire last)) Made some quiet e here p = acquired (InTry mode (TryAcquire last)) None (ForLock mode) AsFresh last e refl (λ ph is. is) tt (refl, refl, refl, refl) refl (λ flag n w f. f) p
    by_walk (InAcquire aim (AcquireExchange arrival last)) Made some quiet e here p =
        let to = acquired_leads truths aim part.row some here.2 in
        acquired (InAcquire aim (AcquireExchange arrival last)) (place_after (acquired_for N aim)) aim arrival last e refl (λ ph is. is) to.0 to.1 to.2 (λ flag n w f. absurd (not_way (is_woken arrival) false false w refl f)) p
    -- a store
    by_walk (InCells (SetStore i v)) Made some quiet e here p =
        silent None e.3 e.4 (stores truths seats h front who (Some (InCells (SetStore i v))) None back part e.0 i v e.2 refl (subst (λ x. IsSettled truths x) e.1 here.1) (refl, refl, refl, refl) refl (λ flag n f. f) (with_held (InCells (SetStore i v)) (Some e.0) e.1 p))
    -- a release without a scan
    by_walk (InRelease releasing (ReleaseExchange last)) Made some quiet e here p =
        let can = subst (λ x. CanLeave truths releasing x) e.1 here.0 in
        moved None (e.4 ∙ ap (λ word. record part { word = word_released releasing word; held = None }) e.3) e.5
        (releases truths seats h front who (Some (InRelease releasing (ReleaseExchange last))) None back releasing part e.0 e.2 refl refl few can.2 refl tt (refl, refl, refl, refl)
        (subst (λ word. needs_scan releasing word ≡ false) e.3 here.1) refl (λ flag n f. f) (calm_release truths quiet releasing e.0 e.2 can.1) (with_held (InRelease releasing (ReleaseExchange last)) (Some e.0) e.1 p))
    -- the queues are taken
    by_walk (InAcquire aim (TakeToQueue arrival last)) Made some quiet e here p =
        let walk : Walk C = InAcquire aim (TakeToQueue arrival last) in
        let to : Walk C = InAcquire aim (Arm arrival (word_taken (ToQueue (mode_for aim) arrival) last)) in
        silent (Some to) (e.2 ∙ ap (λ word. record part { word = word_taken (ToQueue (mode_for aim) arrival) word }) e.0) e.3
        (takes_to_queue truths seats h front who (Some walk) (Some to) back (mode_for aim) arrival part refl (ap (λ word. word.spin) (sym e.0) ∙ e.1) (here.0, tt, here.2) refl refl refl refl refl (λ none. refl)
        (subst (λ word. may_acquire (mode_for aim) arrival word ≡ false) e.0 here.1.1) (λ flag n w f. absurd (not_way (is_woken arrival) false false w refl f)) p)
    by_walk (InRelease releasing (TakeToScan last)) Made some quiet e here p =
        let fits = taken_leads truths releasing (word_taken ToChange last) part.held last.cond here.0 in
        took (InRelease releasing (TakeToScan last)) _ last e fits.place refl fits.same.0 refl fits.same.1 fits.same.2 fits.same.3 fits.stays fits.queuing fits.way p
    -- a flag is set, a seat queues
    by_walk (InAcquire aim (Arm arrival last)) Made some quiet e here p =
        silent (Some (InAcquire aim (Queue arrival last))) e.0 e.1 (arms truths seats h front who (Some (InAcquire aim (Arm arrival last))) (Some (InAcquire aim (Queue arrival last))) back part refl here refl refl refl refl refl (λ flag n. refl) (λ none. refl) p)
    by_walk (InAcquire aim (Queue arrival last)) Made some quiet e here p =
        let lock = queued who (mode_for aim) None (tries_of arrival) (is_woken arrival) part.lists.lock in
        silent (Some (InAcquire aim (AwaitWake (tries_of arrival)))) (e.2 ∙ ap (λ word. record part { word = word_returned false (bits_of lock) word; lists = with_lock part.lists lock }) e.1) e.3
        (enqueues truths seats h front who (Some (InAcquire aim (Queue arrival last))) (Some (InAcquire aim (AwaitWake (tries_of arrival)))) back
        (mode_for aim) arrival part refl (here.0, tries_most arrival, here.2) refl refl refl refl refl refl refl refl (λ flag n. refl) (λ none. refl) p)
    by_walk (InAcquire aim (Queue arrival last)) (Left stood) some quiet e here p = let never : Made ≡ Left stood = e.0 in absurd (cc)
    by_walk (InAcquire aim (Queue arrival last)) (Woke owes) some quiet e here p = let never : Made ≡ Woke owes = e.0 in absurd (cc)
    by_walk (InAcquire aim (AwaitWake tries)) (Flag v) some quiet e here p =
        checks (InAcquire aim (AwaitWake tries)) aim tries (Idle (InAcquire aim (AwaitWake tries))) v (eqb v 1) refl e here.0 refl refl refl refl (λ ph told. (λ is. is, here.2)) (leads_to truths refl here) p
    -- a release with a scan
    by_walk (InRelease releasing (ScanAndRelease last)) (Scanned owes tests) some quiet e here p =
        let walk : Walk C = InRelease releasing (ScanAndRelease last) in
        let meets : C → Bool = meets_at truths part.row in
        let woken = woken_of meets part.lists.lock in
        let stay = left_of meets part.lists.lock in
        let to = pay_leads {C = C} {N = N} truths releasing None owes in
        let can = subst (λ x. CanLeave truths releasing x) e.1 here in
        moved (place_after (pay_releasing releasing owes)) (e.4 ∙ ap (λ word. record part { word = word_released_returning releasing (has_some woken) (bits_of stay) word; lists = with_lock part.lists stay; held = None; owed = called_of woken }) e.3) e.7
        (scans truths seats h front who (Some walk) (place_after (pay_releasing releasing owes)) back releasing part e.0 e.2 few can.2 to.8 (to.0 refl)
        (record { idle = refl; owes = to.1 ∙ e.5; from = to.7; had = refl; gave = to.2; still = refl; unarmed = to.4; unqueued = to.5; off_way = λ flag n. refl }) (ap is_some to.3) (with_held walk (Some e.0) e.1 p))
    -- a wake
    by_walk (InRelease releasing Pay) (Paid owes) some quiet e here p =
        let to = pay_leads truths releasing part.held owes in
        paid (InRelease releasing Pay) (place_after (pay_releasing releasing owes)) owes e (inl to.7) (to.0 here) to.1 to.2 to.3 to.9 to.4 to.5 (λ n. paid_phase releasing owes) p
    by_walk (InWait wait at_place) found some quiet e here p = by_wait wait at_place found some e here p
    by_walk (InSignal waking k at_place) found some quiet e here p = by_signal waking k at_place found e here p
    by_walk (InShow at_place) found some quiet e here p = by_show at_place found e here p
    by_walk _ _ some quiet e here p = absurd e

pub keeps : {C : Type 0} {N : ℕ} (truths : Truths C) → 0 < N → QuietKeeps N truths → (seats : ℕ) (h : List (Event C N)) (old : LockState C N) (view : SeatView C N) (found : Found) (new : LockState C N) (commits : List (Event C N)) → seats ≤ 64 →
    Step truths old view found new commits → IsLawful truths seats h old → IsLawful truths seats (h ++ commits) new
keeps {C} {N} truths some quiet seats h old view found new commits few step p =
    let start = subst (λ views. IsLawful truths seats h (record { word = old.word; row = old.row; lists = old.lists; flags = old.flags; views = views })) step.was p in
    let here = subst (λ walk. IsLawful truths seats h (record { word = old.word; row = old.row; lists = old.lists; flags = old.flags; views = step.front ++ view_of view.seat walk view.held view.owed ∷ step.back })) step.walks start in
    let groups = groups_of truths seats h _ here in
    let after_all = by_walk truths seats h step.front view.seat step.back (part_of old view.held view.owed) (part_of new step.held step.owed) commits few step.walk found some quiet step.effect (place truths seats h step.front view.seat step.back step.walk _ groups) groups in
    let seen = every_parts (λ (v : SeatView C N). HasNumber (word_seen v.walk)) step.front (view_of view.seat (Some step.walk) view.held view.owed) step.back here.words_seen in
    let found_has = found_fits truths view.seat (want_of step.walk) _ found _ commits (packable truths seats h old few p) step.effect in
    let seen_after = every_join (λ (v : SeatView C N). HasNumber (word_seen v.walk)) step.front (view_of view.seat (place_after (got_of N step.walk found)) step.held step.owed) step.back seen.0 ((follows N step.walk found).word found_has seen.1) seen.2 in
    subst (λ views. IsLawful truths seats (h ++ commits) (record { word = new.word; row = new.row; lists = new.lists; flags = new.flags; views = views })) (sym step.becomes) (lawful_by truths seats (h ++ commits) _ after_all seen_after)
