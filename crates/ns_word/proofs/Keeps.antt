-- Each kind of step keeps what holds of a lock and its seats.
use Rattle.std.proofs.Common.{Bool, List, None, Option, Some, [], ap, arith, cond, eqb, eqb-true, false, inl, inr, is_some, length, not, refl, slice_set, subst, sym, true, ℕ, ◌&&◌, ◌++◌, ◌+◌, ◌<◌, ◌∷◌, ◌≡◌, ◌≢◌, ◌≤◌, ◌⊎◌}
use Rattle.ns_word.proofs.Prelude.{Any, AreVariables, Arrival, Cond, CondWait, Cv, Event, Every, Exit, ExitFits, Held, IsExpected, IsLegalEvent, IsNamed, IsSettledBy, Lists, LockState, Mode, OnCondition, OnVariables, Only, Opening, Owed, OwesAs, Part, Phase, PlaceFits, Plain, QuietWriter, Read}
use Rattle.ns_word.proofs.Prelude.{Reader, Releasing, SeatView, Stance, Standing, TakenTold, Taking, Tells, ToChange, ToQueue, Truths, VariableWaiterFits, Variables, VariablesTell, ViewFits, Waiter, WaiterFits, WaiterNames, WaitersOwn, Waiting, Walk, Word, Write, Writer, and_parts, awaits, bits_in}
use Rattle.ns_word.proofs.Prelude.{bits_of, both_ways, called_of, called_to, calls_from_lock, cases_Bool, counts_in, cvs_without, every_parts, exit_for, first_standing, flags_with, has_armed, has_eligible, has_queues, has_some, in_stands, is_armed, is_held, is_in, is_of, is_on_way, is_queuing}
use Rattle.ns_word.proofs.Prelude.{is_unwoken, is_woken, left_of, length-map, lock_stance, may_acquire, meets_at, mode_released, needs_scan, not-true, one_if, one_most, outside, owed_to, pays, phase_after, phase_before, phase_by, queued, section_of, standing_after, standing_from-append}
use Rattle.ns_word.proofs.Prelude.{standing_next, stands_waits, sum_by, taken_set, times, times_among, times_at_most, times_in, times_in-append, tries_of, waiters_of, waits_at, waits_in, wakes_of, was_woken, who_of, with_lock, without_in, woken_of, woken_phase, woken_phases, word_acquired}
use Rattle.ns_word.proofs.Prelude.{word_released, word_released_returning, word_returned, word_taken, ◌∙◌}
use Rattle.ns_model.specs.declared.phase.Phase.TheVariants.{Idle, Left}
use Rattle.ns_word.proofs.Bases.{Groups, Homed, Known, Move, Safe, apart_parts, called_most, calls_tell, counts_entered, counts_gone, counts_lock, counts_none, counts_others, counts_somewhere, counts_taken, cvs_left, entered_at, filter_eligible, left_event, listed_left, listed_queued}
use Rattle.ns_word.proofs.Bases.{listed_without, news, none_of, olds, once_entered, once_left, once_taken, queued_eligible, tells_clear, tells_few, tells_from, times_others, times_queued, times_scan, times_seats, times_wakes, times_without, view_of, wakes_tell, walk_is, walk_was}
use Rattle.ns_word.proofs.Knows.{acquires as known_acquires, arms as known_arms, due_flag, is_loud, moves_in as known_moves, nothing_called, pays_one as known_pays, puts, releases as known_releases, rests as known_rests, scans as known_scans, sees_wake as known_sees, takes as known_takes}
use Rattle.ns_word.proofs.Knows.{withdraws as known_withdraws}
use Rattle.ns_word.proofs.Waits.{armed, cleared, entered, not_due, placed_here, rested, seen, taken, withdraws as withdrawn, woke}
use Rattle.ns_word.proofs.Owns.{long_eligible, nowhere, own_moved, own_queued, own_same, own_scanned, own_stays}
use Rattle.ns_word.proofs.TakenTold.{left_stays, listed_woken, same_stays, told_arms, told_enters, told_pays, told_stays, told_wakes}
use Rattle.ns_word.proofs.Variables.{stands_still, tell_enters, tell_leaves, tell_lists, tell_moves, tell_same, tell_taken, waits_of}
use Rattle.ns_word.proofs.Homes.{at_home, away, back_home}
use Rattle.ns_word.proofs.Safes.{Acquires, GivesUp, SameSection, acquired, dropped, left_here, left_same, left_there, left_variables, phases_here, phases_there, released, row_left, same_section, section, stored, unchanged, unchanged_by, woken}

-- the places tell the same
abbrev pub Same : {C : Type 0} → Option (Walk C) → Option (Walk C) → Type 0
Same walk walk' = (pays walk' ≡ pays walk) × (has_queues walk' ≡ has_queues walk) × (waits_in walk' ≡ waits_in walk) × (has_armed walk' ≡ has_armed walk)

-- one on its way stays so
abbrev pub Way : {C : Type 0} → Option (Walk C) → Option (Walk C) → Type 0
Way walk walk' = (flag n : ℕ) → is_on_way walk flag n ≡ true → is_on_way walk' flag n ≡ true

-- it isn't
abbrev pub NoWay : {C : Type 0} → Option (Walk C) → Type 0
NoWay walk = (flag n : ℕ) → is_on_way walk flag n ≡ false

-- without a section in hand, the phase that the place tells of stays
abbrev pub Stays : {C : Type 0} {N : ℕ} → Option (Walk C) → Option (Walk C) → Option (Held C N) → Type 0
Stays walk walk' held = held ≡ None → phase_by walk' ≡ phase_by walk

-- with the queues taken, the word tells that they are, and the same of the sections
taken_word : (taking : Taking) (word : Word) → let word' = word_taken taking word in (word'.write ≡ word.write) × (word'.readers ≡ word.readers) × (word'.spin ≡ true)
taken_word ToChange word = (refl, refl, refl)
taken_word (ToQueue mode arrival) word = (refl, refl, refl)

released_queues : (releasing : Releasing) (word : Word) → ((word_released releasing word).spin ≡ word.spin) × (bits_in (word_released releasing word) ≡ bits_in word)
released_queues Writer word = (refl, refl)
released_queues other word = (refl, refl)

-- what an acquire and a release make of the word
acquired_queues : (mode : Mode) (arrival : Arrival) (word : Word) → ((word_acquired mode arrival word).spin ≡ word.spin) × (bits_in (word_acquired mode arrival word) ≡ bits_in word)
acquired_queues Write arrival word = (refl, refl)
acquired_queues Read arrival word = (refl, refl)

pub acquired_holders : (mode : Mode) (arrival : Arrival) (word : Word) → may_acquire mode arrival word ≡ true → (word.write ≡ false) × Acquires mode word (word_acquired mode arrival word).write (word_acquired mode arrival word).readers
acquired_holders Write arrival word e = let parts = and_parts _ _ e in (not-true word.write parts.0, (eqb-true word.readers 0 (and_parts (eqb word.readers 0) _ parts.1).0, refl, refl))
acquired_holders Read arrival word e = let free = not-true word.write (and_parts _ _ e).0 in (free, (free, refl))

released_holders : (releasing : Releasing) (word : Word) → GivesUp (mode_released releasing) word (word_released releasing word).write (word_released releasing word).readers
released_holders Writer word = (refl, refl)
released_holders QuietWriter word = (refl, refl)
released_holders Reader word = (refl, refl)

-- what a scan owes tells that it was taken from the lock list
calls_told : {C : Type 0} (walk' : Option (Walk C)) (ws : List (Waiter C)) → calls_from_lock walk' ≡ true → Every (Tells (calls_from_lock walk')) (called_of ws)
calls_told walk' ws from = subst (λ b. Every (Tells b) (called_of ws)) (sym from) (calls_tell ws)

-- and what a call that wakes owes that it wasn't
wakes_told : {C : Type 0} (b : Bool) (k : ℕ) (took : List (Waiter C)) (owed : List Owed) → k < 4 → (owed ≡ []) ⊎ (owed ≡ wakes_of k took) → (b ≡ false) ⊎ (owed ≡ []) → Every (Tells b) owed
wakes_told b k took owed low (inl none) from = subst (λ xs. Every (Tells b) xs) (sym none) tt
wakes_told b k took owed low (inr are) (inr none) = subst (λ xs. Every (Tells b) xs) (sym none) tt
wakes_told b k took owed low (inr are) (inl other) = subst (λ xs. Every (Tells b) xs) (sym are) (subst (λ c. Every (Tells c) (wakes_of k took)) (sym other) (wakes_tell k took low))

-- a section that ends with a wait for variables may end so, and leaves its seat waiting for them
waiting_exit : {C : Type 0} (holds : C → List ℕ → Bool) (after : List ℕ) (mode : Mode) (variables : Variables) → let exit = exit_for {C = C} (OnVariables variables) in ExitFits holds after exit × (phase_after mode exit ≡ Waiting variables mode)
waiting_exit holds after mode (Only k) = (tt, refl)
waiting_exit holds after mode (Any cvs) = (tt, refl)

not_waiting : {C : Type 0} (stance : Option (Stance C)) → is_some stance ≡ false → stance ≡ None
not_waiting None e = refl
not_waiting (Some stance) e = absurd (cc)

-- What the places tell of one that puts the queues back after a scan, and owes these wakes for those whom it took: it stood in no list, and neither had set out to acquire.
pub record PutsBack {C : Type 0} (walk walk' : Option (Walk C)) (took : List Owed) : Type 0 where
  pub idle : pays walk ≡ false
  pub owes : pays walk' ≡ has_some took
  pub from : calls_from_lock walk' ≡ true
  pub had : has_queues walk ≡ true
  pub gave : has_queues walk' ≡ false
  pub still : awaits walk ≡ false
  pub unarmed : has_armed walk' ≡ false
  pub unqueued : is_queuing walk' ≡ false
  pub off_way : NoWay walk

-- one that owes no wake owes none at another place of that kind
still_owes : {C : Type 0} (walk walk' : Option (Walk C)) (owed : List Owed) → pays walk ≡ false → pays walk' ≡ pays walk → OwesAs walk owed → OwesAs walk' owed
still_owes walk walk' owed idle same owes =
    let none = none_of owed (owes.0 ∙ idle) in
    subst (λ xs. OwesAs walk' xs) (sym none) (sym (same ∙ idle), tt)

module _ {C : Type 0} {N : ℕ} (truths : Truths C) (seats : ℕ) (h : List (Event C N)) (front : List (SeatView C N)) (who : ℕ) (walk walk' : Option (Walk C)) (back : List (SeatView C N)) where
  -- the state where the seat is at this place, and has this part
  abbrev st : Option (Walk C) → Part C N → LockState C N
  st walk part = record { word = part.word; row = part.row; lists = part.lists; flags = part.flags; views = front ++ view_of who walk part.held part.owed ∷ back }

  -- what holds before the step, and after it
  abbrev Was : Part C N → Type 0
  Was part = Groups truths seats h (st walk part)

  abbrev Is : List (Event C N) → Part C N → Type 0
  Is history next = Groups truths seats history (st walk' next)

  abbrev move : (part next : Part C N) → Was part → Move C N
  move part next p = record { front = front; who = who; walk = walk; held = part.held; owed = part.owed; walk' = walk'; held' = next.held; owed' = next.owed; back = back; apart = (apart_parts front (view_of who walk part.held part.owed) back p.safe.apart).0 }

  abbrev now : Standing C
  now = standing_after h

  -- the history with a section that is left
  abbrev with_left : Held C N → Exit C → List (Event C N)
  with_left held exit = h ++ section_of truths.holds who held exit ∷ []

  fits : (part : Part C N) → Was part → ViewFits truths seats now part.row (view_of who walk part.held part.owed)
  fits part p = (every_parts (ViewFits truths seats now part.row) front (view_of who walk part.held part.owed) back p.safe.one_history.each).1

  due : waits_in walk' ≡ waits_in walk → (flag : ℕ) → one_if (awaits walk' && is_armed flag) ≡ one_if (awaits walk && is_armed flag)
  due e flag = ap (λ w. one_if (is_some w && is_armed flag)) e

  -- one that isn't about to pay owes nothing
  owes_none : (part : Part C N) → pays walk ≡ false → Was part → part.owed ≡ []
  owes_none part idle p = none_of part.owed ((fits part p).owes.0 ∙ idle)

  calls : (part : Part C N) → pays walk ≡ false → Was part → (seat : ℕ) → cond (calls_from_lock walk') (times_among seat part.owed) 0 ≡ cond (calls_from_lock walk) (times_among seat part.owed) 0
  calls part idle p seat = let none = owes_none part idle p in nothing_called walk' part.owed seat none ∙ sym (nothing_called walk part.owed seat none)

  -- one that doesn't wait stands nowhere, and so waits for no variable
  stands_not : (part : Part C N) → awaits walk ≡ false → Was part → times who part.lists ≡ 0
  stands_not part a p = nowhere (move part part p) part.lists part.flags (not_due walk (part.flags who) a) p.placed

  waits_not : (lists : Lists C) (views : List (SeatView C N)) → length lists.cvs ≡ 4 → times who lists ≡ 0 → VariablesTell now.phases lists views → (vs : Variables) (mode : Mode) → now.phases who ≡ Waiting vs mode → ⊥
  waits_not lists views four none p vs mode e = let one = p.some vs who mode e in let stood = p.all vs one.0 who mode e one.1 in let most = times_at_most lists (Cv one.0) who four stood.0 in absurd (omega (arith, stood.1, most, none))

  lock_nowhere : (lists : Lists C) → times who lists ≡ 0 → times_in who lists.lock ≡ 0
  lock_nowhere lists none = omega (arith, none)

  -- one that doesn't wait is owed no wake, and one that is about to queue has set its flag
  unowed : (part : Part C N) → awaits walk ≡ false → Was part → owed_to who (front ++ view_of who walk part.held part.owed ∷ back) ≡ 0
  unowed part a p = let here = placed_here (move part part p) part.lists part.flags p.placed in let none = ap one_if (not_due walk (part.flags who) a) in omega (arith, here, none)

  armed_now : (part : Part C N) → has_armed walk ≡ true → Was part → part.flags who ≡ 1
  armed_now part set p = p.placed.armed who (ap has_armed (walk_was (move part part p)) ∙ set)

  -- a seat that waits as before, and lists, flags and history that stay
  steady : (part : Part C N) (word' : Word) (row' : List ℕ) (held' : Option (Held C N)) (p : Was part) → waits_in walk' ≡ waits_in walk → (has_armed walk' ≡ true → has_armed walk ≡ true) → let m = move part (record part { held = held' }) p in
      Safe truths seats h word' row' (news m) → Homed word' part.lists.lock (news m) → Known truths.holds word' now.row part.lists.lock part.flags (news m) → Is h (record part { word = word'; row = row'; held = held' })
  steady part word' row' held' p same set safe homed known =
      let m = move part (record part { held = held' }) p in
      record {
        safe = safe;
        homed = homed;
        placed = rested m part.lists part.flags refl (due same (part.flags who)) set p.placed;
        own = own_same m part.lists.lock same p.own;
        told = tell_same m now.phases part.lists part.lists.lock same p.told;
        taken = told_stays m now.phases now.phases part.flags part.lists.lock part.lists.lock (same_stays m now.phases same) (λ due listed. due) (λ listed. listed) p.taken;
        known = known;
      }

  -- the place in the call changes, and no more of the section in hand than how it is said to have begun
  pub rests : (part : Part C N) (held' : Option (Held C N)) → pays walk ≡ false → PlaceFits truths walk' held' → Same walk walk' → is_queuing walk' ≡ is_queuing walk → Way walk walk' → SameSection walk part.held walk' held' → Was part → Is h (record part { held = held' })
  rests part held' idle place same q o section p =
      let m = move part (record part { held = held' }) p in
      steady part part.word part.row held' p same.2 (λ f. sym same.3 ∙ f) (unchanged truths seats h m part.word part.word part.row part.held held' refl refl place (still_owes walk walk' part.owed idle same.0 (fits part p).owes) section p.safe)
      (at_home m part.word part.word part.lists.lock refl refl same.1 p.homed) (known_rests truths.holds m part.word part.word now.row part.lists.lock part.flags (calls part idle p) refl refl refl refl refl q o p.known)

  -- an acquire
  pub acquires : (mode : Mode) (entry : Opening C) (arrival : Arrival) (part : Part C N) → let held' = Some (section {C = C} {N = N} mode entry part.row part.row) in
      pays walk ≡ false → may_acquire mode arrival part.word ≡ true → ((ph : Phase C) → IsExpected (phase_by walk) ph → ph ≡ phase_before mode entry) →
      PlaceFits truths walk' held' → Same walk walk' → is_queuing walk' ≡ is_queuing walk → ((flag n : ℕ) → is_woken arrival ≡ false → is_on_way walk flag n ≡ true → is_on_way walk' flag n ≡ true) →
      Was (record part { held = None }) → Is h (record part { word = word_acquired mode arrival part.word; held = held' })
  acquires mode entry arrival part idle may phase place same q o p =
      let old = record part { held = None } in
      let word' = word_acquired mode arrival part.word in
      let held' = Some (section {C = C} {N = N} mode entry part.row part.row) in
      let m = move old (record part { held = held' }) p in
      let holders = acquired_holders mode arrival part.word may in
      let queues = acquired_queues mode arrival part.word in
      steady old word' part.row held' p same.2 (λ f. sym same.3 ∙ f) (acquired truths seats h m mode part.word word' part.row entry phase holders.0 holders.1 place (still_owes walk walk' part.owed idle same.0 (fits old p).owes) p.safe)
      (at_home m part.word word' part.lists.lock queues.0 queues.1 same.1 p.homed) (known_acquires truths.holds m mode arrival part.word now.row part.lists.lock part.flags (calls old idle p) q o p.known)

  -- a store into a cell
  pub stores : (part : Part C N) (held : Held C N) (i v : ℕ) → held.mode ≡ Write → let held' = Some (record held { row = slice_set held.row i v }) in pays walk ≡ false → PlaceFits truths walk' held' → Same walk walk' → is_queuing walk' ≡ is_queuing walk → Way walk walk' →
      Was (record part { held = Some held }) → Is h (record part { row = slice_set part.row i v; held = held' })
  stores part held i v writes idle place same q o p =
      let old = record part { held = Some held } in
      let held' = Some (record held { row = slice_set held.row i v }) in
      let m = move old (record part { held = held' }) p in
      steady old part.word (slice_set part.row i v) held' p same.2 (λ f. sym same.3 ∙ f) (stored truths seats h m part.word part.row held i v writes place (still_owes walk walk' part.owed idle same.0 (fits old p).owes) p.safe)
      (at_home m part.word part.word part.lists.lock refl refl same.1 p.homed) (known_rests truths.holds m part.word part.word now.row part.lists.lock part.flags (calls old idle p) refl refl refl refl refl q o p.known)

  -- a release without a scan
  pub releases : (releasing : Releasing) (part : Part C N) (held : Held C N) → held.mode ≡ mode_released releasing → pays walk ≡ false → awaits walk ≡ false → seats ≤ 64 → IsSettledBy truths.holds held.before held.entry → IsExpected (phase_by walk') Idle →
      PlaceFits {C = C} {N = N} truths walk' None → Same walk walk' → needs_scan releasing part.word ≡ false → is_queuing walk' ≡ is_queuing walk → Way walk walk' →
      -- no condition becomes true where the release is a reader's or quiet
      (length held.before ≡ N → length held.row ≡ N → (held.mode ≡ Read → held.row ≡ held.before) → is_loud releasing ≡ false → (ws : List (Waiter C)) →
      has_eligible (meets_at truths held.before) ws ≡ false → has_eligible (meets_at truths held.row) ws ≡ false) →
      Was (record part { held = Some held }) → Is (with_left held Plain) (record part { word = word_released releasing part.word; held = None })
  releases releasing part held is idle a few settled phase place same calm q o quiet p =
      let old = record part { held = Some held } in
      let m = move old (record part { held = None }) p in
      let fit = fits old p in
      let queues = released_queues releasing part.word in
      let starts : held.before ≡ now.row = fit.section.starts in
      let next = standing_after (with_left held Plain) in
      let there = phases_there truths seats h who held Plain in
      record {
        safe = released truths seats h m (mode_released releasing) Plain part.word (word_released releasing part.word) part.row held is few settled tt phase
            (released_holders releasing part.word) place (still_owes walk walk' part.owed idle same.0 fit.owes) p.safe;
        homed = at_home m part.word (word_released releasing part.word) part.lists.lock queues.0 queues.1 same.1 p.homed;
        placed = rested m part.lists part.flags refl (due same.2 (part.flags who)) (λ f. sym same.3 ∙ f) p.placed;
        own = own_same m part.lists.lock same.2 p.own;
        told = tell_moves m now.phases next.phases part.lists part.lists.lock p.placed.four (stands_not old a p) there (λ vs mode e. let clash : Idle ≡ Waiting vs mode = sym (phases_here truths seats h who held Plain) ∙ e in absurd (cc)) p.told;
        taken = told_stays m now.phases next.phases part.flags part.lists.lock part.lists.lock (left_stays m now.phases next.phases (same.2 ∙ not_waiting (waits_in walk) a) there) (λ due listed. due) (λ listed. listed) p.taken;
        known = known_releases truths.holds m releasing part.word now.row next.row part.lists.lock part.flags (calls old idle p) calm
            (λ soft e. subst (λ r. has_eligible (meets_at truths r) part.lists.lock ≡ false) (sym (row_left truths seats h who held Plain))
            (quiet (ap length starts ∙ p.safe.one_history.cells_after) (ap length fit.section.cells ∙ p.safe.one_history.cells) fit.section.reads soft part.lists.lock
            (subst (λ r. has_eligible (meets_at truths r) part.lists.lock ≡ false) (sym starts) e))) q o p.known;
      }

  -- the queues are taken
  takes : (taking : Taking) (part : Part C N) (p : Was part) → pays walk ≡ false → part.word.spin ≡ false → PlaceFits truths walk' part.held → pays walk' ≡ pays walk → has_queues walk ≡ false → has_queues walk' ≡ true → waits_in walk' ≡ waits_in walk → has_armed walk' ≡ false →
      Stays walk walk' part.held →
      Known truths.holds (word_taken taking part.word) now.row part.lists.lock part.flags (news (move part part p)) → Is h (record part { word = word_taken taking part.word })
  takes taking part p idle none place pay a a' wait set stays known =
      let m = move part part p in
      let word' = word_taken taking part.word in
      let same = taken_word taking part.word in
      steady part word' part.row part.held p wait (λ f. absurd (cc)) (unchanged truths seats h m part.word word' part.row part.held part.held same.0 same.1 place (still_owes walk walk' part.owed idle pay (fits part p).owes) (same_section walk walk' part.held stays) p.safe)
      (away m part.word word' part.lists.lock none same.2 a a' p.homed) known

  -- to change them
  pub takes_to_change : (part : Part C N) → pays walk ≡ false → part.word.spin ≡ false → PlaceFits truths walk' part.held → pays walk' ≡ pays walk → has_queues walk ≡ false → has_queues walk' ≡ true → waits_in walk' ≡ waits_in walk → has_armed walk' ≡ false → Stays walk walk' part.held →
      is_queuing walk' ≡ is_queuing walk → Way walk walk' → Was part → Is h (record part { word = word_taken ToChange part.word })
  takes_to_change part idle none place pay a a' wait set stays q o p = takes ToChange part p idle none place pay a a' wait set stays
      (known_rests truths.holds (move part part p) part.word (word_taken ToChange part.word) now.row part.lists.lock part.flags (calls part idle p) refl refl refl refl refl q o p.known)

  -- and to queue, by one that may not acquire
  pub takes_to_queue : (mode : Mode) (arrival : Arrival) (part : Part C N) → pays walk ≡ false → part.word.spin ≡ false → PlaceFits truths walk' part.held → pays walk' ≡ pays walk → has_queues walk ≡ false → has_queues walk' ≡ true → waits_in walk' ≡ waits_in walk → has_armed walk' ≡ false →
      Stays walk walk' part.held →
      may_acquire mode arrival part.word ≡ false → ((flag n : ℕ) → is_woken arrival ≡ false → is_on_way walk flag n ≡ true → is_on_way walk' flag n ≡ true) → Was part → Is h (record part { word = word_taken (ToQueue mode arrival) part.word })
  takes_to_queue mode arrival part idle none place pay a a' wait set stays shut o p = takes (ToQueue mode arrival) part p idle none place pay a a' wait set stays
      (known_takes truths.holds (move part part p) mode arrival part.word now.row part.lists.lock part.flags (calls part idle p) shut none p.homed (long_eligible (meets_at truths now.row) part.lists.lock _ p.own) o p.known)

  -- a seat sets its flag
  pub arms : (part : Part C N) → pays walk ≡ false → PlaceFits truths walk' part.held → pays walk' ≡ pays walk → has_queues walk' ≡ has_queues walk → awaits walk ≡ false → waits_in walk' ≡ waits_in walk → is_queuing walk' ≡ is_queuing walk → NoWay walk → Stays walk walk' part.held →
      Was part → Is h (record part { flags = flags_with part.flags who 1 })
  arms part idle place pay spin a wait q o stays p =
      let m = move part part p in
      record {
        safe = unchanged truths seats h m part.word part.word part.row part.held part.held refl refl place (still_owes walk walk' part.owed idle pay (fits part p).owes) (same_section walk walk' part.held stays) p.safe;
        homed = at_home m part.word part.word part.lists.lock refl refl spin p.homed;
        placed = armed m part.lists part.flags refl a (ap is_some wait ∙ a) p.placed;
        own = own_same m part.lists.lock wait p.own;
        told = tell_same m now.phases part.lists part.lists.lock wait p.told;
        taken = told_arms m now.phases part.flags part.lists.lock wait refl p.taken;
        known = known_arms truths.holds m part.word now.row part.lists.lock part.flags (calls part idle p) q o p.known;
      }

  -- a seat puts itself into the lock list, and puts the queues back
  pub enqueues : (mode : Mode) (arrival : Arrival) (part : Part C N) → pays walk ≡ false → PlaceFits truths walk' part.held → pays walk' ≡ pays walk → has_queues walk ≡ true → has_queues walk' ≡ false → awaits walk ≡ false
      → waits_in walk' ≡ Some (record { mode = mode; on = None; tries = tries_of arrival }) → has_armed walk ≡ true → has_armed walk' ≡ false → is_queuing walk ≡ true → NoWay walk → Stays walk walk' part.held →
      let lock' = queued who mode None (tries_of arrival) (is_woken arrival) part.lists.lock in
      Was part → Is h (record part { word = word_returned false (bits_of lock') part.word; lists = with_lock part.lists lock' })
  enqueues mode arrival part idle place pay s s' a a' set set' q o stays p =
      let m = move part part p in
      let lock = part.lists.lock in
      let lock' = queued who mode None (tries_of arrival) (is_woken arrival) lock in
      let word' = word_returned false (bits_of lock') part.word in
      let none = stands_not part a p in
      let owing = owes_none part idle p in
      record {
        safe = unchanged truths seats h m part.word word' part.row part.held part.held refl refl place (still_owes walk walk' part.owed idle pay (fits part p).owes) (same_section walk walk' part.held stays) p.safe;
        homed = back_home m part.word word' lock lock' refl refl s s' p.homed;
        placed = entered m part.lists (with_lock part.lists lock') part.flags p.placed.four p.placed.once owing
            (λ seat. let more = times_queued seat who mode None (tries_of arrival) (is_woken arrival) lock in let nothing : times_among seat part.owed ≡ 0 = rw owing refl in omega (arith, counts_lock part.lists lock' seat, more, nothing)) set a (ap is_some a') set' p.placed;
        own = own_queued m mode None (tries_of arrival) (is_woken arrival) lock (lock_nowhere part.lists none) (ap lock_stance a') p.own;
        told = tell_moves m now.phases now.phases part.lists lock' p.placed.four none (λ seat ne. refl) (waits_not part.lists _ p.placed.four none p.told) p.told;
        taken = told_enters m now.phases now.phases part.flags lock lock' (λ seat ne. refl) (lock_nowhere part.lists none) (unowed part a p) (armed_now part set p) (λ due listed. due)
            (λ listed. listed_queued (WaiterNames now.phases (news m)) who mode None (tries_of arrival) (is_woken arrival) lock (subst (λ s. IsNamed s (now.phases who) None) (sym (ap waits_in (walk_is m) ∙ a')) refl) listed) p.taken;
        known = puts truths.holds m mode None (tries_of arrival) (is_woken arrival) part.word now.row lock part.flags (calls part idle p) q o p.known;
      }

  -- one that leaves and stands somewhere stands there once, and isn't on its way: its flag is set, and no wake is owed to it
  still_stands : (part : Part C N) → 1 ≤ counts_in who part.lists → Was part → is_on_way walk 1 0 ≡ false → (counts_in who part.lists ≡ 1) × (is_on_way walk (part.flags who) (called_to who (front ++ view_of who walk part.held part.owed ∷ back)) ≡ false)
  still_stands part stood p o =
      let views = front ++ view_of who walk part.held part.owed ∷ back in
      let here = placed_here (move part part p) part.lists part.flags p.placed in
      let most = one_most (is_unwoken walk (part.flags who)) in
      let flag : part.flags who ≡ 1 = due_flag walk (part.flags who) (omega (arith, here, stood)) in
      let unowed : called_to who views ≡ 0 = let few = called_most who views in omega (arith, here, most, stood, few) in
      (omega (arith, here, most, stood), (λ i. is_on_way walk (flag i) (unowed i)) ∙ o)

  -- a seat that leaves takes itself out of the lock list
  pub withdraws : (part : Part C N) → pays walk ≡ false → 1 ≤ times_in who part.lists.lock → PlaceFits {C = C} {N = N} truths walk' None → pays walk' ≡ pays walk → has_queues walk ≡ true → has_queues walk' ≡ false → has_armed walk' ≡ false
      → is_queuing walk ≡ false → is_queuing walk' ≡ false → awaits walk' ≡ false → is_on_way walk 1 0 ≡ false → phase_by walk' ≡ phase_by walk → let lock' = without_in who part.lists.lock in
      Was (record part { held = None }) → Is h (record part { word = word_returned false (bits_of lock') part.word; lists = with_lock part.lists lock'; held = None })
  withdraws part idle stood place pay s s' set' q q' a' o stays p =
      let old = record part { held = None } in
      let m = move old old p in
      let lists = part.lists in
      let lock' = without_in who lists.lock in
      let word' = word_returned false (bits_of lock') part.word in
      let gone : times_in who lock' ≡ 0 = times_without who lists.lock in
      let stands = still_stands old (omega (arith, stood)) p o in
      let nowhere_now : times who (with_lock lists lock') ≡ 0 = counts_none who (with_lock lists lock') (omega (arith, counts_lock lists lock' who, gone, stands.0, stood)) in
      let as_put = tell_lists now.phases lists lock' (olds m) p.told in
      record {
        safe = unchanged truths seats h m part.word word' part.row None None refl refl place (still_owes walk walk' part.owed idle pay (fits old p).owes) (same_section walk walk' None (λ none. stays)) p.safe;
        homed = back_home m part.word word' lists.lock lock' refl refl s s' p.homed;
        placed = withdrawn m lists (with_lock lists lock') (times_in who lists.lock) part.flags p.placed.four p.placed.once refl set' (omega (arith, counts_lock lists lock' who, gone))
            (λ seat ne. let same = times_others seat who lists.lock ne in omega (arith, counts_lock lists lock' seat, same)) (λ some. a') (λ z. absurd (omega (arith, stood, z))) p.placed;
        own = own_stays m lock' gone (listed_without (WaiterFits (olds m)) who lists.lock p.own);
        told = tell_moves m now.phases now.phases (with_lock lists lock') lock' p.placed.four nowhere_now (λ seat ne. refl) (waits_not (with_lock lists lock') _ p.placed.four nowhere_now as_put) as_put;
        taken = told_stays m now.phases now.phases part.flags lists.lock lock' (left_stays m now.phases now.phases (not_waiting (waits_in walk') a') (λ seat ne. refl)) (λ due listed. due) (λ listed. listed_without (WaiterNames now.phases (news m)) who lists.lock listed) p.taken;
        known = known_withdraws truths.holds m part.word now.row lists.lock lock' part.flags (calls old idle p) s q q' (λ f. absurd (both_ways _ stands.1 f)) (filter_eligible (meets_at truths now.row) (λ w. not (is_of who w)) lists.lock) p.homed p.known;
      }

  -- The queues are put back as they were.
  pub returns : (part : Part C N) → pays walk ≡ false → PlaceFits truths walk' part.held → pays walk' ≡ pays walk → has_queues walk ≡ true → has_queues walk' ≡ false → waits_in walk' ≡ waits_in walk → has_armed walk' ≡ false
      → is_queuing walk ≡ false → is_queuing walk' ≡ false → Way walk walk' → Stays walk walk' part.held → Was part → Is h (record part { word = word_returned false (bits_of part.lists.lock) part.word })
  returns part idle place pay s s' wait set' q q' o stays p =
      let m = move part part p in
      let lock = part.lists.lock in
      let word' = word_returned false (bits_of lock) part.word in
      steady part word' part.row part.held p wait (λ f. absurd (cc)) (unchanged truths seats h m part.word word' part.row part.held part.held refl refl place (still_owes walk walk' part.owed idle pay (fits part p).owes) (same_section walk walk' part.held stays) p.safe)
      (back_home m part.word word' lock lock refl refl s s' p.homed) (known_withdraws truths.holds m part.word now.row lock lock part.flags (calls part idle p) s q q' (o (part.flags who) (called_to who (olds m))) (λ e. e) p.homed p.known)

  -- a seat that leaves takes itself out of the lists of variables, and commits that
  pub leaves : (variables : Variables) (mode : Mode) (part : Part C N) → seats ≤ 64 → pays walk ≡ false → 1 ≤ sum_by (times_in who) part.lists.cvs → waits_in walk ≡ Some (record { mode = mode; on = Some (OnVariables variables); tries = 0 }) →
      PlaceFits {C = C} {N = N} truths walk' None → pays walk' ≡ pays walk → has_queues walk ≡ true → has_queues walk' ≡ false → has_armed walk' ≡ false → is_queuing walk ≡ false
      → is_queuing walk' ≡ false → awaits walk' ≡ false → is_on_way walk 1 0 ≡ false → IsExpected (phase_by walk') (Left variables mode) →
      Was (record part { held = None }) → Is (h ++ left_event who variables ∷ []) (record part { word = word_returned false (bits_of part.lists.lock) part.word; lists = cvs_left who part.lists; held = None })
  leaves variables mode part few idle stood wait place pay s s' set' q q' a' o phase p =
      let old = record part { held = None } in
      let m = move old old p in
      let lists = part.lists in
      let word' = word_returned false (bits_of lists.lock) part.word in
      let next = standing_after (h ++ left_event who variables ∷ []) in
      let four = p.placed.four in
      let count = counts_somewhere who lists stood in
      let stands = still_stands old (omega (arith, count)) p o in
      let was = stands_still now.phases lists (olds m) who mode variables p.told four (ap waits_in (walk_was m) ∙ wait) stood in
      let there = left_there truths seats h who variables in
      record {
        safe = left_variables truths seats h m variables mode part.word word' part.row few was phase refl refl place (still_owes walk walk' part.owed idle pay (fits old p).owes) p.safe;
        homed = back_home m part.word word' lists.lock lists.lock refl refl s s' p.homed;
        placed = withdrawn m lists (cvs_left who lists) 1 part.flags (length-map lists.cvs (without_in who) ∙ four) (once_left who lists four p.placed.once) refl set'
            (omega (arith, counts_gone who lists, count)) (λ seat ne. counts_others seat who lists ne) (λ some. a') (λ z. absurd (omega (arith, z))) p.placed;
        own = own_stays m lists.lock (omega (arith, count, stands.0)) p.own;
        told = tell_leaves m now.phases next.phases lists four there (λ vs mode' e. let now_is : Left variables mode ≡ Waiting vs mode' = sym (left_here truths seats h who variables mode was) ∙ e in absurd (cc)) p.told;
        taken = told_stays m now.phases next.phases part.flags lists.lock lists.lock (left_stays m now.phases next.phases (not_waiting (waits_in walk') a') there) (λ due listed. due) (λ listed. listed) p.taken;
        known = subst (λ r. Known truths.holds word' r lists.lock part.flags (news m)) (sym (left_same truths seats h who variables))
            (known_withdraws truths.holds m part.word now.row lists.lock lists.lock part.flags (calls old idle p) s q q' (λ f. absurd (both_ways _ stands.1 f)) (λ e. e) p.homed p.known);
      }

  -- ---- with a scan

  -- what a scan takes and leaves
  scan_parts : (meets : C → Bool) (lists : Lists C) (seat : ℕ) → counts_in seat (with_lock lists (left_of meets lists.lock)) + times_among seat (called_of (woken_of meets lists.lock)) ≡ counts_in seat lists
  scan_parts meets lists seat = omega (arith, times_scan seat meets lists.lock, times_seats seat (woken_of meets lists.lock), counts_lock lists (left_of meets lists.lock) seat)

  -- what is left where the queues are put back behind a scan, with these lists, and the section given up
  abbrev scanned : Releasing → Lists C → Part C N → Part C N
  scanned releasing lists part =
      let woken = woken_of (meets_at truths part.row) part.lists.lock in record part { word = word_released_returning releasing (has_some woken) (bits_of lists.lock) part.word; lists = lists; held = None; owed = called_of woken }

  -- Where nobody could go on whom the scan has left, nobody can of those who stand in the lock list then; `after` is the row that the history leaves.
  scan_known : (releasing : Releasing) (lists : Lists C) (part : Part C N) (after : List ℕ) (p : Was part) → part.row ≡ after → PutsBack walk walk' (called_of (woken_of (meets_at truths part.row) part.lists.lock)) →
      (has_eligible (meets_at truths part.row) (left_of (meets_at truths part.row) part.lists.lock) ≡ false → has_eligible (meets_at truths part.row) lists.lock ≡ false) →
      let next = scanned releasing lists part in let m = move part next p in Homed next.word lists.lock (news m) × Known truths.holds next.word after lists.lock part.flags (news m)
  scan_known releasing lists part after p row puts calm =
      let next = scanned releasing lists part in
      let m = move part next p in (
        back_home m part.word next.word part.lists.lock lists.lock refl refl puts.had puts.gave p.homed,
        subst (λ r. Known truths.holds next.word r lists.lock part.flags (news m)) row
            (known_scans truths.holds m releasing part.word now.row part.row part.lists lists.lock part.flags puts.had puts.unqueued puts.still puts.off_way (owes_none part puts.idle p) refl puts.from calm p.homed p.placed p.known),
      )

  -- a seat puts the queues back as a scan leaves them, and releases its section
  pub scans : (releasing : Releasing) (part : Part C N) (held : Held C N) → held.mode ≡ mode_released releasing → seats ≤ 64 → IsSettledBy truths.holds held.before held.entry → let meets : C → Bool = meets_at truths part.row in
      IsExpected (phase_by walk') Idle → PlaceFits {C = C} {N = N} truths walk' None → PutsBack walk walk' (called_of (woken_of meets part.lists.lock)) → awaits walk' ≡ false →
      Was (record part { held = Some held }) → Is (with_left held Plain) (scanned releasing (with_lock part.lists (left_of meets part.lists.lock)) part)
  scans releasing part held is few settled phase place puts a' p =
      let meets : C → Bool = meets_at truths part.row in
      let old = record part { held = Some held } in
      let lock = part.lists.lock in
      let stay = left_of meets lock in
      let next = scanned releasing (with_lock part.lists stay) part in
      let m = move old next p in
      let after = standing_after (with_left held Plain) in
      let there = phases_there truths seats h who held Plain in
      let none = stands_not old puts.still p in
      let known = scan_known releasing (with_lock part.lists stay) old after.row p (sym (fits old p).section.cells ∙ sym (row_left truths seats h who held Plain)) puts (λ e. e) in
      record {
        safe = released truths seats h m (mode_released releasing) Plain part.word next.word part.row held is few settled tt phase (released_holders releasing part.word) place (sym puts.owes, calls_told walk' (woken_of meets lock) puts.from) p.safe;
        homed = known.0;
        placed = taken m part.lists (with_lock part.lists stay) part.flags p.placed.four p.placed.once (owes_none old puts.idle p) (scan_parts meets part.lists) puts.still a' puts.unarmed p.placed;
        own = own_scanned m meets lock (lock_nowhere part.lists none) p.own;
        told = tell_moves m now.phases after.phases part.lists stay p.placed.four none there (λ vs mode e. let clash : Idle ≡ Waiting vs mode = sym (phases_here truths seats h who held Plain) ∙ e in absurd (cc)) p.told;
        taken = told_stays m now.phases after.phases part.flags lock stay (left_stays m now.phases after.phases (not_waiting (waits_in walk') a') there)
            (λ due listed. listed_woken after.phases (news m) meets lock listed) (λ listed. listed_left (WaiterNames after.phases (news m)) meets lock listed) p.taken;
        known = known.1;
      }

  -- The same with itself in the lock list, for a condition that is false. What it leaves of the sections is told, and the history after that.
  queues_scanned : (releasing : Releasing) (mode : Mode) (c : C) (again : Bool) (h' : List (Event C N)) (part : Part C N) (p : Was part) →
      let meets : C → Bool = meets_at truths part.row in let next = scanned releasing (with_lock part.lists (queued who mode (Some c) 0 again (left_of meets part.lists.lock))) part in
      truths.holds c part.row ≡ false → part.row ≡ (standing_after h').row → Safe truths seats h' next.word part.row (news (move part next p)) →
      ((seat : ℕ) → who ≢ seat → (standing_after h').phases seat ≡ now.phases seat) → ((vs : Variables) (m : Mode) → (standing_after h').phases who ≡ Waiting vs m → ⊥) →
      PutsBack walk walk' (called_of (woken_of meets part.lists.lock)) → has_armed walk ≡ true → waits_in walk' ≡ Some (record { mode = mode; on = Some (OnCondition c); tries = 0 }) → Is h' next
  queues_scanned releasing mode c again h' part p unmet row safe there idles puts set a' =
      let meets : C → Bool = meets_at truths part.row in
      let lists = part.lists in
      let lock' = queued who mode (Some c) 0 again (left_of meets lists.lock) in
      let m = move part (scanned releasing (with_lock lists lock') part) p in
      let phases' = (standing_after h').phases in
      let none = stands_not part puts.still p in
      let known = scan_known releasing (with_lock lists lock') part (standing_after h').row p row puts (λ e. queued_eligible meets who mode c 0 again (left_of meets lists.lock) unmet e) in
      record {
        safe = safe;
        homed = known.0;
        placed = entered m lists (with_lock lists lock') part.flags p.placed.four p.placed.once (owes_none part puts.idle p)
            (λ seat. omega (arith, times_scan seat meets lists.lock, times_seats seat (woken_of meets lists.lock), counts_lock lists lock' seat, times_queued seat who mode (Some c) 0 again (left_of meets lists.lock))) set puts.still (ap is_some a') puts.unarmed p.placed;
        own = own_queued m mode (Some c) 0 again (left_of meets lists.lock) (omega (arith, lock_nowhere lists none, times_scan who meets lists.lock)) (ap lock_stance a') (listed_left (WaiterFits (olds m)) meets lists.lock p.own);
        told = tell_moves m now.phases phases' lists lock' p.placed.four none there idles p.told;
        taken = told_enters m now.phases phases' part.flags lists.lock lock' there (lock_nowhere lists none) (unowed part puts.still p) (armed_now part set p) (λ due listed. listed_woken phases' (news m) meets lists.lock listed)
            (λ listed. listed_queued (WaiterNames phases' (news m)) who mode (Some c) 0 again (left_of meets lists.lock) (subst (λ s. IsNamed s (phases' who) None) (sym (ap waits_in (walk_is m) ∙ a')) refl) (listed_left (WaiterNames phases' (news m)) meets lists.lock listed)) p.taken;
        known = known.1;
      }

  -- a wait for a condition leaves its section, and commits it
  pub waits : (releasing : Releasing) (mode : Mode) (c : C) (again : Bool) (part : Part C N) (held : Held C N) → held.mode ≡ mode_released releasing → seats ≤ 64 → IsSettledBy truths.holds held.before held.entry → let meets : C → Bool = meets_at truths part.row in
      truths.holds c held.row ≡ false → IsExpected (phase_by walk') (Cond c held.mode) → PlaceFits {C = C} {N = N} truths walk' None → PutsBack walk walk' (called_of (woken_of meets part.lists.lock)) → has_armed walk ≡ true →
      waits_in walk' ≡ Some (record { mode = mode; on = Some (OnCondition c); tries = 0 }) →
      Was (record part { held = Some held }) → Is (with_left held (CondWait c)) (scanned releasing (with_lock part.lists (queued who mode (Some c) 0 again (left_of meets part.lists.lock))) part)
  waits releasing mode c again part held is few settled unmet phase place puts set a' p =
      let meets : C → Bool = meets_at truths part.row in
      let old = record part { held = Some held } in
      let next = scanned releasing (with_lock part.lists (queued who mode (Some c) 0 again (left_of meets part.lists.lock))) part in
      let cells = (fits old p).section.cells in
      queues_scanned releasing mode c again (with_left held (CondWait c)) old p (subst (λ r. truths.holds c r ≡ false) cells unmet) (sym cells ∙ sym (row_left truths seats h who held (CondWait c)))
      (released truths seats h (move old next p) (mode_released releasing) (CondWait c) part.word next.word part.row held is few settled unmet phase (released_holders releasing part.word) place (sym puts.owes, calls_told walk' (woken_of meets part.lists.lock) puts.from) p.safe)
      (phases_there truths seats h who held (CondWait c)) (λ vs mode' e. let clash : Cond c held.mode ≡ Waiting vs mode' = sym (phases_here truths seats h who held (CondWait c)) ∙ e in absurd (cc)) puts set a'

  -- a wait for a condition that came back gives its section up, and commits nothing
  pub waits_on : (releasing : Releasing) (mode : Mode) (c : C) (again : Bool) (part : Part C N) (held : Held C N) → held.mode ≡ mode_released releasing → held.row ≡ held.before → phase_before held.mode held.entry ≡ Cond c held.mode → let meets : C → Bool = meets_at truths part.row in
      truths.holds c held.row ≡ false → IsExpected (phase_by walk') (Cond c held.mode) → PlaceFits {C = C} {N = N} truths walk' None → PutsBack walk walk' (called_of (woken_of meets part.lists.lock)) → has_armed walk ≡ true →
      waits_in walk' ≡ Some (record { mode = mode; on = Some (OnCondition c); tries = 0 }) →
      Was (record part { held = Some held }) → Is h (scanned releasing (with_lock part.lists (queued who mode (Some c) 0 again (left_of meets part.lists.lock))) part)
  waits_on releasing mode c again part held is same comes unmet phase place puts set a' p =
      let meets : C → Bool = meets_at truths part.row in
      let old = record part { held = Some held } in
      let next = scanned releasing (with_lock part.lists (queued who mode (Some c) 0 again (left_of meets part.lists.lock))) part in
      let fit = (fits old p).section in
      queues_scanned releasing mode c again h old p (subst (λ r. truths.holds c r ≡ false) fit.cells unmet) (sym fit.cells ∙ same ∙ fit.starts)
      (dropped truths seats h (move old next p) (mode_released releasing) part.word next.word part.row held is same (subst (λ ph. IsExpected (phase_by walk') ph) (sym comes) phase)
      (released_holders releasing part.word) place (sym puts.owes, calls_told walk' (woken_of meets part.lists.lock) puts.from) p.safe)
      (λ seat ne. refl) (λ vs mode' e. let clash : Cond c held.mode ≡ Waiting vs mode' = sym (fit.enters ∙ comes) ∙ e in absurd (cc)) puts set a'

  -- a wait for variables leaves its section, commits it, and goes to the back of their lists
  pub waits_for : (releasing : Releasing) (mode : Mode) (variables : Variables) (part : Part C N) (held : Held C N) → held.mode ≡ mode_released releasing → held.mode ≡ mode → seats ≤ 64 → AreVariables variables → IsSettledBy truths.holds held.before held.entry →
      let meets : C → Bool = meets_at truths part.row in
      IsExpected (phase_by walk') (Waiting variables held.mode) → PlaceFits {C = C} {N = N} truths walk' None → PutsBack walk walk' (called_of (woken_of meets part.lists.lock)) → has_armed walk ≡ true → waits_in walk' ≡ Some (record { mode = mode; on = Some (OnVariables variables); tries = 0 }) →
      Was (record part { held = Some held }) → Is (with_left held (exit_for (OnVariables variables))) (scanned releasing (waits_at (OnVariables variables) who mode false (with_lock part.lists (left_of meets part.lists.lock))) part)
  waits_for releasing mode variables part held is in_mode few are settled phase place puts set a' p =
      let meets : C → Bool = meets_at truths part.row in
      let old = record part { held = Some held } in
      let lists = part.lists in
      let stay = with_lock lists (left_of meets lists.lock) in
      let exit : Exit C = exit_for (OnVariables variables) in
      let lists' = waits_at (OnVariables variables) who mode false stay in
      let next = scanned releasing lists' part in
      let m = move old next p in
      let after = standing_after (with_left held exit) in
      let there = phases_there truths seats h who held exit in
      let in_lists = entered_at variables who mode false stay p.placed.four are in
      let ends = waiting_exit truths.holds held.row held.mode variables in
      let none = stands_not old puts.still p in
      let out : times who stay ≡ 0 = omega (arith, none, times_scan who meets lists.lock) in
      let known = scan_known releasing lists' old after.row p (sym (fits old p).section.cells ∙ sym (row_left truths seats h who held exit)) puts (subst (λ ws. has_eligible meets ws ≡ false) (sym in_lists.lock)) in
      record {
        safe = released truths seats h m (mode_released releasing) exit part.word next.word part.row held is few settled ends.0 (subst (IsExpected (phase_by walk')) (sym ends.1) phase)
            (released_holders releasing part.word) place (sym puts.owes, calls_told walk' (woken_of meets lists.lock) puts.from) p.safe;
        homed = known.0;
        placed = entered m lists lists' part.flags in_lists.four (once_entered variables who mode stay lists' p.placed.four are out in_lists p.placed.once) (owes_none old puts.idle p)
            (λ seat. omega (arith, scan_parts meets lists seat, counts_entered variables who mode stay lists' p.placed.four are out in_lists seat)) set puts.still (ap is_some a') puts.unarmed p.placed;
        own = subst (λ lock. WaitersOwn lock (news m)) (sym in_lists.lock) (own_scanned m meets lists.lock (lock_nowhere lists none) p.own);
        told = tell_enters m now.phases after.phases stay lists' variables mode p.placed.four are out in_lists a' (phases_here truths seats h who held exit ∙ ends.1 ∙ ap (Waiting variables) in_mode) there (tell_lists now.phases lists stay.lock (olds m) p.told);
        taken = subst (λ lock. TakenTold after.phases part.flags lock (news m)) (sym in_lists.lock)
            (told_enters m now.phases after.phases part.flags lists.lock (left_of meets lists.lock) there (lock_nowhere lists none) (unowed old puts.still p) (armed_now old set p)
            (λ due listed. listed_woken after.phases (news m) meets lists.lock listed) (λ listed. listed_left (WaiterNames after.phases (news m)) meets lists.lock listed) p.taken);
        known = known.1;
      }

  -- ---- wakes

  -- a seat pays a wake that it owes
  pub wakes : (part : Part C N) (wake : Owed) (rest : List Owed) → (calls_from_lock walk' ≡ calls_from_lock walk) ⊎ (rest ≡ []) → PlaceFits truths walk' part.held → pays walk' ≡ has_some rest → has_queues walk' ≡ has_queues walk → waits_in walk' ≡ waits_in walk → was_woken walk' ≡ was_woken walk
      → has_armed walk' ≡ false → is_queuing walk' ≡ is_queuing walk → Stays walk walk' part.held → Was (record part { owed = wake ∷ rest }) → Is h (record part { flags = flags_with part.flags wake.seat wake.value; owed = rest })
  wakes part wake rest same place pay spin a w set' q stays p =
      let old = record part { owed = wake ∷ rest } in
      let m = move old (record part { owed = rest }) p in
      let tells = (fits old p).owes.1 in
      let from = tells_from (calls_from_lock walk) wake tells.0 in
      let tell : Every (Tells (calls_from_lock walk')) rest = elim same [ inl e ↦ subst (λ b. Every (Tells b) rest) (sym e) tells.1 | inr none ↦ subst (Every (Tells (calls_from_lock walk'))) (sym none) tt ] in
      let after_all : (seat : ℕ) → ◌≡◌ {A = ℕ} (cond (calls_from_lock walk') (times_among seat rest) 0) (cond (calls_from_lock walk) (times_among seat rest) 0) = λ seat. elim same [
        | inl e ↦ ap (λ b. cond b (times_among seat rest) 0) e
        | inr none ↦ nothing_called walk' rest seat none ∙ sym (nothing_called walk rest seat none)
      ] in
      record {
        safe = unchanged truths seats h m part.word part.word part.row part.held part.held refl refl place (sym pay, tell) (same_section walk walk' part.held stays) p.safe;
        homed = at_home m part.word part.word part.lists.lock refl refl spin p.homed;
        placed = woke m wake part.lists part.flags refl (tells_clear (calls_from_lock walk) wake tells.0) (tells_few (calls_from_lock walk) wake tells.0) (ap is_some a) set' p.placed;
        own = own_same m part.lists.lock a p.own;
        told = tell_same m now.phases part.lists part.lists.lock a p.told;
        taken = told_pays m now.phases part.flags part.lists.lock wake a refl p.taken;
        known = known_pays truths.holds m part.word now.row part.lists part.flags wake refl from (λ seat. after_all seat ∙ ap (λ b. cond b (times_among seat rest) 0) from) q (ap is_some a) w p.placed p.known;
      }

  -- a seat sees its flag cleared: it stands nowhere then
  pub sees : (part : Part C N) → part.flags who ≢ 1 → pays walk ≡ false → PlaceFits {C = C} {N = N} truths walk' None → pays walk' ≡ pays walk → has_queues walk' ≡ has_queues walk → awaits walk' ≡ false → waits_in walk' ≡ None
      → has_armed walk' ≡ false → is_queuing walk' ≡ is_queuing walk → (is_on_way walk (part.flags who) 0 ≡ true → is_on_way walk' (part.flags who) 0 ≡ true) →
      (IsExpected (phase_by walk) (now.phases who) → IsExpected (phase_by walk') (now.phases who)) → Was (record part { held = None }) → Is h (record part { held = None })
  sees part clear idle place pay spin a' gone set' q o phase p =
      let old = record part { held = None } in
      let m = move old old p in
      let none = nowhere m part.lists part.flags (cleared walk (part.flags who) clear) p.placed in
      record {
        safe = unchanged_by truths seats h m part.word part.word part.row None None refl refl place (still_owes walk walk' part.owed idle pay (fits old p).owes) refl refl phase p.safe;
        homed = at_home m part.word part.word part.lists.lock refl refl spin p.homed;
        placed = seen m part.lists part.flags refl clear a' set' p.placed;
        own = own_stays m part.lists.lock (lock_nowhere part.lists none) p.own;
        told = tell_moves m now.phases now.phases part.lists part.lists.lock p.placed.four none (λ seat ne. refl) (waits_not part.lists _ p.placed.four none p.told) p.told;
        taken = told_stays m now.phases now.phases part.flags part.lists.lock part.lists.lock (left_stays m now.phases now.phases gone (λ seat ne. refl)) (λ due listed. due) (λ listed. listed) p.taken;
        known = known_sees truths.holds m part.word now.row part.lists part.flags (calls old idle p) q clear o p.placed p.known;
      }

  -- A call takes waiters from the list of a variable and puts the queues back: they are owed wakes, or stand at the back of the lock list, if the lock is held. What it takes, and that its event is legal, is told.
  pub wakes_waiters : (e : Event C N) (k : ℕ) (took : List (Waiter C)) (part : Part C N) (owed' : List Owed) (lock' : List (Waiter C)) (moved : Bool) → seats ≤ 64 → k < 4 → who_of e ≡ who →
      IsLegalEvent truths.holds now e → standing_next now e ≡ record { row = now.row; phases = woken_phases k (taken_set took) now.phases } →
      ((seat : ℕ) → times_in seat took ≤ times_in seat (waiters_of part.lists (Cv k))) → Every (VariableWaiterFits now.phases (front ++ view_of who walk part.held part.owed ∷ back) k) took → pays walk ≡ false →
      -- moved, or owed
      ((moved ≡ true) × (is_held part.word ≡ true) × (has_some took ≡ true) × (lock' ≡ part.lists.lock ++ took) × (owed' ≡ [])) ⊎ ((moved ≡ false) × (lock' ≡ part.lists.lock) × (owed' ≡ wakes_of k took)) →
      PlaceFits truths walk' part.held → pays walk' ≡ has_some owed' → calls_from_lock walk' ≡ false ⊎ (owed' ≡ []) → has_queues walk ≡ true → has_queues walk' ≡ false
      → waits_in walk ≡ None → waits_in walk' ≡ None → has_armed walk' ≡ false → is_queuing walk ≡ false → is_queuing walk' ≡ false → Way walk walk' → Stays walk walk' part.held →
      Was part → Is (h ++ e ∷ []) (record part { word = word_returned moved (bits_of lock') part.word; lists = with_lock (cvs_without (taken_set took) part.lists) lock'; owed = owed' })
  wakes_waiters e k took part owed' lock' moved few low by legal after_it subset takes idle ways place pay from s s' a a' set' q q' o stays p =
      let lists = part.lists in
      let set = taken_set took in
      let put = cvs_without set lists in
      let lists' = with_lock put lock' in
      let word' = word_returned moved (bits_of lock') part.word in
      let m = move part (record part { owed = owed' }) p in
      let owing = owes_none part idle p in
      let none = stands_not part (ap is_some a) p in
      let four = p.placed.four in
      let standing : standing_after (h ++ e ∷ []) ≡ standing_next now e = standing_from-append (first_standing N) h (e ∷ []) in
      let phases : (standing_after (h ++ e ∷ [])).phases ≡ woken_phases k set now.phases = ap (λ (x : Standing C). x.phases) (standing ∙ after_it) in
      let row_same : (standing_after (h ++ e ∷ [])).row ≡ now.row = ap (λ (x : Standing C). x.row) (standing ∙ after_it) in
      let no_calls : (seat : ℕ) → ◌≡◌ {A = ℕ} (cond (calls_from_lock walk') (times_among seat owed') 0) (cond (calls_from_lock walk) (times_among seat part.owed) 0) = λ seat. elim from [
        | inl other ↦ ap (λ b. cond b (times_among seat owed') 0) other ∙ sym (nothing_called walk part.owed seat owing)
        | inr empty ↦ nothing_called walk' owed' seat empty ∙ sym (nothing_called walk part.owed seat owing)
      ] in
      let counts : (seat : ℕ) → counts_in seat lists' + times_among seat owed' ≡ counts_in seat lists = λ seat.
      let at_cv = counts_taken took k lists seat four low p.placed.once (subset seat) in let at_lock = counts_lock put lock' seat in
      elim ways [
        | inl move ↦ let more : times_in seat lock' ≡ times_in seat lists.lock + times_in seat took = ap (times_in seat) move.3 ∙ times_in-append seat lists.lock took in
            let nothing : times_among seat owed' ≡ 0 = ap (times_among seat) move.4 in
            omega (arith, at_cv, at_lock, more, nothing)
        | inr owe ↦ let same : times_in seat lock' ≡ times_in seat lists.lock = ap (times_in seat) owe.1 in
            let due_now : times_among seat owed' ≡ times_in seat took = ap (times_among seat) owe.2 ∙ times_wakes seat k took in
            omega (arith, at_cv, at_lock, same, due_now)
      ] in
      record {
        safe = woken truths seats h m e k part.word word' part.row part.held by legal (ap (λ (x : Standing C). x.row) after_it) (λ seat. elim (cases_Bool (is_in set seat)) [
          | inl in_it ↦ inr (
            stands_waits k now.phases took seat (waits_of now.phases (olds m) k took takes) (in_stands took seat in_it),
            ap (λ (x : Standing C). x.phases seat) after_it ∙ ap (λ b. cond b (woken_phase k (now.phases seat)) (now.phases seat)) in_it,
          )
          | inr out_of_it ↦ inl (ap (λ (x : Standing C). x.phases seat) after_it ∙ ap (λ b. cond b (woken_phase k (now.phases seat)) (now.phases seat)) out_of_it)
        ])
            refl refl place (sym pay, wakes_told (calls_from_lock walk') k took owed' low (elim ways [ inl move ↦ inl move.4 | inr owe ↦ inr owe.2 ]) from) ((same_section walk walk' part.held stays).fits now part.row who) p.safe;
        homed = back_home m part.word word' lists.lock lock' refl refl s s' p.homed;
        placed = taken m lists lists' part.flags (length-map lists.cvs (outside set) ∙ four) (once_taken set lists four p.placed.once) owing counts (ap is_some a) (ap is_some a') set' p.placed;
        own = elim ways [
          | inl move ↦ subst (λ ws. WaitersOwn ws (news m)) (sym move.3) (own_same m (lists.lock ++ took) (a' ∙ sym a) (own_moved now.phases (olds m) k lists.lock took p.own takes))
          | inr owe ↦ subst (λ ws. WaitersOwn ws (news m)) (sym owe.1) (own_same m lists.lock (a' ∙ sym a) p.own)
        ];
        told = subst (λ ph. VariablesTell ph lists' (news m)) (sym phases) (tell_taken m now.phases lists lock' k took four none p.told);
        taken = subst (λ ph. TakenTold ph part.flags lock' (news m)) (sym phases)
            (told_wakes m now.phases k took low takes (a' ∙ sym a) part.flags lists.lock lock' (elim ways [ inl move ↦ inl (move.3, move.4) | inr owe ↦ inr (owe.1, owe.2) ]) p.taken);
        known = subst (λ r. Known truths.holds word' r lock' part.flags (news m)) (sym row_same) (elim ways [
          | inl move ↦ subst (λ (x : Bool × List (Waiter C)). Known truths.holds (word_returned x.0 (bits_of x.1) part.word) now.row x.1 part.flags (news m)) (λ i. (sym move.0 i, sym move.3 i))
              (known_moves truths.holds m part.word now.row lists.lock took part.flags no_calls o move.1 move.2 p.known)
          | inr owe ↦ subst (λ (x : Bool × List (Waiter C)). Known truths.holds (word_returned x.0 (bits_of x.1) part.word) now.row x.1 part.flags (news m)) (λ i. (sym owe.0 i, sym owe.1 i))
              (known_withdraws truths.holds m part.word now.row lists.lock lists.lock part.flags no_calls s q q' (o (part.flags who) (called_to who (olds m))) (λ x. x) p.homed p.known)
        ]);
      }
