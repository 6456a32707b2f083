-- A fresh lock is lawful, and so is one where a call begins.
use Rattle.std.proofs.Common.{Bool, List, None, Option, Some, [], ap, arith, cond, eqb, false, ltb, ltb-false, refl, subst, suc, sym, true, zero, ℕ, ◌++◌, ◌+◌, ◌-◌, ◌<◌, ◌∷◌, ◌≡◌, ◌≤◌}
use Rattle.ns_word.proofs.Prelude.{AcquireLoad, AreApart, Begins, CanWait, EachFits, Event, Every, ForLock, HasNumber, Held, InAcquire, InCells, InQueuing, InRelease, InShow, InSignal, InTry, InWait, IsFirst, IsForVariables, IsLawful, Judging, Load, LockState, NoneIs, OnCondition, OnEntry}
use Rattle.ns_word.proofs.Prelude.{OnVariables, PlaceFits, QuietCells, QuietLast, ReleaseLoad, SeatView, ShowLoad, SignalLoad, Subject, TestCells, TestLast, Tests, Truths, TryLoad, Wait, Waiter, WakeTells, Walk, WordsSeen, both_ways, every_join, every_parts, first_for, first_row, first_standing}
use Rattle.ns_word.proofs.Prelude.{fresh_state, fresh_views, get_or-replicate, has_armed, has_queues, is_queuing, is_reading, is_writing, length-replicate, one_if, owed_in, part_of, queuers, quiet_first, times_among, total, wait_first, walk_at, word_seen}
use Rattle.ns_model.specs.declared.phase.Phase.TheVariants.{Idle}
use Rattle.ns_word.proofs.Firsts.{first_is_bare}
use Rattle.ns_word.proofs.Bases.{groups_of, lawful_by, view_of}
use Rattle.ns_word.proofs.Safes.{same_section}
use Rattle.ns_word.proofs.Keeps.{rests}
use Rattle.ns_word.proofs.Leads.{Leads, leads_as, leads_to, tags_of}

module _ (C : Type 0) (N : ℕ) where
  abbrev fresh : ℕ → ℕ → List (SeatView C N)
  fresh first n = fresh_views first n

  -- nobody counts who has no section and no call
  none_counted : (count : SeatView C N → ℕ) → ((seat : ℕ) → count (record { seat = seat; walk = None; held = None; owed = [] }) ≡ 0) → (first n : ℕ) → total count (fresh first n) ≡ 0
  none_counted count none first zero = refl
  none_counted count none first (suc n) = omega (arith, none first, none_counted count none (first + 1) n)

  no_queuers : (n : ℕ) → queuers (fresh 0 n) ≡ 0
  no_queuers n = none_counted (λ view. one_if (is_queuing view.walk)) (λ seat. refl) 0 n

  no_walk : (seat first n : ℕ) → walk_at seat (fresh first n) ≡ None
  no_walk seat first zero = refl
  no_walk seat first (suc n) = elim (eqb first seat) as (λ b. cond b None (walk_at seat (fresh (first + 1) n)) ≡ None) [ true ↦ refl | false ↦ no_walk seat (first + 1) n ]

  none_is : (seat first n : ℕ) → seat < first → NoneIs seat (fresh first n)
  none_is seat first zero less = tt
  none_is seat first (suc n) less = (λ e. absurd (omega arith), none_is seat (first + 1) n (omega arith))

  apart : (first n : ℕ) → AreApart (fresh first n)
  apart first zero = tt
  apart first (suc n) = (none_is first (first + 1) n (omega arith), apart (first + 1) n)

  each : (truths : Truths C) (seats first n : ℕ) (row : List ℕ) → first + n ≤ seats → EachFits truths seats (first_standing N) row (fresh first n)
  each truths seats first zero row few = tt
  each truths seats first (suc n) row few = (record { in_range = omega arith; place = tt; owes = (refl, tt); section = refl }, each truths seats (first + 1) n row (omega arith))

  none_seen : (first n : ℕ) → WordsSeen (fresh first n)
  none_seen first zero = tt
  none_seen first (suc n) = (tt, none_seen (first + 1) n)

  none_owed_in : (first n : ℕ) → owed_in (fresh first n) ≡ []
  none_owed_in first zero = refl
  none_owed_in first (suc n) = none_owed_in (first + 1) n

  pub lawful_fresh : (truths : Truths C) (seats : ℕ) → seats ≤ 64 → IsLawful truths seats [] (fresh_state {C = C} {N = N} seats)
  lawful_fresh truths seats few = record {
    one_writer = record { bit = none_counted (λ view. one_if (is_writing view.held)) (λ seat. refl) 0 seats; alone = λ e. absurd (cc) };
    readers_counted = sym (none_counted (λ view. one_if (is_reading view.held)) (λ seat. refl) 0 seats);
    one_history = record {
      legal = tt;
      by_seats = tt;
      each = each truths seats 0 seats (first_row N) (omega arith);
      free = λ e. refl;
      cells = length-replicate N 0;
      cells_after = length-replicate N 0;
    };
    spin_held_once = none_counted (λ view. one_if (has_queues view.walk)) (λ seat. refl) 0 seats;
    bits_tell = record { at_home = λ e. refl; nobody = λ e. (refl, no_queuers seats) };
    waiters_placed = record {
      four = refl;
      once = λ seat k low. rw (get_or-replicate {A = List (Waiter C)} 4 k [] [] low) (omega arith);
      placed = λ seat. let none = none_counted (λ view. times_among seat view.owed) (λ other. refl) 0 seats in rw (no_walk seat 0 seats) (omega (arith, none));
      armed = λ seat e. absurd (both_ways (has_armed (walk_at seat (fresh 0 seats))) (rw (no_walk seat 0 seats) refl) e);
      flag = λ seat. omega arith;
    };
    waiters_own = tt;
    variables_tell = record { own = λ k low. rw (get_or-replicate {A = List (Waiter C)} 4 k [] [] low) tt; all = λ vs k seat mode e is. absurd (cc); some = λ vs seat mode e. absurd (cc) };
    taken_told = record { flag = λ seat clear. rw (no_walk seat 0 seats) tt; owed = subst (Every (WakeTells (λ seat. Idle) (fresh 0 seats))) (sym (none_owed_in 0 seats)) tt; listed = tt };
    desig_on_its_way = λ e. absurd (cc);
    idle_waiters_false = λ e f g. (refl, no_queuers seats);
    all_false_true = λ e. absurd (cc);
    apart = apart 0 seats;
    words_seen = none_seen 0 seats;
  }

-- a call that judges the section begins at the first cell
quiet_first_at : (C : Type 0) (N : ℕ) (judging : Judging) (b : Bool) → ltb 0 (N - 1) ≡ b → IsFirst {C = C} N (InCells (cond b (QuietCells judging 0) (QuietLast judging (N - 1))))
quiet_first_at C N judging true e = refl
quiet_first_at C N judging false e = let most = ltb-false 0 (N - 1) e in omega (arith, most)

pub quiet_is_first : (C : Type 0) (N : ℕ) (judging : Judging) → IsFirst {C = C} N (quiet_first N judging)
quiet_is_first C N judging = quiet_first_at C N judging (ltb 0 (N - 1)) refl

-- and so does the test of a wait
test_first_at : {C : Type 0} (N : ℕ) (wait : Wait C) (b : Bool) → ltb 0 (N - 1) ≡ b → IsFirst N (cond b (InWait wait (TestCells OnEntry 0)) (InWait wait (TestLast OnEntry (N - 1))))
test_first_at N wait true e = refl
test_first_at N wait false e = let most = ltb-false 0 (N - 1) e in omega (arith, most)

first_is_for : {C : Type 0} (N : ℕ) (on : Subject C) (wait : Wait C) → wait.on ≡ on → IsFirst N (first_for N on wait)
first_is_for N (OnCondition c) wait e = test_first_at N wait (ltb 0 (N - 1)) refl
first_is_for N (OnVariables variables) wait e = (refl, subst IsForVariables (sym e) tt)

pub wait_is_first : {C : Type 0} (N : ℕ) (wait : Wait C) → IsFirst N (wait_first N wait)
wait_is_first N wait = first_is_for N wait.on wait refl

module _ {C : Type 0} {N : ℕ} (truths : Truths C) (seats : ℕ) (h : List (Event C N)) where
  -- A first place tells nothing that no place doesn't, but that a wait begins with its section in hand.
  first_place : (walk : Walk C) (held : Option (Held C N)) → IsFirst N walk → PlaceFits truths (Some walk) held → Leads truths None (Some walk) held
  first_place (InTry mode TryLoad) held e p = leads_to truths refl p
  first_place (InAcquire (ForLock mode) (AcquireLoad arrival)) held e p = leads_to truths (ap (λ a. tags_of (Some (InAcquire (ForLock mode) (AcquireLoad a)))) e) p
  first_place (InRelease releasing ReleaseLoad) held e p = leads_to truths refl p
  first_place (InCells place) held e p = leads_to truths refl p
  first_place (InWait wait (TestCells OnEntry i)) held e p = leads_as truths _ refl (λ none. absurd (subst (λ x. Tests truths wait OnEntry x) none p.0.0)) p
  first_place (InWait wait (TestLast OnEntry i)) held e p = leads_as truths _ refl (λ none. absurd (subst (λ x. Tests truths wait OnEntry x) none p.0.0)) p
  first_place (InWait wait (InQueuing false Load)) held e p = leads_as truths _ refl (λ none. absurd (subst (λ x. CanWait truths wait false x) none p.0.0)) p
  first_place (InWait wait (InQueuing true Load)) held e p = let never : true ≡ false = e.0 in absurd (cc)
  first_place (InSignal waking k SignalLoad) held e p = leads_to truths refl p
  first_place (InShow ShowLoad) held e p = leads_to truths refl p
  first_place _ held e p = absurd e

  pub begins : (old : LockState C N) (view : SeatView C N) (walk : Walk C) (new : LockState C N) → Begins truths old view walk new → IsLawful truths seats h old → IsLawful truths seats h new
  begins old view walk new b p =
      let start = subst (λ views. IsLawful truths seats h (record { word = old.word; row = old.row; lists = old.lists; flags = old.flags; views = views })) b.was p in
      let here = subst (λ w. IsLawful truths seats h (record { word = old.word; row = old.row; lists = old.lists; flags = old.flags; views = b.front ++ view_of view.seat w view.held view.owed ∷ b.back })) b.over start in
      let leads = first_place walk view.held b.first b.fits in
      let moved = rests truths seats h b.front view.seat None (Some walk) b.back (part_of old view.held view.owed) view.held refl leads.place leads.same leads.queuing leads.way (same_section None (Some walk) view.held leads.stays) (groups_of truths seats h _ here) in
      let parts = every_parts (λ (v : SeatView C N). HasNumber (word_seen v.walk)) b.front (view_of view.seat None view.held view.owed) b.back here.words_seen in
      let seen = every_join (λ (v : SeatView C N). HasNumber (word_seen v.walk)) b.front (view_of view.seat (Some walk) view.held view.owed) b.back parts.0 (subst HasNumber (sym (first_is_bare N walk b.first).unseen) tt) parts.2 in
      subst (λ s. IsLawful truths seats h s) (sym b.becomes) (lawful_by truths seats h _ moved seen)
