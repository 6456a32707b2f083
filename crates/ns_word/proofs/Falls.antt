-- A step that counts takes more from its own seat than it adds to all others: by the place in the walk and what was found.
use Rattle.std.proofs.Common.{Bool, List, None, Option, Some, [], ap, arith, cond, eq-eqb, eqb, false, is_some, le-ltb, length, lt-ltb, ltb, ne_eqb, not, refl, slice_set, subst, sym, true, ℕ, ◌&&◌, ◌*◌, ◌++◌, ◌+◌, ◌-◌, ◌<◌, ◌∷◌, ◌≡◌, ◌≢◌, ◌≤◌}
use Rattle.ns_word.proofs.Prelude.{Acquire, AcquireExchange, AcquireLoad, Act, Aim, Arm, ArmToWait, AsFresh, AwaitWake, AwaitWakeInWait, AwaitWakeToLeave, Broadcasting, Cause, Cell, Change, Cv, Effect, Ended, Event, Flag, ForWait, Found, GetLoad, Held, HeldFits, Idle, InAcquire, InCells}
use Rattle.ns_word.proofs.Prelude.{InLeaving, InQueuing, InRelease, InShow, InSignal, InTry, InWait, IsInRange, IsLawful, Leave, LeaveLoad, LeaveSelf, Left, Limits, Lists, Load, LoadToScan, LockState, LookIn, LookOut, Looked, Made, Mode, Next, On, OnCondition, OnEntry, OnReturn, OnVariables, Owed}
use Rattle.ns_word.proofs.Prelude.{Paid, Part, Pay, PayInWait, PayTheWoken, PlaceFits, Queue, QueueSelf, QueueToWait, Quiet, QuietCells, QuietLast, QuietWriter, Release, ReleaseExchange, ReleaseLoad, ReleaseReturning, Reply, ReturnQueues, ReturnShown, Saw, ScanAndRelease, ScanCells, Scanned}
use Rattle.ns_word.proofs.Prelude.{SeatView, SectionFits, SetLoad, SetStore, Signaling, Step, Subject, Succeeded, Take, TakeQueues, TakeToLeave, TakeToQueue, TakeToScan, TakeToShow, TakeToWake, TestCells, TestLast, Tested, ToChange, ToRelease, ToTell, Truths, TryAcquire, ViewFits, Visit, Wait}
use Rattle.ns_word.proofs.Prelude.{WaitFits, WaitReturning, Waiter, WakeAndReturn, WakeWaiters, Waking, Walk, Woke, Woken, Word, acquired_for, arrival_of, awaits, below_in, both_ways, called_of, changed, every_parts, few, got_of, got_waiting, has_some, held_after, home_of, is_held, is_unwoken}
use Rattle.ns_word.proofs.Prelude.{is_woken, judge_of, left_of, length-map, meets_at, mode_for, one_if, one_most, outcome_taken, owed_after, part_of, pay_releasing, pay_waiting, pay_woken, place_after, queued, rest_or_look, standing_after, stands_at, taken_by, times_in, times_signaled, total}
use Rattle.ns_word.proofs.Prelude.{tries_of, value_of, waited_in, waiters_of, waits_at, wake_by, wakes_of, walk_at, want_of, with_lock, woken_by, woken_of, word_taken, ◌∙◌}
use Rattle.ns_word.proofs.Bases.{entered_at, times_queued, times_scan, view_of}
use Rattle.ns_word.proofs.Acts.{can_in_range}
use Rattle.ns_word.proofs.Ranges.{counts_once, lists_orderly, stands_below}
use Rattle.ns_word.proofs.Ranks.{acquired_left, armed_left, decides, either, idles, look_left, paid_left, stale_most, stale_other, taken_left, test_left, waiting_left}
use Rattle.ns_word.proofs.Others.{Falls, changed_keeps, flag_falls, row_falls, scan_falls, sum_falls, word_falls}
use Rattle.ns_word.specs.declared.act.Act.TheVariants.{LoadFlag, LoadWord, PayWake}
use Rattle.ns_word.specs.Progress.{counts, counts_by, left_at, left_to, stale, stale_by, stands_in, steps_left, waits_again, waits_again_for, weigh_at}
use Rattle.ns_word.specs.declared.act.Change.TheVariants as TheChange

module _ {C : Type 0} (meets : C → Bool) where
  -- how a wait goes on that is woken, ends early, or is taken as it leaves
  outcomes : (on : Subject C) → ((v : ℕ) → waits_again meets on (woken_by on v) ≡ waits_again meets on (Woken None)) × ((cause : Cause) → waits_again meets on (Ended cause) ≡ false) × ((cause : Cause) (v : ℕ) → waits_again meets on (outcome_taken on cause v) ≡ false)
  outcomes (OnCondition c) = (λ v. refl, λ cause. refl, λ cause v. refl)
  outcomes (OnVariables variables) = (λ v. refl, λ cause. refl, λ cause v. refl)

-- who is taken stood there
taken_some : {C : Type 0} (waking : Waking) (ws : List (Waiter C)) (seat : ℕ) → times_in seat (taken_by waking ws) ≤ times_in seat ws
taken_some Signaling ws seat = omega (arith, times_signaled ws seat)
taken_some Broadcasting ws seat = omega arith

module _ {C : Type 0} {N : ℕ} (truths : Truths C) (some : 0 < N) (small : N ≤ 16) (seats : ℕ) (low : seats ≤ 64) (h : List (Event C N)) (front : List (SeatView C N)) (who : ℕ) (back : List (SeatView C N)) (part next : Part C N) (commits : List (Event C N)) where
  abbrev at : Walk C → LockState C N
  at walk = record { word = part.word; row = part.row; lists = part.lists; flags = part.flags; views = front ++ view_of who (Some walk) part.held part.owed ∷ back }

  -- what holds before the step, with the seat at this place, and what the step does that leads it there
  abbrev Old : Walk C → Type 0
  Old walk = IsLawful truths seats h (at walk)

  abbrev Fall : Walk C → Option (Walk C) → Type 0
  Fall walk to = Falls truths who (at walk).views part next (Some walk) to

  abbrev meets : C → Bool
  meets = meets_at truths part.row

  abbrev stands : Bool
  stands = stands_in part.lists.lock who

  abbrev weigh : Option (Walk C) → ℕ
  weigh to = weigh_at N meets stands to

  -- ---- what the law says

  fits : (walk : Walk C) → Old walk → ViewFits truths seats (standing_after h) part.row (view_of who (Some walk) part.held part.owed)
  fits walk p = (every_parts (ViewFits truths seats (standing_after h) part.row) front (view_of who (Some walk) part.held part.owed) back p.one_history.each).1

  -- one whose flag isn't set stands in no list
  unstood : (walk : Walk C) → Old walk → part.flags who ≢ 1 → stands ≡ false
  unstood walk p clear =
      let sum = p.waiters_placed.placed who in
      let none : one_if (is_unwoken (walk_at who (at walk).views) (part.flags who)) ≡ 0 = elim (awaits (walk_at who (at walk).views)) as (λ b. one_if (b && eqb (part.flags who) 1) ≡ 0) [ true ↦ ap one_if (ne_eqb (part.flags who) 1 clear) | false ↦ refl ] in
      le-ltb 0 (times_in who part.lists.lock) (omega (arith, sum, none))

  -- no more than 64 are taken
  few_woken : (walk : Walk C) → Old walk → length (called_of (woken_of meets part.lists.lock)) ≤ 64
  few_woken walk p =
      let woken = woken_of meets part.lists.lock in
      let most = few seats woken (λ seat. omega (arith, times_scan seat meets part.lists.lock, counts_once truths seats h (at walk) p.waiters_placed p.one_history.each seat))
      (λ seat high. omega (arith, times_scan seat meets part.lists.lock, stands_below truths seats h (at walk) p.waiters_placed p.one_history.each seat high)) in
      omega (arith, most, low, length-map {B = Owed} woken (λ w. record { seat = w.seat; value = value_of w.via }))

  -- ---- kinds of steps

  moved : {made : Part C N} (walk : Walk C) (to : Option (Walk C)) → next ≡ made → Falls truths who (at walk).views part made (Some walk) to → Fall walk to
  moved walk to e p = subst (λ x. Falls truths who (at walk).views part x (Some walk) to) (sym e) p

  -- an exchange that fails is a step, whether it leads to a load or not
  fails : (to : Next (Walk C) Reply) (word last : Word) → word ≡ part.word → word ≢ last → one_if (idles to) < stale part.word last
  fails to word last same ne = omega (arith, stale_other part.word last (λ f. ne (same ∙ f)), one_most (idles to))

  -- a load of the word that goes on, or an exchange that fails
  seen : (act : Act C) (to : Next (Walk C) Reply) (word : Word) → Effect truths who act part (Saw word) next commits → counts_by act (Saw word) to ≡ true → (word ≡ part.word) × (next ≡ part) × (one_if (idles to) < stale_by part.word act)
  seen LoadWord (Idle walk) word e c = absurd (cc)
  seen LoadWord to word e c = (e.0, e.1, omega arith)
  seen (Acquire aim arrival last) to word e c = (e.0, e.2, fails to word last e.0 e.1)
  seen (TakeQueues taking last) to word e c = (e.0, e.2, fails to word last e.0 e.1)
  seen (ReturnQueues change last) to word e c = (e.0, e.2, fails to word last e.0 e.1)
  seen (Release releasing last) to word e c = (e.0, e.2, fails to word last e.0 e.1)
  seen (ReleaseReturning releasing last) to word e c = (e.0, e.2, fails to word last e.0 e.1)
  seen (WaitReturning wait again last) to word e c = (e.0, e.2, fails to word last e.0 e.1)
  seen act to word e c = absurd e

  sees : (walk : Walk C) (word : Word) → Effect truths who (want_of walk) part (Saw word) next commits → counts N walk (Saw word) ≡ true → Fall walk (place_after (got_of N walk (Saw word)))
  sees walk word e c =
      let to = got_of N walk (Saw word) in
      let s = seen (want_of walk) to word e c in
      let less = subst (λ w. left_at N meets stands w (place_after to) ≤ weigh (Some walk) + one_if (idles to)) s.0 (decides N meets stands word walk) in
      moved walk (place_after to) s.1 (flag_falls truths who _ part _ _ part.flags part.held part.owed (omega (arith, less, s.2)))

  -- its flag is set, or nothing changes but its place
  finds : {set : ℕ → ℕ} (walk : Walk C) (to : Option (Walk C)) → next ≡ record part { flags = set } → weigh to + 2 < weigh (Some walk) → Fall walk to
  finds {set} walk to e less = let most = stale_most part.word to in moved walk to e (flag_falls truths who _ part _ _ set part.held part.owed (omega (arith, less, most)))

  -- the word changes, with an acquire or without
  takes : (walk : Walk C) (to : Option (Walk C)) (word : Word) (held : Option (Held C N)) → next ≡ record part { word = word; held = held } → weigh to + 6600 * one_if (not (is_some held)) + 128 < weigh (Some walk) + 6600 * one_if (not (is_some part.held)) → Fall walk to
  takes walk to word held e less = let most = stale_most word to in moved walk to e (word_falls truths who _ part _ to word part.lists held part.owed (λ seat ne. omega arith) (omega (arith, less, most)))

  -- the queues are put back
  returns : (walk : Walk C) (to : Option (Walk C)) (change : Change) (last word : Word) → let lists = changed who change last part.lists in let owed = owed_after change last part.lists part.owed in
      next ≡ record part { word = word; lists = lists; owed = owed } → weigh_at N meets (stands_in lists.lock who) to + length owed + 128 < weigh (Some walk) + length part.owed → Fall walk to
  returns walk to change last word e less = let most = stale_most word to in moved walk to e (word_falls truths who _ part _ to word _ part.held _ (changed_keeps who change last part.lists) (omega (arith, less, most)))

  -- with a scan, as the section is left
  scans : (walk : Walk C) (to : Option (Walk C)) (word : Word) (lists : Lists C) → Old walk → next ≡ record part { word = word; lists = lists; held = None; owed = called_of (woken_of meets part.lists.lock) } →
      ((seat : ℕ) → seat ≢ who → times_in seat (left_of meets part.lists.lock) ≤ times_in seat lists.lock) → weigh_at N meets (stands_in lists.lock who) to + 57192 < weigh (Some walk) → Fall walk to
  scans walk to word lists p e keeps less =
      let most = stale_most word to in moved walk to e (scan_falls truths who _ part _ to word lists None _ p.waiters_own keeps (omega (arith, less, most, few_woken walk p)))

  -- a wake is paid
  pays : (walk : Walk C) (to : Option (Walk C)) (owes : Bool) → Effect truths who PayWake part (Paid owes) next commits → left_at N meets stands part.word to ≡ left_at N meets stands part.word (Some walk) → Fall walk to
  pays walk to owes e same = let fewer = ap length e.2 in moved walk to e.3 (flag_falls truths who _ part _ to _ part.held e.1 (omega (arith, fewer, same)))

  -- a seat finds its flag cleared
  checks : (walk : Walk C) (aim : Aim C) (tries : ℕ) (other : Next (Walk C) Reply) (v : ℕ) (b : Bool) → eqb v 1 ≡ b → not b ≡ true → Effect truths who LoadFlag part (Flag v) next commits → Old walk →
      (stands ≡ false → 60000 * one_if (waits_again_for meets aim) + 602 < weigh (Some walk)) → Fall walk (place_after (cond b other (On (InAcquire aim (AcquireLoad (arrival_of tries v))))))
  checks walk aim tries other v true z c e p less = absurd (cc)
  checks walk aim tries other v false z c e p less =
      let clear : part.flags who ≢ 1 = λ one. absurd (both_ways (eqb v 1) z (eq-eqb v 1 (e.0 ∙ one))) in finds walk _ e.1 (omega (arith, less (unstood walk p clear)))

  -- ---- what waits depend on

  -- who has queued stands there
  stands_queued : (mode : Mode) (c : Option C) (tries : ℕ) (again : Bool) (lock : List (Waiter C)) → stands_in (queued who mode c tries again lock) who ≡ true
  stands_queued mode c tries again lock =
      let one : one_if (eqb who who) ≡ 1 = ap one_if (eq-eqb who who refl) in lt-ltb 0 (times_in who (queued who mode c tries again lock)) (omega (arith, times_queued who who mode c tries again lock, one))

  -- one that has queued, or waits for variables, doesn't release again when it is taken as it stands now
  waits_off : (on : Subject C) (mode : Mode) (again : Bool) → let lists = waits_at on who mode again (with_lock part.lists (left_of meets part.lists.lock)) in (not (stands_in lists.lock who) && waits_again meets on (Woken None)) ≡ false
  waits_off (OnCondition c) mode again = ap (λ b. not b && waits_again meets (OnCondition c) (Woken None)) (stands_queued mode (Some c) 0 again (left_of meets part.lists.lock))
  waits_off (OnVariables variables) mode again = elim (stands_in (waits_at (OnVariables variables) who mode again (with_lock part.lists (left_of meets part.lists.lock))).lock who) as (λ b. (not b && false) ≡ false) [ true ↦ refl | false ↦ refl ]

  -- who stays where a scan takes some stays as another queues
  waits_keep : (on : Subject C) (mode : Mode) (again : Bool) (seat : ℕ) → IsInRange on → length part.lists.cvs ≡ 4 → let lock = left_of meets part.lists.lock in times_in seat lock ≤ times_in seat (waits_at on who mode again (with_lock part.lists lock)).lock
  waits_keep (OnCondition c) mode again seat range four = let more = times_queued seat who mode (Some c) 0 again (left_of meets part.lists.lock) in omega (arith, more)
  waits_keep (OnVariables variables) mode again seat range four = let same = ap (times_in seat) (entered_at variables who mode again (with_lock part.lists (left_of meets part.lists.lock)) four range).lock in omega (arith, same)

  -- a wait for a condition tests it
  tested : (mode : Mode) (on : Subject C) (limits : Limits) (visit : Visit) (i : ℕ) (found : Found) → let wait : Wait C = record { mode = mode; on = on; limits = limits } in
      Effect truths who (judge_of on i) part found next commits → WaitFits truths wait (TestLast visit i) part.held → Old (InWait wait (TestLast visit i)) → Fall (InWait wait (TestLast visit i)) (place_after (got_waiting N wait (TestLast visit i) found))
  tested mode (OnCondition c) limits visit i (Tested true) e here p = finds _ None e.3 (omega arith)
  tested mode (OnCondition c) limits OnEntry i (Tested false) e here p =
      let wait : Wait C = record { mode = mode; on = OnCondition c; limits = limits } in finds _ _ e.3 (omega (arith, look_left N meets stands wait false, here.1))
  tested mode (OnCondition c) limits (OnReturn (Woken by)) i (Tested false) e here p =
      let wait : Wait C = record { mode = mode; on = OnCondition c; limits = limits } in
      let section : HeldFits (standing_after h) part.row who e.0 = subst (λ x. SectionFits (standing_after h) part.row who (Some (InWait wait (TestLast (OnReturn (Woken by)) i))) x) e.1 (fits _ p).section in
      let unmet : meets c ≡ false = ap (truths.holds c) (sym section.cells) ∙ sym e.2 in
      let once = ap (λ b. one_if (not b)) unmet in finds _ _ e.3 (omega (arith, look_left N meets stands wait true, once, here.1))
  tested mode (OnCondition c) limits (OnReturn (Ended cause)) i (Tested false) e here p = finds _ None e.3 (omega arith)
  tested mode (OnCondition c) limits visit i _ e here p = absurd e
  tested mode (OnVariables variables) limits visit i found e here p = absurd here.2

  -- a call takes no more than 64 from a variable's list
  few_taken : (walk : Walk C) (waking : Waking) (k : ℕ) (held : Bool) → k < 4 → Old walk → length (cond held [] (wakes_of k (taken_by waking (waiters_of part.lists (Cv k))))) ≤ 64
  few_taken walk waking k true there p = omega arith
  few_taken walk waking k false there p =
      let ws = waiters_of part.lists (Cv k) in
      let orderly = lists_orderly truths seats h (at walk) p.waiters_placed p.one_history.each low in
      let taken = taken_by waking ws in
      let most = few 64 taken (λ seat. omega (arith, taken_some waking ws seat, p.waiters_placed.once seat k there)) (λ seat high. omega (arith, taken_some waking ws seat, below_in part.lists (Cv k) orderly there seat high)) in
      omega (arith, most, length-map {B = Owed} taken (λ w. wake_by k w.seat))

  -- ---- by the place

  by_walk : (walk : Walk C) (found : Found) → Effect truths who (want_of walk) part found next commits → counts N walk found ≡ true → PlaceFits truths (Some walk) part.held → Old walk → Fall walk (place_after (got_of N walk found))
  by_walk (InTry mode (TryAcquire last)) Made e c here p = let empty = ap (λ held. one_if (not (is_some held))) e.2 in takes _ None _ _ e.3 (omega (arith, empty))
  by_walk (InAcquire aim (AcquireExchange arrival last)) Made e c here p =
      let empty = ap (λ held. one_if (not (is_some held))) e.2 in takes _ (place_after (acquired_for N aim)) _ _ e.3 (omega (arith, acquired_left N meets stands aim some, small, empty))
  by_walk (InAcquire aim (TakeToQueue arrival last)) Made e c here p = takes _ (Some (InAcquire aim (Arm arrival _))) _ _ e.2 (omega arith)
  by_walk (InAcquire aim (Arm arrival last)) Made e c here p = finds _ (Some (InAcquire aim (Queue arrival last))) e.0 (omega arith)
  by_walk (InAcquire aim (Queue arrival last)) Made e c here p =
      let queues = QueueSelf (mode_for aim) arrival in
      let here : ◌≡◌ {A = ℕ} (cond (stands_in (changed who queues last part.lists).lock who) 0 4) 0 = ap (λ b. cond b 0 4) (stands_queued (mode_for aim) None (tries_of arrival) (is_woken arrival) part.lists.lock) in
      returns _ (Some (InAcquire aim (AwaitWake (tries_of arrival)))) queues last _ e.2 (omega (arith, here))
  by_walk (InAcquire aim (Queue arrival last)) (Left stood) e c here p = let never : Made ≡ Left stood = e.0 in absurd (cc)
  by_walk (InAcquire aim (Queue arrival last)) (Woke owes) e c here p = let never : Made ≡ Woke owes = e.0 in absurd (cc)
  by_walk (InAcquire aim (AwaitWake tries)) (Flag v) e c here p = checks _ aim tries _ v (eqb v 1) refl c e p (λ off. let high : ◌≡◌ {A = ℕ} (cond stands 0 4) 4 = ap (λ b. cond b 0 4) off in omega (arith, high))
  by_walk (InRelease releasing (ReleaseExchange last)) Made e c here p = takes _ None _ _ e.4 (omega arith)
  by_walk (InRelease releasing (TakeToScan last)) Made e c here p = takes _ _ _ _ e.2 (omega (arith, taken_left N meets stands releasing (word_taken ToChange last) last.cond))
  by_walk (InRelease releasing (ScanCells last i)) (Cell v) e c here p = finds _ _ e.1 (either (λ place. weigh (Some (InRelease releasing place)) + 2 < weigh (Some (InRelease releasing (ScanCells last i)))) (ltb (i + 1) N) (λ f. omega (arith, here.1)) (λ f. omega (arith, here.1)))
  by_walk (InRelease releasing (ScanAndRelease last)) (Scanned owes tests) e c here p =
      let lists = with_lock part.lists (left_of meets part.lists.lock) in
      scans _ (place_after (pay_releasing releasing owes)) _ lists p e.4 (λ seat ne. omega arith) (omega (arith, paid_left N meets (stands_in lists.lock who) part.word (InRelease releasing Pay) Succeeded owes refl))
  by_walk (InRelease releasing Pay) (Paid owes) e c here p = pays _ (place_after (pay_releasing releasing owes)) owes e (paid_left N meets stands part.word (InRelease releasing Pay) Succeeded owes refl)
  by_walk (InCells (GetLoad i)) (Cell v) e c here p = finds _ None e.1 (omega arith)
  by_walk (InCells (SetLoad i v)) (Cell w) e c here p = finds _ (Some (InCells (SetStore i v))) e.1 (omega arith)
  by_walk (InCells (SetStore i v)) Made e c here p = moved _ None e.3 (row_falls truths who _ part _ _ (slice_set part.row i v) _ (omega arith))
  by_walk (InCells (QuietCells judging i)) (Cell v) e c here p = finds _ _ e.1 (either (λ place. weigh (Some (InCells place)) + 2 < weigh (Some (InCells (QuietCells judging i)))) (ltb (i + 1) (N - 1)) (λ f. omega (arith, here.0.1)) (λ f. omega (arith, here.0.1)))
  by_walk (InCells (QuietLast ToTell i)) (Quiet quiet) e c here p = finds _ None e.3 (omega (arith, here.0.1))
  by_walk (InCells (QuietLast ToRelease i)) (Quiet true) e c here p = finds _ (Some (InRelease QuietWriter ReleaseLoad)) e.3 (omega (arith, here.0.1))
  by_walk (InCells (QuietLast ToRelease i)) (Quiet false) e c here p = finds _ None e.3 (omega (arith, here.0.1))
  by_walk (InWait wait (TestCells visit i)) (Cell v) e c here p = finds _ _ e.1 (omega (arith, test_left N meets stands wait visit (i + 1) here.0.1, here.0.1))
  by_walk (InWait wait (TestLast visit i)) found e c here p = tested wait.mode wait.on wait.limits visit i found e here.0 p
  by_walk (InWait wait (InQueuing again LookIn)) (Looked None) e c here p = finds _ (Some (InWait wait (InQueuing again Load))) e.1 (omega arith)
  by_walk (InWait wait (InQueuing again LookIn)) (Looked (Some cause)) e c here p =
      moved _ None e.1 (flag_falls truths who _ part _ _ part.flags _ part.owed (omega (arith, one_most (not (is_some (held_after again (Some cause) part.held))))))
  by_walk (InWait wait (InQueuing again (Take last))) Made e c here p = takes _ (Some (InWait wait (InQueuing again (ArmToWait _)))) _ _ e.2 (omega arith)
  by_walk (InWait wait (InQueuing again (ArmToWait last))) Made e c here p = finds _ _ e.0 (omega (arith, armed_left N meets stands wait again wait.on last))
  by_walk (InWait wait (InQueuing again (LoadToScan last i))) (Cell v) e c here p =
      finds _ _ e.1 (either (λ place. weigh (Some (InWait wait (InQueuing again place))) + 2 < weigh (Some (InWait wait (InQueuing again (LoadToScan last i))))) (ltb (i + 1) N) (λ f. omega (arith, here.0.1)) (λ f. omega (arith, here.0.1)))
  by_walk (InWait wait (InQueuing again (QueueToWait last))) (Scanned owes tests) e c here p =
      let lists = waited_in truths who wait again part.row part.lists in let off = ap one_if (waits_off wait.on wait.mode again) in
      scans _ (place_after (pay_waiting wait owes)) _ lists p e.4 (λ seat ne. waits_keep wait.on wait.mode again seat (can_in_range truths wait again part.held here.0.0) p.waiters_placed.four)
      (omega (arith, waiting_left N meets (stands_in lists.lock who) part.word wait owes, off))
  by_walk (InWait wait PayInWait) (Paid owes) e c here p = pays _ (place_after (pay_waiting wait owes)) owes e (omega (arith, waiting_left N meets stands part.word wait owes))
  by_walk (InWait wait AwaitWakeInWait) (Flag v) e c here p =
      let same = ap one_if ((outcomes meets wait.on).0 v) in checks _ (ForWait wait (woken_by wait.on v)) 0 (rest_or_look wait) v (eqb v 1) refl c e p
      (λ off. let high = ap (λ b. one_if (not b && waits_again meets wait.on (Woken None))) off in omega (arith, high, same))
  by_walk (InWait wait LookOut) (Looked None) e c here p = absurd (cc)
  by_walk (InWait wait LookOut) (Looked (Some cause)) e c here p = finds _ (Some (InWait wait (InLeaving cause LeaveLoad))) e.1 (omega arith)
  by_walk (InWait wait (InLeaving cause (TakeToLeave last))) Made e c here p = takes _ (Some (InWait wait (InLeaving cause (Leave _)))) _ _ e.2 (omega arith)
  by_walk (InWait wait (InLeaving cause (Leave last))) (Left true) e c here p =
      let ended = ap one_if ((outcomes meets wait.on).1 cause) in returns _ (Some (InAcquire (ForWait wait (Ended cause)) (AcquireLoad AsFresh))) (LeaveSelf (home_of wait.on)) last _ e.2 (omega (arith, ended))
  by_walk (InWait wait (InLeaving cause (Leave last))) (Left false) e c here p = returns _ (Some (InWait wait (InLeaving cause AwaitWakeToLeave))) (LeaveSelf (home_of wait.on)) last _ e.2 (omega arith)
  by_walk (InWait wait (InLeaving cause (Leave last))) Made e c here p = let never : Left (stands_at who (home_of wait.on) part.lists) ≡ Made = e.0 in absurd (cc)
  by_walk (InWait wait (InLeaving cause (Leave last))) (Woke owes) e c here p = let never : Left (stands_at who (home_of wait.on) part.lists) ≡ Woke owes = e.0 in absurd (cc)
  by_walk (InWait wait (InLeaving cause AwaitWakeToLeave)) (Flag v) e c here p =
      let ended = ap one_if ((outcomes meets wait.on).2 cause v) in checks _ (ForWait wait (outcome_taken wait.on cause v)) 0 _ v (eqb v 1) refl c e p (λ off. omega (arith, ended))
  by_walk (InSignal waking k (TakeToWake last)) Made e c here p = takes _ (Some (InSignal waking k (WakeAndReturn _))) _ _ e.2 (omega arith)
  by_walk (InSignal waking k (WakeAndReturn last)) (Woke owes) e c here p =
      let none = paid_left N meets (stands_in (changed who (WakeWaiters waking k) last part.lists).lock who) part.word (InSignal waking k PayTheWoken) Succeeded owes refl in
      returns _ (place_after (pay_woken waking k owes)) (WakeWaiters waking k) last _ e.2 (omega (arith, none, few_taken (InSignal waking k (WakeAndReturn last)) waking k (is_held last) here.1 p))
  by_walk (InSignal waking k (WakeAndReturn last)) Made e c here p = let never : Woke (not (is_held last) && has_some (taken_by waking (waiters_of part.lists (Cv k)))) ≡ Made = e.0 in absurd (cc)
  by_walk (InSignal waking k (WakeAndReturn last)) (Left stood) e c here p = let never : Woke (not (is_held last) && has_some (taken_by waking (waiters_of part.lists (Cv k)))) ≡ Left stood = e.0 in absurd (cc)
  by_walk (InSignal waking k PayTheWoken) (Paid owes) e c here p = pays _ (place_after (pay_woken waking k owes)) owes e (paid_left N meets stands part.word (InSignal waking k PayTheWoken) Succeeded owes refl)
  by_walk (InShow (TakeToShow last)) Made e c here p = takes _ (Some (InShow (ReturnShown _))) _ _ e.2 (omega arith)
  by_walk (InShow (ReturnShown last)) Made e c here p = returns _ None TheChange.Nothing last _ e.2 (omega arith)
  by_walk (InShow (ReturnShown last)) (Left stood) e c here p = let never : Made ≡ Left stood = e.0 in absurd (cc)
  by_walk (InShow (ReturnShown last)) (Woke owes) e c here p = let never : Made ≡ Woke owes = e.0 in absurd (cc)
  by_walk walk (Saw word) e c here p = sees walk word e c
  by_walk _ _ e c here p = absurd e

pub counted_falls : {C : Type 0} {N : ℕ} (truths : Truths C) → 0 < N → N ≤ 16 → (seats : ℕ) (h : List (Event C N)) (old new : LockState C N) (view : SeatView C N) (found : Found) (commits : List (Event C N)) → seats ≤ 64 →
    IsLawful truths seats h old → (step : Step truths old view found new commits) → counts N step.walk found ≡ true → steps_left truths new < steps_left truths old
counted_falls {C} {N} truths some small seats h old new view found commits few p step c =
    let part = part_of old view.held view.owed in
    let next = part_of new step.held step.owed in
    let start = subst (λ views. IsLawful truths seats h (record { word = old.word; row = old.row; lists = old.lists; flags = old.flags; views = views })) step.was p in
    let here = subst (λ walk. IsLawful truths seats h (record { word = old.word; row = old.row; lists = old.lists; flags = old.flags; views = step.front ++ view_of view.seat walk view.held view.owed ∷ step.back })) step.walks start in
    let falls = by_walk truths some small seats few h step.front view.seat step.back part next commits step.walk found step.effect c (fits truths some small seats few h step.front view.seat step.back part next commits step.walk here).place here in
    let less = sum_falls truths view.seat _ seats h few step.front step.back part next step.walk (place_after (got_of N step.walk found)) refl here falls in
    let was = ap (total (left_to truths old)) (step.was ∙ ap (λ walk. step.front ++ view_of view.seat walk view.held view.owed ∷ step.back) step.walks) in
    let becomes = ap (total (left_to truths new)) step.becomes in
    omega (arith, less, was, becomes)
