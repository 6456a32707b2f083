-- A scan of the lock list with the queues in hand, by a release or by a wait: what it takes and leaves.
use Rattle.std.proofs.Common.{Bool, Err, List, None, Ok, Option, Some, [], ap, arith, cond, false, filter, inl, inr, is_some, length, map, ne_eqb, not, refl, subst, sym, true, ℕ, ◌&&◌, ◌==◌, ◌||◌, ◌∙◌, ◌∷◌, ◌≡◌}
use Rattle.ns_monitor.proofs.Prelude.{Await, Bits, Bounded, Carries, Changed, FindsReaders, GateView, HasInHand, HasReached, HasRow, HasScanned, HasUnchangedQueues, HasWorked, IsAtPlace, IsInRange, IsPackable, IsReady, Lists, MayEnter, MayScan, OnCondition, OnVariables, Owed, OwesTheWoken, Paid, Pays, PutsBack, Release, Released, PutsBackAt, HasPutBack}
use Rattle.ns_monitor.proofs.Prelude.{Releasing, Returning, Scanning, ScansAs, SeatOf, Sought, Subject, ToRelease, ToWait, Truths, Turned, Waited, Waiter, Walk, Word, are_called, asked_of, begins_with_reader, bits_of, called_by, called_of, cases_Bool, entered, found_back, free_scanned, got_of, has_condition}
use Rattle.ns_monitor.proofs.Prelude.{has_queues, has_some, is_eligible, is_satisfied, lacks_row, left_of, list_any, lists_returned, lists_scanned, meets_at, pay_releasing, pay_waiting, paying_at, reads, ready_at, returning_at, returning_for, returning_of, row_in, scanned_writer, seats_of}
use Rattle.ns_monitor.proofs.Prelude.{some_returned, sought_at, the, times, waits_at, wake_told, with_lock, woken_of, works, writes}
use Rattle.ns_monitor.proofs.Bounds.{gone_behind}

-- ---- the scan

or_none : (a b : Bool) → a || b ≡ false → (a ≡ false) × (b ≡ false)
or_none false b e = (refl, e)
or_none true b e = absurd (cc)

module _ {C : Type 0} (meets other : C → Bool) where
  -- a waiter without condition could go on whatever is true
  as_satisfied : (o : Option C) → is_some o ≡ false → is_satisfied meets o ≡ is_satisfied other o
  as_satisfied None e = refl
  as_satisfied (Some c) e = absurd (cc)

  kept_same : (f : Bool → Bool) (ws : List (Waiter C)) → list_any has_condition ws ≡ false → filter (λ v. f (reads v && is_eligible meets v)) ws ≡ filter (λ v. f (reads v && is_eligible other v)) ws
  kept_same f [] e = refl
  kept_same f (w ∷ ws) e =
      let n = or_none (has_condition w) (list_any has_condition ws) e in
      let first = as_satisfied w.cond n.0 in let others = kept_same f ws n.1 in
      λ i. cond (f (reads w && first i)) (w ∷ others i) (others i)

  -- Where no waiter has a condition, a scan takes and leaves the same whatever is true.
  pub scan_same : (ws : List (Waiter C)) → list_any has_condition ws ≡ false → (woken_of meets ws ≡ woken_of other ws) × (left_of meets ws ≡ left_of other ws)
  scan_same [] e = (refl, refl)
  scan_same (w ∷ ws) e =
      let n = or_none (has_condition w) (list_any has_condition ws) e in
      let first = as_satisfied w.cond n.0 in let others = scan_same ws n.1 in let readers = kept_same (λ b. b) ws n.1 in let rest = kept_same not ws n.1 in
      ((λ i. cond (first i) (w ∷ cond (writes w) [] (readers i)) (others.0 i)), (λ i. cond (first i) (cond (writes w) ws (rest i)) (w ∷ others.1 i)))

-- where no waiter has a condition, and where the row is the same
pub scans_plain : {C : Type 0} (truths : Truths C) (row held : List ℕ) (lock : List (Waiter C)) → list_any has_condition lock ≡ false → ScansAs truths row held lock
scans_plain truths row held lock none = let same = scan_same (meets_at truths row) (meets_at truths held) lock none in record { woken = same.0; left = same.1 }

pub scans_row : {C : Type 0} (truths : Truths C) (row held : List ℕ) (lock : List (Waiter C)) → row ≡ held → ScansAs truths row held lock
scans_row truths row held lock is = record { woken = ap (λ r. woken_of (meets_at truths r) lock) is; left = ap (λ r. left_of (meets_at truths r) lock) is }

-- a wait with its row at hand needs no other where it lacks none
pub scans_at_hand : {C : Type 0} (truths : Truths C) (on : Subject C) (word : Word) (row held : List ℕ) (lock : List (Waiter C)) → HasRow on row held → word.cond ≡ list_any has_condition lock → lacks_row on word ≡ false → ScansAs truths row held lock
scans_at_hand truths (OnCondition c) word row held lock has tells full = scans_row truths row held lock has
scans_at_hand truths (OnVariables variables) word row held lock has tells full = scans_plain truths row held lock (sym tells ∙ full)

-- somebody was taken where seats of such were told
pub took_some : {C : Type 0} (ws : List (Waiter C)) (items : List ℕ) → items ≡ seats_of ws → not (length items == 0) ≡ has_some ws
took_some [] items is = ap (λ (ns : List ℕ). not (length ns == 0)) is
took_some (w ∷ ws) items is = ap (λ (ns : List ℕ). not (length ns == 0)) is ∙ ap not (ne_eqb (length (seats_of (w ∷ ws))) 0 (λ e. omega (arith, e)))

-- the wakes that are owed where this was told
abbrev pub told_list : Option Owed → List Owed
told_list None = []
told_list (Some wake) = wake ∷ []

-- where a scan begins with no reader, it takes one at most
called_alone : {C : Type 0} (meets : C → Bool) (ws : List (Waiter C)) → begins_with_reader (woken_of meets ws) ≡ false → called_of (woken_of meets ws) ≡ told_list (wake_told (woken_of meets ws))
called_alone meets [] none = refl
called_alone meets (w ∷ ws) none = elim (cases_Bool (is_eligible meets w)) [
  | inl goes ↦ elim (cases_Bool (writes w)) [
    | inl alone ↦ rw (goes, alone) refl
    | inr reader ↦ absurd (let e = rw (goes, reader) at none in cc)
  ]
  | inr stays ↦ rw stays (called_alone meets ws (rw stays at none))
]

-- what was told of a scan that begins with a reader: what its search finds
found_first : (b : Bool) (made : Option Owed × Turned) (sought found : Sought) → cond b (Err sought) (Ok made) ≡ Err found → found ≡ sought
found_first true made sought found e = cc
found_first false made sought found e = absurd (cc)

-- what was told of a scan that begins with no reader
turned_few : (b : Bool) (sought : Sought) (made : Option Owed × Turned) (wake : Option Owed) (turned : Turned) → cond b (Err sought) (Ok made) ≡ Ok (wake, turned) → (b ≡ false) × (made.0 ≡ wake) × (made.1 ≡ turned)
turned_few true sought made wake turned e = absurd (cc)
turned_few false sought made wake turned e = let same : made ≡ (wake, turned) = cc in (refl, ap (λ p. p.0) same, ap (λ p. p.1) same)

-- where a scan at this row takes a writer alone, or nobody, this is what it has made of the queues in hand
pub turned_writer : {C : Type 0} (truths : Truths C) (row : List ℕ) (wake : Option Owed) (turned : Turned) (stood : Lists C) → scanned_writer truths row stood ≡ Ok (wake, turned) →
    (turned.some ≡ has_some (woken_of (meets_at truths row) stood.lock)) × (turned.bits ≡ bits_of (lists_scanned truths row stood).lock)
turned_writer truths row wake turned stood told =
    let few = turned_few (begins_with_reader (woken_of (meets_at truths row) stood.lock)) _ _ wake turned told in
    (sym (ap (λ (t : Turned). t.some) few.2), sym (ap (λ (t : Turned). t.bits) few.2))

-- ---- a release, or a wait that leaves its section

module _ {C : Type 0} where
  pub scans_in_hand : (scanning : Scanning C) (last : Word) → has_queues (Some (ready_at scanning last)) ≡ true
  scans_in_hand (ToRelease releasing) last = refl
  scans_in_hand (ToWait queuing) last = refl

  -- it puts the queues back, and what for
  puts_for : (scanning : Scanning C) (last : Word) → PutsBack (ready_at scanning last) × (returning_for scanning ≡ returning_of (ready_at scanning last)) × (returning_at (ready_at scanning last) last ≡ ready_at scanning last)
  puts_for (ToRelease releasing) last = (tt, refl, refl)
  puts_for (ToWait queuing) last = (tt, refl, refl)

  -- and then pays wakes
  pub pays_for : (N : ℕ) (scanning : Scanning C) → Pays N (paying_at scanning)
  pays_for N (ToRelease releasing) = record { pays = refl; free = refl; more = refl }
  pays_for N (ToWait queuing) = record { pays = refl; free = refl; more = refl }

-- ---- in a call

-- what a scan at one row leaves in hand is what one at the other does
same_hand : {C : Type 0} (truths : Truths C) (returning : Returning C) (seat : ℕ) (last : Word) (row held : List ℕ) (stood : Lists C) → ScansAs truths row held stood.lock
    → (lists_returned truths seat returning last row stood ≡ lists_returned truths seat returning last held stood) × (some_returned truths returning last row stood ≡ some_returned truths returning last held stood)
same_hand truths (Changed change) seat last row held stood scans = (refl, refl)
same_hand truths (Released releasing) seat last row held stood scans = (ap (with_lock stood) scans.left, ap has_some scans.woken)
same_hand truths (Waited wait again) seat last row held stood scans = (ap (λ lock. waits_at wait.on seat wait.mode again (with_lock stood lock)) scans.left, ap has_some scans.woken)

module _ {C : Type 0} {N : ℕ} (truths : Truths C) where
  -- what a scan at this row has made of the queues in hand is what is put back
  hand_at : (returning : Returning C) (walk : Walk C) (row : List ℕ) (some : Bool) (bits : Bits) (me now : SeatOf C N) → IsReady truths walk row me → now.0 ≡ me.0
      → ((last : Word) → Carries (lists_returned truths (the me.0).at.seat returning last row (the me.0).stood) now) → ((last : Word) → some ≡ some_returned truths returning last row (the me.0).stood)
      → ((last : Word) → bits ≡ bits_of (lists_returned truths (the me.0).at.seat returning last row (the me.0).stood).lock) → HasInHand truths returning (record { some = some; bits = bits }) now
  hand_at returning walk row some bits me now ready same carries took tells = λ last. record {
    carries = carries last ∙ ap (λ lists. (0, lists) ∷ []) (left last);
    some = took last ∙ ((same_hand truths returning (the me.0).at.seat last row (row_in (the me.0).at.held) (the me.0).stood ready.scans).1 ∙ (λ i. some_returned truths returning last (row_in (the (sym same i)).at.held) (the (sym same i)).stood));
    bits = tells last ∙ ap (λ (lists : Lists C). bits_of lists.lock) (left last);
  } where
    left : (last : Word) → lists_returned truths (the me.0).at.seat returning last row (the me.0).stood ≡ lists_returned truths (the now.0).at.seat returning last (row_in (the now.0).at.held) (the now.0).stood
    left last = (same_hand truths returning (the me.0).at.seat last row (row_in (the me.0).at.held) (the me.0).stood ready.scans).0
        ∙ (λ i. lists_returned truths (the (sym same i)).at.seat returning last (row_in (the (sym same i)).at.held) (the (sym same i)).stood)

  -- so it is for a release, and for a wait that has queued
  pub hand_scanned : (scanning : Scanning C) (last : Word) (row : List ℕ) (turned : Turned) (me now : SeatOf C N) → IsReady truths (ready_at scanning last) row me → now.0 ≡ me.0 → Carries (entered scanning (the me.0).at.seat (lists_scanned truths row (the me.0).stood)) now
      → turned.some ≡ has_some (woken_of (meets_at truths row) (the me.0).stood.lock) → turned.bits ≡ bits_of (entered scanning (the me.0).at.seat (lists_scanned truths row (the me.0).stood)).lock → HasInHand truths (returning_for scanning) turned now
  hand_scanned (ToRelease releasing) last row turned me now ready same carries took tells =
      hand_at (Released releasing) (ready_at (ToRelease releasing) last) row turned.some turned.bits me now ready same (λ _. carries) (λ _. took) (λ _. tells)
  hand_scanned (ToWait queuing) last row turned me now ready same carries took tells =
      hand_at (Waited queuing.wait queuing.again) (ready_at (ToWait queuing) last) row turned.some turned.bits me now ready same (λ _. carries) (λ _. took) (λ _. tells)

  -- what a call may scan for it still may where only the lists in hand have changed
  may_still : (scanning : Scanning C) (me now : SeatOf C N) → MayScan scanning me → now.0 ≡ me.0 → MayScan scanning now
  may_still (ToRelease releasing) me now may same = tt
  may_still (ToWait queuing) me now may same = subst (λ (vs : List (GateView C N)). IsInRange queuing.wait.on × (times (the vs).at.seat (the vs).stood ≡ 0)) (sym same) may

  -- what a scan has come to that began where only the lists in hand have changed
  pub scanned_still : (scanning : Scanning C) (old mid new : Bounded C N) → HasWorked old mid → HasScanned truths scanning mid new → HasScanned truths scanning old new
  scanned_still scanning old mid new w e = record { since = gone_behind None old mid new w e.since; paid = e.paid; none = e.none; true_to = e.true_to }

  -- a wait that stands in no list stands in none that a scan has left
  pub may_enter : (scanning : Scanning C) (row : List ℕ) (me now : SeatOf C N) → MayScan scanning me → now.0 ≡ me.0 → Carries (lists_scanned truths row (the me.0).stood) now → MayEnter scanning now
  may_enter (ToRelease releasing) row me now may same carries = tt
  may_enter (ToWait queuing) row me now may same carries = (
    may.0,
    (
      lists_scanned truths row (the me.0).stood,
      carries,
      subst (λ (vs : List (GateView C N)). times (the vs).at.seat (lists_scanned truths row (the me.0).stood) ≡ 0) (sym same) (free_scanned (the me.0).at.seat (meets_at truths row) (the me.0).stood _ refl may.1),
    ),
  )

  -- the queues may go back, with what the scan has made of them
  pub put_scanned : (scanning : Scanning C) (last : Word) (turned : Turned) (now : SeatOf C N) (returning : Returning C) → returning ≡ returning_for scanning → IsAtPlace truths (ready_at scanning last) now → HasInHand truths (returning_for scanning) turned now →
      PutsBackAt truths returning last now × HasInHand truths returning turned now
  put_scanned scanning last turned now returning for at hand = let puts = puts_for scanning last in
      (record { walk = ready_at scanning last; puts = puts.0; is = for ∙ puts.1; at = subst (λ walk. IsAtPlace truths walk now) (sym puts.2) at }, subst (λ r. HasInHand truths r turned now) (sym for) hand)

  -- once they are back the call pays what its seat owes
  pays_next : (scanning : Scanning C) (last : Word) (me now : SeatOf C N) → OwesTheWoken truths (returning_for scanning) me (the now.0).at.owed →
      HasReached truths (asked_of (ready_at scanning last)) (got_of N (ready_at scanning last) (found_back truths (returning_for scanning) last me)) now →
      HasReached truths (asked_of (paying_at scanning)) (got_of N (paying_at scanning) (Paid (has_some (the now.0).at.owed))) now
  pays_next (ToRelease releasing) last me now owes back = subst (λ ns. HasReached truths (Release releasing) (pay_releasing releasing (has_some ns)) now) (sym owes) back
  pays_next (ToWait queuing) last me now owes back = subst (λ ns. HasReached truths (Await queuing.wait) (pay_waiting queuing.wait (has_some ns)) now) (sym owes) back

  pub pay_scanned : (scanning : Scanning C) (last : Word) (me now : SeatOf C N) (returning : Returning C) → returning ≡ returning_for scanning → IsAtPlace truths (ready_at scanning last) me → HasPutBack truths returning last me now →
      HasReached truths (asked_of (paying_at scanning)) (got_of N (paying_at scanning) (Paid (has_some (the now.0).at.owed))) now
  pay_scanned scanning last me now returning for at back = let puts = puts_for scanning last in
      pays_next scanning last me now (subst (λ r. OwesTheWoken truths r me (the now.0).at.owed) for back.owes)
      (subst (λ r. HasReached truths (asked_of (ready_at scanning last)) (got_of N (ready_at scanning last) (found_back truths r last me)) now) for
      (back.returned (ready_at scanning last) puts.0 (for ∙ puts.1) (subst (λ walk. IsAtPlace truths walk me) (sym puts.2) at)))

  -- what is owed are the wakes of those whom the scan took
  owes_called : (scanning : Scanning C) (me : SeatOf C N) (owed : List Owed) → OwesTheWoken truths (returning_for scanning) me owed → owed ≡ called_of (woken_of (meets_at truths (row_in (the me.0).at.held)) (the me.0).stood.lock)
  owes_called (ToRelease releasing) me owed owes = owes
  owes_called (ToWait queuing) me owed owes = owes

  pub owes_scanned : (scanning : Scanning C) (returning : Returning C) (me : SeatOf C N) (owed : List Owed) → returning ≡ returning_for scanning → OwesTheWoken truths returning me owed →
      owed ≡ called_of (woken_of (meets_at truths (row_in (the me.0).at.held)) (the me.0).stood.lock)
  owes_scanned scanning returning me owed for owes = owes_called scanning me owed (subst (λ r. OwesTheWoken truths r me owed) for owes)

  -- and the wakes of those whom it told are those that a scan at the row in hand owes
  pub calls_are : (walk : Walk C) (row seats : List ℕ) (vias : List (Option ℕ)) (owed : List Owed) (me now : SeatOf C N) → IsReady truths walk row me → now.0 ≡ me.0 → owed ≡ called_by seats vias
      → seats ≡ seats_of (woken_of (meets_at truths row) (the me.0).stood.lock) → vias ≡ map (λ (w : Waiter C). w.via) (woken_of (meets_at truths row) (the me.0).stood.lock) → owed ≡ called_of (woken_of (meets_at truths (row_in (the now.0).at.held)) (the now.0).stood.lock)
  calls_are walk row seats vias owed me now ready same is told names = are_called (woken_of (meets_at truths row) (the me.0).stood.lock) seats vias owed is told names
      ∙ (ap called_of ready.scans.woken ∙ (λ i. called_of (woken_of (meets_at truths (row_in (the (sym same i)).at.held)) (the (sym same i)).stood.lock)))

  -- and the wake that was told is all that is owed
  pub calls_few : (walk : Walk C) (row : List ℕ) (wake : Option Owed) (turned : Turned) (owed : List Owed) (me now : SeatOf C N) → IsReady truths walk row me → now.0 ≡ me.0 → scanned_writer truths row (the me.0).stood ≡ Ok (wake, turned)
      → owed ≡ called_of (woken_of (meets_at truths (row_in (the now.0).at.held)) (the now.0).stood.lock) → owed ≡ told_list wake
  calls_few walk row wake turned owed me now ready same told owes =
      let lock = (the me.0).stood.lock in
      let few = turned_few (begins_with_reader (woken_of (meets_at truths row) lock)) _ _ wake turned told in
      owes ∙ sym (ap called_of ready.scans.woken ∙ (λ i. called_of (woken_of (meets_at truths (row_in (the (sym same i)).at.held)) (the (sym same i)).stood.lock))) ∙ called_alone (meets_at truths row) lock few.0 ∙ ap told_list few.1

  -- a row stays ready as the queues are looked at
  ready_still : (walk : Walk C) (row : List ℕ) (me now : SeatOf C N) → has_queues (Some walk) ≡ true → IsReady truths walk row me → now.0 ≡ me.0 → HasUnchangedQueues now → IsReady truths walk row now
  ready_still walk row me now in_hand ready same has = record {
    at = works truths walk me now ready.at in_hand same;
    taken = has;
    scans = subst (λ (vs : List (GateView C N)). ScansAs truths row (row_in (the vs).at.held) (the vs).stood.lock) (sym same) ready.scans;
  }

  -- so the readers whom the search has found may be woken
  pub finds_readers : (scanning : Scanning C) (word : Word) (row : List ℕ) (sought : Sought) (me now : SeatOf C N) → IsPackable word → MayScan scanning me → IsReady truths (ready_at scanning word) row me → now.0 ≡ me.0 → HasUnchangedQueues now
      → scanned_writer truths row (the me.0).stood ≡ Err sought → FindsReaders truths scanning word row sought now
  finds_readers scanning word row sought me now packs may ready same has told = record {
    packs = packs;
    may = may_still scanning me now may same;
    ready = ready_still (ready_at scanning word) row me now (scans_in_hand scanning word) ready same has;
    found = found_first _ _ (sought_at truths row (the me.0).stood) sought told ∙ ap (λ (vs : List (GateView C N)). sought_at truths row (the vs).stood) (sym same);
  }

  -- a release may put the queues back, out of which its scan has taken this writer, or nobody
  pub puts_writer : (releasing : Releasing) (word : Word) (row : List ℕ) (wake : Option Owed) (left : Turned) (me now : SeatOf C N) → IsReady truths (ready_at (ToRelease releasing) word) row me → now.0 ≡ me.0
      → Carries (lists_scanned truths row (the me.0).stood) now → scanned_writer truths row (the me.0).stood ≡ Ok (wake, left) → PutsBackAt truths (Released releasing) word now × HasInHand truths (Released releasing) left now
  puts_writer releasing word row wake left me now ready same lists told =
      let turned = turned_writer truths row wake left (the me.0).stood told in
      put_scanned (ToRelease releasing) word left now (Released releasing) refl (works truths (ready_at (ToRelease releasing) word) me now ready.at refl same) (hand_scanned (ToRelease releasing) word row left me now ready same lists turned.0 turned.1)

  -- and then owes that one's wake alone, and stands where it pays it, if there is one
  pub pays_writer : (releasing : Releasing) (word : Word) (row : List ℕ) (wake : Option Owed) (left : Turned) (me now new : SeatOf C N) → IsReady truths (ready_at (ToRelease releasing) word) row me → now.0 ≡ me.0
      → scanned_writer truths row (the me.0).stood ≡ Ok (wake, left) → HasPutBack truths (Released releasing) word now new
      → ((the new.0).at.owed ≡ told_list wake) × HasReached truths (Release releasing) (pay_releasing releasing (has_some (told_list wake))) new
  pays_writer releasing word row wake left me now new ready same told back =
      let owed = calls_few (ready_at (ToRelease releasing) word) row wake left _ me now ready same told (owes_scanned (ToRelease releasing) (Released releasing) now (the new.0).at.owed refl back.owes) in
      let at = pay_scanned (ToRelease releasing) word now new (Released releasing) refl (works truths (ready_at (ToRelease releasing) word) me now ready.at refl same) back in
      (owed, subst (λ ns. HasReached truths (Release releasing) (pay_releasing releasing (has_some ns)) new) owed at)
