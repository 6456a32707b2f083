-- Those whom a signal or a broadcast takes: where they may go, how they come back, and to whom a wake is owed.
use Rattle.std.proofs.Common.{Bool, IsTrue, List, None, Option, Some, [], ap, append-nil, arith, drop, eq-eqb, false, get_or, if◌then◌else◌, inl, inr, length, map, not, refl, subst, sym, true, ℕ, ◌&&◌, ◌++◌, ◌+◌, ◌<◌, ◌↔◌, ◌∙◌, ◌∷◌, ◌≡◌, ◌≤◌}
use Rattle.ns_gate.proofs.Prelude.{Act, Broadcasting, Carries, Cv, Found, HaveSeats, IsOrderly, Lists, Lock, OnFalse, OnTrue, Part, Performed, ReturnQueues, SeatOf, SeatView, Signaling, Truths, Turned, Waiter, WakeWaiters, Waking, Walk, Woke, Word, and-true, below_in, bits_of, cases_Bool}
use Rattle.ns_gate.proofs.Prelude.{change_found, cvs_without, drop_step, filter-append, gone_those, has_queues, has_some, is_held, is_of, kept_by, lists_left, lists_orderly, lists_woken, moved_to, none_in, none_without, once_in, option_map, outside, owed_woken, own_times}
use Rattle.ns_gate.proofs.Prelude.{same_each, sole_is, sole_of, taken_by, taken_from, taken_set, the, times, times_in, times_in-cons, times_signaled, told_no, turned_to, waiters_of, wakes_of, with_waiters, without, without_each, woken_nobody, woken_sole}
use Rattle.ns_gate.proofs.Prelude.{lists_without, writes}
use Rattle.ns_gate.proofs.Stays.{HasKeptItsQueues, effect_of, still_carries}

module _ {C : Type 0} where
  -- what the hand has made of the lists depends on those taken, and on the lists, alone
  pub turned_alike : (held : Bool) {taken others : List (Waiter C)} {lists put : Lists C} → taken ≡ others → lists ≡ put → ◌≡◌ {A = Turned} (record { some = held && has_some taken; bits = bits_of lists.lock }) (record { some = held && has_some others; bits = bits_of put.lock })
  turned_alike held taken put i = record { some = held && has_some (taken i); bits = bits_of (put i).lock }

  -- ---- where they may go

  -- who is in the list was taken or is left
  parted : (waking : Waking) (ws : List (Waiter C)) (seat : ℕ) → times_in seat (taken_by waking ws) + times_in seat (kept_by waking ws) ≡ times_in seat ws
  parted Signaling ws seat = times_signaled ws seat
  parted Broadcasting ws seat = omega arith

  -- those taken have seats
  pub have_seats : (waking : Waking) (k : ℕ) (lists : Lists C) → IsOrderly lists → k < 4 → HaveSeats (taken_from waking k lists)
  have_seats waking k lists orderly low seat high = omega (arith, parted waking (waiters_of lists (Cv k)) seat, below_in lists (Cv k) orderly low seat high)

  part : (waking : Waking) (k : ℕ) (lists : Lists C) (seat : ℕ) → times_in seat (taken_from waking k lists) ≤ times_in seat (waiters_of lists (Cv k))
  part waking k lists seat = omega (arith, parted waking (waiters_of lists (Cv k)) seat)

  -- each is there once
  there_once : (waking : Waking) (k : ℕ) (lists : Lists C) → IsOrderly lists → k < 4 → (seat : ℕ) → times_in seat (taken_from waking k lists) ≤ 1
  there_once waking k lists orderly low seat = omega (arith, part waking k lists seat, once_in lists (Cv k) orderly low seat)

  -- and is in none of the lists that are left
  apart : (waking : Waking) (k : ℕ) (lists : Lists C) → IsOrderly lists → k < 4 → (seat : ℕ) → 1 ≤ times_in seat (taken_from waking k lists) → times seat (lists_left waking k lists) ≡ 0
  apart waking k lists orderly low seat here = gone_those lists k (taken_from waking k lists) orderly low (part waking k lists) seat here

  -- so they may be put at the back of the lock list
  pub may_move : (waking : Waking) (k : ℕ) (lists old : Lists C) (taken : List (Waiter C)) → IsOrderly lists → k < 4 → taken ≡ taken_from waking k lists → old ≡ lists_left waking k lists →
      HaveSeats taken × (((seat : ℕ) → times_in seat taken ≤ 1) × ((seat : ℕ) → 1 ≤ times_in seat taken → times seat old ≡ 0))
  may_move waking k lists old taken orderly low is was = rw (is, was) (have_seats waking k lists orderly low, (there_once waking k lists orderly low, apart waking k lists orderly low))

  -- ---- how they come back

  absent : (seat : ℕ) (lists : Lists C) → times seat lists ≡ 0 → without seat lists ≡ lists
  absent seat lists none = rw (none_without seat lists.lock (omega (arith, none)), lists_without seat lists.cvs (omega (arith, none))) refl

  -- one who is told to be removed is in none of the lists, whether it stood there or not
  pub removed_so : (seat : ℕ) (old new : Lists C) (gone : Bool) → (IsTrue gone ↔ (0 < times seat old)) → OnTrue gone (new ≡ without seat old) → OnFalse gone (new ≡ old) → new ≡ without seat old
  removed_so seat old new true stood out same = out
  removed_so seat old new false stood out same = same ∙ sym (absent seat old (told_no false (times seat old) refl stood.1))

  -- one more of them is out
  pub one_out : (ws : List (Waiter C)) (i : ℕ) (w : Waiter C) (old new whole : Lists C) → i < length ws → w ≡ get_or ws i w → new ≡ without w.seat old → without_each (drop i ws) old ≡ whole → without_each (drop (i + 1) ws) new ≡ whole
  one_out ws i w old new whole within is out before =
      ap (without_each (drop (i + 1) ws)) out ∙ (sym (ap (λ xs. without_each xs old) (drop_step ws i w w within (sym is))) ∙ before)

  -- the first of those at the back, who stands nowhere else, is out of the lists
  first_out : (lists : Lists C) (w : Waiter C) (ws : List (Waiter C)) → times_in w.seat ws ≡ 0 → times w.seat lists ≡ 0 → without w.seat (with_waiters lists Lock (lists.lock ++ w ∷ ws)) ≡ with_waiters lists Lock (lists.lock ++ ws)
  first_out lists w ws none free =
      rw (filter-append (λ v. not (is_of w.seat v)) lists.lock (w ∷ ws), eq-eqb w.seat w.seat refl, none_without w.seat lists.lock (omega (arith, free)), none_without w.seat ws none, lists_without w.seat lists.cvs (omega (arith, free))) refl

  -- Those who stand in none of the lists are put at the back of the lock's and taken out again: the lists are as they were.
  pub back_again : (lists : Lists C) (ws : List (Waiter C)) → ((seat : ℕ) → times_in seat ws ≤ 1) → ((seat : ℕ) → 1 ≤ times_in seat ws → times seat lists ≡ 0) → without_each ws (moved_to true ws lists) ≡ lists
  back_again lists [] once free = rw append-nil refl
  back_again lists (w ∷ ws) once free =
      let own = own_times w ws in
      let alone : times_in w.seat ws ≡ 0 = omega (arith, own, once w.seat) in
      ap (without_each ws) (first_out lists w ws alone (free w.seat (omega (arith, own)))) ∙ back_again lists ws (λ seat. omega (arith, times_in-cons seat w ws, once seat)) (λ seat here. free seat (omega (arith, times_in-cons seat w ws, here)))

  -- where the lists are turned to a held lock, they may be put there
  pub may_turn : (waking : Waking) (k : ℕ) (held : Bool) (lists old : Lists C) (taken : List (Waiter C)) → IsOrderly lists → k < 4 → taken ≡ taken_from waking k lists → old ≡ lists_woken waking k (not held) lists →
      HaveSeats taken × ((held ≡ true → (seat : ℕ) → times_in seat taken ≤ 1) × (held ≡ true → (seat : ℕ) → 1 ≤ times_in seat taken → times seat old ≡ 0))
  may_turn waking k true lists old taken orderly low is was = let m = may_move waking k lists old taken orderly low is was in (m.0, ((λ held. m.1.0), (λ held. m.1.1)))
  may_turn waking k false lists old taken orderly low is was = (rw is (have_seats waking k lists orderly low), ((λ held. absurd (cc)), (λ held. absurd (cc))))

  -- turned, they are as for the other truth of it
  pub turned_over : (waking : Waking) (k : ℕ) (held : Bool) (lists old : Lists C) (taken : List (Waiter C)) → IsOrderly lists → k < 4 → taken ≡ taken_from waking k lists → old ≡ lists_woken waking k (not held) lists → turned_to held taken old ≡ lists_woken waking k held lists
  turned_over waking k true lists old taken orderly low is was = λ i. moved_to true (is i) (was i)
  turned_over waking k false lists old taken orderly low is was =
      (λ i. without_each (is i) (was i)) ∙ back_again (lists_left waking k lists) (taken_from waking k lists) (there_once waking k lists orderly low) (apart waking k lists orderly low)

  -- ---- where nobody waits for the variable

  -- it takes nobody, and the lists stay as they stood, whether the lock is held or not
  pub takes_nobody : (waking : Waking) (k : ℕ) (lists : Lists C) → waiters_of lists (Cv k) ≡ [] → (taken_from waking k lists ≡ []) × (lists_left waking k lists ≡ lists)
  takes_nobody waking k lists none = (taken waking (waiters_of lists (Cv k)) none, (λ i. cvs_without (taken_set (taken waking (waiters_of lists (Cv k)) none i)) lists) ∙ (λ i. record { lock = lists.lock; cvs = same i })) where
    taken : (waking : Waking) (ws : List (Waiter C)) → ws ≡ [] → taken_by waking ws ≡ []
    taken Signaling [] is = refl
    taken Broadcasting [] is = refl
    taken waking (w ∷ ws) is = absurd (cc)

    -- an empty set takes nobody out
    same : map (outside (taken_set {C = C} [])) lists.cvs ≡ lists.cvs
    same = same_each (taken_set {C = C} []) lists.cvs (λ seat is. let both = sym (none_in seat) ∙ is in absurd (cc))

  -- those whom it takes are moved nowhere
  pub moves_nobody : (waking : Waking) (k : ℕ) (held : Bool) (lists : Lists C) → waiters_of lists (Cv k) ≡ [] → lists_woken waking k held lists ≡ lists
  moves_nobody waking k held lists none = let t = takes_nobody waking k lists none in (λ i. moved_to held (t.0 i) (t.1 i)) ∙ moved held where
    moved : (held : Bool) → moved_to held [] lists ≡ lists
    moved true = rw append-nil refl
    moved false = refl

  -- the hand that finds nobody has made this
  pub found_nobody : (k : ℕ) (lists : Lists C) (turned : Turned) → woken_nobody k lists ≡ Some turned → (waiters_of lists (Cv k) ≡ []) × (turned.some ≡ false) × (turned.bits ≡ bits_of lists.lock)
  found_nobody k lists turned is = by (waiters_of lists (Cv k)) is where
    by : (ws : List (Waiter C)) → (if has_some ws then None else Some (record { some = false; bits = bits_of lists.lock })) ≡ Some turned → (ws ≡ []) × (turned.some ≡ false) × (turned.bits ≡ bits_of lists.lock)
    by [] is = (refl, cc, cc)
    by (w ∷ ws) is = absurd (cc)

  -- ---- where just one waits for the variable

  -- a signal takes that one, as a broadcast does
  pub takes_sole : (waking : Waking) (k : ℕ) (lists : Lists C) (w : Waiter C) → sole_of (waiters_of lists (Cv k)) ≡ Some w → taken_from waking k lists ≡ w ∷ []
  takes_sole waking k lists w sole = ap (taken_by waking) (sole_is (waiters_of lists (Cv k)) w sole) ∙ alone waking where
    alone : (waking : Waking) → taken_by waking (w ∷ []) ≡ w ∷ []
    alone Signaling = elim (cases_Bool (writes w)) [ inl e ↦ rw e refl | inr e ↦ rw e refl ]
    alone Broadcasting = refl

  -- the lists without the whole list of the variable are those without that one
  pub left_sole : (waking : Waking) (k : ℕ) (lists : Lists C) (w : Waiter C) → sole_of (waiters_of lists (Cv k)) ≡ Some w → cvs_without (taken_set (waiters_of lists (Cv k))) lists ≡ lists_left waking k lists
  left_sole waking k lists w sole = ap (λ ws. cvs_without (taken_set ws) lists) (sole_is (waiters_of lists (Cv k)) w sole ∙ sym (takes_sole waking k lists w sole))

  -- that one moved, where the lock is held, they are the lists that are put back
  pub woken_by_sole : (waking : Waking) (k : ℕ) (held : Bool) (lists left now : Lists C) (w : Waiter C) → sole_of (waiters_of lists (Cv k)) ≡ Some w → left ≡ cvs_without (taken_set (waiters_of lists (Cv k))) lists → now ≡ moved_to held (w ∷ []) left → now ≡ lists_woken waking k held lists
  woken_by_sole waking k held lists left now w sole gone moved = moved ∙ (λ i. moved_to held (sym (takes_sole waking k lists w sole) i) ((gone ∙ left_sole waking k lists w sole) i))

  -- what the hand that takes it answers
  pub made_sole : (waking : Waking) (k : ℕ) (held : Bool) (lists : Lists C) (w : Waiter C) (turned : Turned) → sole_of (waiters_of lists (Cv k)) ≡ Some w → turned.some ≡ (held && true) → turned.bits ≡ bits_of (lists_woken waking k held lists).lock → Some (w, turned) ≡ woken_sole waking k held lists
  made_sole waking k held lists w turned sole some bits = rw sole (λ i. Some (w, record { some = (some ∙ and-true held) i; bits = bits i }))

  -- the hand that finds one alone has made this
  pub found_sole : (waking : Waking) (k : ℕ) (held : Bool) (lists : Lists C) (w : Waiter C) (turned : Turned) → woken_sole waking k held lists ≡ Some (w, turned) →
      (taken_from waking k lists ≡ w ∷ []) × (turned.some ≡ (held && has_some (taken_from waking k lists))) × (turned.bits ≡ bits_of (lists_woken waking k held lists).lock)
  found_sole waking k held lists w turned is = by (sole_of (waiters_of lists (Cv k))) refl is where
    by : (sole : Option (Waiter C)) → sole_of (waiters_of lists (Cv k)) ≡ sole → option_map {U = Waiter C × Turned} (λ v. (v, record { some = held; bits = bits_of (lists_woken waking k held lists).lock })) sole ≡ Some (w, turned) →
        (taken_from waking k lists ≡ w ∷ []) × (turned.some ≡ (held && has_some (taken_from waking k lists))) × (turned.bits ≡ bits_of (lists_woken waking k held lists).lock)
    by None sole is = absurd (cc)
    by (Some v) sole is =
        let pair : ◌≡◌ {A = Waiter C × Turned} (v, record { some = held; bits = bits_of (lists_woken waking k held lists).lock }) (w, turned) = cc in
        let takes : taken_from waking k lists ≡ w ∷ [] = takes_sole waking k lists v sole ∙ ap (λ p. p.0 ∷ []) pair in
        (takes, sym (ap (λ (ws : List (Waiter C)). held && has_some ws) takes ∙ (and-true held ∙ ap (λ p. p.1.some) pair)), sym (ap (λ p. p.1.bits) pair))

  -- ---- by the names of the machine's change, where this is the word last seen

  -- somebody is owed a wake just where somebody was taken and nobody moved
  owes_some : (waking : Waking) (k : ℕ) (held : Bool) (lists : Lists C) → (not held && has_some (taken_from waking k lists)) ≡ has_some (owed_woken waking k held lists)
  owes_some waking k true lists = refl
  owes_some waking k false lists = by (taken_from waking k lists) where
    by : (ws : List (Waiter C)) → has_some ws ≡ has_some (wakes_of k ws)
    by [] = refl
    by (w ∷ ws) = refl

  pub woken_found : (seat : ℕ) (waking : Waking) (k : ℕ) (last : Word) (lists : Lists C) → change_found seat (WakeWaiters waking k) last lists ≡ Woke (has_some (owed_woken waking k (is_held last) lists))
  woken_found seat waking k last lists = ap Woke (owes_some waking k (is_held last) lists)

module _ {C : Type 0} {N : ℕ} where
  -- what is in hand stays there where the exchange found another word
  pub still_woken : (waking : Waking) (k : ℕ) (held : Bool) (me now : SeatOf C N) → HasKeptItsQueues me now → Carries (lists_woken waking k held (the me.0).stood) me → Carries (lists_woken waking k held (the now.0).stood) now
  still_woken waking k held me now s carries = still_carries (λ v. lists_woken waking k held v.stood) me now (ap (lists_woken waking k held) s.stood) s carries

module _ {C : Type 0} {N : ℕ} (truths : Truths C) where
  -- The lists are orderly that a seat knows to stand.
  pub orderly_now : (b : Option (Walk C)) (act : Act C) (found : Found) (me now : SeatOf C N) → Performed truths b act found me now → IsOrderly (the now.0).stood
  orderly_now b act found me now p =
      let d = p.did in
      subst IsOrderly (sym d.stood_now) (lists_orderly truths (the me.0).seat_count (d.history ++ d.commits) d.new d.lawful_now.waiters_placed d.lawful_now.one_history.each d.few)

  -- The queues are back: the seat owes those a wake whom it took, where they weren't moved.
  pub owes_the_woken : (waking : Waking) (k : ℕ) (last : Word) (owes : Bool) (me now : SeatOf C N) → has_queues (the me.0).at.walk ≡ true → Performed truths None (ReturnQueues (WakeWaiters waking k) last) (Woke owes) me now → (the now.0).at.owed ≡ owed_woken waking k (is_held last) (the me.0).stood
  owes_the_woken waking k last owes me now has p =
      let d = p.did in
      let e = effect_of truths (ReturnQueues (WakeWaiters waking k) last) (Woke owes) me now p in
      ap (λ (x : SeatView C N). x.owed) d.becomes ∙ (ap (λ (q : Part C N). q.owed) e.2 ∙ ap (owed_woken waking k (is_held last)) (sym (d.stood_was has)))
