-- A call that wakes, step by step: what it has in hand, and what it owes once the queues are back.
use Rattle.std.proofs.Common.{Bool, List, None, Some, [], ap, false, if◌then◌else◌, not, refl, subst, sym, true, ℕ, ◌&&◌, ◌++◌, ◌∙◌, ◌∷◌, ◌≡◌}
use mathlib.Core.Bool.{beq}
use Rattle.ns_monitor.proofs.Prelude.{Broadcasting, CanStep, Carries, Event, HasAnswered, HasKeptItsQueues, HasReached, HasReturnedWoken, HasSince, HasTakenAt, HasUnchangedQueues, HasWoken, HasWokenInHand, InSignal, IsAtPlace, IsOrderly, Known, Lists, LockState, On, Owed, Part, Performed}
use Rattle.ns_monitor.proofs.Prelude.{ReturnQueues, Saw, SeatOf, SignalLoad, Signaling, Succeeded, TableId, Truths, Turned, Waiter, WakeAndReturn, WakeWaiters, Waking, Walk, Woke, Word, bits_of, can_go, change_found, does, found_nobody, goes_on, has_queues, has_some, is_held}
use Rattle.ns_monitor.proofs.Prelude.{known_of, lists_woken, moves_nobody, owed_woken, owes_the_woken, part_of, pay_woken, rest, stays_by, still_woken, taken_by, taken_from, taken_set, takes_nobody, the, wake_by, wake_event, wake_of, wakes_of, woken_found, woken_nobody, works}
use Rattle.ns_monitor.proofs.Standing.{saw_keeps}
use Rattle.ns_word.specs.declared.request.Request.TheVariants as TheRequest

-- the lock is held by one of two words and free by the other, or it is not
pub by_one : (a b : Bool) → not (beq a b) ≡ true → not b ≡ a
by_one true true e = absurd (cc)
by_one false true e = refl
by_one true false e = refl
by_one false false e = absurd (cc)

pub by_both : (a b : Bool) → not (beq a b) ≡ false → a ≡ b
by_both true true e = refl
by_both false true e = absurd (cc)
by_both true false e = absurd (cc)
by_both false false e = refl

module _ {C : Type 0} {N : ℕ} where
  -- ---- what is in hand

  -- stays so, while another word is found
  pub hand_kept : (waking : Waking) (k : ℕ) (held : Bool) (turned : Turned) (me now : SeatOf C N) → HasKeptItsQueues me now → HasWokenInHand waking k held turned me → HasWokenInHand waking k held turned now
  hand_kept waking k held turned me now s hand = record {
    carries = still_woken waking k held me now s hand.carries;
    some = hand.some ∙ ap (λ (lists : Lists C). held && has_some (taken_from waking k lists)) (sym s.stood);
    bits = hand.bits ∙ ap (λ (lists : Lists C). bits_of (lists_woken waking k held lists).lock) (sym s.stood);
  }

  -- and is what the hand has just made
  pub hand_made : (waking : Waking) (k : ℕ) (held : Bool) (turned : Turned) (me now : SeatOf C N) → now.0 ≡ me.0 → Carries (lists_woken waking k held (the me.0).stood) now →
      turned.some ≡ (held && has_some (taken_from waking k (the me.0).stood)) → turned.bits ≡ bits_of (lists_woken waking k held (the me.0).stood).lock → HasWokenInHand waking k held turned now
  hand_made waking k held turned me now same carries some bits = record {
    carries = carries ∙ (λ i. (0, lists_woken waking k held (the (sym same i)).stood) ∷ []);
    some = some ∙ (λ i. held && has_some (taken_from waking k (the (sym same i)).stood));
    bits = bits ∙ (λ i. bits_of (lists_woken waking k held (the (sym same i)).stood).lock);
  }

  -- and so it is where nobody waits for the variable, with nothing made of it
  pub hand_of_nobody : (waking : Waking) (k : ℕ) (held : Bool) (turned : Turned) (me now : SeatOf C N) → now.0 ≡ me.0 → HasUnchangedQueues now → woken_nobody k (the me.0).stood ≡ Some turned → HasWokenInHand waking k held turned now
  hand_of_nobody waking k held turned me now same has nobody =
      let lists = (the me.0).stood in let f = found_nobody k lists turned nobody in let still = moves_nobody waking k held lists f.0 in
      hand_made waking k held turned me now same
      (has ∙ ((λ i. (0, (the (same i)).stood) ∷ []) ∙ (λ i. (0, sym still i) ∷ [])))
      (f.1 ∙ sym (moved held (taken_from waking k lists) (takes_nobody waking k lists f.0).0))
      (f.2 ∙ ap (λ (l : Lists C). bits_of l.lock) (sym still)) where
        moved : (b : Bool) (ws : List (Waiter C)) → ws ≡ [] → (b && has_some ws) ≡ false
        moved true [] is = refl
        moved false [] is = refl
        moved b (w ∷ ws) is = absurd (cc)

module _ {C : Type 0} {N : ℕ} (truths : Truths C) where
  -- a look at the queues in hand has changed nothing
  pub taken_still : (waking : Waking) (k : ℕ) (word : Word) (start me now : SeatOf C N) → HasTakenAt truths (InSignal waking k SignalLoad) word start me → now.0 ≡ me.0 → HasUnchangedQueues now → HasTakenAt truths (InSignal waking k SignalLoad) word now now
  taken_still waking k word start me now took same has = record {
    at = works truths (InSignal waking k (WakeAndReturn word)) me now took.at refl same;
    taken = has;
    packs = took.packs;
    held = refl;
    tells = took.tells ∙ (λ i. (bits_of (the (sym same i)).stood.lock).conditional);
    orderly = subst IsOrderly (λ i. (the (sym same i)).stood) took.orderly;
  }

  -- one that has taken nobody is over with the queues back
  pub nobody_woken : (waking : Waking) (k : ℕ) (held : Bool) (lists : Lists C) (turned : Turned) (now : SeatOf C N) → woken_nobody k lists ≡ Some turned → HasReturnedWoken truths waking k held lists now → HasAnswered truths (TheRequest.Wake waking k) Succeeded now
  nobody_woken waking k held lists turned now nobody back =
      let none = owed held (taken_from waking k lists) (takes_nobody waking k lists (found_nobody k lists turned nobody).0).0 in
      subst (λ b. HasReached truths (TheRequest.Wake waking k) (pay_woken waking k b) now) none back.leads where
        owed : (b : Bool) (ws : List (Waiter C)) → ws ≡ [] → has_some (if b then [] else wakes_of k ws) ≡ false
        owed true ws is = refl
        owed false [] is = refl
        owed false (w ∷ ws) is = absurd (cc)

  -- ---- it puts the queues back

  pub can_return : (waking : Waking) (k : ℕ) (last : Word) (me : SeatOf C N) → IsAtPlace truths (InSignal waking k (WakeAndReturn last)) me → CanStep truths None (ReturnQueues (WakeWaiters waking k) last) me
  can_return waking k last me at = can_go truths (InSignal waking k (WakeAndReturn last)) (ReturnQueues (WakeWaiters waking k) last) me refl at

  -- another step came between
  pub misses_return : (waking : Waking) (k : ℕ) (last word : Word) (me now : SeatOf C N) → IsAtPlace truths (InSignal waking k (WakeAndReturn last)) me →
      Performed truths None (ReturnQueues (WakeWaiters waking k) last) (Saw word) me now → IsAtPlace truths (InSignal waking k (WakeAndReturn word)) now × HasKeptItsQueues me now
  misses_return waking k last word me now at p =
      let act = ReturnQueues (WakeWaiters waking k) last in
      let e = saw_keeps truths (the me.0).at.seat act (part_of p.did.made.between (the me.0).at.held (the me.0).at.owed) (part_of p.did.new p.did.made.step.held p.did.made.step.owed) word p.did.commits (does truths None act (Saw word) me now p) in (
        goes_on truths (InSignal waking k (WakeAndReturn last)) act (Saw word) (On (InSignal waking k (WakeAndReturn word))) me now at refl (λ e. absurd (let f : true ≡ false = e in cc)) p,
        stays_by truths act (Saw word) me now p (ap has_queues at.walks) p.carried (ap (λ (q : Part C N). q.lists) e ∙ ap (λ (s : LockState C N). s.lists) p.did.made.begins) (ap (λ (q : Part C N). q.held) e),
      )

  -- the queues are back
  pub is_returned : (waking : Waking) (k : ℕ) (last : Word) (turned : Turned) (stood : Lists C) (me now : SeatOf C N) → IsAtPlace truths (InSignal waking k (WakeAndReturn last)) me → HasWokenInHand waking k (is_held last) turned me → (the me.0).stood ≡ stood
      → Performed truths None (ReturnQueues (WakeWaiters waking k) last) (change_found (the me.0).at.seat (WakeWaiters waking k) last (the me.0).stood) me now → HasReturnedWoken truths waking k (is_held last) stood now
  is_returned waking k last turned stood me now at hand same p = subst (λ lists. HasReturnedWoken truths waking k (is_held last) lists now) same
      (let owes = has_some (owed_in (the me.0).stood) in
      let made = subst (λ found. Performed truths None (ReturnQueues (WakeWaiters waking k) last) found me now) (woken_found (the me.0).at.seat waking k last (the me.0).stood) p in record {
        owed = owes_the_woken truths waking k last owes me now (ap has_queues at.walks) made;
        leads = goes_on truths (InSignal waking k (WakeAndReturn last)) (ReturnQueues (WakeWaiters waking k) last) (Woke owes) (pay_woken waking k owes) me now at refl (λ _. made.carried ∙ ap rest hand.carries) made;
      }) where
        owed_in : Lists C → List Owed
        owed_in lists = owed_woken waking k (is_held last) lists

  -- One alone was taken, and the queues are back. Where it wasn't moved, its wake is owed, and no other.
  pub owes_sole : (waking : Waking) (k : ℕ) (moved : Bool) (stood : Lists C) (w : Waiter C) (wake : Owed) (now : SeatOf C N) → taken_from waking k stood ≡ w ∷ [] → moved ≡ false → wake ≡ wake_by k w.seat → HasReturnedWoken truths waking k moved stood now
      → (the now.0).at.owed ≡ wake ∷ []
  owes_sole waking k moved stood w wake now alone free is back = back.owed ∙ (ap (λ b. owed_woken waking k b stood) free ∙ (ap (wakes_of k) alone ∙ ap (λ o. o ∷ []) (sym is)))

  -- where it pays them
  pub pays_woken : (waking : Waking) (k : ℕ) (moved : Bool) (stood : Lists C) (now : SeatOf C N) → HasReturnedWoken truths waking k moved stood now → HasReached truths (TheRequest.Wake waking k) (pay_woken waking k (has_some (the now.0).at.owed)) now
  pays_woken waking k moved stood now back = subst (λ ns. HasReached truths (TheRequest.Wake waking k) (pay_woken waking k (has_some ns)) now) (sym back.owed) back.leads

  -- ---- what it tells

  -- One that is over has told what its caller sees.
  pub has_woken : (first : Walk C) (waking : Waking) (k : ℕ) (old : Known C N) (was is : TableId) (me now : SeatOf C N) → known_of was me ≡ old → HasSince (Some first) (the me.0) (the now.0) → HasAnswered truths (TheRequest.Wake waking k) Succeeded now → HasWoken waking k old (known_of is now)
  has_woken first waking k old was is me now view s a = subst (λ (o : Known C N). HasWoken waking k o (known_of is now)) view (record {
    woken = taken_set (taken_by waking a.means.waiters);
    mine = s.mine ∙ ap (λ es. (the me.0).told.mine ++ es) (sym s.committed ∙ (a.means.committed ∙ (λ i. event waking (taken_by waking a.means.waiters) (s.seat i) ∷ []) ∙ ap (λ e. e ∷ []) (named waking (taken_by waking a.means.waiters))));
    held = a.means.same ∙ s.began;
  }) where
    event : (waking : Waking) → List (Waiter C) → ℕ → Event C N
    event waking taken seat = wake_of seat waking k taken

    named : (waking : Waking) (taken : List (Waiter C)) → wake_of {C = C} {N = N} (the me.0).at.seat waking k taken ≡ wake_event waking (the me.0).at.seat k (taken_set taken)
    named Signaling taken = refl
    named Broadcasting taken = refl
