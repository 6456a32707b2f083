-- What the acts on a lock do, over plain data.
use Rattle.std.proofs.Common.{Bool, Err, IfSome, List, MatchResult, None, Ok, Option, Result, Some, [], ap, append-nil, arith, cond, false, get_or, inl, inr, length, remove, slice_index_or, slice_set, subst, ◌<◌, if◌then◌else◌, is_some, map, not, refl, sym, true, ℕ, ◌&&◌, ◌++◌, ◌∙◌, ◌∷◌, ◌≡◌, ◌≢◌}
use Rattle.ns_world.proofs.Prelude.{Acquire, Act, Any, AtLock, AtVariables, Broadcasting, CanLeave, CanWait, Cv, Effect, Event, Held, Home, IsInRange, IsUnmet, KeptLock, Lists, Lock, Made, MakesAct, OnCondition, OnVariables, Only, Release, ReleaseReturning, Releasing, ReturnQueues, Saw, Scanned, Seat}
use Rattle.ns_world.proofs.Prelude.{Signaling, StaysThere, Subject, cases_eq, flag_at, get_or-set_other, get_or-set_same, Owed, OwesOne, TakeQueues, Truths, Wait, WaitReturning, Waiter, WakeWaiters, Waking, Woke, are_called, bits_of, called_by, called_of, change_commits, cvs_without, expected, has_some, is_held, leave_of, leaves_by, left_of, lock_part, meets_at}
use Rattle.ns_world.proofs.Prelude.{moved_to, releasing_of, section_of, some_called, some_seats, taken_by, taken_set, tests_of, waited_in, waiters_of, wakes_of, with_waiters, woken_of, word_released, word_released_returning, word_returned}
use Rattle.ns_word.specs.Prelude.{flags_with, seats_of}
use Rattle.std.proofs.lemmas.Bool.{eq-eqb, ne_eqb}
use Rattle.ns_model.specs.declared.event.Exit.TheVariants.{Plain}

-- a call takes somebody where somebody stands there
pub some_taken : {C : Type 0} (waking : Waking) (ws : List (Waiter C)) → has_some (taken_by waking ws) ≡ has_some ws
some_taken Signaling [] = refl
some_taken Signaling (w ∷ ws) = refl
some_taken Broadcasting ws = refl

-- the list of a wait that may leave its section is one that there is
unmet_in_range : {C : Type 0} (truths : Truths C) (on : Subject C) (row : List ℕ) → IsUnmet truths on row → IsInRange on
unmet_in_range truths (OnCondition c) row p = tt
unmet_in_range truths (OnVariables variables) row p = p

pub can_in_range : {C : Type 0} {N : ℕ} (truths : Truths C) (wait : Wait C) (again : Bool) (held : Option (Held C N)) → CanWait truths wait again held → IsInRange wait.on
can_in_range truths wait again None can = absurd can
can_in_range truths wait again (Some held) can = unmet_in_range truths wait.on held.row can.unmet

-- a section that may be left is in hand
pub can_some : {C : Type 0} {N : ℕ} (Can : Option (Held C N) → Type 0) → (Can None → ⊥) → (held : Option (Held C N)) → Can held → is_some held ≡ true
can_some Can none None can = absurd (none can)
can_some Can none (Some section) can = refl

-- it is this one
section_in : {C : Type 0} {N : ℕ} (Can : Option (Held C N) → Type 0) (P : Held C N → Type 0) → (Can None → ⊥) → (held : Option (Held C N)) → Can held → IfSome held P → (section : Held C N) × (held ≡ Some section) × Can (Some section) × P section
section_in Can P none None can holds = absurd (none can)
section_in Can P none (Some section) can holds = (section, refl, can, holds)

module _ {C : Type 0} {N : ℕ} (truths : Truths C) where
  module _ (lock : KeptLock C N) (seat : Seat C N) where
    refused_by : (act : Act C) → lock.word ≢ expected act lock.word → Effect truths seat.number act (lock_part lock seat) (Saw lock.word) (lock_part lock seat) []
    refused_by (Acquire aim arrival last) another = (refl, another, refl, refl)
    refused_by (TakeQueues taking last) another = (refl, another, refl, refl)
    refused_by (ReturnQueues change last) another = (refl, another, refl, refl)
    refused_by (Release releasing last) another = (refl, another, refl, refl)
    refused_by (ReleaseReturning releasing last) another = (refl, another, refl, refl)
    refused_by (WaitReturning wait again last) another = (refl, another, refl, refl)
    refused_by act another = absurd (another refl)

    -- an act that finds another word than it needs changes nothing
    pub finds_another : (act : Act C) → lock.word ≢ expected act lock.word → MakesAct truths act lock seat (Saw lock.word) lock seat
    finds_another act another = record { commits = []; effect = refused_by act another; grows = sym (append-nil lock.history.items); stays = refl }

    -- a release without a scan
    pub released : (releasing : Releasing) (new : KeptLock C N) → CanLeave truths releasing seat.held → IfSome seat.held (λ section. new.history.items ≡ lock.history.items ++ section_of truths.holds seat.number section Plain ∷ []) →
        lock_part new (record seat { held = None }) ≡ record (lock_part lock seat) { word = word_released releasing lock.word; held = None } → MakesAct truths (Release releasing lock.word) lock seat Made new (record seat { held = None })
    released releasing new can grows becomes =
        let section = section_in (CanLeave truths releasing) (λ section. new.history.items ≡ lock.history.items ++ section_of truths.holds seat.number section Plain ∷ []) (λ no. no) seat.held can grows in
        record { commits = section_of truths.holds seat.number section.0 Plain ∷ []; effect = (section.0, section.1, section.2.0, refl, becomes, refl); grows = section.3; stays = refl }

    -- queues put back by a call that wakes
    pub woken_back : (waking : Waking) (k : ℕ) (new : KeptLock C N) (next : Seat C N) (is some : Bool) → is ≡ is_held lock.word → some ≡ has_some (waiters_of lock.queues (Cv k)) → new.history.items ≡ lock.history.items ++ change_commits seat.number (WakeWaiters waking k) lock.queues →
        next.owed.items ≡ (if is then [] else wakes_of k (taken_by waking (waiters_of lock.queues (Cv k)))) → new.queues ≡ moved_to is (taken_by waking (waiters_of lock.queues (Cv k))) (cvs_without (taken_set (taken_by waking (waiters_of lock.queues (Cv k)))) lock.queues) →
        lock_part new next ≡ record (lock_part lock seat) { word = word_returned (is && some) (bits_of new.queues.lock) lock.word; lists = new.queues; owed = next.owed.items } → StaysThere seat next → MakesAct truths (ReturnQueues (WakeWaiters waking k) lock.word) lock seat (Woke (not is && some)) new next
    woken_back waking k new next is some holds stands grows owes lists becomes stays =
        let all = taken_by waking (waiters_of lock.queues (Cv k)) in
        let taken : some ≡ has_some all = stands ∙ sym (some_taken waking (waiters_of lock.queues (Cv k))) in
        let moved = lists ∙ ap (λ held. moved_to held all (cvs_without (taken_set all) lock.queues)) holds in record {
          commits = change_commits seat.number (WakeWaiters waking k) lock.queues;
          effect = (
            λ i. Woke (not (sym holds i) && sym taken i),
            refl,
            becomes ∙ (λ i. record (lock_part lock seat) { word = word_returned (holds i && taken i) (bits_of (moved i).lock) lock.word; lists = moved i; owed = (owes ∙ ap (λ held. if held then [] else wakes_of k all) holds) i }),
            refl,
          );
          grows = grows;
          stays = stays;
        }

    module _ (new : KeptLock C N) (seats : List ℕ) (vias : List (Option ℕ)) (tests : ℕ) (told : seats ≡ seats_of (woken_of (meets_at truths lock.row) lock.queues.lock))
        (names : vias ≡ map (λ (w : Waiter C). w.via) (woken_of (meets_at truths lock.row) lock.queues.lock)) (count : tests ≡ tests_of truths.same (meets_at truths lock.row) lock.queues.lock) where
      abbrev woken : List (Waiter C)
      woken = woken_of (meets_at truths lock.row) lock.queues.lock

      abbrev next : Seat C N
      next = record seat { held = None; owed = record { items = called_by seats vias } }

      some : has_some seats ≡ has_some (called_of woken)
      some = some_called woken seats (called_of woken) told refl

      -- the parts after a scan that has left these lists
      abbrev IsAfter : Releasing → Type 0
      IsAfter releasing = lock_part new next ≡ record (lock_part lock seat) { word = word_released_returning releasing (has_some seats) (bits_of new.queues.lock) lock.word; lists = new.queues; held = None; owed = called_by seats vias }

      after : (releasing : Releasing) (lists : Lists C) → new.queues ≡ lists → IsAfter releasing →
          lock_part new next ≡ record (lock_part lock seat) { word = word_released_returning releasing (has_some woken) (bits_of lists.lock) lock.word; lists = lists; held = None; owed = called_of woken }
      after releasing lists left becomes =
          becomes ∙ (λ i. record (lock_part lock seat) { word = word_released_returning releasing ((some ∙ some_seats woken) i) (bits_of (left i).lock) lock.word; lists = left i; held = None; owed = are_called woken seats vias (called_by seats vias) refl told names i })

      -- a release with a scan
      pub scanned : (releasing : Releasing) → CanLeave truths releasing seat.held → IfSome seat.held (λ section. new.history.items ≡ lock.history.items ++ section_of truths.holds seat.number section Plain ∷ []) → new.queues ≡ with_waiters lock.queues Lock (left_of (meets_at truths lock.row) lock.queues.lock) →
          IsAfter releasing → MakesAct truths (ReleaseReturning releasing lock.word) lock seat (Scanned (has_some seats) tests) new next
      scanned releasing can grows left becomes =
          let section = section_in (CanLeave truths releasing) (λ section. new.history.items ≡ lock.history.items ++ section_of truths.holds seat.number section Plain ∷ []) (λ no. no) seat.held can grows in
          record { commits = section_of truths.holds seat.number section.0 Plain ∷ []; effect = (section.0, section.1, section.2.0, refl, after releasing _ left becomes, some, count, refl); grows = section.3; stays = refl }

      -- the same by a wait
      pub waited : (wait : Wait C) (again : Bool) → CanWait truths wait again seat.held → IfSome seat.held (λ section. new.history.items ≡ lock.history.items ++ leaves_by truths.holds seat.number wait.on again section) → new.queues ≡ waited_in truths seat.number wait again lock.row lock.queues →
          IsAfter (releasing_of wait.mode) → MakesAct truths (WaitReturning wait again lock.word) lock seat (Scanned (has_some seats) tests) new next
      waited wait again can grows left becomes =
          let section = section_in (CanWait truths wait again) (λ section. new.history.items ≡ lock.history.items ++ leaves_by truths.holds seat.number wait.on again section) (λ no. no) seat.held can grows in
          record { commits = leaves_by truths.holds seat.number wait.on again section.0; effect = (section.0, section.1, section.2.mode, refl, after (releasing_of wait.mode) _ left becomes, some, count, refl); grows = section.3; stays = refl }

-- the flags after one was stored
pub set_flag : (flags : List ℕ) (who value : ℕ) → who < length flags → ◌≡◌ {A = ℕ → ℕ} (flag_at (slice_set flags who value)) (flags_with (flag_at flags) who value)
set_flag flags who value low i seat = stored i where
  stored : get_or (slice_set flags who value) seat 0 ≡ flags_with (flag_at flags) who value seat
  stored = elim (cases_eq who seat) [
    | inl e ↦ subst (λ (m : ℕ). get_or (slice_set flags who value) m 0 ≡ flags_with (flag_at flags) who value m) e (get_or-set_same flags who value 0 low ∙ sym (ap (λ (c : Bool). cond c value (flag_at flags who)) (eq-eqb who who refl)))
    | inr ne ↦ get_or-set_other flags who seat value 0 (λ e. ne (sym e)) ∙ sym (ap (λ (c : Bool). cond c value (flag_at flags seat)) (ne_eqb who seat ne))
  ]

-- who owes one owes some
pub owes_some : (owed : List Owed) → OwesOne 64 owed → 0 < length owed
owes_some [] one = absurd one
owes_some (wake ∷ owed) one = omega arith

-- the wake that is paid is the first of those that are owed
pub pays_first : (owed rest : List Owed) (wake : Owed) → OwesOne 64 owed → wake ≡ slice_index_or owed 0 wake → rest ≡ remove owed 0 → (owed ≡ wake ∷ rest) × (wake.seat < 64)
pays_first [] rest wake one first others = absurd one
pays_first (front ∷ owed) rest wake one first others = (λ i. sym first i ∷ sym others i, subst (λ (w : Owed). w.seat < 64) (sym first) one)

-- who didn't stand there commits nothing as it leaves
pub not_leaving : {C : Type 0} {N : ℕ} (seat : ℕ) (home : Home) → leave_of {C = C} {N = N} seat home false ≡ []
not_leaving seat AtLock = refl
not_leaving seat (AtVariables (Only k)) = refl
not_leaving seat (AtVariables (Any cvs)) = refl

-- where nothing is committed the history stays
pub none_more : {C : Type 0} {N : ℕ} (held : Option (Held C N)) (h : List (Event C N)) → IfSome held (λ section. h ≡ h ++ [])
none_more None h = tt
none_more (Some held) h = sym (append-nil h)

-- a fact of what may have been refused, by another
pub on_both : {A B X Y : Type 0} {P Q : A → Type 0} (r : Result A B) → ((x : A) → P x → Q x) → (X → Y) → MatchResult r P (λ fault. X) → MatchResult r Q (λ fault. Y)
on_both (Ok x) f h p = f x p
on_both (Err e) f h p = h p
