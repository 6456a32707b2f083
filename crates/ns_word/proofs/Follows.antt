-- What a step keeps of its call: what was asked, the word last seen, what ends a wait early, that a wait has come back, and that a seat was woken. It is said once of each way that a place may go.
use Rattle.std.proofs.Common.{Bool, None, Option, Some, ap, cond, eqb, false, inl, inr, ltb, ltb-true, ne_eqb, not, refl, subst, sym, true, ℕ, ◌&&◌, ◌+◌, ◌-◌, ◌<◌, ◌||◌, ◌≡◌, ◌⊎◌}
use Rattle.ns_word.proofs.Prelude.{AcquireExchange, AcquireLoad, AcquirePlace, Aim, Answer, Answered, Any, Arm, ArmToWait, Arrival, AsFresh, AsWoken, Await, AwaitWake, AwaitWakeInWait, AwaitWakeToLeave, Busy, Canceled, Cause, Cell, CellPlace, Done, Ended, Expired, Flag, ForLock, ForWait, Found}
use Rattle.ns_word.proofs.Prelude.{GetLoad, HasNumber, Idle, InAcquire, InCells, InLeaving, InQueuing, InRelease, InShow, InSignal, InTry, InWait, IsForVariables, Leave, LeaveLoad, LeavePlace, Left, Load, LoadFlag, LoadToScan, LookIn, LookOut, Looked, Made, Met, Mode, Next, Notified, On}
use Rattle.ns_word.proofs.Prelude.{OnCondition, OnEntry, OnReturn, OnVariables, Only, Outcome, Paid, Pay, PayInWait, PayTheWoken, Queue, QueuePlace, QueueToWait, Quiet, QuietCells, QuietLast, ReleaseExchange, ReleaseLoad, ReleasePlace, Releasing, Reply, Request, ReturnShown, Saw, ScanAndRelease}
use Rattle.ns_word.proofs.Prelude.{ScanCells, Scanned, SetLoad, SetStore, ShowLoad, ShowPlace, SignalLoad, SignalPlace, Subject, Take, TakeToLeave, TakeToQueue, TakeToScan, TakeToShow, TakeToWake, TestCells, TestLast, Tested, TimedOut, ToChange, ToQueue, ToRelease, ToTell, TryAcquire, TryLoad}
use Rattle.ns_word.proofs.Prelude.{TryPlace, Visit, Wait, WaitPlace, WakeAndReturn, Waking, Walk, Woke, Woken, Word, acquire_by, acquired_for, answer_of, armed_place, arrival_of, asked_of, back_with, cases_eq, cause_by, cause_kept, comes_back, got_acquiring, got_in_cells, got_leaving, got_of}
use Rattle.ns_word.proofs.Prelude.{got_queuing, got_releasing, got_showing, got_signaling, got_trying, got_waiting, has_come_back, is_arrival_woken, is_back, is_from_lock, is_limited, is_woken, may_acquire, mode_for, needs_scan, outcome_taken, place_after, release_by, test_place, unmet_by, want_of}
use Rattle.ns_word.proofs.Prelude.{was_woken, word_seen, ◌∙◌}
use Rattle.ns_word.proofs.Seen.{FoundFits, taken_packable}

-- what the place after was asked; a call that is over was asked what it was
abbrev pub next_asked : {C : Type 0} → Request C → Next (Walk C) Reply → Request C
next_asked request (On walk) = asked_of walk
next_asked request (Idle walk) = asked_of walk
next_asked request (Done reply) = request

-- what an answer says that ended the wait early
abbrev pub answer_cause : Answer → Option Cause
answer_cause Met = None
answer_cause TimedOut = Some Expired
answer_cause Canceled = Some Notified

pub answer_back : (cause : Cause) → answer_cause (answer_of cause) ≡ Some cause
answer_back Expired = refl
answer_back Notified = refl

abbrev pub reply_cause : Reply → Option Cause
reply_cause (Answered answer) = answer_cause answer
reply_cause reply = None

-- the cause that is kept, or answered
abbrev pub next_cause : {C : Type 0} → Next (Walk C) Reply → Option Cause
next_cause (On walk) = cause_kept walk
next_cause (Idle walk) = cause_kept walk
next_cause (Done reply) = reply_cause reply

abbrev pub is_over : {C : Type 0} → Next (Walk C) Reply → Bool
is_over (Done reply) = true
is_over next = false

-- the step acquires the lock
abbrev pub is_acquired : AcquirePlace → Found → Bool
is_acquired (AcquireExchange arrival last) Made = true
is_acquired place found = false

abbrev pub acquires : {C : Type 0} → Walk C → Found → Bool
acquires (InAcquire aim place) found = is_acquired place found
acquires walk found = false

-- the place is one where a wait may answer
abbrev pub may_answer : WaitPlace → Bool
may_answer (TestLast visit i) = true
may_answer (InQueuing again LookIn) = true
may_answer place = false

-- the call may be over with the step
abbrev pub may_end : {C : Type 0} → Walk C → Found → Bool
may_end (InAcquire aim place) found = is_acquired place found
may_end (InWait wait place) found = may_answer place
may_end walk found = true

-- its flag was loaded, and told that it was taken from the lock list
abbrev pub FoundCalled : {C : Type 0} → Walk C → Found → Type 0
FoundCalled walk found = (value : ℕ) × (want_of walk ≡ LoadFlag) × (found ≡ Flag value) × ((value ≡ 0) ⊎ (5 < value))

-- What ends a wait early is kept, or answered, or shown by the step. It counts no more where the condition is met, or where a wake took a wait for variables before.
abbrev pub CauseFollows : {C : Type 0} → Walk C → Found → Next (Walk C) Reply → Type 0
CauseFollows {C} walk found next =
    (next_cause next ≡ cause_kept walk)
    ⊎ (((cause_kept walk ≡ None) × (found ≡ Looked (next_cause next)))
    ⊎ ((next_cause next ≡ None) × ((next ≡ Done (Answered Met)) ⊎ ((wait : Wait C) × (asked_of walk ≡ Await wait) × IsForVariables wait.on))))

-- One goes on as it was asked. A word that it keeps has a number. Only an acquire makes it a wait that has come back, and only its flag one that was woken.
pub record Follows {C : Type 0} (walk : Walk C) (found : Found) (next : Next (Walk C) Reply) : Type 0 where
  pub asked : next_asked (asked_of walk) next ≡ asked_of walk
  pub word : FoundFits found → HasNumber (word_seen (Some walk)) → HasNumber (word_seen (place_after next))
  pub cause : CauseFollows walk found next
  pub back : has_come_back walk ≡ false → acquires walk found ≡ false → is_back (place_after next) ≡ false
  pub woken : was_woken (place_after next) ≡ true → (was_woken (Some walk) ≡ true) ⊎ FoundCalled walk found
  pub ends : (is_over next && not (may_end walk found)) ≡ false

-- What was asked, and what ends the wait early; whether the place is of a wait that has come back, and whether of one that was woken; and whether the call is over where it goes on. Most ways are told by these alone.
abbrev Facts : Type 0 → Type 0
Facts C = Request C × Option Cause × Bool × Bool × Bool

abbrev tells : {C : Type 0} → Walk C → Found → Next (Walk C) Reply → Facts C
tells walk found next = (next_asked (asked_of walk) next, next_cause next, is_back (place_after next), was_woken (place_after next), is_over next && not (may_end walk found))

-- what a flag tells so is 0, or more than 5
called_values : (v : ℕ) → is_from_lock v ≡ true → (v ≡ 0) ⊎ (5 < v)
called_values v said = elim (cases_eq v 0) [
  | inl e ↦ inl e
  | inr ne ↦ inr (ltb-true 5 v (subst (λ b. (b || ltb 5 v) ≡ true) (ne_eqb v 0 ne) said))
]

module _ {C : Type 0} where
  -- a way of which that is so, and what else has to be known of it
  tells_so : {walk : Walk C} {found : Found} {next : Next (Walk C) Reply} (back woken : Bool) → tells walk found next ≡ (asked_of walk, cause_kept walk, back, woken, false) → (has_come_back walk ≡ false → acquires walk found ≡ false → back ≡ false) →
      (woken ≡ true → (was_woken (Some walk) ≡ true) ⊎ FoundCalled walk found) → (FoundFits found → HasNumber (word_seen (Some walk)) → HasNumber (word_seen (place_after next))) → Follows walk found next
  tells_so back woken e stays called word = record {
    asked = ap (λ (t : Facts C). t.0) e;
    word = word;
    cause = inl (ap (λ (t : Facts C). t.1) e);
    back = λ out none. ap (λ (t : Facts C). t.2) e ∙ stays out none;
    woken = λ was. called (sym (ap (λ (t : Facts C). t.3) e) ∙ was);
    ends = ap (λ (t : Facts C). t.4) e;
  }

  -- a place of no wait that has come back, and of none that was woken
  plain : {walk : Walk C} {found : Found} {next : Next (Walk C) Reply} → tells walk found next ≡ (asked_of walk, cause_kept walk, false, false, false) → (FoundFits found → HasNumber (word_seen (Some walk)) → HasNumber (word_seen (place_after next))) → Follows walk found next
  plain e word = tells_so false false e (λ out none. refl) (λ was. absurd (cc)) word

  -- what no step of the place finds leaves it there
  stays : (walk : Walk C) (found : Found) → Follows walk found (On walk)
  stays walk found = record { asked = refl; word = λ f p. p; cause = inl refl; back = λ out none. out; woken = λ was. inl was; ends = refl }

  -- either of two ways
  either : {A : Type 0} {walk : Walk C} {found : Found} (go : A → Next (Walk C) Reply) (b : Bool) (one other : A) → Follows walk found (go one) → Follows walk found (go other) → Follows walk found (go (cond b one other))
  either go true one other p q = p
  either go false one other p q = q

  -- who finds its flag cleared acquires as woken where the wake was one from the lock list
  by_flag : (walk : Walk C) (tries v : ℕ) → want_of walk ≡ LoadFlag → is_woken (arrival_of tries v) ≡ true → (was_woken (Some walk) ≡ true) ⊎ FoundCalled walk (Flag v)
  by_flag walk tries v loads was = inr (v, loads, refl, called_values v (from (is_from_lock v) was)) where
    from : (b : Bool) → is_woken (cond b (AsWoken tries) AsFresh) ≡ true → b ≡ true
    from true e = refl
    from false e = absurd (cc)

  -- ---- each call

  trying : (mode : Mode) (place : TryPlace) (found : Found) → Follows {C = C} (InTry mode place) found (got_trying mode place found)
  trying mode TryLoad (Saw word) = either (λ n. n) (may_acquire mode AsFresh word) (On (InTry mode (TryAcquire word))) (Done Busy) (plain refl (λ f p. f)) (plain refl (λ f p. tt))
  trying mode (TryAcquire last) (Saw word) = plain refl (λ f p. tt)
  trying mode (TryAcquire last) Made = plain refl (λ f p. tt)
  trying mode place found = stays _ _

  decided : (aim : Aim C) (place : AcquirePlace) (arrival : Arrival) (word : Word) → is_arrival_woken place ≡ is_woken arrival → may_end (InAcquire aim place) (Saw word) ≡ false → Follows (InAcquire aim place) (Saw word) (acquire_by aim arrival word)
  decided aim place arrival word same on =
      let woken : is_woken arrival ≡ true → (was_woken (Some (InAcquire aim place)) ≡ true) ⊎ FoundCalled (InAcquire aim place) (Saw word) = λ was. inl (same ∙ was) in
      either (λ n. n) (may_acquire (mode_for aim) arrival word) (On (InAcquire aim (AcquireExchange arrival word))) _ (tells_so false (is_woken arrival) refl (λ out none. refl) woken (λ f p. f))
      (either (λ n. n) word.spin (Idle (InAcquire aim (AcquireLoad arrival))) (On (InAcquire aim (TakeToQueue arrival word))) (tells_so false (is_woken arrival) refl (λ out none. refl) woken (λ f p. tt))
      (tells_so false (is_woken arrival) refl (λ out none. refl) woken (λ f p. f)))

  module _ (N : ℕ) where
    -- a wait tests its condition
    tested : (wait : Wait C) (visit : Visit) (walk : Walk C) (found : Found) (loaded : ℕ) → Await wait ≡ asked_of walk → cause_by visit ≡ cause_kept walk → (has_come_back walk ≡ false → acquires walk found ≡ false → comes_back visit ≡ false) → Follows walk found (On (test_place N wait visit loaded))
    tested wait visit walk found loaded asked kept out =
        let same : tells walk found (On (InWait wait (TestCells visit loaded))) ≡ (asked_of walk, cause_kept walk, comes_back visit, false, false) = λ j. (asked j, kept j, comes_back visit, false, false) in
        either (λ (w : Walk C). On w) (ltb loaded (N - 1)) (InWait wait (TestCells visit loaded)) (InWait wait (TestLast visit (N - 1)))
        (tells_so (comes_back visit) false same out (λ was. absurd (cc)) (λ f p. tt)) (tells_so (comes_back visit) false same out (λ was. absurd (cc)) (λ f p. tt))

    -- a wait that has acquired again tests its condition, or answers where it is for variables
    came_back : (wait : Wait C) (outcome : Outcome) (arrival : Arrival) (last : Word) (on : Subject C) → wait.on ≡ on → Follows (InAcquire (ForWait wait outcome) (AcquireExchange arrival last)) Made (back_with N on wait outcome)
    came_back wait outcome arrival last (OnCondition c) is = tested wait (OnReturn outcome) _ Made 0 refl refl (λ out none. absurd (cc))
    came_back wait (Woken by) arrival last (OnVariables (Only k)) is = plain refl (λ f p. tt)
    came_back wait (Ended cause) arrival last (OnVariables (Only k)) is = plain (ap (λ kept. (Await wait, kept, false, false, false)) (answer_back cause)) (λ f p. tt)
    came_back wait outcome arrival last (OnVariables (Any cvs)) is = record { asked = refl; word = λ f p. tt; cause = inr (inr (refl, inr (wait, refl, subst IsForVariables (sym is) tt))); back = λ out none. refl; woken = λ was. absurd (cc); ends = refl }

    acquired : (aim : Aim C) (arrival : Arrival) (last : Word) → Follows (InAcquire aim (AcquireExchange arrival last)) Made (acquired_for N aim)
    acquired (ForLock mode) arrival last = plain refl (λ f p. tt)
    acquired (ForWait wait outcome) arrival last = came_back wait outcome arrival last wait.on refl

    acquiring : (aim : Aim C) (place : AcquirePlace) (found : Found) → Follows (InAcquire aim place) found (got_acquiring N aim place found)
    acquiring aim (AcquireLoad arrival) (Saw word) = decided aim (AcquireLoad arrival) arrival word refl refl
    acquiring aim (AcquireExchange arrival last) (Saw word) = decided aim (AcquireExchange arrival last) arrival word refl refl
    acquiring aim (AcquireExchange arrival last) Made = acquired aim arrival last
    acquiring aim (TakeToQueue arrival last) (Saw word) = decided aim (TakeToQueue arrival last) arrival word refl refl
    acquiring aim (TakeToQueue arrival last) Made = plain refl (λ f p. taken_packable (ToQueue (mode_for aim) arrival) last p)
    acquiring aim (Arm arrival last) Made = plain refl (λ f p. p)
    acquiring aim (Queue arrival last) (Saw word) = plain refl (λ f p. f)
    acquiring aim (Queue arrival last) Made = plain refl (λ f p. tt)
    acquiring aim (AwaitWake tries) (Flag v) =
        either (λ n. n) (eqb v 1) (Idle (InAcquire aim (AwaitWake tries))) (On (InAcquire aim (AcquireLoad (arrival_of tries v)))) (plain refl (λ f p. tt))
        (tells_so false (is_woken (arrival_of tries v)) refl (λ out none. refl) (by_flag (InAcquire aim (AwaitWake tries)) tries v refl) (λ f p. tt))
    acquiring aim place found = stays _ _

    released : (releasing : Releasing) (place : ReleasePlace) (word : Word) → Follows (InRelease releasing place) (Saw word) (release_by {C = C} releasing word)
    released releasing place word =
        either (λ n. n) (not (needs_scan releasing word)) (On (InRelease releasing (ReleaseExchange word))) _ (plain refl (λ f p. f))
        (either (λ n. n) word.spin (Idle (InRelease releasing ReleaseLoad)) (On (InRelease releasing (TakeToScan word))) (plain refl (λ f p. tt)) (plain refl (λ f p. f)))

    releases : (releasing : Releasing) (place : ReleasePlace) (found : Found) → Follows (InRelease releasing place) found (got_releasing {C = C} N releasing place found)
    releases releasing ReleaseLoad (Saw word) = released releasing ReleaseLoad word
    releases releasing (ReleaseExchange last) (Saw word) = released releasing (ReleaseExchange last) word
    releases releasing (ReleaseExchange last) Made = plain refl (λ f p. tt)
    releases releasing (TakeToScan last) (Saw word) = released releasing (TakeToScan last) word
    releases releasing (TakeToScan last) Made =
        either (λ p. On (InRelease releasing p)) last.cond _ _ (either (λ p. On (InRelease releasing p)) (ltb 0 N) _ _ (plain refl (λ f p. taken_packable ToChange last p)) (plain refl (λ f p. taken_packable ToChange last p)))
        (plain refl (λ f p. taken_packable ToChange last p))
    releases releasing (ScanCells last i) (Cell v) = either (λ p. On (InRelease releasing p)) (ltb (i + 1) N) _ _ (plain refl (λ f p. p)) (plain refl (λ f p. p))
    releases releasing (ScanAndRelease last) (Saw word) = plain refl (λ f p. f)
    releases releasing (ScanAndRelease last) (Scanned owes tests) = either (λ n. n) owes _ _ (plain refl (λ f p. tt)) (plain refl (λ f p. tt))
    releases releasing Pay (Paid owes) = either (λ n. n) owes _ _ (plain refl (λ f p. tt)) (plain refl (λ f p. tt))
    releases releasing place found = stays _ _

    in_cells : (place : CellPlace) (found : Found) → Follows (InCells place) found (got_in_cells {C = C} N place found)
    in_cells (GetLoad i) (Cell v) = plain refl (λ f p. tt)
    in_cells (SetLoad i v) (Cell w) = plain refl (λ f p. tt)
    in_cells (SetStore i v) Made = plain refl (λ f p. tt)
    in_cells (QuietCells judging i) (Cell v) = either (λ p. On (InCells p)) (ltb (i + 1) (N - 1)) _ _ (plain refl (λ f p. tt)) (plain refl (λ f p. tt))
    in_cells (QuietLast ToTell i) (Quiet quiet) = plain refl (λ f p. tt)
    in_cells (QuietLast ToRelease i) (Quiet quiet) = either (λ n. n) quiet _ _ (plain refl (λ f p. tt)) (plain refl (λ f p. tt))
    in_cells place found = stays _ _

    unmet : (wait : Wait C) (visit : Visit) (i : ℕ) (met : Bool) → Follows (InWait wait (TestLast visit i)) (Tested met) (unmet_by wait visit)
    unmet wait OnEntry i met = either (λ n. n) (is_limited wait.limits) _ _ (plain refl (λ f p. tt)) (plain refl (λ f p. tt))
    unmet wait (OnReturn (Woken by)) i met = either (λ n. n) (is_limited wait.limits) _ _ (tells_so true false refl (λ out none. absurd (cc)) (λ was. absurd (cc)) (λ f p. tt)) (plain refl (λ f p. tt))
    unmet wait (OnReturn (Ended cause)) i met = record { asked = refl; word = λ f p. tt; cause = inl (answer_back cause); back = λ out none. refl; woken = λ was. absurd (cc); ends = refl }

    queuing : (wait : Wait C) (again : Bool) (place : QueuePlace) (found : Found) → Follows (InWait wait (InQueuing again place)) found (got_queuing N wait again place found)
    queuing wait again LookIn (Looked None) = plain refl (λ f p. tt)
    queuing wait again LookIn (Looked (Some cause)) = record { asked = refl; word = λ f p. tt; cause = inr (inl (refl, ap Looked (sym (answer_back cause)))); back = λ out none. refl; woken = λ was. absurd (cc); ends = refl }
    queuing wait again Load (Saw word) = either (λ n. n) word.spin _ _ (plain refl (λ f p. tt)) (plain refl (λ f p. f))
    queuing wait again (Take last) (Saw word) = either (λ n. n) word.spin _ _ (plain refl (λ f p. tt)) (plain refl (λ f p. f))
    queuing wait again (Take last) Made = plain refl (λ f p. taken_packable ToChange last p)
    queuing wait again (ArmToWait last) Made = armed wait.on where
      armed : (on : Subject C) → Follows (InWait wait (InQueuing again (ArmToWait last))) Made (On (InWait wait (InQueuing again (armed_place N on last))))
      armed (OnCondition c) = plain refl (λ f p. p)
      armed (OnVariables variables) = either (λ p. On (InWait wait (InQueuing again p))) last.cond _ _ (either (λ p. On (InWait wait (InQueuing again p))) (ltb 0 N) _ _ (plain refl (λ f p. p)) (plain refl (λ f p. p))) (plain refl (λ f p. p))
    queuing wait again (LoadToScan last i) (Cell v) = either (λ p. On (InWait wait (InQueuing again p))) (ltb (i + 1) N) _ _ (plain refl (λ f p. p)) (plain refl (λ f p. p))
    queuing wait again (QueueToWait last) (Saw word) = plain refl (λ f p. f)
    queuing wait again (QueueToWait last) (Scanned owes tests) = either (λ n. n) owes _ _ (plain refl (λ f p. tt)) (plain refl (λ f p. tt))
    queuing wait again place found = stays _ _

    -- who was taken before it could leave comes back ended early, unless it waits for variables
    taken : (wait : Wait C) (cause : Cause) (v : ℕ) (on : Subject C) → wait.on ≡ on → CauseFollows (InWait wait (InLeaving cause AwaitWakeToLeave)) (Flag v) (On (InAcquire (ForWait wait (outcome_taken on cause v)) (AcquireLoad (arrival_of 0 v))))
    taken wait cause v (OnCondition c) is = inl refl
    taken wait cause v (OnVariables variables) is = inr (inr (refl, inr (wait, refl, subst IsForVariables (sym is) tt)))

    leaving : (wait : Wait C) (cause : Cause) (place : LeavePlace) (found : Found) → Follows (InWait wait (InLeaving cause place)) found (got_leaving wait cause place found)
    leaving wait cause LeaveLoad (Saw word) = either (λ n. n) word.spin _ _ (plain refl (λ f p. tt)) (plain refl (λ f p. f))
    leaving wait cause (TakeToLeave last) (Saw word) = either (λ n. n) word.spin _ _ (plain refl (λ f p. tt)) (plain refl (λ f p. f))
    leaving wait cause (TakeToLeave last) Made = plain refl (λ f p. taken_packable ToChange last p)
    leaving wait cause (Leave last) (Saw word) = plain refl (λ f p. f)
    leaving wait cause (Leave last) (Left stood) = either (λ n. n) stood _ _ (plain refl (λ f p. tt)) (plain refl (λ f p. tt))
    leaving wait cause AwaitWakeToLeave (Flag v) =
        either (λ n. n) (eqb v 1) _ _ (plain refl (λ f p. tt))
        (record { asked = refl; word = λ f p. tt; cause = taken wait cause v wait.on refl; back = λ out none. refl; woken = by_flag (InWait wait (InLeaving cause AwaitWakeToLeave)) 0 v refl; ends = refl })
    leaving wait cause place found = stays _ _

    waiting : (wait : Wait C) (place : WaitPlace) (found : Found) → Follows (InWait wait place) found (got_waiting N wait place found)
    waiting wait (TestCells visit i) (Cell v) = tested wait visit _ (Cell v) (i + 1) refl refl (λ out none. out)
    waiting wait (TestLast visit i) (Tested met) =
        either (λ n. n) met _ _ (record { asked = refl; word = λ f p. tt; cause = inr (inr (refl, inl refl)); back = λ out none. refl; woken = λ was. absurd (cc); ends = refl }) (unmet wait visit i met)
    waiting wait (InQueuing again place) found = queuing wait again place found
    waiting wait PayInWait (Paid owes) = either (λ n. n) owes _ _ (plain refl (λ f p. tt)) (plain refl (λ f p. tt))
    waiting wait AwaitWakeInWait (Flag v) =
        either (λ n. n) (eqb v 1) _ _ (either (λ n. n) (is_limited wait.limits) _ _ (plain refl (λ f p. tt)) (plain refl (λ f p. tt)))
        (tells_so false (is_woken (arrival_of 0 v)) refl (λ out none. refl) (by_flag (InWait wait AwaitWakeInWait) 0 v refl) (λ f p. tt))
    waiting wait LookOut (Looked None) = plain refl (λ f p. tt)
    waiting wait LookOut (Looked (Some cause)) = record { asked = refl; word = λ f p. tt; cause = inr (inl (refl, refl)); back = λ out none. refl; woken = λ was. absurd (cc); ends = refl }
    waiting wait (InLeaving cause place) found = leaving wait cause place found
    waiting wait place found = stays _ _

    signaling : (waking : Waking) (k : ℕ) (place : SignalPlace) (found : Found) → Follows (InSignal waking k place) found (got_signaling {C = C} waking k place found)
    signaling waking k SignalLoad (Saw word) = either (λ n. n) word.spin _ _ (plain refl (λ f p. tt)) (plain refl (λ f p. f))
    signaling waking k (TakeToWake last) (Saw word) = either (λ n. n) word.spin _ _ (plain refl (λ f p. tt)) (plain refl (λ f p. f))
    signaling waking k (TakeToWake last) Made = plain refl (λ f p. taken_packable ToChange last p)
    signaling waking k (WakeAndReturn last) (Saw word) = plain refl (λ f p. f)
    signaling waking k (WakeAndReturn last) (Woke owes) = either (λ n. n) owes _ _ (plain refl (λ f p. tt)) (plain refl (λ f p. tt))
    signaling waking k PayTheWoken (Paid owes) = either (λ n. n) owes _ _ (plain refl (λ f p. tt)) (plain refl (λ f p. tt))
    signaling waking k place found = stays _ _

    showing : (place : ShowPlace) (found : Found) → Follows (InShow place) found (got_showing {C = C} place found)
    showing ShowLoad (Saw word) = either (λ n. n) word.spin _ _ (plain refl (λ f p. tt)) (plain refl (λ f p. f))
    showing (TakeToShow last) (Saw word) = either (λ n. n) word.spin _ _ (plain refl (λ f p. tt)) (plain refl (λ f p. f))
    showing (TakeToShow last) Made = plain refl (λ f p. taken_packable ToChange last p)
    showing (ReturnShown last) (Saw word) = plain refl (λ f p. f)
    showing (ReturnShown last) Made = plain refl (λ f p. tt)
    showing place found = stays _ _

    -- Each step follows.
    pub follows : (walk : Walk C) (found : Found) → Follows walk found (got_of N walk found)
    follows (InTry mode place) found = trying mode place found
    follows (InAcquire aim place) found = acquiring aim place found
    follows (InRelease releasing place) found = releases releasing place found
    follows (InCells place) found = in_cells place found
    follows (InWait wait place) found = waiting wait place found
    follows (InSignal waking k place) found = signaling waking k place found
    follows (InShow place) found = showing place found
