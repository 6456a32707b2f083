-- What is left to a seat by its place: how little it is where a decision leads by the word that is there, and how it changes with the row, the lock list and the word.
use Rattle.std.proofs.Common.{Bool, None, Option, Some, ap, arith, cond, eq-eqb, false, ltb, not, refl, sym, true, ℕ, ◌&&◌, ◌*◌, ◌+◌, ◌-◌, ◌<◌, ◌≡◌, ◌≢◌, ◌≤◌}
use Rattle.ns_word.proofs.Prelude.{Acquire, AcquireExchange, AcquireLoad, Act, Aim, AsFresh, AwaitWake, AwaitWakeInWait, Done, ForLock, ForWait, GetLoad, Idle, InAcquire, InCells, InLeaving, InQueuing, InRelease, InShow, InSignal, InTry, InWait, LeaveLoad, Load, LoadWord, LookOut, Mode, Next, On}
use Rattle.ns_word.proofs.Prelude.{OnCondition, OnReturn, OnVariables, Outcome, PayInWait, QueuePlace, Release, ReleaseExchange, ReleaseLoad, ReleasePlace, ReleaseReturning, Releasing, Reply, ReturnQueues, Saw, ScanAndRelease, ShowLoad, SignalLoad, Subject, Take, TakeQueues, TakeToLeave}
use Rattle.ns_word.proofs.Prelude.{TakeToQueue, TakeToScan, TakeToShow, TakeToWake, TestLast, TryLoad, Visit, Wait, WaitReturning, Walk, Woken, Word, acquired_for, armed_place, back_with, beq, both_ways, cond_on, false_from_ne_true, got_of, is_limited, is_satisfied, judge_of, lock_stance}
use Rattle.ns_word.proofs.Prelude.{look_or_queue, may_acquire, mode_for, needs_scan, one_if, pay_waiting, place_after, scan_place, test_place, waits_in, want_of, ◌∙◌}
use Rattle.ns_word.specs.Progress.{left_at, may_release, may_wait, rank, same_word, stale, stale_at, stale_by, waits_again, waits_again_for, weigh_at}
use Rattle.ns_word.proofs.Same as Same

-- of two ways
pub either : {A : Type 0} (P : A → Type 0) (b : Bool) {one other : A} → (b ≡ true → P one) → (b ≡ false → P other) → P (cond b one other)
either P true p q = p refl
either P false p q = q refl

-- ---- the word that an exchange compares

same_bit : (b : Bool) → beq b b ≡ true
same_bit true = refl
same_bit false = refl

same_refl : (w : Word) → same_word w w ≡ true
same_refl w = λ i. same_bit w.write i && (same_bit w.spin i && (same_bit w.waiting i && (same_bit w.desig i && (same_bit w.cond i && (same_bit w.writer_waits i && (same_bit w.all_false i && (same_bit w.long i && eq-eqb w.readers w.readers refl i)))))))

-- one that has just seen the word succeeds, if it comes next
pub stale_now : (word : Word) → stale word word ≡ 0
stale_now word = ap (λ b. cond b 0 2) (same_refl word)

-- one that has seen another fails
pub stale_other : (word last : Word) → word ≢ last → stale word last ≡ 2
stale_other word last ne = ap (λ b. cond b 0 2) (false_from_ne_true (same_word last word) (λ e. ne (sym (Same.same_word last word e))))

pub stale_few : (word last : Word) → stale word last ≤ 2
stale_few word last = elim (same_word last word) as (λ b. cond b 0 2 ≤ 2) [ true ↦ omega arith | false ↦ omega arith ]

module _ {C : Type 0} where
  stale_act : (word : Word) (act : Act C) → stale_by word act ≤ 2
  stale_act word LoadWord = omega arith
  stale_act word (Acquire aim arrival last) = stale_few word last
  stale_act word (TakeQueues taking last) = stale_few word last
  stale_act word (ReturnQueues change last) = stale_few word last
  stale_act word (Release releasing last) = stale_few word last
  stale_act word (ReleaseReturning releasing last) = stale_few word last
  stale_act word (WaitReturning wait again last) = stale_few word last
  stale_act word act = omega arith

  pub stale_most : (word : Word) (walk : Option (Walk C)) → stale_at word walk ≤ 2
  stale_most word None = omega arith
  stale_most word (Some walk) = stale_act word (want_of walk)

  -- ---- where a decision leads

  abbrev pub idles : Next (Walk C) Reply → Bool
  idles (Idle walk) = true
  idles next = false

  module _ (N : ℕ) (meets : C → Bool) (stands : Bool) (word : Word) where
    -- A decision by the word that is there leads to an exchange of it, or to a load where it idles; with so many steps left beside that.
    abbrev pub Decides : ℕ → Next (Walk C) Reply → Type 0
    Decides base next = left_at N meets stands word (place_after next) ≤ base + one_if (idles next)

    -- An exchange that comes next succeeds.
    now : stale word word ≡ 0
    now = stale_now word

    takes_or_idles : (base : ℕ) (again last : Walk C) → left_at N meets stands word (Some again) ≤ base + 1 → left_at N meets stands word (Some last) ≤ base → Decides base (cond word.spin (Idle again) (On last))
    takes_or_idles base again last g l = either (Decides base) word.spin (λ e. omega (arith, g)) (λ e. omega (arith, l))

    decision : (base : ℕ) (may : Bool) (first again last : Walk C) → left_at N meets stands word (Some first) ≤ base → left_at N meets stands word (Some again) ≤ base + 1 → left_at N meets stands word (Some last) ≤ base →
        Decides base (cond may (On first) (cond word.spin (Idle again) (On last)))
    decision base may first again last f g l = either (Decides base) may (λ e. omega (arith, f)) (λ e. takes_or_idles base again last g l)

    judge_now : (on : Subject C) (i : ℕ) → stale_by word (judge_of on i) ≡ 0
    judge_now (OnCondition c) i = refl
    judge_now (OnVariables variables) i = refl

    -- so wherever the word is seen
    pub decides : (walk : Walk C) → Decides (weigh_at N meets stands (Some walk)) (got_of N walk (Saw word))
    decides (InTry mode TryLoad) = either (Decides 400) (may_acquire mode AsFresh word) (λ e. omega (arith, now)) (λ e. omega arith)
    decides (InAcquire aim (AcquireLoad arrival)) = decision (weigh_at N meets stands (Some (InAcquire aim (AcquireLoad arrival)))) (may_acquire (mode_for aim) arrival word) _ _ _ (omega (arith, now)) (omega arith) (omega (arith, now))
    decides (InAcquire aim (AcquireExchange arrival last)) = decision (weigh_at N meets stands (Some (InAcquire aim (AcquireLoad arrival)))) (may_acquire (mode_for aim) arrival word) _ _ _ (omega (arith, now)) (omega arith) (omega (arith, now))
    decides (InAcquire aim (TakeToQueue arrival last)) = decision (weigh_at N meets stands (Some (InAcquire aim (AcquireLoad arrival)))) (may_acquire (mode_for aim) arrival word) _ _ _ (omega (arith, now)) (omega arith) (omega (arith, now))
    decides (InRelease releasing ReleaseLoad) = decision (60000 + 200 * (N + 1)) (not (needs_scan releasing word)) _ _ _ (omega (arith, now)) (omega arith) (omega (arith, now))
    decides (InRelease releasing (ReleaseExchange last)) = decision (60000 + 200 * (N + 1)) (not (needs_scan releasing word)) _ _ _ (omega (arith, now)) (omega arith) (omega (arith, now))
    decides (InRelease releasing (TakeToScan last)) = decision (60000 + 200 * (N + 1)) (not (needs_scan releasing word)) _ _ _ (omega (arith, now)) (omega arith) (omega (arith, now))
    decides (InWait wait (InQueuing again Load)) = takes_or_idles (60000 + 200 * (N + 2)) _ _ (omega arith) (omega (arith, now))
    decides (InWait wait (InQueuing again (Take last))) = takes_or_idles (60000 + 200 * (N + 2)) _ _ (omega arith) (omega (arith, now))
    decides (InWait wait (InLeaving cause LeaveLoad)) = takes_or_idles 1200 _ _ (omega arith) (omega (arith, now))
    decides (InWait wait (InLeaving cause (TakeToLeave last))) = takes_or_idles 1200 _ _ (omega arith) (omega (arith, now))
    decides (InSignal waking k SignalLoad) = takes_or_idles 400 _ _ (omega arith) (omega (arith, now))
    decides (InSignal waking k (TakeToWake last)) = takes_or_idles 400 _ _ (omega arith) (omega (arith, now))
    decides (InShow ShowLoad) = takes_or_idles 400 _ _ (omega arith) (omega (arith, now))
    decides (InShow (TakeToShow last)) = takes_or_idles 400 _ _ (omega arith) (omega (arith, now))
    decides (InWait wait (TestLast visit i)) = omega (arith, judge_now wait.on i)
    decides (InCells (GetLoad i)) = omega arith
    decides walk = omega (arith, now)

    -- ---- where a place leads that has nothing left to pay

    pub paid_left : (walk : Walk C) (reply : Reply) (owes : Bool) → left_at N meets stands word (Some walk) ≡ 0 → left_at N meets stands word (place_after (cond owes (On walk) (Done reply))) ≡ 0
    paid_left walk reply owes none = either (λ (next : Next (Walk C) Reply). left_at N meets stands word (place_after next) ≡ 0) owes (λ e. none) (λ e. refl)

    pub waiting_left : (wait : Wait C) (owes : Bool) → left_at N meets stands word (place_after (pay_waiting wait owes)) ≡ 60000 * one_if (not stands && waits_again meets wait.on (Woken None)) + 1400
    waiting_left wait owes = either (λ next. left_at N meets stands word (place_after next) ≡ 60000 * one_if (not stands && waits_again meets wait.on (Woken None)) + 1400) owes (λ e. omega arith) (λ e. omega arith)

  module _ (N : ℕ) (meets : C → Bool) (stands : Bool) where
    -- ---- where a place leads that loads cells, or comes back

    most_of : {A : Type 0} (f : A → ℕ) (b : Bool) {one other : A} (n : ℕ) → f one ≤ n → f other ≤ n → f (cond b one other) ≤ n
    most_of f b n p q = either (λ x. f x ≤ n) b (λ e. p) (λ e. q)

    pub test_left : (wait : Wait C) (visit : Visit) (loaded : ℕ) → loaded < N → weigh_at N meets stands (Some (test_place N wait visit loaded)) ≤ 60000 * one_if (may_wait meets wait.on visit) + 200 * ((N - loaded) + (N + 3))
    test_left wait visit loaded low = most_of (λ (walk : Walk C). weigh_at N meets stands (Some walk)) (ltb loaded (N - 1)) _ (omega arith) (omega arith)

    pub taken_left : (releasing : Releasing) (last : Word) (b : Bool) → weigh_at N meets stands (Some (InRelease releasing (cond b (scan_place N last 0) (ScanAndRelease last)))) ≤ 60000 + 200 * N
    taken_left releasing last b = let f = λ (place : ReleasePlace). weigh_at N meets stands (Some (InRelease releasing place)) in most_of f b _ (most_of f (ltb 0 N) _ (omega arith) (omega arith)) (omega arith)

    pub armed_left : (wait : Wait C) (again : Bool) (on : Subject C) (last : Word) → weigh_at N meets stands (Some (InWait wait (InQueuing again (armed_place N on last)))) ≤ 60000 + 200 * N
    armed_left wait again (OnCondition c) last = omega arith
    armed_left wait again (OnVariables variables) last = let f = λ (place : QueuePlace). weigh_at N meets stands (Some (InWait wait (InQueuing again place))) in most_of f last.cond _ (most_of f (ltb 0 N) _ (omega arith) (omega arith)) (omega arith)

    back_left : (on : Subject C) (wait : Wait C) (outcome : Outcome) → wait.on ≡ on → 0 < N → weigh_at N meets stands (place_after (back_with N on wait outcome)) ≤ 60000 * one_if (waits_again meets on outcome) + 200 * (N + (N + 3))
    back_left (OnCondition c) wait outcome e some = let same = ap (λ on. one_if (waits_again meets on outcome)) e in omega (arith, test_left wait (OnReturn outcome) 0 some, same)
    back_left (OnVariables variables) wait outcome e some = omega arith

    pub acquired_left : (aim : Aim C) → 0 < N → weigh_at N meets stands (place_after (acquired_for N aim)) ≤ 60000 * one_if (waits_again_for meets aim) + 200 * (N + (N + 3))
    acquired_left (ForLock mode) some = omega arith
    acquired_left (ForWait wait outcome) some = back_left wait.on wait outcome refl some

    pub look_left : (wait : Wait C) (again : Bool) → weigh_at N meets stands (place_after (look_or_queue wait again)) ≤ 60000 + 200 * (N + 3)
    look_left wait again = most_of (λ next. weigh_at N meets stands (place_after next)) (is_limited wait.limits) _ (omega arith) (omega arith)

  -- ---- another word, row or lock list

  module _ (N : ℕ) (meets meets' : C → Bool) (stands stands' : Bool) (word word' : Word) where
    pub rises : (walk : Option (Walk C)) (r e : ℕ) → one_if (may_release meets' stands' walk) ≤ one_if (may_release meets stands walk) + r → rank N stands' walk ≤ rank N stands walk + e →
        left_at N meets' stands' word' walk ≤ left_at N meets stands word walk + (60000 * r + 200 * e + 2)
    rises walk r e p q = let most = stale_most word' walk in omega (arith, p, q, most)

  -- whether a place may release, and its rank, where it stands in the lock list or not: only who waits for a wake is moved by that, and has less to do as it stands there
  record Settles (N : ℕ) (meets : C → Bool) (walk : Option (Walk C)) : Type 0 where
    fewer : one_if (may_release meets true walk) ≤ one_if (may_release meets false walk)
    lower : rank N true walk ≤ rank N false walk
    high : rank N false walk ≤ rank N true walk + 4

  settles : (N : ℕ) (meets : C → Bool) (walk : Option (Walk C)) → Settles N meets walk
  settles N meets (Some (InAcquire aim (AwaitWake tries))) = record { fewer = omega arith; lower = omega arith; high = omega arith }
  settles N meets (Some (InWait wait PayInWait)) = record { fewer = omega arith; lower = omega arith; high = omega arith }
  settles N meets walk = record { fewer = omega arith; lower = omega arith; high = omega arith }

  pub rank_rises : (N : ℕ) (meets : C → Bool) (stands stands' : Bool) (walk : Option (Walk C)) → rank N stands' walk ≤ rank N stands walk + 4
  rank_rises N meets true false walk = (settles N meets walk).high
  rank_rises N meets false true walk = omega (arith, (settles N meets walk).lower)
  rank_rises N meets stands stands' walk = omega arith

  -- so one that stands there still
  pub still_stands : (N : ℕ) (meets : C → Bool) (stands stands' : Bool) (walk : Option (Walk C)) → (stands ≡ true → stands' ≡ true) →
      (one_if (may_release meets stands' walk) ≤ one_if (may_release meets stands walk) + 0) × (rank N stands' walk ≤ rank N stands walk + 0)
  still_stands N meets true false walk p = absurd (both_ways false refl (p refl))
  still_stands N meets false true walk p = (omega (arith, (settles N meets walk).fewer), omega (arith, (settles N meets walk).lower))
  still_stands N meets stands stands' walk p = (omega arith, omega arith)

  abbrev condition_in : Option (Mode × Option C × ℕ) → Option C
  condition_in None = None
  condition_in (Some stance) = stance.1

  -- who was taken from it had a condition that is true, or none, and doesn't release again
  met_back : (meets : C → Bool) (on : Subject C) (c : Option C) → cond_on (Some on) ≡ c → is_satisfied meets c ≡ true → one_if (waits_again meets on (Woken None)) ≡ 0
  met_back meets (OnCondition d) c e met = ap one_if (ap not (ap (is_satisfied meets) e ∙ met))
  met_back meets (OnVariables variables) c e met = refl

  pub taken_settles : (N : ℕ) (meets : C → Bool) (stands stands' : Bool) (walk : Option (Walk C)) (mode : Mode) (c : Option C) (tries : ℕ) → lock_stance (waits_in walk) ≡ Some (mode, c, tries) → is_satisfied meets c ≡ true →
      one_if (may_release meets stands' walk) ≤ one_if (may_release meets stands walk) + 0
  taken_settles N meets true false (Some (InWait wait PayInWait)) mode c tries e met = omega (arith, met_back meets wait.on c (ap condition_in e) met)
  taken_settles N meets true false (Some (InWait wait AwaitWakeInWait)) mode c tries e met = omega (arith, met_back meets wait.on c (ap condition_in e) met)
  taken_settles N meets true false (Some (InWait wait LookOut)) mode c tries e met = omega (arith, met_back meets wait.on c (ap condition_in e) met)
  taken_settles N meets true false walk mode c tries e met = omega arith
  taken_settles N meets false true walk mode c tries e met = omega (arith, (settles N meets walk).fewer)
  taken_settles N meets stands stands' walk mode c tries e met = omega arith
