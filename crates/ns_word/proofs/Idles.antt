-- A step that doesn't count changes nothing: its seat loads the word or its flag, or looks, and is where it was, or looks next.
use Rattle.std.proofs.Common.{Bool, List, None, Some, [], ap, arith, cond, eqb, false, is_some, length, not, refl, true, ℕ, ◌++◌, ◌∷◌, ◌≡◌}
use Rattle.ns_word.proofs.Prelude.{AcquireLoad, Act, AsFresh, AwaitWake, AwaitWakeInWait, AwaitWakeToLeave, Effect, Event, Flag, Found, GetLoad, Idle, InAcquire, InCells, InLeaving, InQueuing, InRelease, InShow, InSignal, InTry, InWait, LeaveLoad, Load, LoadFlag, LoadWord, LockState, Look, LookIn}
use Rattle.ns_word.proofs.Prelude.{LookOut, Looked, Next, OnCondition, OnVariables, Part, ReleaseLoad, Reply, Saw, SeatView, ShowLoad, SignalLoad, Step, Subject, TestLast, Truths, TryLoad, Walk, Word, got_of, is_limited, judge_of, may_acquire, meets_at, mode_for, needs_scan, one_if, part_of}
use Rattle.ns_word.proofs.Prelude.{place_after, total, total_amid, want_of, ◌∙◌}
use Rattle.ns_word.proofs.Bases.{view_of}
use Rattle.ns_word.proofs.Ranks.{either}
use Rattle.ns_word.proofs.Others.{shared}
use Rattle.ns_word.specs.Progress.{counts, counts_by, left_at, left_to, stands_in, steps_left}

-- such an act leaves all as it was, and commits nothing
same_part : {C : Type 0} {N : ℕ} (truths : Truths C) (who : ℕ) (act : Act C) (old : Part C N) (found : Found) (new : Part C N) (commits : List (Event C N)) (to : Next (Walk C) Reply) → Effect truths who act old found new commits → counts_by act found to ≡ false → (new ≡ old) × (commits ≡ [])
same_part truths who LoadWord old (Saw word) new commits to e c = (e.1, e.2)
same_part truths who LoadFlag old (Flag v) new commits to e c = (e.1, e.2)
same_part truths who (Look limits again) old (Looked None) new commits to e c = (e.1, e.2)
same_part truths who LoadWord old other new commits to e c = absurd e
same_part truths who act old found new commits to e c = absurd (cc)

judge_counts : {C : Type 0} (on : Subject C) (i : ℕ) (found : Found) (to : Next (Walk C) Reply) → counts_by (judge_of on i) found to ≡ true
judge_counts (OnCondition c) i found to = refl
judge_counts (OnVariables variables) i found to = refl

module _ {C : Type 0} (N : ℕ) (meets : C → Bool) (stands : Bool) (word : Word) where
  -- as much is left to the seat as before
  abbrev IsSame : Walk C → Next (Walk C) Reply → Type 0
  IsSame walk to = left_at N meets stands word (place_after to) ≡ left_at N meets stands word (Some walk)

  abbrev Stays : Walk C → Found → Next (Walk C) Reply → Type 0
  Stays walk found to = counts_by (want_of walk) found to ≡ false → IsSame walk to

  -- a load that idles leads back to it
  idle_or_not : (walk : Walk C) (seen : Word) (b : Bool) (other : Next (Walk C) Reply) → want_of walk ≡ LoadWord → (counts_by {C = C} LoadWord (Saw seen) other ≡ true) → Stays walk (Saw seen) (cond b (Idle walk) other)
  idle_or_not walk seen true other is on c = refl
  idle_or_not walk seen false other is on c = let same = ap (λ act. counts_by act (Saw seen) other) is in absurd (cc)

  -- a flag that is found set
  flag_set : (walk : Walk C) (v : ℕ) (b : Bool) (idle on : Next (Walk C) Reply) → IsSame walk idle → not b ≡ false → IsSame walk (cond b idle on)
  flag_set walk v true idle on same c = same
  flag_set walk v false idle on same c = absurd (cc)

  stays : (walk : Walk C) (found : Found) → Stays walk found (got_of N walk found)
  stays (InTry mode TryLoad) (Saw seen) = either (Stays (InTry mode TryLoad) (Saw seen)) (may_acquire mode AsFresh seen) (λ f c. absurd (cc)) (λ f c. absurd (cc))
  stays (InAcquire aim (AcquireLoad arrival)) (Saw seen) = either (Stays (InAcquire aim (AcquireLoad arrival)) (Saw seen)) (may_acquire (mode_for aim) arrival seen) (λ f c. absurd (cc)) (λ f. idle_or_not (InAcquire aim (AcquireLoad arrival)) seen seen.spin _ refl refl)
  stays (InAcquire aim (AwaitWake tries)) (Flag v) = flag_set (InAcquire aim (AwaitWake tries)) v (eqb v 1) _ _ refl
  stays (InRelease releasing ReleaseLoad) (Saw seen) =
      either (Stays (InRelease releasing ReleaseLoad) (Saw seen)) (not (needs_scan releasing seen)) (λ f c. absurd (cc)) (λ f. idle_or_not (InRelease releasing ReleaseLoad) seen seen.spin _ refl refl)
  stays (InWait wait (InQueuing again Load)) (Saw seen) = idle_or_not (InWait wait (InQueuing again Load)) seen seen.spin _ refl refl
  stays (InWait wait (InQueuing again LookIn)) (Looked None) = λ c. absurd (cc)
  stays (InWait wait AwaitWakeInWait) (Flag v) = flag_set (InWait wait AwaitWakeInWait) v (eqb v 1) _ _ (either (IsSame (InWait wait AwaitWakeInWait)) (is_limited wait.limits) (λ f. refl) (λ f. refl))
  stays (InWait wait LookOut) (Looked None) = λ c. refl
  stays (InWait wait (InLeaving cause LeaveLoad)) (Saw seen) = idle_or_not (InWait wait (InLeaving cause LeaveLoad)) seen seen.spin _ refl refl
  stays (InWait wait (InLeaving cause AwaitWakeToLeave)) (Flag v) = flag_set (InWait wait (InLeaving cause AwaitWakeToLeave)) v (eqb v 1) _ _ refl
  stays (InWait wait (TestLast visit i)) found = λ c. let does = judge_counts wait.on i found (got_of N (InWait wait (TestLast visit i)) found) in absurd (cc)
  stays (InSignal waking k SignalLoad) (Saw seen) = idle_or_not (InSignal waking k SignalLoad) seen seen.spin _ refl refl
  stays (InShow ShowLoad) (Saw seen) = idle_or_not (InShow ShowLoad) seen seen.spin _ refl refl
  stays (InCells (GetLoad i)) found = λ c. absurd (cc)
  stays _ _ = λ c. absurd (cc)

pub idle_same : {C : Type 0} {N : ℕ} (truths : Truths C) (old new : LockState C N) (view : SeatView C N) (found : Found) (commits : List (Event C N)) → (step : Step truths old view found new commits) → counts N step.walk found ≡ false →
    (steps_left truths new ≡ steps_left truths old) × (new ≡ record old { views = new.views }) × (step.held ≡ view.held) × (step.owed ≡ view.owed) × (commits ≡ [])
idle_same {C} {N} truths old new view found commits step c =
    let part = same_part truths view.seat (want_of step.walk) (part_of old view.held view.owed) found (part_of new step.held step.owed) commits (got_of N step.walk found) step.effect c in
    let same = part.0 in
    let next = view_of view.seat (place_after (got_of N step.walk found)) step.held step.owed in
    let places = stays N (meets_at truths old.row) (stands_in old.lists.lock view.seat) old.word step.walk found c in
    let walks = ap (left_at N (meets_at truths old.row) (stands_in old.lists.lock view.seat) old.word) step.walks in
    let held = ap (λ (p : Part C N). one_if (not (is_some p.held))) same in
    let owed = ap (λ (p : Part C N). length p.owed) same in
    let becomes = ap (total (left_to truths new)) step.becomes ∙ ap (λ (p : Part C N). total (left_to truths (shared truths view.seat old.views p)) (step.front ++ next ∷ step.back)) same in
    let was = ap (total (left_to truths old)) step.was in (
      omega (arith, becomes, was, total_amid (left_to truths old) step.front next step.back, total_amid (left_to truths old) step.front view step.back, places, walks, held, owed),
      λ i. record { word = (same i).word; row = (same i).row; lists = (same i).lists; flags = (same i).flags; views = new.views },
      ap (λ (p : Part C N). p.held) same,
      ap (λ (p : Part C N). p.owed) same,
      part.1,
    )
