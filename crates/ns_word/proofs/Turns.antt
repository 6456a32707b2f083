-- What a call pays as it begins, and whole runs.
use Rattle.std.proofs.Common.{Bool, List, None, Some, [], ap, arith, cond, false, inl, inr, refl, true, ℕ, ◌++◌, ◌+◌, ◌<◌, ◌∷◌, ◌≡◌, ◌≤◌}
use Rattle.ns_word.proofs.Prelude.{AcquireLoad, Begins, BeginsIf, Event, ForLock, Found, GetLoad, InAcquire, InCells, InQueuing, InRelease, InShow, InSignal, InTry, InWait, IsFirst, IsLawful, Load, LockState, OnCondition, OnEntry, OnVariables, QuietCells, QuietKeeps, QuietLast, ReleaseLoad}
use Rattle.ns_word.proofs.Prelude.{SeatView, SetLoad, ShowLoad, SignalLoad, Step, Subject, TestCells, TestLast, Truths, TryLoad, Walk, Word, cases_Bool, judge_of, meets_at, one_if, total, total_amid, view_in}
use Rattle.ns_word.proofs.Falls.{counted_falls}
use Rattle.ns_word.proofs.Idles.{idle_same}
use Rattle.ns_word.proofs.ToldAfter.{begins_if, seat_steps_keep}
use Rattle.ns_word.specs.Progress.{cost_of, counts, left_at, left_to, stale_by, stands_in, steps_left}
use Rattle.std.specs.Prelude.{suc, zero, ◌*◌}
use Rattle.ns_word.specs.Begins.{fresh_state, fresh_views}
use Rattle.ns_word.specs.Turns.{IsMade, Run, Turn, begun_by, counted, paid}

module _ {C : Type 0} where
  judge_now : (word : Word) (on : Subject C) (i : ℕ) → stale_by word (judge_of on i) ≡ 0
  judge_now word (OnCondition c) i = refl
  judge_now word (OnVariables variables) i = refl

  -- at a first place no more is left than the call pays
  first_costs : (N : ℕ) (meets : C → Bool) (stands : Bool) (word : Word) (walk : Walk C) → IsFirst N walk → left_at N meets stands word (Some walk) ≤ cost_of N walk
  first_costs N meets stands word (InTry mode TryLoad) p = omega arith
  first_costs N meets stands word (InAcquire (ForLock mode) (AcquireLoad arrival)) p = omega arith
  first_costs N meets stands word (InCells (QuietCells judging i)) p = omega arith
  first_costs N meets stands word (InCells (QuietLast judging i)) p = omega arith
  first_costs N meets stands word (InRelease releasing ReleaseLoad) p = omega arith
  first_costs N meets stands word (InCells (GetLoad i)) p = omega arith
  first_costs N meets stands word (InCells (SetLoad i v)) p = omega arith
  first_costs N meets stands word (InWait wait (TestCells OnEntry i)) p = omega arith
  first_costs N meets stands word (InWait wait (TestLast OnEntry i)) p = omega (arith, judge_now word wait.on i)
  first_costs N meets stands word (InWait wait (InQueuing again Load)) p = omega arith
  first_costs N meets stands word (InSignal waking k SignalLoad) p = omega arith
  first_costs N meets stands word (InShow ShowLoad) p = omega arith
  first_costs N meets stands word _ p = absurd p

module _ {C : Type 0} {N : ℕ} (truths : Truths C) where
  pub call_costs : (old new : LockState C N) (view : SeatView C N) (walk : Walk C) → Begins truths old view walk new → steps_left truths new ≤ steps_left truths old + cost_of N walk
  call_costs old new view walk b =
      let becomes = ap (steps_left truths) b.becomes in
      let was = ap (total (left_to truths old)) b.was in
      let next : SeatView C N = record view { walk = Some walk } in
      let most = first_costs N (meets_at truths old.row) (stands_in old.lists.lock view.seat) old.word walk b.first in
      omega (arith, becomes, was, total_amid (left_to truths old) b.front next b.back, total_amid (left_to truths old) b.front view b.back, most)

  begin_costs : (old new : LockState C N) (view : SeatView C N) (walk : Walk C) (b : Bool) → BeginsIf truths old view (cond b (Some walk) None) new → steps_left truths new ≤ steps_left truths old + cond b (cost_of N walk) 0
  begin_costs old new view walk true p = call_costs old new view walk p
  begin_costs old new view walk false p = let same = ap (steps_left truths) p in omega (arith, same)

  module _ (some : 0 < N) (small : N ≤ 16) (quiet : QuietKeeps N truths) (seats : ℕ) (few : seats ≤ 64) where
    -- a step takes one off, if it counts
    step_pays : (h : List (Event C N)) (old new : LockState C N) (view : SeatView C N) (found : Found) (commits : List (Event C N)) → IsLawful truths seats h old → (step : Step truths old view found new commits) → one_if (counts N step.walk found) + steps_left truths new ≤ steps_left truths old
    step_pays h old new view found commits p step = elim (cases_Bool (counts N step.walk found)) [
      | inl does ↦ let less = counted_falls truths some small seats h old new view found commits few p step does in let one = ap one_if does in omega (arith, less, one)
      | inr idles ↦ let same = (idle_same truths old new view found commits step idles).0 in let none = ap one_if idles in omega (arith, same, none)
    ]

    pub made_lawful : (h : List (Event C N)) (old : LockState C N) (turn : Turn C) (next : LockState C N) (commits : List (Event C N)) → IsLawful truths seats h old → IsMade truths old turn next commits → IsLawful truths seats (h ++ commits) next
    made_lawful h old turn next commits p m = seat_steps_keep truths some quiet seats h few old m.view (begun_by turn) turn.found next commits m.made p

    pub run_pays : (turns : List (Turn C)) (h : List (Event C N)) (old new : LockState C N) → IsLawful truths seats h old → Run truths old turns new → counted N turns + steps_left truths new ≤ steps_left truths old + paid N turns
    run_pays [] h old new p run = let same = ap (steps_left truths) run in omega (arith, same)
    run_pays (turn ∷ turns) h old new p run =
        let m = run.2 in
        let pays = begin_costs old m.made.between m.view turn.walk turn.begins m.made.begins in
        let takes = step_pays h m.made.between run.0 (view_in m.view (begun_by turn)) turn.found run.1 (begins_if truths some quiet seats h few old m.view (begun_by turn) m.made.between m.made.begins p) m.made.step in
        let counts_here = ap (λ walk. one_if (counts N walk turn.found)) m.place in
        let rest = run_pays turns (h ++ run.1) run.0 new (made_lawful h old turn run.0 run.1 p m) run.3 in
        omega (arith, pays, takes, counts_here, rest)

fresh_left : {C : Type 0} {N : ℕ} (truths : Truths C) (s : LockState C N) (first n : ℕ) → total (left_to truths s) (fresh_views {C = C} {N = N} first n) ≡ 6600 * n
fresh_left truths s first zero = refl
fresh_left truths s first (suc n) = omega (arith, fresh_left truths s (first + 1) n)

pub fresh_has_left : {C : Type 0} (N : ℕ) (truths : Truths C) (seats : ℕ) → steps_left truths (fresh_state {C = C} {N = N} seats) ≡ 6600 * seats
fresh_has_left {C} N truths seats = fresh_left truths (fresh_state {C = C} {N = N} seats) 0 seats
