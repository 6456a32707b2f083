-- What a wait answers is what its section is committed with.
use Rattle.std.proofs.Common.{Bool, List, None, Option, Some, ap, cond, false, not, refl, subst, sym, true, ℕ, ◌≡◌, ◌≢◌}
use Rattle.ns_word.proofs.Prelude.{AcquireExchange, AcquirePlace, Answer, Answered, Any, CameBack, CanWait, Cause, ComesBack, Done, Effect, Ended, Event, Expired, ForWait, Found, Held, InAcquire, InQueuing, InWait, IsForCondition, IsLawful, IsSaidBy, IsUnmet, JudgeMet, Load, LockState, LookIn}
use Rattle.ns_word.proofs.Prelude.{Looked, Made, MayWait, Met, Notified, On, OnCondition, OnEntry, OnReturn, OnVariables, Only, Outcome, Part, Reply, SeatView, Step, Subject, TestLast, Tested, Tests, Truths, Variables, Visit, Wait, WaitFits, WaitPlace, Waited, Walk, Woken, answer_of, back_with}
use Rattle.ns_word.proofs.Prelude.{both_ways, comes_back, entry_for, entry_of, got_acquiring, got_of, got_waiting, has_come_back, held_after, is_limited, is_met, judge_of, look_or_queue, newly_held, not-false, opening_by, part_of, place_has_come_back, reply_for, unmet_by, want_acquiring, want_of}
use Rattle.ns_word.proofs.Prelude.{want_waiting, ◌∙◌}
use Rattle.ns_word.proofs.Follows.{Follows, follows, may_end}
use Rattle.ns_word.proofs.Effects.{BeganSo, makes}
use Rattle.ns_word.proofs.Looks.{looks_by}
use Rattle.ns_word.proofs.Stepping.{effect_at, place_at}

-- where a wait answers nothing, the call goes on
ends_not : {C : Type 0} (N : ℕ) (walk : Walk C) (found : Found) (reply : Reply) → may_end walk found ≡ false → got_of N walk found ≢ Done reply
ends_not N walk found reply e is = let ends : not (may_end walk found) ≡ false = (subst (λ next. Follows walk found next) is (follows N walk found)).ends in absurd (both_ways (may_end walk found) e (not-false (may_end walk found) ends))

looks_on : {C : Type 0} (wait : Wait C) (again : Bool) (reply : Reply) → look_or_queue wait again ≢ Done reply
looks_on wait again reply is = elim (is_limited wait.limits) as (λ b. cond b (On (InWait wait (InQueuing again LookIn))) (On (InWait wait (InQueuing again Load))) ≢ Done reply) [ true ↦ λ e. absurd (cc) | false ↦ λ e. absurd (cc) ] is

-- ---- what it answers, and what is left of the section

-- a wait that was ended early wasn't met
unmet_cause : (cause : Cause) → is_met (answer_of cause) ≡ false
unmet_cause Expired = refl
unmet_cause Notified = refl

module _ {C : Type 0} {N : ℕ} (truths : Truths C) (wait : Wait C) (c : C) where
  -- The wait answers rightly of the section that is left in hand; one that has come back says the same of itself.
  abbrev pub AnswersOf : Bool → Option (Held C N) → Answer → Type 0
  AnswersOf back left answer =
      (held : Held C N) × (left ≡ Some held) × (held.mode ≡ wait.mode) × (is_met answer ≡ truths.holds c held.row)
      × (back ≡ true → entry_of truths.holds held.before held.entry ≡ Waited c answer)

  -- how such a section says that it began, where the wait is for this condition
  opens : (on : Subject C) (outcome : Outcome) (held : Held C N) → on ≡ OnCondition c → held.entry ≡ CameBack on outcome → entry_of truths.holds held.before held.entry ≡ entry_of truths.holds held.before (CameBack (OnCondition c) outcome)
  opens on outcome held for entry = ap (entry_of truths.holds held.before) (entry ∙ ap (λ (z : Subject C). CameBack z outcome) for)

  -- how a section is said to begin that has come back by this cause, by whether the condition holds
  begins_so : (cause : Cause) (held : Held C N) (b : Bool) → wait.on ≡ OnCondition c → ComesBack wait (Ended cause) held → truths.holds c held.row ≡ b →
      entry_of truths.holds held.before held.entry ≡ Waited c (cond b Met (answer_of cause))
  begins_so cause held b for back e =
      opens wait.on (Ended cause) held for back.entry
      ∙ ap (λ (z : Bool). Waited c (cond z Met (answer_of cause))) (ap (truths.holds c) (sym back.cells) ∙ e)

  -- a test that finds the condition true
  pub met_answers : (visit : Visit) (held : Held C N) → wait.on ≡ OnCondition c → Tests truths wait visit (Some held) → truths.holds c held.row ≡ true → AnswersOf (comes_back visit) (Some held) Met
  met_answers OnEntry held for p e = (held, refl, p.0, sym e, λ b. absurd (cc))
  met_answers (OnReturn (Woken by)) held for p e = (held, refl, p.0, sym e, λ _. opens wait.on (Woken by) held for p.1.entry)
  met_answers (OnReturn (Ended cause)) held for p e = (held, refl, p.0, sym e, λ _. begins_so cause held true for p.1 e)

  -- and one that finds it false
  pub unmet_answers : (visit : Visit) (held : Held C N) (answer : Answer) → wait.on ≡ OnCondition c → Tests truths wait visit (Some held) → truths.holds c held.row ≡ false → unmet_by wait visit ≡ Done (Answered answer) →
      AnswersOf (comes_back visit) (Some held) answer
  unmet_answers OnEntry held answer for p e is = absurd (looks_on wait false (Answered answer) is)
  unmet_answers (OnReturn (Woken by)) held answer for p e is = absurd (looks_on wait true (Answered answer) is)
  unmet_answers (OnReturn (Ended cause)) held answer for p e is =
      let same : answer_of cause ≡ answer = cc in
      subst (AnswersOf true (Some held)) same (held, refl, p.0, unmet_cause cause ∙ sym e, λ _. begins_so cause held false for p.1 e)

  test_answers : (visit : Visit) (held : Held C N) (b : Bool) (answer : Answer) → wait.on ≡ OnCondition c → Tests truths wait visit (Some held) → truths.holds c held.row ≡ b →
      cond b (Done (Answered Met)) (unmet_by wait visit) ≡ Done (Answered answer) → AnswersOf (comes_back visit) (Some held) answer
  test_answers visit held true answer for p e is = let same : Met ≡ answer = cc in subst (AnswersOf (comes_back visit) (Some held)) same (met_answers visit held for p e)
  test_answers visit held false answer for p e is = unmet_answers visit held answer for p e is

  unmet_held : (again : Bool) (held : Held C N) → wait.on ≡ OnCondition c → MayWait truths wait again held → truths.holds c held.row ≡ false
  unmet_held again held for p = subst (λ on. IsUnmet truths on held.row) for p.unmet

  -- a look that shows something: the condition was false, and a section that has come back goes by what is shown
  pub look_answers : (again : Bool) (cause : Cause) (held : Held C N) → wait.on ≡ OnCondition c → MayWait truths wait again held → AnswersOf again (held_after again (Some cause) (Some held)) (answer_of cause)
  look_answers false cause held for p = (held, refl, p.mode, unmet_cause cause ∙ sym (unmet_held false held for p), λ b. absurd (cc))
  look_answers true cause held for p =
      let shown : Held C N = record held { entry = opening_by cause held.entry } in
      let back : ComesBack wait (Ended cause) shown = record { entry = ap (opening_by cause) (p.back refl).1.entry; cells = (p.back refl).1.cells; fits = tt } in
      let unmet = unmet_held true held for p in
      (shown, refl, p.mode, unmet_cause cause ∙ sym unmet, λ _. begins_so cause shown false for back unmet)

  looked_answers : (again : Bool) (cause : Cause) (held : Option (Held C N)) → wait.on ≡ OnCondition c → CanWait truths wait again held → AnswersOf again (held_after again (Some cause) held) (answer_of cause)
  looked_answers again cause None for p = absurd p
  looked_answers again cause (Some held) for p = look_answers again cause held for p

  answers_at : (seat : ℕ) (place : WaitPlace) (old : Part C N) (found : Found) (new : Part C N) (commits : List (Event C N)) (answer : Answer) → wait.on ≡ OnCondition c → WaitFits truths wait place old.held →
      Effect truths seat (want_waiting wait place) old found new commits → got_waiting N wait place found ≡ Done (Answered answer) → AnswersOf (place_has_come_back place) new.held answer
  answers_at seat (TestLast visit i) old (Tested b) new commits answer for p e is =
      let judged : Effect truths seat (JudgeMet i c) old (Tested b) new commits = subst (λ on. Effect truths seat (judge_of on i) old (Tested b) new commits) for e in
      subst (λ left. AnswersOf (comes_back visit) left answer) (sym (ap (λ (part : Part C N). part.held) judged.3 ∙ judged.1))
      (test_answers visit judged.0 b answer for (subst (λ held. Tests truths wait visit held) judged.1 p.0) (sym judged.2) is)
  answers_at seat (TestLast visit i) old _ new commits answer for p e is = absurd (cc)
  answers_at seat (InQueuing again LookIn) old (Looked None) new commits answer for p e is = absurd (cc)
  answers_at seat (InQueuing again LookIn) old (Looked (Some cause)) new commits answer for p e is =
      let same : answer_of cause ≡ answer = cc in
      subst (λ left. AnswersOf again left answer) (sym (ap (λ (part : Part C N). part.held) e.1)) (subst (AnswersOf again (held_after again (Some cause) old.held)) same (looked_answers again cause old.held for p.0))
  answers_at seat (InQueuing again LookIn) old _ new commits answer for p e is = absurd e
  answers_at seat place old found new commits answer for p e is = absurd (ends_not N (InWait wait place) found (Answered answer) refl is)

-- A wait for a condition answers what its section is committed with.
pub answers_rightly : {C : Type 0} {N : ℕ} (truths : Truths C) (seats : ℕ) (h : List (Event C N)) (old new : LockState C N) (view : SeatView C N) (found : Found) (commits : List (Event C N)) (wait : Wait C) (c : C) (place : WaitPlace) (answer : Answer) →
    (step : Step truths old view found new commits) → IsLawful truths seats h old → step.walk ≡ InWait wait place → wait.on ≡ OnCondition c → got_of N step.walk found ≡ Done (Answered answer) → AnswersOf truths wait c (has_come_back step.walk) step.held answer
answers_rightly {C} {N} truths seats h old new view found commits wait c place answer step lawful walks for is =
    let here = place_at step seats h (InWait wait place) walks lawful in
    subst (λ back. AnswersOf truths wait c back step.held answer) (ap has_come_back (sym walks))
    (answers_at truths wait c view.seat place (part_of old view.held view.owed) found (part_of new step.held step.owed) commits answer for here.0
    (effect_at step (InWait wait place) walks) (ap (λ walk. got_of N walk found) (sym walks) ∙ is))

-- ---- what a wait for variables answers

-- a section says how it began just what the wait answers
said : (C : Type 0) (outcome : Outcome) (variables : Variables) → IsSaidBy {C = C} variables (reply_for variables outcome) (entry_for variables outcome)
said C outcome (Only k) = refl
said C outcome (Any cvs) = refl

module _ {C : Type 0} {N : ℕ} (truths : Truths C) (wait : Wait C) (outcome : Outcome) (variables : Variables) where
  -- The section that is in hand then says just that answer of how it began.
  abbrev AnswersAfter : Option (Held C N) → Reply → Type 0
  AnswersAfter left reply = (held : Held C N) × (left ≡ Some held) × (held.mode ≡ wait.mode) × IsSaidBy variables reply (entry_of truths.holds held.before held.entry)

  after_at : (seat : ℕ) (place : AcquirePlace) (old : Part C N) (found : Found) (new : Part C N) (commits : List (Event C N)) (reply : Reply) → wait.on ≡ OnVariables variables →
      Effect truths seat (want_acquiring (ForWait wait outcome) place) old found new commits → got_acquiring N (ForWait wait outcome) place found ≡ Done reply → AnswersAfter new.held reply
  after_at seat (AcquireExchange arrival last) old Made new commits reply for e is =
      let over : Done (reply_for variables outcome) ≡ Done reply = sym (ap (λ on. back_with N on wait outcome) for) ∙ is in
      let same : reply_for variables outcome ≡ reply = cc in
      let entry : entry_of truths.holds old.row (CameBack wait.on outcome) ≡ entry_for variables outcome = ap (λ (on : Subject C). entry_of truths.holds old.row (CameBack on outcome)) for in (
        newly_held (ForWait wait outcome) old.row,
        ap (λ (part : Part C N). part.held) e.3,
        refl,
        subst (IsSaidBy variables reply) (sym entry) (subst (λ r. IsSaidBy {C = C} variables r (entry_for variables outcome)) same (said C outcome variables)),
      )
  after_at seat place old found new commits reply for e is = absurd (ends_not N (InAcquire (ForWait wait outcome) place) found reply refl is)

-- A wait for variables answers what its section says of how it began.
pub variable_answers_rightly : {C : Type 0} {N : ℕ} (truths : Truths C) (old new : LockState C N) (view : SeatView C N) (found : Found) (commits : List (Event C N)) (wait : Wait C) (outcome : Outcome) (place : AcquirePlace) (variables : Variables) (reply : Reply) →
    (step : Step truths old view found new commits) → step.walk ≡ InAcquire (ForWait wait outcome) place → wait.on ≡ OnVariables variables → got_of N step.walk found ≡ Done reply → AnswersAfter truths wait outcome variables step.held reply
variable_answers_rightly {C} {N} truths old new view found commits wait outcome place variables reply step walks for is =
    after_at truths wait outcome variables view.seat place (part_of old view.held view.owed) found (part_of new step.held step.owed) commits reply for
    (effect_at step (InAcquire (ForWait wait outcome) place) walks) (ap (λ walk. got_of N walk found) (sym walks) ∙ is)

-- ---- and where it answers nothing

module _ {C : Type 0} {N : ℕ} (truths : Truths C) (wait : Wait C) (variables : Variables) where
  none_at : (place : WaitPlace) (held : Option (Held C N)) (found : Found) (reply : Reply) → wait.on ≡ OnVariables variables → WaitFits truths wait place held → got_waiting N wait place found ≢ Done reply
  none_at (TestLast visit i) held found reply for p is = subst IsForCondition for p.2
  none_at (InQueuing again LookIn) held found reply for p is = subst IsForCondition for p.1
  none_at place held found reply for p is = ends_not N (InWait wait place) found reply refl is

-- A wait for variables doesn't answer before it acquires again.
pub variable_answers_back : {C : Type 0} {N : ℕ} (truths : Truths C) (seats : ℕ) (h : List (Event C N)) (old new : LockState C N) (view : SeatView C N) (found : Found) (commits : List (Event C N)) (wait : Wait C) (place : WaitPlace) (variables : Variables) (reply : Reply) →
    (step : Step truths old view found new commits) → IsLawful truths seats h old → step.walk ≡ InWait wait place → wait.on ≡ OnVariables variables → got_of N step.walk found ≢ Done reply
variable_answers_back {C} {N} truths seats h old new view found commits wait place variables reply step lawful walks for is =
    let here = place_at step seats h (InWait wait place) walks lawful in
    none_at truths wait variables place view.held found reply for here.0 (ap (λ walk. got_of N walk found) (sym walks) ∙ is)

-- ---- from the answer to the commit

-- What a section says of how it began stays until it is left, but for the looks of a wait that has come back.
pub keep_beginning : {C : Type 0} {N : ℕ} (truths : Truths C) (old new : LockState C N) (view : SeatView C N) (found : Found) (commits : List (Event C N)) (was held : Held C N) →
    (step : Step truths old view found new commits) → has_come_back step.walk ≡ false → view.held ≡ Some was → step.held ≡ Some held → BeganSo was held
keep_beginning truths old new view found commits was held step n p q =
    (makes truths view.seat (want_of step.walk) (part_of old view.held view.owed) found (part_of new step.held step.owed) commits step.effect).began was held (looks_by step.walk n) p q
