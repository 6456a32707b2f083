-- Whether a wait that leaves still stands where it waits.
use Rattle.std.proofs.Common.{Bool, List, None, Some, [], ap, arith, cond, false, inl, inr, length, ltb, ltb-false, ltb-true, refl, subst, sym, true, ℕ, ◌<◌, ◌≡◌}
use Rattle.ns_word.proofs.Prelude.{AreApart, Cause, Cv, Event, InLeaving, InWait, IsExpected, IsFoundLeaving, IsLawful, Leave, Left, Lists, LockState, Mode, OnCondition, OnVariables, Phase, SeatView, SectionFits, Step, Truths, Variables, VariablesTell, ViewFits, Wait, Word, expected_for}
use Rattle.ns_word.proofs.Prelude.{get_or-le-sum_by, home_of, phase_by, standing_after, stands_at, sum_by, times, times_in, waiters_of, waits_in, walk_at, without, without_in, ◌∙◌}
use Rattle.ns_word.proofs.Bases.{apart_parts, effect_at, gone_from, left_at, place_at, step_fits, times_without, walk_here}
use Rattle.ns_word.proofs.Variables.{stands_still}

module _ {C : Type 0} {N : ℕ} (phases : ℕ → Phase C) (lists : Lists C) (views : List (SeatView C N)) (seat : ℕ) (mode : Mode) (variables : Variables) where
  -- who waits for variables, by its place, and stands in none of their lists, has been woken by one of them
  stands_no_more : VariablesTell phases lists views → length lists.cvs ≡ 4 → IsExpected (expected_for (OnVariables variables) mode) (phases seat) → sum_by (times_in seat) lists.cvs ≡ 0 → IsFoundLeaving false variables mode (phases seat)
  stands_no_more p four (inl waits) none =
      let one = p.some variables seat mode waits in
      let there = p.all variables one.0 seat mode waits one.1 in
      let part = get_or-le-sum_by (times_in seat) lists.cvs one.0 [] (omega (arith, four, there.0)) in
      absurd (omega (arith, part, none, there.1))
  stands_no_more p four (inr woken) none = (woken.0, woken.1, woken.2)

module _ {C : Type 0} {N : ℕ} (truths : Truths C) (old new : LockState C N) (view : SeatView C N) (commits : List (Event C N)) (wait : Wait C) (cause : Cause) (last : Word)
    (stood : Bool) (step : Step truths old view (Left stood) new commits) (walks : step.walk ≡ InWait wait (InLeaving cause (Leave last))) where
  -- it finds whether it stands there
  found_so : stands_at view.seat (home_of wait.on) old.lists ≡ stood
  found_so = let e = effect_at step (InWait wait (InLeaving cause (Leave last))) walks in let found : Left (stands_at view.seat (home_of wait.on) old.lists) ≡ Left stood = e.0 in cc

  pub leaves_variables : (seats : ℕ) (h : List (Event C N)) (variables : Variables) → IsLawful truths seats h old → wait.on ≡ OnVariables variables → IsFoundLeaving stood variables wait.mode ((standing_after h).phases view.seat)
  leaves_variables seats h variables lawful on = go stood (ap (λ on. stands_at view.seat (home_of on) old.lists) (sym on) ∙ found_so) where
    place : view.walk ≡ Some (InWait wait (InLeaving cause (Leave last)))
    place = step.walks ∙ ap Some walks

    fits : ViewFits truths seats (standing_after h) old.row view
    fits = step_fits step seats h lawful

    stance : waits_in (walk_at view.seat old.views) ≡ Some (record { mode = wait.mode; on = Some (OnVariables variables); tries = 0 })
    stance =
        ap (λ vs. waits_in (walk_at view.seat vs)) step.was ∙ ap waits_in (walk_here step.front view step.back (apart_parts step.front view step.back (subst AreApart step.was lawful.apart)).0)
        ∙ ap waits_in place ∙ ap (λ on. Some (record { mode = wait.mode; on = Some on; tries = 0 })) on

    free : view.held ≡ None
    free = (place_at step seats h (InWait wait (InLeaving cause (Leave last))) walks lawful).0.0

    expected : IsExpected (expected_for (OnVariables variables) wait.mode) ((standing_after h).phases view.seat)
    expected = subst (λ on. IsExpected (expected_for on wait.mode) ((standing_after h).phases view.seat)) on
        (subst (λ w. IsExpected (phase_by w) ((standing_after h).phases view.seat)) place (subst (λ held. SectionFits (standing_after h) old.row view.seat view.walk held) free fits.section))

    go : (b : Bool) → ltb 0 (sum_by (times_in view.seat) old.lists.cvs) ≡ b → IsFoundLeaving b variables wait.mode ((standing_after h).phases view.seat)
    go true e = stands_still (standing_after h).phases old.lists old.views view.seat wait.mode variables lawful.variables_tell lawful.waiters_placed.four stance (ltb-true 0 _ e)
    go false e = let none = ltb-false 0 (sum_by (times_in view.seat) old.lists.cvs) e in stands_no_more (standing_after h).phases old.lists old.views view.seat wait.mode variables lawful.variables_tell lawful.waiters_placed.four expected (omega (arith, none))

  pub leaves_condition : (c : C) → wait.on ≡ OnCondition c → ltb 0 (times_in view.seat old.lists.lock) ≡ stood
  leaves_condition c on = ap (λ on. stands_at view.seat (home_of on) old.lists) (sym on) ∙ found_so

  -- the lists without it
  lists_left : stood ≡ true → new.lists ≡ without view.seat old.lists
  lists_left is =
      let e = effect_at step (InWait wait (InLeaving cause (Leave last))) walks in
      ap (λ p. p.lists) e.2 ∙ ap (λ b. cond b (without view.seat old.lists) old.lists) (found_so ∙ is)

  -- and then it stands nowhere
  pub is_gone : stood ≡ true → times view.seat new.lists ≡ 0
  is_gone is = ap (λ l. times view.seat l) (lists_left is) ∙ omega (arith, times_without view.seat old.lists.lock, gone_from view.seat old.lists.cvs)

-- who stays behind one that leaves
pub stays_behind_leaver : {C : Type 0} {N : ℕ} (truths : Truths C) (seats : ℕ) (h : List (Event C N)) (old new : LockState C N) (view : SeatView C N) (commits : List (Event C N)) (wait : Wait C) (cause : Cause) (last : Word) (j : ℕ) →
    (step : Step truths old view (Left true) new commits) → step.walk ≡ InWait wait (InLeaving cause (Leave last)) → IsLawful truths seats h old → j < 4 →
    (new.lists.lock ≡ without_in view.seat old.lists.lock) × (waiters_of new.lists (Cv j) ≡ without_in view.seat (waiters_of old.lists (Cv j)))
stays_behind_leaver truths seats h old new view commits wait cause last j step walks lawful low =
    let out = lists_left truths old new view commits wait cause last true step walks refl in
    (ap (λ l. l.lock) out, ap (λ l. waiters_of l (Cv j)) out ∙ left_at view.seat j old.lists lawful.waiters_placed.four low)
