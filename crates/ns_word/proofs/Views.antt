-- A view among the views: what holds of all of them, by the views before it, itself, and those behind it.
use Rattle.std.proofs.Common.{Bool, List, None, Option, Some, [], ap, arith, cond, eq-eqb, eqb, false, inl, inr, ne_eqb, not, refl, subst, sym, true, ℕ, ◌++◌, ◌+◌, ◌∷◌, ◌≡◌, ◌≢◌, ◌≤◌, ◌⊎◌}
use Rattle.ns_word.proofs.Prelude.{Aim, AreApart, CameBack, Cond, EachFits, ForLock, ForWait, Held, InAcquire, InWait, IsEither, IsExpected, Locked, Mode, NoneIs, OnCondition, OnVariables, Opening, Outcome, Owed, Phase, SeatView, SectionFits, Standing, Subject, Truths, Variables, ViewFits, Waiting}
use Rattle.ns_word.proofs.Prelude.{Walk, called_to, calls_from_lock, cases_eq, expected_for, is_reading, is_waiting, is_write, is_writing, owed_to, phase_before, phase_by, phase_by_wake, phase_for, phase_kept, readers, times_among, total_amid, variable_in, waits_in, walk_at, woken_phase, writers}
use Rattle.ns_word.proofs.Prelude.{◌∙◌}
use Rattle.ns_model.specs.declared.phase.Phase.TheVariants.{Idle}

-- a seat with this place, this section and these wakes to pay
abbrev pub view_of : {C : Type 0} {N : ℕ} → ℕ → Option (Walk C) → Option (Held C N) → List Owed → SeatView C N
view_of seat walk held owed = record { seat = seat; walk = walk; held = held; owed = owed }

-- One seat's view before and after a step: its place in its call, its section in hand, and the wakes that it owes. The views in front of it and behind it are other seats'; none in front is its own (`apart`).
pub record Move (C : Type 0) (N : ℕ) : Type 0 where
  pub front : List (SeatView C N)
  pub who : ℕ
  pub walk : Option (Walk C)
  pub held : Option (Held C N)
  pub owed : List Owed
  pub walk' : Option (Walk C)
  pub held' : Option (Held C N)
  pub owed' : List Owed
  pub back : List (SeatView C N)
  pub apart : NoneIs who front

-- all views before it, and after it
abbrev pub olds : {C : Type 0} {N : ℕ} → Move C N → List (SeatView C N)
olds m = m.front ++ view_of m.who m.walk m.held m.owed ∷ m.back

abbrev pub news : {C : Type 0} {N : ℕ} → Move C N → List (SeatView C N)
news m = m.front ++ view_of m.who m.walk' m.held' m.owed' ∷ m.back

one_of : (b : Bool) → cond b 1 0 + cond (not b) 1 0 ≡ 1
one_of true = refl
one_of false = refl

module _ {C : Type 0} {N : ℕ} where
  pub owed_at : (seat : ℕ) (front : List (SeatView C N)) (view : SeatView C N) (back : List (SeatView C N)) →
      owed_to seat (front ++ view ∷ back) ≡ owed_to seat front + (times_among seat view.owed + owed_to seat back)
  owed_at seat front view back = total_amid (λ view. times_among seat view.owed) front view back

  -- the wakes of those taken from the lock list are some of all that a seat is owed
  pub called_most : (seat : ℕ) (views : List (SeatView C N)) → called_to seat views ≤ owed_to seat views
  called_most seat [] = omega arith
  called_most seat (u ∷ views) =
      let rest = called_most seat views in
      elim (calls_from_lock u.walk) as (λ b. cond b (times_among seat u.owed) 0 + called_to seat views ≤ times_among seat u.owed + owed_to seat views) [ true ↦ omega (arith, rest) | false ↦ omega (arith, rest) ]

  none_held : (held : Option (Held C N)) → cond (is_writing held) 1 0 + cond (is_reading held) 1 0 ≡ 0 → held ≡ None
  none_held None e = refl
  none_held (Some held) e = absurd (omega (arith, one_of (is_write held.mode)))

  -- ---- apart

  pub none_parts : (who : ℕ) (front : List (SeatView C N)) (view : SeatView C N) (back : List (SeatView C N)) →
      NoneIs who (front ++ view ∷ back) → NoneIs who front × (view.seat ≢ who) × NoneIs who back
  none_parts who [] view back p = (tt, p.0, p.1)
  none_parts who (u ∷ front) view back p = let rest = none_parts who front view back p.1 in ((p.0, rest.0), rest.1, rest.2)

  pub none_join : (who : ℕ) (front : List (SeatView C N)) (view : SeatView C N) (back : List (SeatView C N)) →
      NoneIs who front → view.seat ≢ who → NoneIs who back → NoneIs who (front ++ view ∷ back)
  none_join who [] view back p q r = (q, r)
  none_join who (u ∷ front) view back p q r = (p.0, none_join who front view back p.1 q r)

  pub apart_parts : (front : List (SeatView C N)) (view : SeatView C N) (back : List (SeatView C N)) →
      AreApart (front ++ view ∷ back) → NoneIs view.seat front × NoneIs view.seat back
  apart_parts [] view back p = (tt, p.0)
  apart_parts (u ∷ front) view back p =
      let rest = apart_parts front view back p.1 in
      let here = none_parts u.seat front view back p.0 in
      ((λ e. here.1 (sym e), rest.0), rest.1)

  -- a view that moves keeps its number
  pub apart_moves : (front : List (SeatView C N)) (view next : SeatView C N) (back : List (SeatView C N)) → next.seat ≡ view.seat →
      AreApart (front ++ view ∷ back) → AreApart (front ++ next ∷ back)
  apart_moves [] view next back e p = (subst (λ who. NoneIs who back) (sym e) p.0, p.1)
  apart_moves (u ∷ front) view next back e p =
      let here = none_parts u.seat front view back p.0 in
      (none_join u.seat front next back here.0 (λ f. here.1 (sym e ∙ f)) here.2, apart_moves front view next back e p.1)

  -- ---- places

  -- the place of the seat itself
  pub walk_here : (front : List (SeatView C N)) (view : SeatView C N) (back : List (SeatView C N)) → NoneIs view.seat front → walk_at view.seat (front ++ view ∷ back) ≡ view.walk
  walk_here [] view back p = rw (eq-eqb view.seat view.seat refl) refl
  walk_here (u ∷ front) view back p = rw (ne_eqb u.seat view.seat p.0) (walk_here front view back p.1)

  -- that of another
  pub walk_there : (seat : ℕ) (front : List (SeatView C N)) (view next : SeatView C N) (back : List (SeatView C N)) → view.seat ≢ seat → next.seat ≡ view.seat →
      walk_at seat (front ++ next ∷ back) ≡ walk_at seat (front ++ view ∷ back)
  walk_there seat [] view next back ne e = rw (ne_eqb view.seat seat ne) (rw (ne_eqb next.seat seat (λ f. ne (sym e ∙ f))) refl)
  walk_there seat (u ∷ front) view next back ne e = ap (λ w. cond (eqb u.seat seat) u.walk w) (walk_there seat front view next back ne e)

  module _ (m : Move C N) where
    open m use {front, who, walk, held, owed, walk', held', owed', back, apart}

    pub walk_was : walk_at who (olds m) ≡ walk
    walk_was = walk_here front (view_of who walk held owed) back apart

    pub walk_is : walk_at who (news m) ≡ walk'
    walk_is = walk_here front (view_of who walk' held' owed') back apart

    pub walk_stays : (seat : ℕ) → who ≢ seat → walk_at seat (news m) ≡ walk_at seat (olds m)
    walk_stays seat ne = walk_there seat front (view_of who walk held owed) (view_of who walk' held' owed') back ne refl

    -- how a seat waits: another as before, and each where the seat itself does
    pub stance_stays : (seat : ℕ) → who ≢ seat → waits_in (walk_at seat (news m)) ≡ waits_in (walk_at seat (olds m))
    stance_stays seat ne = ap waits_in (walk_stays seat ne)

    pub stance_same : waits_in walk' ≡ waits_in walk → (seat : ℕ) → waits_in (walk_at seat (news m)) ≡ waits_in (walk_at seat (olds m))
    stance_same same seat = elim (cases_eq who seat) [
      | inl e ↦ subst (λ s. waits_in (walk_at s (news m)) ≡ waits_in (walk_at s (olds m))) e (ap waits_in walk_is ∙ same ∙ sym (ap waits_in walk_was))
      | inr ne ↦ stance_stays seat ne
    ]

  -- ---- each
  module _ (truths : Truths C) (seats : ℕ) where
    section_moves : (now next : Standing C) (row cells : List ℕ) (who : ℕ) (walk : Option (Walk C)) (held : Option (Held C N)) →
        next.phases who ≡ now.phases who →
        ((next.row ≡ now.row) × (cells ≡ row)) ⊎ (held ≡ None) →
        SectionFits now row who walk held → SectionFits next cells who walk held
    section_moves now next row cells who walk None phase same p = subst (λ ph. IsExpected (phase_by walk) ph) (sym phase) p
    section_moves now next row cells who walk (Some held) phase (inl same) p = record {
      starts = p.starts ∙ sym same.0;
      enters = phase ∙ p.enters;
      cells = p.cells ∙ sym same.1;
      reads = p.reads;
    }
    section_moves now next row cells who walk (Some held) phase (inr none) p = absurd (cc)

    -- what the step of a seat leaves of the others: the row is the same, or none of them has a section
    pub each_moves : (now next : Standing C) (row cells : List ℕ) (who : ℕ) (views : List (SeatView C N)) →
        NoneIs who views → ((seat : ℕ) → seat ≢ who → next.phases seat ≡ now.phases seat) →
        ((next.row ≡ now.row) × (cells ≡ row)) ⊎ (writers views + readers views ≡ 0) →
        EachFits truths seats now row views → EachFits truths seats next cells views
    each_moves now next row cells who [] apart phases same p = tt
    each_moves now next row cells who (u ∷ views) apart phases (inl same) p = (
      record { in_range = p.0.in_range; place = p.0.place; owes = p.0.owes; section = section_moves now next row cells u.seat u.walk u.held (phases u.seat apart.0) (inl same) p.0.section },
      each_moves now next row cells who views apart.1 phases (inl same) p.1,
    )
    each_moves now next row cells who (u ∷ views) apart phases (inr none) p = (
      record { in_range = p.0.in_range; place = p.0.place; owes = p.0.owes; section = section_moves now next row cells u.seat u.walk u.held (phases u.seat apart.0) (inr (none_held u.held (omega arith))) p.0.section },
      each_moves now next row cells who views apart.1 phases (inr (omega arith)) p.1,
    )

    -- a seat with such a place, where no seat has none such, is one with a view
    pub view_with : (now : Standing C) (row : List ℕ) (Q : Option (Walk C) → Type 0) (seat : ℕ) (views : List (SeatView C N)) → (Q None → ⊥) → EachFits truths seats now row views → Q (walk_at seat views) →
        (view : SeatView C N) × (view.seat ≡ seat) × Q view.walk × ViewFits truths seats now row view
    view_with now row Q seat [] never p q = absurd (never q)
    view_with now row Q seat (u ∷ views) never p q = elim (cases_eq u.seat seat) [
      | inl e ↦ (u, e, subst (λ b. Q (cond b u.walk (walk_at seat views))) (eq-eqb u.seat seat e) q, p.0)
      | inr ne ↦ view_with now row Q seat views never p.1 (subst (λ b. Q (cond b u.walk (walk_at seat views))) (ne_eqb u.seat seat ne) q)
    ]

-- ---- what a wake leaves of the phases

-- a phase after a wake by the variable k: it is as it was, or it waited for that and was woken
abbrev pub IsSameOrWoken : {C : Type 0} → ℕ → Phase C → Phase C → Type 0
IsSameOrWoken k was now = (now ≡ was) ⊎ ((is_waiting k was ≡ true) × (now ≡ woken_phase k was))

module _ {C : Type 0} (k : ℕ) where
  by_steady : (variables : Variables) (mode : Mode) (by : Option ℕ) → woken_phase {C = C} k (phase_by_wake variables mode by) ≡ phase_by_wake variables mode by
  by_steady variables mode None = refl
  by_steady variables mode (Some j) = refl

  -- only one that waits for variables is woken
  kept_steady : (on : Subject C) (mode : Mode) (outcome : Outcome) → woken_phase k (phase_kept on mode outcome) ≡ phase_kept on mode outcome
  kept_steady (OnCondition c) mode outcome = refl
  kept_steady (OnVariables variables) mode outcome = by_steady variables mode (variable_in outcome)

  before_steady : (mode : Mode) (entry : Opening C) → woken_phase k (phase_before mode entry) ≡ phase_before mode entry
  before_steady mode Locked = refl
  before_steady mode (CameBack on outcome) = kept_steady on mode outcome

  for_steady : (aim : Aim C) → woken_phase k (phase_for aim) ≡ phase_for aim
  for_steady (ForLock mode) = refl
  for_steady (ForWait wait outcome) = kept_steady wait.on wait.mode outcome

  woken_twice : (j : ℕ) (phase : Phase C) → is_waiting j phase ≡ true → woken_phase k (woken_phase j phase) ≡ woken_phase j phase
  woken_twice j Idle e = refl
  woken_twice j other e = refl

  either_woken : (b : Bool) (phase now : Phase C) → (b ≡ false → woken_phase k phase ≡ phase) → is_waiting k now ≡ true → IsEither b phase now → IsEither b phase (woken_phase k now)
  either_woken false phase now steady waits p = ap (woken_phase k) p ∙ steady refl
  either_woken true phase now steady waits (inl e) = inr (k, sym (ap (is_waiting k) e) ∙ waits, ap (woken_phase k) e)
  either_woken true phase now steady waits (inr was) = inr (was.0, was.1, ap (woken_phase k) was.2 ∙ woken_twice was.0 phase was.1)

  subject_woken : (on : Subject C) (mode : Mode) (now : Phase C) → is_waiting k now ≡ true → IsExpected (expected_for on mode) now → IsExpected (expected_for on mode) (woken_phase k now)
  subject_woken (OnCondition c) mode now waits p = either_woken false (Cond c mode) now (λ e. refl) waits p
  subject_woken (OnVariables variables) mode now waits p = either_woken true (Waiting variables mode) now (λ e. absurd (cc)) waits p

  pub expected_woken : (walk : Option (Walk C)) (now : Phase C) → is_waiting k now ≡ true → IsExpected (phase_by walk) now → IsExpected (phase_by walk) (woken_phase k now)
  expected_woken (Some (InAcquire aim place)) now waits p = either_woken false (phase_for aim) now (λ e. for_steady aim) waits p
  expected_woken (Some (InWait wait place)) now waits p = subject_woken wait.on wait.mode now waits p
  expected_woken walk now waits p = either_woken false Idle now (λ e. refl) waits p

module _ {C : Type 0} {N : ℕ} (truths : Truths C) (seats : ℕ) where
  section_woken : (k : ℕ) (now next : Standing C) (row : List ℕ) (who : ℕ) (walk : Option (Walk C)) (held : Option (Held C N)) →
      IsSameOrWoken k (now.phases who) (next.phases who) → next.row ≡ now.row →
      SectionFits now row who walk held → SectionFits next row who walk held
  section_woken k now next row who walk None (inl e) same p = subst (λ ph. IsExpected (phase_by walk) ph) (sym e) p
  section_woken k now next row who walk None (inr e) same p = subst (λ ph. IsExpected (phase_by walk) ph) (sym e.1) (expected_woken k walk (now.phases who) e.0 p)
  section_woken k now next row who walk (Some held) (inl e) same p = record { starts = p.starts ∙ sym same; enters = e ∙ p.enters; cells = p.cells; reads = p.reads }
  section_woken k now next row who walk (Some held) (inr e) same p = record {
    starts = p.starts ∙ sym same;
    enters = e.1 ∙ ap (woken_phase k) p.enters ∙ before_steady k held.mode held.entry;
    cells = p.cells;
    reads = p.reads;
  }

  -- what a wake leaves of the seats: each is as it was, or woken
  pub each_woken : (k : ℕ) (now next : Standing C) (row : List ℕ) (views : List (SeatView C N)) →
      ((seat : ℕ) → IsSameOrWoken k (now.phases seat) (next.phases seat)) → next.row ≡ now.row →
      EachFits truths seats now row views → EachFits truths seats next row views
  each_woken k now next row [] phases same p = tt
  each_woken k now next row (u ∷ views) phases same p = (
    record { in_range = p.0.in_range; place = p.0.place; owes = p.0.owes; section = section_woken k now next row u.seat u.walk u.held (phases u.seat) same p.0.section },
    each_woken k now next row views phases same p.1,
  )
