-- What the steps leave of the lists of the variables.
use Rattle.std.proofs.Common.{Bool, List, Option, Some, [], ap, arith, cond, eq-eqb, eqb, false, inl, inr, length, ne_eqb, not, refl, subst, sym, true, ℕ, ◌<◌, ◌∷◌, ◌≡◌, ◌≢◌, ◌≤◌}
use Rattle.ns_word.proofs.Prelude.{AreVariables, AreWaiting, Cv, Every, IsOrderly, Lists, Mode, OnVariables, Phase, SeatView, Seats, Stance, Subject, VariableWaiterFits, Variables, VariablesTell, WaitFor, Waiter, Waiting, below_in, cases_Bool, cases_eq, cvs_without, every_filter, every_join}
use Rattle.ns_word.proofs.Prelude.{gone_outside, has, is_in, is_waiting, once_in, one_if, outside, sum_by, taken_set, times, times_at_most, times_in, times_in-append, times_in-cons, times_outside, waiters_of, waits_in, walk_at, with_lock, without_in, woken_phase, woken_phases, ◌∙◌}
use Rattle.ns_model.specs.declared.phase.Phase.TheVariants.{Idle}
use Rattle.ns_word.proofs.Bases.{HasEntered, Move, cvs_left, left_at, listed_without, news, olds, one_has, outside_same, some_list, stance_same, stance_stays, stander, taken_at, times_other, times_others, times_without, variable_low, walk_is}

abbrev CvOf : {C : Type 0} → Lists C → ℕ → List (Waiter C)
CvOf lists k = waiters_of lists (Cv k)

module _ {C : Type 0} where
  -- a waiter that stands in a list is one of it
  pub one_of : (P : Waiter C → Type 0) (seat : ℕ) (ws : List (Waiter C)) → 1 ≤ times_in seat ws → Every P ws → (w : Waiter C) × (w.seat ≡ seat) × P w
  one_of P seat [] some p = absurd (omega (arith, some))
  one_of P seat (w ∷ ws) some p = elim (cases_eq w.seat seat) [
    | inl e ↦ (w, e, p.0)
    | inr ne ↦ let none : one_if (eqb w.seat seat) ≡ 0 = rw (ne_eqb w.seat seat ne) refl in one_of P seat ws (omega (arith, times_in-cons seat w ws, some, none)) p.1
  ]

module _ {C : Type 0} {N : ℕ} where
  -- a list whose waiters' seats go where they were, by place and by history
  every_moves : (phases phases' : ℕ → Phase C) (views views' : List (SeatView C N)) (k : ℕ) (ws : List (Waiter C)) →
      ((seat : ℕ) → 1 ≤ times_in seat ws → (waits_in (walk_at seat views') ≡ waits_in (walk_at seat views)) × (phases' seat ≡ phases seat)) →
      Every (VariableWaiterFits phases views k) ws → Every (VariableWaiterFits phases' views' k) ws
  every_moves phases phases' views views' k [] same p = tt
  every_moves phases phases' views views' k (w ∷ ws) same p =
      let here = same w.seat (let one : one_if (eqb w.seat w.seat) ≡ 1 = rw (eq-eqb w.seat w.seat refl) refl in omega (arith, times_in-cons w.seat w ws, one)) in (
        record { among = p.0.among; stands = here.0 ∙ p.0.stands; waits = here.1 ∙ p.0.waits; is_among = p.0.is_among; plain = p.0.plain; untried = p.0.untried; names = p.0.names },
        every_moves phases phases' views views' k ws (λ seat some. same seat (omega (arith, times_in-cons seat w ws, some))) p.1,
      )

  module _ (m : Move C N) where
    open m use {who, walk, walk'}

    -- who stands in the list of a variable is another seat, where this one stands in none
    other_at : (lists : Lists C) (k seat : ℕ) → length lists.cvs ≡ 4 → k < 4 → times who lists ≡ 0 → 1 ≤ times_in seat (CvOf lists k) → who ≢ seat
    other_at lists k seat four low none some e = let zero : times seat lists ≡ 0 = subst (λ s. times s lists ≡ 0) e none in absurd (omega (arith, times_at_most lists (Cv k) seat four low, zero, some))

    -- the seat waits as before, and so does every other, by the same history
    pub tell_same : (phases : ℕ → Phase C) (lists : Lists C) (lock : List (Waiter C)) → waits_in walk' ≡ waits_in walk → VariablesTell phases lists (olds m) → VariablesTell phases (with_lock lists lock) (news m)
    tell_same phases lists lock same p = record { own = λ k low. every_moves phases phases (olds m) (news m) k (CvOf lists k) (λ seat some. (stance_same m same seat, refl)) (p.own k low); all = p.all; some = p.some }

    -- the others wait and stand in the lists as before, and the seat waits for none
    tell_others : (phases phases' : ℕ → Phase C) (lists lists' : Lists C) → ((seat : ℕ) → who ≢ seat → phases' seat ≡ phases seat) → ((vs : Variables) (mode : Mode) → phases' who ≡ Waiting vs mode → ⊥) →
        ((k : ℕ) → k < 4 → Every (VariableWaiterFits phases' (news m) k) (CvOf lists' k)) → ((k seat : ℕ) → k < 4 → who ≢ seat → times_in seat (CvOf lists' k) ≡ times_in seat (CvOf lists k)) →
        VariablesTell phases lists (olds m) → VariablesTell phases' lists' (news m)
    tell_others phases phases' lists lists' others idle own kept p = record {
      own = own;
      all = λ vs k seat mode e is. elim (cases_eq who seat) [
        | inl same ↦ absurd (idle vs mode (ap phases' same ∙ e))
        | inr ne ↦ let was = p.all vs k seat mode (sym (others seat ne) ∙ e) is in (was.0, omega (arith, was.1, kept k seat was.0 ne))
      ];
      some = λ vs seat mode e. elim (cases_eq who seat) [ inl same ↦ absurd (idle vs mode (ap phases' same ∙ e)) | inr ne ↦ p.some vs seat mode (sym (others seat ne) ∙ e) ];
    }

    -- the seat stands in no variable's list, and waits for none after it either
    pub tell_moves : (phases phases' : ℕ → Phase C) (lists : Lists C) (lock : List (Waiter C)) → length lists.cvs ≡ 4 → times who lists ≡ 0 → ((seat : ℕ) → who ≢ seat → phases' seat ≡ phases seat) → ((vs : Variables) (mode : Mode) → phases' who ≡ Waiting vs mode → ⊥) →
        VariablesTell phases lists (olds m) → VariablesTell phases' (with_lock lists lock) (news m)
    tell_moves phases phases' lists lock four none others idle p = tell_others phases phases' lists (with_lock lists lock) others idle
        (λ k low. every_moves phases phases' (olds m) (news m) k (CvOf lists k) (λ seat some. let other = other_at lists k seat four low none some in (stance_stays m seat other, others seat other)) (p.own k low)) (λ k seat low ne. refl) p

    -- the seat goes to the back of the lists of its variables
    pub tell_enters : (phases phases' : ℕ → Phase C) (lists lists' : Lists C) (variables : Variables) (mode : Mode) → length lists.cvs ≡ 4 → AreVariables variables → times who lists ≡ 0 → HasEntered variables who mode lists lists' →
        waits_in walk' ≡ Some (record { mode = mode; on = Some (OnVariables variables); tries = 0 }) → phases' who ≡ Waiting variables mode → ((seat : ℕ) → who ≢ seat → phases' seat ≡ phases seat) →
        VariablesTell phases lists (olds m) → VariablesTell phases' lists' (news m)
    tell_enters phases phases' lists lists' variables mode four are none entered stance phase others p =
        let just : (seat : ℕ) (vs : Variables) (m : Mode) → phases' seat ≡ Waiting vs m → who ≡ seat → vs ≡ variables = λ seat vs m e same. let is : Waiting vs m ≡ Waiting variables mode = sym e ∙ subst (λ s. phases' s ≡ Waiting variables mode) same phase in cc in
        let moved : (k : ℕ) → k < 4 → Every (VariableWaiterFits phases' (news m) k) (CvOf lists k) = λ k few. every_moves phases phases' (olds m) (news m) k (CvOf lists k)
        (λ seat some. let other = other_at lists k seat four few none some in (stance_stays m seat other, others seat other)) (p.own k few) in
        record {
          own = λ k few. elim (cases_Bool (has variables k)) [
            | inl is ↦ subst (λ ws. Every (VariableWaiterFits phases' (news m) k) ws) (sym (entered.into k few is)) (every_join (VariableWaiterFits phases' (news m) k) (CvOf lists k) (stander who mode k) [] (moved k few)
                (record { among = variables; stands = ap waits_in (walk_is m) ∙ stance; waits = phase; is_among = is; plain = refl; untried = refl; names = refl }) tt)
            | inr lacks ↦ subst (λ ws. Every (VariableWaiterFits phases' (news m) k) ws) (sym (entered.others k few lacks)) (moved k few)
          ];
          all = λ vs k seat m e has_k. elim (cases_eq who seat) [
            | inl same ↦
                let is : has variables k ≡ true = subst (λ v. has v k ≡ true) (just seat vs m e same) has_k in
                let low = variable_low variables k are is in
                let self : one_if (eqb who seat) ≡ 1 = rw (eq-eqb who seat same) refl in
                (low, subst (λ ws. 1 ≤ times_in seat ws) (sym (entered.into k low is)) (let w : Waiter C = stander who mode k in omega (arith, times_in-append seat (CvOf lists k) (w ∷ []), times_in-cons seat w [], self)))
            | inr ne ↦ let was = p.all vs k seat m (sym (others seat ne) ∙ e) has_k in (was.0, omega (arith, was.1, times_other variables who mode lists lists' four are none entered seat k ne was.0))
          ];
          some = λ vs seat m e. elim (cases_eq who seat) [
            | inl same ↦ let one = one_has variables are in (one.0, subst (λ v. has v one.0 ≡ true) (sym (just seat vs m e same)) one.1)
            | inr ne ↦ p.some vs seat m (sym (others seat ne) ∙ e)
          ];
        }

    -- the seat takes itself out of the lists of variables, and waits for none after that
    pub tell_leaves : (phases phases' : ℕ → Phase C) (lists : Lists C) → length lists.cvs ≡ 4 → ((seat : ℕ) → who ≢ seat → phases' seat ≡ phases seat) → ((vs : Variables) (mode : Mode) → phases' who ≡ Waiting vs mode → ⊥) →
        VariablesTell phases lists (olds m) → VariablesTell phases' (cvs_left who lists) (news m)
    tell_leaves phases phases' lists four others idle p = tell_others phases phases' lists (cvs_left who lists) others idle
        (λ k few. subst (λ ws. Every (VariableWaiterFits phases' (news m) k) ws) (sym (left_at who k lists four few))
        (every_moves phases phases' (olds m) (news m) k (without_in who (CvOf lists k))
        (λ seat some. let other : who ≢ seat = λ same. let zero = ap (λ s. times_in s (without_in who (CvOf lists k))) (sym same) ∙ times_without who (CvOf lists k) in absurd (omega (arith, zero, some)) in (stance_stays m seat other, others seat other))
        (listed_without (VariableWaiterFits phases (olds m) k) who (CvOf lists k) (p.own k few))))
        (λ k seat few ne. ap (times_in seat) (left_at who k lists four few) ∙ times_others seat who (CvOf lists k) ne) p

module _ {C : Type 0} {N : ℕ} (phases : ℕ → Phase C) (lists : Lists C) (views : List (SeatView C N)) (seat : ℕ) (mode : Mode) (variables : Variables) where
  -- one that waits for variables, by its place, and stands in some list, waits for them by the history
  pub stands_still : VariablesTell phases lists views → length lists.cvs ≡ 4 → waits_in (walk_at seat views) ≡ Some (record { mode = mode; on = Some (OnVariables variables); tries = 0 }) → 1 ≤ sum_by (times_in seat) lists.cvs → phases seat ≡ Waiting variables mode
  stands_still p four stance some =
      let list = some_list seat lists four some in
      let waiter = one_of (VariableWaiterFits phases views list.0) seat (waiters_of lists (Cv list.0)) list.2 (p.own list.0 list.1) in
      let both : ◌≡◌ {A = Option (Stance C)} (Some (record { mode = waiter.0.mode; on = Some (OnVariables waiter.2.among); tries = 0 })) (Some (record { mode = mode; on = Some (OnVariables variables); tries = 0 })) =
      sym waiter.2.stands ∙ ap (λ s. waits_in (walk_at s views)) waiter.1 ∙ stance in
      let same : ◌≡◌ {A = Stance C} (record { mode = waiter.0.mode; on = Some (OnVariables waiter.2.among); tries = 0 }) (record { mode = mode; on = Some (OnVariables variables); tries = 0 }) = cc in
      let on : ◌≡◌ {A = Option (Subject C)} (Some (OnVariables waiter.2.among)) (Some (OnVariables variables)) = ap (λ (s : Stance C). s.on) same in
      let same_mode : waiter.0.mode ≡ mode = ap (λ (s : Stance C). s.mode) same in
      let same_among : waiter.2.among ≡ variables = cc in
      subst (λ s. phases s ≡ Waiting waiter.2.among waiter.0.mode) waiter.1 waiter.2.waits ∙ (λ i. Waiting (same_among i) (same_mode i))

-- ---- a call wakes some of a variable's waiters

module _ {C : Type 0} where
  -- a wake makes nobody wait
  still_waiting : (b : Bool) (k : ℕ) (phase : Phase C) (vs : Variables) (mode : Mode) → cond b (woken_phase k phase) phase ≡ Waiting vs mode → (b ≡ false) × (phase ≡ Waiting vs mode)
  still_waiting false k phase vs mode e = (refl, e)
  still_waiting true k Idle vs mode e = absurd (cc)
  still_waiting true k other vs mode e = absurd (cc)

module _ {C : Type 0} {N : ℕ} where
  -- another lock list
  pub tell_lists : (phases : ℕ → Phase C) (lists : Lists C) (lock : List (Waiter C)) (views : List (SeatView C N)) → VariablesTell phases lists views → VariablesTell phases (with_lock lists lock) views
  tell_lists phases lists lock views p = record { own = p.own; all = p.all; some = p.some }

  pub waits_of : (phases : ℕ → Phase C) (views : List (SeatView C N)) (k : ℕ) (ws : List (Waiter C)) → Every (VariableWaiterFits phases views k) ws → WaitFor k phases ws
  waits_of phases views k [] p = tt
  waits_of phases views k (w ∷ ws) p = ((p.0.among, p.0.waits, p.0.is_among), waits_of phases views k ws p.1)

  -- the waiters of a variable's list are those who wait for it
  pub are_waiting : (phases : ℕ → Phase C) (lists : Lists C) (views : List (SeatView C N)) (k : ℕ) → IsOrderly lists → k < 4 → VariablesTell phases lists views → AreWaiting k phases (CvOf lists k)
  are_waiting phases lists views k orderly low p = record {
    own = waits_of phases views k (CvOf lists k) (p.own k low);
    once = once_in lists (Cv k) orderly low;
    all = λ seat e. let waits = waiting_for (phases seat) k e in (p.all waits.0 k seat waits.1 waits.2 waits.3).1;
    below = below_in lists (Cv k) orderly low;
  } where
    waiting_for : (phase : Phase C) (k : ℕ) → is_waiting k phase ≡ true → (vs : Variables) × (mode : Mode) × (phase ≡ Waiting vs mode) × (has vs k ≡ true)
    waiting_for (Waiting vs mode) k e = (vs, mode, refl, e)
    waiting_for other k e = absurd (cc)

  module _ (m : Move C N) where
    open m use {who, walk, walk'}

    -- those who are taken from the list of k are out of all variables' lists, and woken, and the others stay
    pub tell_taken : (phases : ℕ → Phase C) (lists : Lists C) (lock : List (Waiter C)) (k : ℕ) (taken : List (Waiter C)) → length lists.cvs ≡ 4 → times who lists ≡ 0 →
        VariablesTell phases lists (olds m) → VariablesTell (woken_phases k (taken_set taken) phases) (with_lock (cvs_without (taken_set taken) lists) lock) (news m)
    tell_taken phases lists lock k taken four none p =
        let set = taken_set taken in
        let at : (i : ℕ) → i < 4 → CvOf (cvs_without set lists) i ≡ outside set (CvOf lists i) = λ i few. taken_at set i lists four few in
        record {
          own = λ i few. subst (λ ws. Every (VariableWaiterFits (woken_phases k set phases) (news m) i) ws) (sym (at i few))
              (every_moves phases (woken_phases k set phases) (olds m) (news m) i (outside set (CvOf lists i))
              (λ seat some. (
                stance_stays m seat (other_at m lists i seat four few none (omega (arith, some, times_outside set (CvOf lists i) seat))),
                ap (λ b. cond b (woken_phase k (phases seat)) (phases seat)) (left_out set (CvOf lists i) seat some),
              ))
              (every_filter (VariableWaiterFits phases (olds m) i) (λ w. not (is_in set w.seat)) (CvOf lists i) (p.own i few)));
          some = λ vs seat mode e. p.some vs seat mode (still_waiting (is_in set seat) k (phases seat) vs mode e).1;
          all = λ vs i seat mode e is.
              let was = still_waiting (is_in set seat) k (phases seat) vs mode e in
              let stood = p.all vs i seat mode was.1 is in (stood.0, subst (λ ws. 1 ≤ times_in seat ws) (sym (at i stood.0)) (omega (arith, stood.1, outside_same set (CvOf lists i) seat was.0)));
        }
      where
        -- who is left isn't of the set
        left_out : (set : Seats) (ws : List (Waiter C)) (seat : ℕ) → 1 ≤ times_in seat (outside set ws) → is_in set seat ≡ false
        left_out set ws seat some = elim (cases_Bool (is_in set seat)) [
          | inl is ↦ absurd (omega (arith, some, gone_outside set ws seat is))
          | inr out ↦ out
        ]
