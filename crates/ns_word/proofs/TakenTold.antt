-- What the taken are told stays so, by each kind of step.
use Rattle.std.proofs.Common.{Bool, List, None, Option, Some, [], ap, append_assoc, arith, cond, eq-eqb, eqb, inl, inr, lt-ltb, ne_eqb, refl, subst, sym, true, ℕ, ◌++◌, ◌+◌, ◌<◌, ◌∷◌, ◌≡◌, ◌≢◌, ◌≤◌, ◌⊎◌}
use Rattle.ns_word.proofs.Prelude.{Every, IsNamed, IsToldSo, Mode, NamesOn, OnCondition, OnVariables, Owed, Phase, SeatView, Stance, Subject, TakenTold, ToldOn, VariableWaiterFits, Variables, Waiter, WaiterNames, Waiting, WaitsAmong, WakeTells, called_of, cases_Bool, cases_eq, every-append}
use Rattle.ns_word.proofs.Prelude.{every_map, every_woken, flags_with, has, in_list, in_stands, is_in, owed_in, owed_to, own_times, stands_waiting, taken_set, times_among, times_in, times_in-cons, value_of, waits_in, wakes_of, walk_at, woken_of, woken_phase, woken_phases, ◌∙◌}
use Rattle.ns_model.specs.declared.phase.Phase.TheVariants.{Woken}
use Rattle.ns_word.proofs.Bases.{Move, every_apart, every_cut, news, olds, stance_same, stance_stays, view_of, walk_is}
use Rattle.ns_word.proofs.Variables.{waits_of}

-- who names what is so will be told that
names_tell : {C : Type 0} (stance : Option (Stance C)) (phase : Phase C) (via : Option ℕ) → IsNamed stance phase via → IsToldSo stance phase (value_of via)
names_tell None phase via named = tt
names_tell (Some stance) phase via named = by stance.on named where
  by : (on : Option (Subject _)) → NamesOn on stance.mode phase via → ToldOn on stance.mode phase (value_of via)
  by None named = ap value_of named
  by (Some (OnCondition c)) named = ap value_of named
  by (Some (OnVariables variables)) named = (named.0, named.1, named.2, named.3, inr (ap value_of named.4 ∙ ap (λ b. cond b (6 + named.0) 0) (lt-ltb named.0 4 named.3)))

module _ {C : Type 0} {N : ℕ} (phases : ℕ → Phase C) (views : List (SeatView C N)) where
  wakes_of_named : (ws : List (Waiter C)) → Every (WaiterNames phases views) ws → Every (WakeTells phases views) (called_of ws)
  wakes_of_named [] p = tt
  wakes_of_named (w ∷ ws) p = (names_tell (waits_in (walk_at w.seat views)) (phases w.seat) w.via p.0, wakes_of_named ws p.1)

  -- of those whom a scan takes
  pub listed_woken : (meets : C → Bool) (ws : List (Waiter C)) → Every (WaiterNames phases views) ws → Every (WakeTells phases views) (called_of (woken_of meets ws))
  listed_woken meets ws p = wakes_of_named (woken_of meets ws) (every_woken (WaiterNames phases views) meets ws p)

-- wakes of others
every_others : (P R : Owed → Type 0) (who : ℕ) (xs : List Owed) → times_among who xs ≡ 0 → ((wake : Owed) → who ≢ wake.seat → P wake → R wake) → Every P xs → Every R xs
every_others P R who [] none go p = tt
every_others P R who (wake ∷ xs) none go p = elim (cases_eq wake.seat who) [
  | inl e ↦ let one : ◌≡◌ {A = ℕ} (cond (eqb wake.seat who) 1 0) 1 = ap (λ b. cond b 1 0) (eq-eqb wake.seat who e) in absurd (omega (arith, none, one))
  | inr ne ↦ let zero : ◌≡◌ {A = ℕ} (cond (eqb wake.seat who) 1 0) 0 = ap (λ b. cond b 1 0) (ne_eqb wake.seat who ne) in (go wake (λ e. ne (sym e)) p.0, every_others P R who xs (omega (arith, none, zero)) go p.1)
]

among_both : (who : ℕ) (xs ys : List Owed) → times_among who (xs ++ ys) ≡ times_among who xs + times_among who ys
among_both who [] ys = omega arith
among_both who (x ∷ xs) ys = let rest = among_both who xs ys in omega (arith, rest)

module _ {C : Type 0} {N : ℕ} where
  among_owed : (who : ℕ) (views : List (SeatView C N)) → times_among who (owed_in views) ≡ owed_to who views
  among_owed who [] = refl
  among_owed who (view ∷ views) = let rest = among_owed who views in omega (arith, among_both who view.owed (owed_in views), rest)

  owed_at : (front : List (SeatView C N)) (view : SeatView C N) (back : List (SeatView C N)) → owed_in (front ++ view ∷ back) ≡ owed_in front ++ (view.owed ++ owed_in back)
  owed_at [] view back = refl
  owed_at (v ∷ front) view back = ap (λ xs. v.owed ++ xs) (owed_at front view back) ∙ sym (append_assoc v.owed (owed_in front) (view.owed ++ owed_in back))

  module _ (m : Move C N) where
    open m use {front, who, walk, held, owed, walk', held', owed', back}

    module _ (phases phases' : ℕ → Phase C) where
      -- what is told of a seat stays told, and what it names
      abbrev Stay : ℕ → Type 0
      Stay seat = ((value : ℕ) → IsToldSo (waits_in (walk_at seat (olds m))) (phases seat) value → IsToldSo (waits_in (walk_at seat (news m))) (phases' seat) value)
          × ((via : Option ℕ) → IsNamed (waits_in (walk_at seat (olds m))) (phases seat) via → IsNamed (waits_in (walk_at seat (news m))) (phases' seat) via)

      abbrev Was : Owed → Type 0
      Was = WakeTells phases (olds m)

      abbrev Is : Owed → Type 0
      Is = WakeTells phases' (news m)

      abbrev Named : Waiter C → Type 0
      Named = WaiterNames phases' (news m)

      stay_same : (seat : ℕ) → waits_in (walk_at seat (news m)) ≡ waits_in (walk_at seat (olds m)) → phases' seat ≡ phases seat → Stay seat
      stay_same seat stance phase = (
        λ value told. subst (λ (x : Option (Stance C) × Phase C). IsToldSo x.0 x.1 value) (λ i. (sym stance i, sym phase i)) told,
        λ via named. subst (λ (x : Option (Stance C) × Phase C). IsNamed x.0 x.1 via) (λ i. (sym stance i, sym phase i)) named,
      )

      -- by a seat that waits no more, or did not
      pub left_stays : waits_in walk' ≡ None → ((seat : ℕ) → who ≢ seat → phases' seat ≡ phases seat) → (seat : ℕ) → Stay seat
      left_stays none others seat = elim (cases_eq who seat) [
        | inl e ↦
            let gone = sym (ap waits_in (walk_is m) ∙ none) in
            subst (λ s. Stay s) e (λ value told. subst (λ s. IsToldSo s (phases' who) value) gone tt, λ via named. subst (λ s. IsNamed s (phases' who) via) gone tt)
        | inr ne ↦ stay_same seat (stance_stays m seat ne) (others seat ne)
      ]

      told : (flags' : ℕ → ℕ) (lock' : List (Waiter C)) → ((seat : ℕ) → flags' seat ≢ 1 → IsToldSo (waits_in (walk_at seat (news m))) (phases' seat) (flags' seat)) → Every Is (owed_in (olds m)) → (Every Is owed → Every Is owed') → Every Named lock' → TakenTold phases' flags' lock' (news m)
      told flags' lock' flag kept due listed =
          let cut = every_cut Is (owed_in front) (owed ++ owed_in back) (subst (Every Is) (owed_at front (view_of who walk held owed) back) kept) in
          let behind = every_cut Is owed (owed_in back) cut.1 in record {
            flag = flag;
            owed = subst (Every Is) (sym (owed_at front (view_of who walk' held' owed') back)) (every-append Is (owed_in front) (owed' ++ owed_in back) cut.0 (every-append Is owed' (owed_in back) (due behind.0) behind.1));
            listed = listed;
          }

      every_stay : ((seat : ℕ) → Stay seat) → (xs : List Owed) → Every Was xs → Every Is xs
      every_stay stay xs p = every_map Was Is (λ wake. (stay wake.seat).0 wake.value) xs p

      every_named : ((seat : ℕ) → Stay seat) → (ws : List (Waiter C)) → Every (WaiterNames phases (olds m)) ws → Every Named ws
      every_named stay ws p = every_map (WaiterNames phases (olds m)) Named (λ w. (stay w.seat).1 w.via) ws p

      -- the flags stay, and so does what is told of each seat
      pub told_stays : (flags : ℕ → ℕ) (lock lock' : List (Waiter C)) → ((seat : ℕ) → Stay seat) → (Every Is owed → Every Named lock → Every Is owed') → (Every Named lock → Every Named lock') → TakenTold phases flags lock (olds m) → TakenTold phases' flags lock' (news m)
      told_stays flags lock lock' stay due listed p =
          let kept = every_named stay lock p.listed in
          told flags lock' (λ seat clear. (stay seat).0 (flags seat) (p.flag seat clear)) (every_stay stay (owed_in (olds m)) p.owed) (λ own. due own kept) (listed kept)

      -- a seat that stood in no list and was owed no wake, and whose flag is set, waits from now on
      pub told_enters : (flags : ℕ → ℕ) (lock lock' : List (Waiter C)) → ((seat : ℕ) → who ≢ seat → phases' seat ≡ phases seat) → times_in who lock ≡ 0 → owed_to who (olds m) ≡ 0 → flags who ≡ 1 →
          (Every Is owed → Every Named lock → Every Is owed') → (Every Named lock → Every Named lock') → TakenTold phases flags lock (olds m) → TakenTold phases' flags lock' (news m)
      told_enters flags lock lock' others out unowed set due listed p =
          let stay : (seat : ℕ) → who ≢ seat → Stay seat = λ seat ne. stay_same seat (stance_stays m seat ne) (others seat ne) in
          let kept = every_apart (WaiterNames phases (olds m)) Named who lock out (λ w ne. (stay w.seat ne).1 w.via) p.listed in
          told flags lock' (λ seat clear. elim (cases_eq who seat) [
            | inl e ↦ absurd (clear (ap flags (sym e) ∙ set))
            | inr ne ↦ (stay seat ne).0 (flags seat) (p.flag seat clear)
          ]) (every_others Was Is who (owed_in (olds m)) (among_owed who (olds m) ∙ unowed) (λ wake ne. (stay wake.seat ne).0 wake.value) p.owed) (λ own. due own kept) (listed kept)

    -- the seat's wait stays what it is, and so do the phases
    pub same_stays : (phases : ℕ → Phase C) → waits_in walk' ≡ waits_in walk → (seat : ℕ) → Stay phases phases seat
    same_stays phases same seat = stay_same phases phases seat (stance_same m same seat) refl

    -- one flag is set, to what is so of its seat if that clears it
    told_sets : (phases : ℕ → Phase C) (flags : ℕ → ℕ) (lock : List (Waiter C)) (at value : ℕ) → waits_in walk' ≡ waits_in walk → let Is = WakeTells phases (news m) in
        (Every Is (owed_in (olds m)) → value ≢ 1 → IsToldSo (waits_in (walk_at at (news m))) (phases at) value) → (Every Is owed → Every Is owed') → TakenTold phases flags lock (olds m) → TakenTold phases (flags_with flags at value) lock (news m)
    told_sets phases flags lock at value same so due p =
        let stay = same_stays phases same in
        let kept = every_stay phases phases stay (owed_in (olds m)) p.owed in
        told phases phases (flags_with flags at value) lock (λ seat clear. elim (cases_eq at seat) [
          | inl e ↦ let set : flags_with flags at value seat ≡ value = ap (λ b. cond b value (flags seat)) (eq-eqb at seat e) in
              subst (λ n. IsToldSo (waits_in (walk_at seat (news m))) (phases seat) n) (sym set) (subst (λ s. IsToldSo (waits_in (walk_at s (news m))) (phases s) value) e (so kept (λ one. clear (set ∙ one))))
          | inr ne ↦ let as_it_was : flags_with flags at value seat ≡ flags seat = ap (λ b. cond b value (flags seat)) (ne_eqb at seat ne) in
              subst (λ n. IsToldSo (waits_in (walk_at seat (news m))) (phases seat) n) (sym as_it_was) ((stay seat).0 (flags seat) (p.flag seat (λ e. clear (as_it_was ∙ e))))
        ]) kept due (every_named phases phases stay lock p.listed)

    -- a seat sets its flag
    pub told_arms : (phases : ℕ → Phase C) (flags : ℕ → ℕ) (lock : List (Waiter C)) → waits_in walk' ≡ waits_in walk → owed' ≡ owed → TakenTold phases flags lock (olds m) → TakenTold phases (flags_with flags who 1) lock (news m)
    told_arms phases flags lock same owes p = told_sets phases flags lock who 1 same (λ kept clear. absurd (clear refl)) (subst (Every (WakeTells phases (news m))) (sym owes)) p

    -- a wake is paid: its seat finds what it tells
    pub told_pays : (phases : ℕ → Phase C) (flags : ℕ → ℕ) (lock : List (Waiter C)) (wake : Owed) → waits_in walk' ≡ waits_in walk → owed ≡ wake ∷ owed' → TakenTold phases flags lock (olds m) → TakenTold phases (flags_with flags wake.seat wake.value) lock (news m)
    told_pays phases flags lock wake same owes p =
        let Is : Owed → Type 0 = WakeTells phases (news m) in
        let own : Every Is (owed_in (olds m)) → Every Is owed = λ kept. (every_cut Is owed (owed_in back) (every_cut Is (owed_in front) (owed ++ owed_in back) (subst (Every Is) (owed_at front (view_of who walk held owed) back) kept)).1).0 in
        told_sets phases flags lock wake.seat wake.value same (λ kept clear. (subst (Every Is) owes (own kept)).0) (λ all. (subst (Every Is) owes all).1) p

    -- A call takes those waiters from the list of a variable: they are moved to the lock list, or owed wakes.
    module _ (phases : ℕ → Phase C) (k : ℕ) (took : List (Waiter C)) (low : k < 4) (fits : Every (VariableWaiterFits phases (olds m) k) took) (same : waits_in walk' ≡ waits_in walk) where
      abbrev woken : ℕ → Phase C
      woken = woken_phases k (taken_set took) phases

      waiting : (seat : ℕ) → is_in (taken_set took) seat ≡ true → (mode : Mode) × WaitsAmong k mode (phases seat)
      waiting seat is = stands_waiting k phases took seat (waits_of phases (olds m) k took fits) (in_stands took seat is)

      -- who was woken already waits no more
      still_woken : (seat j : ℕ) (mode : Mode) → phases seat ≡ Woken j mode → woken seat ≡ Woken j mode
      still_woken seat j mode was = elim (cases_Bool (is_in (taken_set took) seat)) [
        | inl is ↦ let waits = waiting seat is in let clash : Woken j mode ≡ Waiting waits.1.0 waits.0 = sym was ∙ waits.1.1 in absurd (cc)
        | inr out ↦ ap (λ b. cond b (woken_phase k (phases seat)) (phases seat)) out ∙ was
      ]

      woken_told : (stance : Option (Stance C)) (seat value : ℕ) → IsToldSo stance (phases seat) value → IsToldSo stance (woken seat) value
      woken_told None seat value told = tt
      woken_told (Some stance) seat value told = by stance.on told where
        by : (on : Option (Subject C)) → ToldOn on stance.mode (phases seat) value → ToldOn on stance.mode (woken seat) value
        by None told = told
        by (Some (OnCondition c)) told = told
        by (Some (OnVariables variables)) told = (told.0, told.1, still_woken seat told.0 stance.mode told.2, told.3, told.4)

      woken_named : (stance : Option (Stance C)) (seat : ℕ) (via : Option ℕ) → IsNamed stance (phases seat) via → IsNamed stance (woken seat) via
      woken_named None seat via named = tt
      woken_named (Some stance) seat via named = by stance.on named where
        by : (on : Option (Subject C)) → NamesOn on stance.mode (phases seat) via → NamesOn on stance.mode (woken seat) via
        by None named = named
        by (Some (OnCondition c)) named = named
        by (Some (OnVariables variables)) named = (named.0, named.1, still_woken seat named.0 stance.mode named.2, named.3, named.4)

      stay : (seat : ℕ) → Stay phases woken seat
      stay seat = (
        λ value told. subst (λ s. IsToldSo s (woken seat) value) (sym (stance_same m same seat)) (woken_told (waits_in (walk_at seat (olds m))) seat value told),
        λ via named. subst (λ s. IsNamed s (woken seat) via) (sym (stance_same m same seat)) (woken_named (waits_in (walk_at seat (olds m))) seat via named),
      )

      -- a waiter that is taken waits for the variable, or for others with it, and is woken now
      abbrev IsWoken : Waiter C → Type 0
      IsWoken w = (among : Variables) × (waits_in (walk_at w.seat (news m)) ≡ Some (record { mode = w.mode; on = Some (OnVariables among); tries = 0 })) × (has among k ≡ true) × (woken w.seat ≡ Woken k w.mode) × (w.via ≡ Some k)

      each_woken : (ws : List (Waiter C)) → ((seat : ℕ) → 1 ≤ times_in seat ws → is_in (taken_set took) seat ≡ true) → Every (VariableWaiterFits phases (olds m) k) ws → Every IsWoken ws
      each_woken [] is p = tt
      each_woken (w ∷ ws) is p =
          let one = own_times w ws in
          let now : woken w.seat ≡ Woken k w.mode = ap (λ b. cond b (woken_phase k (phases w.seat)) (phases w.seat)) (is w.seat (omega (arith, one))) ∙ ap (woken_phase k) p.0.waits in (
            (p.0.among, stance_same m same w.seat ∙ p.0.stands, p.0.is_among, now, p.0.names),
            each_woken ws (λ seat here. is seat (omega (arith, here, times_in-cons seat w ws))) p.1,
          )

      owed_told : (ws : List (Waiter C)) → Every IsWoken ws → Every (WakeTells woken (news m)) (wakes_of k ws)
      owed_told [] p = tt
      owed_told (w ∷ ws) p = (subst (λ (x : Option (Stance C)). IsToldSo x (woken w.seat) (2 + k)) (sym p.0.1) (k, p.0.2, p.0.3, low, inl refl), owed_told ws p.1)

      moved_named : (ws : List (Waiter C)) → Every IsWoken ws → Every (WaiterNames woken (news m)) ws
      moved_named [] p = tt
      moved_named (w ∷ ws) p = (subst (λ (x : Option (Stance C)). IsNamed x (woken w.seat) w.via) (sym p.0.1) (k, p.0.2, p.0.3, low, p.0.4), moved_named ws p.1)

      pub told_wakes : (flags : ℕ → ℕ) (lock lock' : List (Waiter C)) → ((lock' ≡ lock ++ took) × (owed' ≡ [])) ⊎ ((lock' ≡ lock) × (owed' ≡ wakes_of k took)) → TakenTold phases flags lock (olds m) → TakenTold woken flags lock' (news m)
      told_wakes flags lock lock' ways p =
          let each = each_woken took (in_list took) fits in
          told_stays phases woken flags lock lock' stay
          (λ own listed. elim ways [ inl move ↦ subst (Every (WakeTells woken (news m))) (sym move.1) tt | inr owe ↦ subst (Every (WakeTells woken (news m))) (sym owe.1) (owed_told took each) ])
          (λ listed. elim ways [
            | inl move ↦ subst (Every (WaiterNames woken (news m))) (sym move.0) (every-append (WaiterNames woken (news m)) lock took listed (moved_named took each))
            | inr owe ↦ subst (Every (WaiterNames woken (news m))) (sym owe.0) listed
          ]) p
