-- Whom a scan takes behind the first, and what it tests for that.
use Rattle.std.proofs.Common.{Bool, Fits, List, None, Option, Some, [], ap, append-nil, append_assoc, arith, cond, drop, false, filter, get_or, inl, inr, is_some, length, length-append, length-drop, not, refl, suc, sym, take, take-append-drop, true, unwrap_or, w32, zero, ℕ, ◌&&◌, ◌++◌, ◌+◌, ◌<◌}
use Rattle.std.proofs.Common.{◌||◌, ◌∙◌, ◌∷◌, ◌≡◌, ◌≤◌}
use Rattle.ns_queue.proofs.Prelude.{IsRow, Reader, Sought, Waiter, Writer, asked_for, asking, begins_with_reader, behind, cases_Bool, first_seat, foremost_of, from, in_front, is_alike, is_eligible, left_by_writer, left_of, reads, seated, seats_of, sought_of, sought_seat}
use Rattle.ns_queue.proofs.Prelude.{asked_by, tests_of, tests_on, tests_seeking, without_all, without_in, woken_of, writes}
use Rattle.ns_queue.specs.declared.scan.Foremost.TheVariants.{Nobody}
use Rattle.ns_queue.proofs.Bases.{Enters, Knows, all_sought, asking_most, cut_at, few, few_sought, found, from_none, front_most, goes_along, knows_asked, knows_entered, met_entered, nobody_taken, row_at, stepped, taken_asked, tests_found}
use Rattle.ns_queue.proofs.RunCounts.{tests_is}
use Rattle.ns_queue.proofs.Leaving.{woken_leave}

-- the first of what is left, by its index
record Cut {A : Type 0} (k : ℕ) (xs : List A) (x : A) (ys : List A) : Type 0 where
  within : k < length xs
  is : x ≡ get_or xs k x
  rest : drop (suc k) xs ≡ ys

cut_first : {A : Type 0} (z x : A) (zs ys : List A) → (z ∷ zs) ≡ (x ∷ ys) → (x ≡ z) × (zs ≡ ys)
cut_first z x zs ys e = (cc, cc)

drop_cut : {A : Type 0} (k : ℕ) (xs : List A) (x : A) (ys : List A) → drop k xs ≡ x ∷ ys → Cut k xs x ys
drop_cut zero [] x ys e = absurd (cc)
drop_cut zero (z ∷ zs) x ys e = let f = cut_first z x zs ys e in record { within = omega arith; is = f.0; rest = f.1 }
drop_cut (suc k) [] x ys e = absurd (cc)
drop_cut (suc k) (z ∷ zs) x ys e = let c = drop_cut k zs x ys e in record { within = omega (arith, c.within); is = c.is; rest = c.rest }

module _ {C : Type 0} (same : C → C → Bool) (meets : C → Bool) where
  -- where nothing is needed, nothing is tested
  none_needed : (first : Option C) (known : Bool) (ws : List (Waiter C)) → tests_on same first known (asked_by (λ w. false) ws) ≡ 0
  none_needed first known [] = refl
  none_needed first known (w ∷ ws) =
      elim (cases_Bool (is_alike same w.cond first)) [ inl alike ↦ rw alike (omega (arith, none_needed first known ws)) | inr other ↦ rw other (omega (arith, none_needed w.cond false ws)) ]

  -- the tests behind a reader that was taken, in a run with this first condition, which was tested or not
  abbrev pub tests_reading : Option C → Bool → List (Waiter C) → ℕ
  tests_reading first known ws = tests_on same first known (asked_by reads ws)

  count_alike : (needed : Bool) (truth : Option Bool) (o first : Option C) (R : Bool → ℕ) → is_alike same o first ≡ true →
      cond (needed && not (is_some truth)) 1 0 + R (needed || is_some truth) ≡ asking needed first truth + R (is_some (asked_for meets needed first truth))
  count_alike true None (Some d) (Some c) R alike = refl
  count_alike true None (Some d) None R alike = absurd (cc)
  count_alike true None None first R alike = absurd (cc)
  count_alike true (Some t) o first R alike = refl
  count_alike false None o first R alike = refl
  count_alike false (Some t) o first R alike = refl

  count_start : (needed : Bool) (o : Option C) (R : Bool → ℕ) → cond (needed && is_some o) 1 0 + R needed ≡ asking needed o None + R (is_some (asked_for meets needed o None))
  count_start true o R = refl
  count_start false o R = refl

  reading_entered : (w : Waiter C) (ws : List (Waiter C)) (first : Option C) (truth : Option Bool) (first' : Option C) (truth' : Option Bool) → Enters same meets w.cond first truth first' truth' →
      tests_reading first (is_some truth) (w ∷ ws) ≡ asking (reads w) first' truth' + tests_reading first' (is_some (asked_for meets (reads w) first' truth')) ws
  reading_entered w ws first truth first' truth' (inl e) = rw (e.0, e.1, e.2) (count_alike (reads w) truth w.cond first (λ b. tests_reading first b ws) e.0)
  reading_entered w ws first truth first' truth' (inr e) = rw (e.0, e.1, e.2) (count_start (reads w) w.cond (λ b. tests_reading w.cond b ws))

  -- what is left from the first who is taken on
  sought_from : (s : ℕ) (ws : List (Waiter C)) → IsRow ws → s ≡ sought_seat meets ws → drop (in_front meets ws) ws ≡ from s ws
  sought_from s ws row is =
      let k = in_front meets ws in
      let whole : ws ≡ take k ws ++ drop k ws = sym (take-append-drop k ws) in
      sym (ap (λ n. from n ws) is ∙ ap (from (first_seat 64 (drop k ws))) whole ∙ (cut_at (take k ws) (drop k ws) (row_at ws _ whole row)).0)

  record Woken (w : Waiter C) (vs ws : List (Waiter C)) : Type 0 where
    goes : is_eligible meets w ≡ true
    woken : woken_of meets ws ≡ w ∷ cond (writes w) [] (filter (goes_along meets) vs)

  woken_cut : (ws : List (Waiter C)) (w : Waiter C) (vs : List (Waiter C)) → drop (in_front meets ws) ws ≡ w ∷ vs → Woken w vs ws
  woken_cut [] w vs e = absurd (cc)
  woken_cut (u ∷ us) w vs e = elim (cases_Bool (is_eligible meets u)) [
    | inl goes ↦
        let f = cut_first u w us vs (rw goes at e) in
        record { goes = ap (is_eligible meets) f.0 ∙ goes; woken = rw (goes, f.0, f.1) refl }
    | inr stays ↦ let r = woken_cut us w vs (rw stays at e) in record { goes = r.goes; woken = rw stays r.woken }
  ]

  -- ---- nobody is taken

  none_front : (s : ℕ) (ws : List (Waiter C)) → IsRow ws → s ≡ sought_seat meets ws → seated s ws ≡ None → in_front meets ws ≡ length ws
  none_front s ws row is none =
      let k = in_front meets ws in
      let nothing : drop k ws ≡ [] = sought_from s ws row is ∙ (from_none s ws none).0 in
      let size = ap length nothing in
      omega (arith, size, length-drop k ws, front_most same meets ws)

  pub none_taken : (s tests : ℕ) (ws : List (Waiter C)) → IsRow ws → s ≡ sought_seat meets ws → seated s ws ≡ None → tests ≡ tests_seeking same meets None ws →
      ([] ≡ seats_of (woken_of meets ws)) × (tests ≡ tests_of same meets ws)
  none_taken s tests ws row is none counts =
      let all = none_front s ws row is none in
      (sym (ap seats_of (nobody_taken same meets ws all).woken), counts ∙ all_sought same meets ws all ∙ tests_is same meets ws)

  -- ---- whom a scan takes first

  pub nobody_first : (o : Sought) (ws : List (Waiter C)) → IsRow ws → o ≡ sought_of same meets ws → seated o.seat ws ≡ None → (Nobody ≡ foremost_of (sought_of same meets ws) (woken_of meets ws)) × (ws ≡ left_by_writer meets ws)
  nobody_first o ws row is none =
      let nobody = nobody_taken same meets ws (none_front o.seat ws row (ap (λ (p : Sought). p.seat) is) none) in
      rw nobody.woken (refl, sym nobody.left)

  first_found : (s : ℕ) (ws : List (Waiter C)) (w : Waiter C) → IsRow ws → s ≡ sought_seat meets ws → seated s ws ≡ Some w → (w.seat ≡ s) × (woken_of meets ws ≡ w ∷ cond (writes w) [] (filter (goes_along meets) (behind s ws)))
  first_found s ws w row is stands =
      let f = found s ws w stands in
      (f.here, (woken_cut ws w (behind s ws) (sought_from s ws row is ∙ f.from_is)).woken)

  pub reader_first : (o : Sought) (ws : List (Waiter C)) (w : Waiter C) → IsRow ws → o ≡ sought_of same meets ws → seated o.seat ws ≡ Some w → writes w ≡ false → (Reader o ≡ foremost_of (sought_of same meets ws) (woken_of meets ws)) × (ws ≡ left_by_writer meets ws)
  reader_first o ws w row is stands reader =
      let f = first_found o.seat ws w row (ap (λ (p : Sought). p.seat) is) stands in
      rw (f.1, reader) (ap Reader is, refl)

  pub writer_first : (o : Sought) (via : Option ℕ) (ws left : List (Waiter C)) (w : Waiter C) → IsRow ws → o ≡ sought_of same meets ws → seated o.seat ws ≡ Some w → writes w ≡ true → via ≡ w.via → left ≡ without_in o.seat ws →
      ((Writer o.seat via) ≡ foremost_of (sought_of same meets ws) (woken_of meets ws)) × (left ≡ left_by_writer meets ws)
  writer_first o via ws left w row is stands alone names out =
      let f = first_found o.seat ws w row (ap (λ (p : Sought). p.seat) is) stands in
      let taken : woken_of meets ws ≡ w ∷ [] = rw alone at f.1 in
      let first : foremost_of (sought_of same meets ws) (woken_of meets ws) ≡ Writer w.seat w.via = ap (foremost_of (sought_of same meets ws)) taken ∙ ap (λ b. cond b (Writer w.seat w.via) (Reader (sought_of same meets ws))) alone in
      let writer : begins_with_reader (woken_of meets ws) ≡ false = ap begins_with_reader taken ∙ ap not alone in
      let stay : left_of meets ws ≡ without_in o.seat ws = sym (woken_leave meets ws row) ∙ ap (λ vs. without_all (seats_of vs) ws) taken ∙ ap (λ n. without_in n ws) f.0 in
      ((λ i. Writer (sym f.0 i) (names i)) ∙ sym first, out ∙ sym stay ∙ sym (ap (λ b. cond b ws (left_of meets ws)) writer))

  -- those taken so far, the tests so far, and the rest
  pub record Reads (first : Option C) (truth : Option Bool) (at tests : ℕ) (woken : List ℕ) (ws : List (Waiter C)) : Type 0 where
    pub taken : woken ++ seats_of (filter (goes_along meets) (from at ws)) ≡ seats_of (woken_of meets ws)
    pub counted : tests + tests_reading first (is_some truth) (from at ws) ≡ tests_of same meets ws
    pub known : Knows same meets first truth
    pub few : tests + length (from at ws) ≤ length ws
    pub some : length woken + length (from at ws) ≤ length ws

  woken_on : (b : Bool) (at : ℕ) (woken woken' : List ℕ) (w : Waiter C) (old rest ws : List (Waiter C)) → b ≡ goes_along meets w → w.seat ≡ at → old ≡ w ∷ rest → woken' ≡ cond b (woken ++ at ∷ []) woken →
      woken ++ seats_of (filter (goes_along meets) old) ≡ seats_of (woken_of meets ws) → woken' ++ seats_of (filter (goes_along meets) rest) ≡ seats_of (woken_of meets ws)
  woken_on true at woken woken' w old rest ws told here cut got before =
      let more : seats_of (filter (goes_along meets) old) ≡ w.seat ∷ seats_of (filter (goes_along meets) rest) = rw (cut, ← told) refl in
      rw got (append_assoc woken (at ∷ []) (seats_of (filter (goes_along meets) rest)) ∙ ap (λ k. woken ++ k ∷ seats_of (filter (goes_along meets) rest)) (sym here) ∙ ap (λ vs. woken ++ vs) (sym more) ∙ before)
  woken_on false at woken woken' w old rest ws told here cut got before =
      let more : seats_of (filter (goes_along meets) old) ≡ seats_of (filter (goes_along meets) rest) = rw (cut, ← told) refl in
      rw got (ap (λ vs. woken ++ vs) (sym more) ∙ before)

  some_on : (b : Bool) (at : ℕ) (woken woken' : List ℕ) → woken' ≡ cond b (woken ++ at ∷ []) woken → length woken' ≤ length woken + 1
  some_on true at woken woken' got = let size = ap length got in omega (arith, size, length-append woken (at ∷ []))
  some_on false at woken woken' got = let size = ap length got in omega (arith, size)

  pub reads_few : (first : Option C) (truth : Option Bool) (at tests : ℕ) (woken : List ℕ) (ws : List (Waiter C)) (w : Waiter C) → IsRow ws → seated at ws ≡ Some w → Reads first truth at tests woken ws → (tests < 64) × (length woken < 64)
  reads_few first truth at tests woken ws w row stands h =
      let size = ap length (found at ws w stands).from_is in
      let most = few 64 ws row.once row.below in
      (omega (arith, size, most, h.few), omega (arith, size, most, h.some))

  pub look_fits : (tests more : ℕ) (needed : Bool) (first : Option C) (truth : Option Bool) → tests < 64 → more ≡ asking needed first truth → Fits w32 (tests + more)
  look_fits tests more needed first truth low counts = omega (arith, low, counts, asking_most same meets needed first truth)

  pub reads_end : (first : Option C) (truth : Option Bool) (at tests : ℕ) (woken : List ℕ) (ws : List (Waiter C)) → seated at ws ≡ None → Reads first truth at tests woken ws →
      (woken ≡ seats_of (woken_of meets ws)) × (tests ≡ tests_of same meets ws)
  reads_end first truth at tests woken ws none h =
      let nothing = (from_none at ws none).0 in
      let over = ap (tests_reading first (is_some truth)) nothing in (
        sym (append-nil woken) ∙ ap (λ vs. woken ++ seats_of (filter (goes_along meets) vs)) (sym nothing) ∙ h.taken,
        omega (arith, over, h.counted),
      )

  record First (s tests : ℕ) (ws : List (Waiter C)) (w : Waiter C) : Type 0 where
    here : w.seat ≡ s
    goes : is_eligible meets w ≡ true
    woken : woken_of meets ws ≡ w ∷ cond (writes w) [] (filter (goes_along meets) (behind s ws))
    alone : writes w ≡ true → tests ≡ tests_of same meets ws
    reader : writes w ≡ false → tests + tests_reading w.cond true (behind s ws) ≡ tests_of same meets ws
    few : tests + length (behind s ws) ≤ length ws
    some : 1 + length (behind s ws) ≤ length ws

  module _ (agree : (c d : C) → same c d ≡ true → meets c ≡ meets d) where
    first_taken : (s tests : ℕ) (ws : List (Waiter C)) (w : Waiter C) → IsRow ws → s ≡ sought_seat meets ws → seated s ws ≡ Some w → tests ≡ tests_seeking same meets None ws → First s tests ws w
    first_taken s tests ws w row is stands counts =
        let k = in_front meets ws in
        let f = found s ws w stands in
        let left : drop k ws ≡ w ∷ behind s ws = sought_from s ws row is ∙ f.from_is in
        let c = drop_cut k ws w (behind s ws) left in
        let r = woken_cut ws w (behind s ws) left in
        let size = ap length left in
        let whole = tests_found same meets agree ws w c.within c.is ∙ tests_is same meets ws in
        record {
          here = f.here;
          goes = r.goes;
          woken = r.woken;
          alone = λ is_alone. let quiet = rw is_alone at whole in omega (arith, counts, quiet, none_needed w.cond true (drop (suc k) ws));
          reader = λ is_reader. let behind_it = rw (is_reader, c.rest) at whole in omega (arith, counts, behind_it);
          few = omega (arith, size, length-drop k ws, few_sought same meets ws k tests refl counts);
          some = omega (arith, size, length-drop k ws);
        }

    -- ---- a writer is taken

    pub writer_taken : (s tests : ℕ) (woken : List ℕ) (ws : List (Waiter C)) (w : Waiter C) → IsRow ws → s ≡ sought_seat meets ws → seated s ws ≡ Some w → tests ≡ tests_seeking same meets None ws → writes w ≡ true → woken ≡ s ∷ [] →
        (woken ≡ seats_of (woken_of meets ws)) × (tests ≡ tests_of same meets ws)
    writer_taken s tests woken ws w row is stands counts alone got =
        let f = first_taken s tests ws w row is stands counts in
        let taken = rw alone at f.woken in (
          got ∙ ap (λ n. n ∷ []) (sym f.here) ∙ sym (ap seats_of taken),
          f.alone alone,
        )

    -- ---- readers are taken

    pub reads_start : (s tests n : ℕ) (woken : List ℕ) (first : Option C) (ws : List (Waiter C)) (w : Waiter C) → IsRow ws → s ≡ sought_seat meets ws → seated s ws ≡ Some w → tests ≡ tests_seeking same meets None ws → writes w ≡ false →
        woken ≡ s ∷ [] → first ≡ w.cond → n ≡ first_seat 64 (behind s ws) → Reads first (Some true) n tests woken ws
    reads_start s tests n woken first ws w row is stands counts reader got begins next =
        let f = first_taken s tests ws w row is stands counts in
        let on = (stepped s ws w n row stands next).behind_is in
        let taken = rw reader at f.woken in
        record {
          taken = rw (got, ← on) (ap (λ k. k ∷ seats_of (filter (goes_along meets) (behind s ws))) (sym f.here) ∙ sym (ap seats_of taken));
          counted = rw (begins, ← on) (f.reader reader);
          known = rw begins (sym f.goes);
          few = rw (← on) f.few;
          some = rw (got, ← on) f.some;
        }

    pub reads_on : (first first' : Option C) (truth truth' truth'' : Option Bool) (at n tests more : ℕ) (taken : Bool) (woken woken' : List ℕ) (ws : List (Waiter C)) (w : Waiter C) → IsRow ws → seated at ws ≡ Some w →
        n ≡ first_seat 64 (behind at ws) → Enters same meets w.cond first truth first' truth' → truth'' ≡ asked_for meets (reads w) first' truth' → more ≡ asking (reads w) first' truth' →
        taken ≡ (reads w && unwrap_or truth'' true) → woken' ≡ cond taken (woken ++ at ∷ []) woken → Reads first truth at tests woken ws → Reads first' truth'' n (tests + more) woken' ws
    reads_on first first' truth truth' truth'' at n tests more taken woken woken' ws w row stands next enters asked counts told got h =
        let s = stepped at ws w n row stands next in
        let known = knows_entered same meets w.cond first truth first' truth' enters h.known in
        let met = met_entered same meets agree w.cond first truth first' truth' enters in
        let goes : taken ≡ goes_along meets w = told ∙ ap (λ t. reads w && unwrap_or t true) asked ∙ taken_asked same meets (reads w) first' truth' known ∙ ap (λ b. reads w && b) (sym met) in
        let size = ap length s.from_is in
        let cut = ap (tests_reading first (is_some truth)) s.from_is in
        let step = reading_entered w (from n ws) first truth first' truth' enters in
        record {
          taken = woken_on taken at woken woken' w (from at ws) (from n ws) ws goes s.here s.from_is got h.taken;
          counted = rw (asked, counts) (omega (arith, cut, step, h.counted));
          known = rw asked (knows_asked same meets (reads w) first' truth' known);
          few = omega (arith, size, asking_most same meets (reads w) first' truth', counts, h.few);
          some = omega (arith, size, some_on taken at woken woken' got, h.some);
        }
