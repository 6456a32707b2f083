-- A scan of the lock list in hand: what it has made of the queues, and what is owed then.
use Rattle.std.proofs.Common.{Bool, Err, List, None, Ok, Option, Some, [], ap, arith, cond, count_by, false, inl, inr, is_some, length, map, refl, slice_index, slice_index_or, sym, true, ℕ, ◌&&◌, ◌||◌, ◌∙◌, ◌∷◌, ◌≡◌}
use Rattle.ns_gate.proofs.Prelude.{Carries, Owed, SeatOf, Sought, Truths, Waiter, begins_with_reader, bits_of, called_by, called_of, cases_Bool, has_some, lists_scanned, meets_at, row_in, seats_of, the, wake_told, woken_of, writes}
use Rattle.ns_gate.specs.Prelude.{scanned_writer}
use Rattle.ns_gate.specs.declared.queues.Turned.{Turned}
use Rattle.ns_queue.specs.Prelude.{Asked, asked_of, has_condition, is_eligible, reads, runs_after, tests_of}
use Rattle.ns_word.proofs.Scans.{are_called}
use Rattle.ns_word.specs.declared.act.Found.TheVariants.{Scanned}
use Rattle.std.specs.List.{list_any}
use Rattle.ns_gate.specs.declared.queues.Returning.TheVariants.{Released}
use Rattle.ns_gate.specs.Prelude.{Bits, Releasing, Word, scanned}
use Rattle.ns_walk_tests.specs.Driving.{IsMade, at_most_one}
use Rattle.ns_walk_tests.specs.declared.known.Hand.{Hand}

or_none : (a b : Bool) → a || b ≡ false → (a ≡ false) × (b ≡ false)
or_none false b e = (refl, e)
or_none true b e = absurd (cc)

some_owed : (owed : Option Owed) → has_some (at_most_one owed) ≡ is_some owed
some_owed None = refl
some_owed (Some wake) = refl

told_few : (b : Bool) (sought : Sought) (made : Option Owed × Turned) (wake : Option Owed) (turned : Turned) → cond b (Err sought) (Ok made) ≡ Ok (wake, turned) → (b ≡ false) × (made.0 ≡ wake) × (made.1 ≡ turned)
told_few true sought made wake turned e = absurd (cc)
told_few false sought made wake turned e = let same : made ≡ (wake, turned) = cc in (refl, ap (λ p. p.0) same, ap (λ p. p.1) same)

-- a list of one is its first
pub one_seat : (seats : List ℕ) → length seats ≡ 1 → slice_index seats 0 ∷ [] ≡ seats
one_seat [] one = absurd (omega (arith, one))
one_seat (x ∷ []) one = refl
one_seat (x ∷ y ∷ zs) one = absurd (omega (arith, one))

pub one_via : (vias : List (Option ℕ)) → length vias ≡ 1 → slice_index_or vias 0 None ∷ [] ≡ vias
one_via [] one = absurd (omega (arith, one))
one_via (x ∷ []) one = refl
one_via (x ∷ y ∷ zs) one = absurd (omega (arith, one))

module _ {C : Type 0} where
  -- ---- where nobody has a condition, none is tested

  none_mapped : (b : Bool) (ws : List (Waiter C)) → list_any has_condition ws ≡ false → list_any (λ (a : Asked C). is_some a.waiter.cond) (map (λ (v : Waiter C). record { waiter = v; is_needed = b && reads v }) ws) ≡ false
  none_mapped b [] none = refl
  none_mapped b (w ∷ ws) none = let n = or_none (has_condition w) (list_any has_condition ws) none in rw n.0 (none_mapped b ws n.1)

  none_asked : (meets : C → Bool) (ws : List (Waiter C)) → list_any has_condition ws ≡ false → list_any (λ (a : Asked C). is_some a.waiter.cond) (asked_of meets ws) ≡ false
  none_asked meets [] none = refl
  none_asked meets (w ∷ ws) none = let n = or_none (has_condition w) (list_any has_condition ws) none in elim (cases_Bool (is_eligible meets w)) [
    | inl goes ↦ rw (n.0, goes) (none_mapped (reads w) ws n.1)
    | inr stays ↦ rw (n.0, stays) (none_asked meets ws n.1)
  ]

  none_runs : (same : C → C → Bool) (xs : List (Asked C)) → list_any (λ (a : Asked C). is_some a.waiter.cond) xs ≡ false → runs_after same (λ (a : Asked C). a.waiter.cond) [] xs ≡ []
  none_runs same [] none = refl
  none_runs same (x ∷ xs) none = let n = or_none (is_some x.waiter.cond) (list_any (λ (a : Asked C). is_some a.waiter.cond) xs) none in rw n.0 (none_runs same xs n.1)

  none_tested : (same : C → C → Bool) (meets : C → Bool) (ws : List (Waiter C)) → list_any has_condition ws ≡ false → tests_of same meets ws ≡ 0
  none_tested same meets ws none = ap (λ runs. count_by (λ (run : List (Asked C)). list_any (λ (a : Asked C). a.is_needed) run) runs) (none_runs same (asked_of meets ws) (none_asked meets ws none))

  -- ---- where it takes no reader, it takes one writer at most

  called_alone : (meets : C → Bool) (ws : List (Waiter C)) → begins_with_reader (woken_of meets ws) ≡ false → called_of (woken_of meets ws) ≡ at_most_one (wake_told (woken_of meets ws))
  called_alone meets [] none = refl
  called_alone meets (w ∷ ws) none = elim (cases_Bool (is_eligible meets w)) [
    | inl goes ↦ elim (cases_Bool (writes w)) [
      | inl alone ↦ rw (goes, alone) refl
      | inr reader ↦ absurd (let e = rw (goes, reader) at none in cc)
    ]
    | inr stays ↦ rw stays (called_alone meets ws (rw stays at none))
  ]

  -- ---- one seat alone was taken

  some_one : (ws : List (Waiter C)) (seat : ℕ) → seat ∷ [] ≡ seats_of ws → has_some ws ≡ true
  some_one [] seat is = absurd (cc)
  some_one (w ∷ ws) seat is = refl

module _ {C : Type 0} (truths : Truths C) (releasing : Releasing) (last : Word) (row : List ℕ) (old now : SeatOf C 1) (same : now.0 ≡ old.0) (here : row ≡ row_in (the old.0).at.held) (carries : Carries (lists_scanned truths row (the old.0).stood) now) where
  -- what a scan has made of them, where it is known of the seat as it was before
  scan_made : (made : Hand) → made.turned.some ≡ has_some (woken_of (meets_at truths row) (the old.0).stood.lock) → made.turned.bits ≡ bits_of (lists_scanned truths row (the old.0).stood).lock → made.finds ≡ scanned truths row (the old.0).stood.lock
      → called_of (woken_of (meets_at truths row) (the old.0).stood.lock) ≡ at_most_one made.owed → IsMade truths (Released releasing) last made now
  scan_made made some bits finds owes =
      let stood : (the old.0).stood ≡ (the now.0).stood = λ i. (the (sym same i)).stood in
      let is_row : row ≡ row_in (the now.0).at.held = here ∙ (λ i. row_in (the (sym same i)).at.held) in
      record {
        turned = record {
          carries = carries ∙ (λ i. (0, lists_scanned truths (is_row i) (stood i)) ∷ []);
          some = some ∙ (λ i. has_some (woken_of (meets_at truths (is_row i)) (stood i).lock));
          bits = bits ∙ (λ i. bits_of (lists_scanned truths (is_row i) (stood i)).lock);
        };
        finds = finds ∙ (λ i. scanned truths (is_row i) (stood i).lock);
        owes = (λ i. called_of (woken_of (meets_at truths (sym is_row i)) (sym stood i).lock)) ∙ owes;
      }

  pub writer_scanned : (owed : Option Owed) (turned : Turned) (owes : Bool) → scanned_writer truths row (the old.0).stood ≡ Ok (owed, turned) → list_any has_condition (the old.0).stood.lock ≡ false → owes ≡ is_some owed
      → IsMade truths (Released releasing) last (record { turned = turned; finds = Scanned owes 0; owed = owed }) now
  writer_scanned owed turned owes told none is =
      let meets = meets_at truths row in let lock = (the old.0).stood.lock in
      let few = told_few (begins_with_reader (woken_of meets lock)) _ _ owed turned told in
      let called : called_of (woken_of meets lock) ≡ at_most_one owed = called_alone meets lock few.0 ∙ ap at_most_one few.1 in
      scan_made _ (sym (ap (λ (t : Turned). t.some) few.2)) (sym (ap (λ (t : Turned). t.bits) few.2))
      (λ i. Scanned ((is ∙ (sym (some_owed owed) ∙ sym (ap has_some called))) i) (sym (none_tested truths.same meets lock none) i)) called

  pub reader_scanned : (seat : ℕ) (via : Option ℕ) (wake : Owed) (bits : Bits) (tests : ℕ) → seat ∷ [] ≡ seats_of (woken_of (meets_at truths row) (the old.0).stood.lock) → via ∷ [] ≡ map (λ (w : Waiter C). w.via) (woken_of (meets_at truths row) (the old.0).stood.lock) → wake ∷ [] ≡ called_by (seat ∷ []) (via ∷ [])
      → tests ≡ tests_of truths.same (meets_at truths row) (the old.0).stood.lock → bits ≡ bits_of (lists_scanned truths row (the old.0).stood).lock → IsMade truths (Released releasing) last (record { turned = record { some = true; bits = bits }; finds = Scanned true tests; owed = Some wake }) now
  reader_scanned seat via wake bits tests told names is tested holds =
      let ws = woken_of (meets_at truths row) (the old.0).stood.lock in
      let called = are_called ws (seat ∷ []) (via ∷ []) (wake ∷ []) is told names in
      scan_made _ (sym (some_one ws seat told)) holds (λ i. Scanned (ap has_some called i) (tested i)) (sym called)
