-- A scan of the lock list in hand that takes a writer alone, or nobody: what is told of it.
use Rattle.std.proofs.Common.{Bool, Err, List, None, Ok, Option, Result, Some, [], ap, cond, false, inl, inr, refl, sym, true, ℕ, ◌∙◌, ◌∷◌, ◌≡◌}
use Rattle.ns_gate.proofs.Prelude.{Bits, Foremost, Lists, Lock, Nobody, Owed, Reader, Sought, Truths, Turned, Waiter, begins_with_reader, bits_of, called_by, cases_Bool, foremost_of, has_some, left_by_writer, left_of, lists_scanned, meets_at, value_of, wake_told, with_waiters, woken_of, writes}
use Rattle.ns_queue.specs.declared.scan.Foremost.TheVariants.{Writer}

-- whether whom a scan takes first is a reader
abbrev pub is_reader : Foremost → Bool
is_reader (Reader sought) = true
is_reader _ = false

module _ {C : Type 0} (sought : Sought) where
  -- what is told of a scan that takes these and leaves those
  abbrev Told : List (Waiter C) → List (Waiter C) → Result (Option Owed × Turned) Sought
  Told woken left = cond (begins_with_reader woken) (Err sought) (Ok (wake_told woken, record { some = has_some woken; bits = bits_of left }))

  pub told_nobody : (woken left : List (Waiter C)) (bits : Bits) → Nobody ≡ foremost_of sought woken → bits ≡ bits_of left → Ok (None, record { some = false; bits = bits }) ≡ Told woken left
  told_nobody [] left bits first is = ap (λ (b : Bits). Ok (None, record { some = false; bits = b })) is
  told_nobody (w ∷ ws) left bits first is = elim (cases_Bool (writes w)) [
    | inl alone ↦ absurd (let e = rw alone at first in cc)
    | inr reader ↦ absurd (let e = rw reader at first in cc)
  ]

  pub told_writer : (woken left : List (Waiter C)) (number : ℕ) (via : Option ℕ) (wake : Owed) (bits : Bits) → Writer number via ≡ foremost_of sought woken → wake ∷ [] ≡ called_by (number ∷ []) (via ∷ []) → bits ≡ bits_of left
      → Ok (Some wake, record { some = true; bits = bits }) ≡ Told woken left
  told_writer [] left number via wake bits first made is = absurd (cc)
  told_writer (w ∷ ws) left number via wake bits first made is = elim (cases_Bool (writes w)) [
    | inl alone ↦
        let same : Writer number via ≡ Writer w.seat w.via = rw alone at first in
        let seat : number ≡ w.seat = cc in
        let names : via ≡ w.via = cc in
        let here : wake ≡ record { seat = number; value = value_of via } = cc in
        let told : wake ≡ record { seat = w.seat; value = value_of w.via } = here ∙ (λ i. record { seat = seat i; value = value_of (names i) }) in
        rw alone (λ i. Ok (Some (told i), record { some = true; bits = is i }))
    | inr reader ↦ absurd (let e = rw reader at first in cc)
  ]

  pub told_reader : (found : Sought) (woken left : List (Waiter C)) → Reader found ≡ foremost_of sought woken → Err found ≡ Told woken left
  told_reader found [] left first = absurd (cc)
  told_reader found (w ∷ ws) left first = elim (cases_Bool (writes w)) [
    | inl alone ↦ absurd (let e = rw alone at first in cc)
    | inr reader ↦
        let same : Reader found ≡ Reader sought = rw reader at first in
        let is : found ≡ sought = cc in
        rw reader (ap (λ (o : Sought). Err o) is)
  ]

  -- the first of those who are taken tells whether a scan begins with a reader
  told_begins : (woken : List (Waiter C)) → is_reader (foremost_of sought woken) ≡ begins_with_reader woken
  told_begins [] = refl
  told_begins (w ∷ ws) = elim (cases_Bool (writes w)) [ inl alone ↦ rw alone refl | inr reader ↦ rw reader refl ]

  -- where the first is no reader, the lists are left as a scan leaves them
  pub lists_few : (truths : Truths C) (row : List ℕ) (first : Foremost) (old new : Lists C) → first ≡ foremost_of sought (woken_of (meets_at truths row) old.lock) → is_reader first ≡ false
      → new ≡ with_waiters old Lock (left_by_writer (meets_at truths row) old.lock) → new ≡ lists_scanned truths row old
  lists_few truths row first old new told few left =
      let meets = meets_at truths row in
      let none : begins_with_reader (woken_of meets old.lock) ≡ false = sym (told_begins (woken_of meets old.lock)) ∙ ap is_reader (sym told) ∙ few in
      left ∙ ap (with_waiters old Lock) (ap (λ b. cond b old.lock (left_of meets old.lock)) none)

  -- and where it is one, they are as they stood
  pub lists_kept : (truths : Truths C) (row : List ℕ) (first : Foremost) (old new : Lists C) → first ≡ foremost_of sought (woken_of (meets_at truths row) old.lock) → is_reader first ≡ true
      → new ≡ with_waiters old Lock (left_by_writer (meets_at truths row) old.lock) → new ≡ old
  lists_kept truths row first old new told reader left =
      let meets = meets_at truths row in
      let some : begins_with_reader (woken_of meets old.lock) ≡ true = sym (told_begins (woken_of meets old.lock)) ∙ ap is_reader (sym told) ∙ reader in
      left ∙ ap (with_waiters old Lock) (ap (λ b. cond b old.lock (left_of meets old.lock)) some)
