-- What the marks of a signal come to.
use Rattle.std.proofs.Common.{Bool, List, [], ap, drop, inl, inr, length, refl, suc, ◌∷◌, ◌≡◌}
use Rattle.ns_queue.proofs.Prelude.{Anybody, Nobody, Readers, ReadersAndWriter, Waiter, Wanted, cases_Bool, filter, marked, readers_and_a_writer, reads, signal_marks, signaled_of, unmarked, unsignaled_of, wanted_after, writes}

module _ {C : Type 0} where
  pub length-signal_marks : (wanted : Wanted) (ws : List (Waiter C)) → length (signal_marks wanted ws) ≡ length ws
  length-signal_marks wanted [] = refl
  length-signal_marks wanted (w ∷ ws) = ap suc (length-signal_marks (wanted_after wanted w) ws)

  -- what marks take of a list, and what they leave there
  abbrev Parts : List Bool → List (Waiter C) → List (Waiter C) → List (Waiter C) → Type 0
  Parts ms ws taken left = (marked ms ws ≡ taken) × (unmarked ms ws ≡ left)

  nobody : (ws : List (Waiter C)) → Parts (signal_marks Nobody ws) ws [] ws
  nobody [] = (refl, refl)
  nobody (w ∷ ws) = let rest = nobody ws in (rest.0, ap (λ vs. w ∷ vs) rest.1)

  readers : (ws : List (Waiter C)) → Parts (signal_marks Readers ws) ws (filter reads ws) (filter writes ws)
  readers [] = (refl, refl)
  readers (w ∷ ws) =
      let rest = readers ws in
      elim (cases_Bool (writes w)) [ inl alone ↦ rw alone (rest.0, ap (λ vs. w ∷ vs) rest.1) | inr reader ↦ rw reader (ap (λ vs. w ∷ vs) rest.0, rest.1) ]

  mixed : (ws : List (Waiter C)) → Parts (signal_marks ReadersAndWriter ws) ws (readers_and_a_writer ws) (drop 1 (filter writes ws))
  mixed [] = (refl, refl)
  mixed (w ∷ ws) = elim (cases_Bool (writes w)) [
    | inl alone ↦ let rest = readers ws in rw alone (ap (λ vs. w ∷ vs) rest.0, rest.1)
    | inr reader ↦ let rest = mixed ws in rw reader (ap (λ vs. w ∷ vs) rest.0, rest.1)
  ]

  -- whom a signal takes, and who stays
  pub signal_parts : (ws : List (Waiter C)) → Parts (signal_marks Anybody ws) ws (signaled_of ws) (unsignaled_of ws)
  signal_parts [] = (refl, refl)
  signal_parts (w ∷ ws) = elim (cases_Bool (writes w)) [
    | inl alone ↦ let rest = nobody ws in rw alone (ap (λ vs. w ∷ vs) rest.0, rest.1)
    | inr reader ↦ let rest = mixed ws in rw reader (ap (λ vs. w ∷ vs) rest.0, rest.1)
  ]
