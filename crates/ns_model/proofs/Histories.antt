-- A history and its parts.
use Rattle.std.proofs.Common.{Bool, List, [], arith, fold, get_or, length, refl, suc, take, zero, ℕ, ◌++◌, ◌+◌, ◌<◌, ◌∷◌, ◌≡◌}
use Rattle.ns_model.proofs.Prelude.{Event, IsLegalEvent, Standing, phase_next, row_next, standing_from, standing_next, take_more}
use Rattle.ns_model.specs.Histories.{IsLegalFrom}

pub phases_fold : {C : Type 0} {N : ℕ} (now : Standing C) (h : List (Event C N)) (seat : ℕ) →
    (standing_from now h).phases seat ≡ fold (phase_next seat) (now.phases seat) h
phases_fold now [] seat = refl
phases_fold now (e ∷ h) seat = phases_fold (standing_next now e) h seat

pub row_fold : {C : Type 0} {N : ℕ} (now : Standing C) (h : List (Event C N)) → (standing_from now h).row ≡ fold row_next now.row h
row_fold now [] = refl
row_fold now (e ∷ h) = row_fold (standing_next now e) h

pub standing_from-append : {C : Type 0} {N : ℕ} (now : Standing C) (g h : List (Event C N)) →
    standing_from now (g ++ h) ≡ standing_from (standing_from now g) h
standing_from-append now [] h = refl
standing_from-append now (e ∷ g) h = standing_from-append (standing_next now e) g h

-- a history is legal just where its front is, and the rest after that
pub legal_append : {C : Type 0} {N : ℕ} (holds : C → List ℕ → Bool) (now : Standing C) (g h : List (Event C N)) →
    IsLegalFrom holds now g → IsLegalFrom holds (standing_from now g) h → IsLegalFrom holds now (g ++ h)
legal_append holds now [] h p q = q
legal_append holds now (e ∷ g) h p q = (p.0, legal_append holds (standing_next now e) g h p.1 q)

pub legal_parts : {C : Type 0} {N : ℕ} (holds : C → List ℕ → Bool) (now : Standing C) (g h : List (Event C N)) →
    IsLegalFrom holds now (g ++ h) → IsLegalFrom holds now g × IsLegalFrom holds (standing_from now g) h
legal_parts holds now [] h p = (tt, p)
legal_parts holds now (e ∷ g) h p = let rest = legal_parts holds (standing_next now e) g h p.1 in ((p.0, rest.0), rest.1)

-- one event more
pub legal_more : {C : Type 0} {N : ℕ} (holds : C → List ℕ → Bool) (now : Standing C) (h : List (Event C N)) (i : ℕ) (d : Event C N) → i < length h →
    IsLegalFrom holds now (take i h) → IsLegalEvent holds (standing_from now (take i h)) (get_or h i d) → IsLegalFrom holds now (take (i + 1) h)
legal_more holds now h i d within p q = rw (take_more h i d within) (legal_append holds now (take i h) (get_or h i d ∷ []) p (q, tt))

-- each event of a legal history is legal after those before it
pub legal_at : {C : Type 0} {N : ℕ} (holds : C → List ℕ → Bool) (now : Standing C) (h : List (Event C N)) (i : ℕ) (d : Event C N) → i < length h →
    IsLegalFrom holds now h → IsLegalEvent holds (standing_from now (take i h)) (get_or h i d)
legal_at holds now [] i d within p = absurd (omega (arith, within))
legal_at holds now (e ∷ h) zero d within p = p.0
legal_at holds now (e ∷ h) (suc i) d within p = legal_at holds (standing_next now e) h i d (omega arith) p.1
