-- Whom a view stands for: a list of single seats, since seats of a table are joined and cut.
use Rattle.std.specs.Prelude.{◌≡◌, ℕ, zero, suc, ◌==◌, List, [], ◌∷◌}
use Rattle.ns_model.specs.Tallies.{total, one_if}

-- what all seats know, a list for each seat of the table
abbrev pub Views : Type 0 → Type 0
Views V = List (List V)

-- a sum over all seats
abbrev pub tally : {V : Type 0} → (V → ℕ) → Views V → ℕ
tally f views = total (total f) views

-- 1 for the seat of this number, where views have their numbers so
abbrev pub is_numbered : {V : Type 0} → (V → ℕ) → ℕ → V → ℕ
is_numbered number_of seat view = one_if (number_of view == seat)

-- the seat that a view stands for, where it is one; where it is none, the one given
abbrev pub the_or : {V : Type 0} → V → List V → V
the_or none [] = none
the_or none (view ∷ views) = view

-- the other of two seats that a view stands for, where there are two
abbrev pub the_second_or : {V : Type 0} → V → List V → V
the_second_or none [] = none
the_second_or none (view ∷ views) = the_or none views

-- the view stands for one seat alone
abbrev pub IsOne : {V : Type 0} → List V → Type 0
IsOne [] = ⊥
IsOne (view ∷ []) = Unit {0}
IsOne (view ∷ other ∷ views) = ⊥

-- the view stands for two seats
abbrev pub ArePair : {V : Type 0} → List V → Type 0
ArePair [] = ⊥
ArePair (view ∷ views) = IsOne views

-- the first seat of a view, alone
abbrev pub first_of : {V : Type 0} → List V → List V
first_of [] = []
first_of (view ∷ views) = view ∷ []

-- the seats of a view but the first
abbrev pub rest_of : {V : Type 0} → List V → List V
rest_of [] = []
rest_of (view ∷ views) = views

-- one for each of so many numbers, from a number on
abbrev pub numbered : {V : Type 0} → (ℕ → V) → ℕ → ℕ → List V
numbered new from zero = []
numbered new from (suc n) = new from ∷ numbered new (suc from) n

-- these are the seats of a new table, from a number on: each is what a new one of its number is
abbrev pub AreNew : {K : Type 0} → (ℕ → K) → ℕ → List K → Type 0
AreNew new from [] = Unit {0}
AreNew new from (seat ∷ seats) = (seat ≡ new from) × AreNew new (suc from) seats
