-- The queues in hand, as they are lent and given back, and that they fit in memory.
use Rattle.std.proofs.Common.{List, [], ap, arith, sym, ℕ, ◌∙◌, ◌∷◌, ◌≡◌}
use Rattle.std.specs.Mem.{FitsInMemory}
use Rattle.ns_gate.specs.Prelude.{Ghosts, HasRoom, Lists, rest, room_fits}
use Rattle.ns_gate.specs.contracts.perform.Beside.{the_row as beside_row}
use Rattle.ns_model.specs.Room.{room_enough}
use Rattle.ns_queue.specs.contracts.queues.Queues.{the_row as queues_row}
use denote.Param.{copied, layout, number, param, value_of}
use denote.RattleType.{RattleType}

-- a seat that has the queues in hand may be lent them
pub has_slot : {C : Type 0} (lists : Lists C) (slots : List (ℕ × Lists C)) → slots ≡ (0, lists) ∷ [] → (was : Lists C) × (slots ≡ (0, was) ∷ rest slots)
has_slot lists slots carries = (lists, carries ∙ ap (λ xs. (0, lists) ∷ xs) (sym (ap rest carries)))

abbrev first_slot : {C : Type 0} → Lists C → List (ℕ × Lists C) → Lists C
first_slot lists [] = lists
first_slot lists (slot ∷ slots) = slot.1

-- what is lent are these lists
pub was_in_hand : {C : Type 0} (lists slot was : Lists C) (slots : List (ℕ × Lists C)) → slots ≡ (0, lists) ∷ [] → slots ≡ (0, slot) ∷ rest slots → was ≡ slot → was ≡ lists
was_in_hand lists slot was slots carries value lent = lent ∙ ap (first_slot lists) (sym value ∙ carries)

-- and once it is given back, what was made of them is in hand
pub now_in_hand : {C : Type 0} (lists now wanted : Lists C) (slots : List (ℕ × Lists C)) → slots ≡ (0, lists) ∷ [] → now ≡ wanted → (0, now) ∷ rest slots ≡ (0, wanted) ∷ []
now_in_hand lists now wanted slots carries is = λ i. (0, is i) ∷ (ap rest carries) i

-- the queues fit in memory over any condition, at a width that is a number
pub queues_fit : (C : RattleType) (N : ℕ) → HasRoom (copied 0 C) (param 1 (number N)) → (means : Ghosts (copied 0 C).Denot (value_of (param 1 (number N)))) → FitsInMemory (queues_row (copied 0 C) (param 1 (number N)) means)
queues_fit C N small means = room_fits C (number N) small means

-- and so does what is to be known beside an act
pub beside_fits : (C : RattleType) (N : ℕ) → HasRoom (copied 0 C) (param 1 (number N)) → FitsInMemory (beside_row (param 1 (number N)))
beside_fits C N small = let most = room_enough (layout (beside_row (param 1 (number N)))) in let row = small.1 in omega (arith, most, row)
