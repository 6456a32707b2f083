-- What the threads wait for.
use Rattle.std.specs.Prelude.{◌≡◌, ℕ, ◌==◌, Bool, true, false, List, Option, nat_lt, slice_index}
use Rattle.ns_model.specs.Truths.{Truths, truths}
use Rattle.ns_word.specs.Meanings.{InHand}
use Rattle.ns_word.specs.declared.view.Held.{Held}
use Rattle.ns_fixtures.specs.declared.wish.Wish.{Wish}
use Rattle.ns_fixtures.specs.declared.wish.Wish.TheVariants.{Room, Item}

-- the cell that says how many items are in the ring
abbrev pub items_in : List ℕ → ℕ
items_in row = slice_index row 5

-- so many items leave room in the ring, or are some
abbrev pub is_met_by : Wish → ℕ → Bool
is_met_by Room items = nat_lt items 4
is_met_by Item items = nat_lt 0 items

-- the ring isn't full, or it isn't empty
abbrev pub is_met : Wish → List ℕ → Bool
is_met wish row = is_met_by wish (items_in row)

-- both are for the same
abbrev pub is_same : Wish → Wish → Bool
is_same Room Room = true
is_same Room Item = false
is_same Item Room = false
is_same Item Item = true

-- as many items are in the ring as before
abbrev pub is_quiet : List ℕ → List ℕ → Bool
is_quiet before after = items_in before == items_in after

-- what the wishes mean
abbrev pub wishes : Truths Wish
wishes = truths is_met is_same is_quiet

-- the wish is met by the row of the section in hand
abbrev pub IsMetIn : Wish → Option (Held Wish 7) → Type 0
IsMetIn wish held = InHand held (λ section. is_met wish section.row ≡ true)
