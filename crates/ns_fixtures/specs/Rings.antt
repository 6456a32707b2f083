-- A ring in a row: its items stand in the first four cells, one behind the other, and behind the fourth comes the first again. Cell 4 says where the first item is, cell 5 how many there are, and cell 6 how many were taken.
use Rattle.std.specs.Prelude.{ℕ, zero, suc, ◌+◌, ◌-◌, ◌%◌, ◌^◌, List, [], ◌∷◌, slice_index, slice_set}
use Rattle.ns_fixtures.specs.Wishes.{items_in}

-- the cell of the first item
abbrev pub head_in : List ℕ → ℕ
head_in row = slice_index row 4 % 4

-- so many items, from the one in this cell on
unfoldable pub queue_from : ℕ → ℕ → List ℕ → List ℕ
queue_from zero cell row = []
queue_from (suc count) cell row = slice_index row cell ∷ queue_from count ((cell + 1) % 4) row

-- the items in the ring, in the order in which they were put
abbrev pub queue_in : List ℕ → List ℕ
queue_in row = queue_from (items_in row) (head_in row) row

-- the row with an item behind the others
abbrev pub with_item : ℕ → List ℕ → List ℕ
with_item item row = slice_set (slice_set row ((head_in row + items_in row) % 4) item) 5 (items_in row + 1)

-- the row without the first item
abbrev pub without_first : List ℕ → List ℕ
without_first row = slice_set (slice_set (slice_set row 4 ((head_in row + 1) % 4)) 5 (items_in row - 1)) 6 ((slice_index row 6 + 1) % 2 ^ 64)
