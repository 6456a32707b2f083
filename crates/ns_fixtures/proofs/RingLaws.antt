-- A ring is a queue: what is put comes last, and what is taken was the first.
use Rattle.std.proofs.Common.{◌≡◌, ◌∙◌, ℕ, zero, suc, List, [], ◌∷◌, ◌++◌, length, Option, None, Some, refl, ap, arith}
use Rattle.std.specs.Prelude.{◌<◌, ◌+◌, ◌%◌, slice_index, slice_set}
use Rattle.std.proofs.lemmas.Bool.Decides.{nat_tests}
use Rattle.ns_word.specs.Meanings.{InHand}
use Rattle.ns_word.specs.declared.view.Held.{Held}
use Rattle.ns_fixtures.specs.declared.wish.Wish.{Wish}
use Rattle.ns_fixtures.specs.declared.wish.Wish.TheVariants.{Item, Room}
use Rattle.ns_fixtures.specs.Rings.{head_in, queue_from, queue_in, with_item, without_first}
use Rattle.ns_fixtures.specs.Wishes.{IsMetIn, items_in}

-- what holds of seven cells holds of a row
with_cells : (P : List ℕ → Type 0) → ((a b c d e f g : ℕ) → P (a ∷ b ∷ c ∷ d ∷ e ∷ f ∷ g ∷ [])) → (row : List ℕ) → length row ≡ 7 → P row
with_cells P p (a ∷ b ∷ c ∷ d ∷ e ∷ f ∷ g ∷ []) seven = p a b c d e f g
with_cells P p row seven = absurd (omega (arith, seven))

-- the ring in a row, by how many items there are and the cell of the first
queue_is : (count cell : ℕ) (row : List ℕ) → items_in row ≡ count → head_in row ≡ cell → queue_in row ≡ queue_from count cell row
queue_is count cell row items head = rw (items, head) refl

-- what is put behind so many items, of which the first is in this cell, comes last
record Puts (count cell item : ℕ) (row new : List ℕ) : Type 0 where
  items : items_in new ≡ suc count
  head : slice_index new 4 ≡ slice_index row 4
  last : queue_from (suc count) cell new ≡ queue_from count cell row ++ item ∷ []

-- behind none, by the cell of the first
puts_0 : (cell item a b c d e g : ℕ) → cell < 4 → let row = a ∷ b ∷ c ∷ d ∷ e ∷ 0 ∷ g ∷ [] in Puts 0 cell item row (slice_set (slice_set row ((cell + 0) % 4) item) 5 1)
unfolding queue_from
puts_0 zero item a b c d e g below = record { items = refl; head = refl; last = refl }
puts_0 (suc zero) item a b c d e g below = record { items = refl; head = refl; last = refl }
puts_0 (suc (suc zero)) item a b c d e g below = record { items = refl; head = refl; last = refl }
puts_0 (suc (suc (suc zero))) item a b c d e g below = record { items = refl; head = refl; last = refl }
puts_0 (suc (suc (suc (suc more)))) item a b c d e g below = absurd (omega (arith, below))

-- behind one, by the cell of the first
puts_1 : (cell item a b c d e g : ℕ) → cell < 4 → let row = a ∷ b ∷ c ∷ d ∷ e ∷ 1 ∷ g ∷ [] in Puts 1 cell item row (slice_set (slice_set row ((cell + 1) % 4) item) 5 2)
unfolding queue_from
puts_1 zero item a b c d e g below = record { items = refl; head = refl; last = refl }
puts_1 (suc zero) item a b c d e g below = record { items = refl; head = refl; last = refl }
puts_1 (suc (suc zero)) item a b c d e g below = record { items = refl; head = refl; last = refl }
puts_1 (suc (suc (suc zero))) item a b c d e g below = record { items = refl; head = refl; last = refl }
puts_1 (suc (suc (suc (suc more)))) item a b c d e g below = absurd (omega (arith, below))

-- behind two, by the cell of the first
puts_2 : (cell item a b c d e g : ℕ) → cell < 4 → let row = a ∷ b ∷ c ∷ d ∷ e ∷ 2 ∷ g ∷ [] in Puts 2 cell item row (slice_set (slice_set row ((cell + 2) % 4) item) 5 3)
unfolding queue_from
puts_2 zero item a b c d e g below = record { items = refl; head = refl; last = refl }
puts_2 (suc zero) item a b c d e g below = record { items = refl; head = refl; last = refl }
puts_2 (suc (suc zero)) item a b c d e g below = record { items = refl; head = refl; last = refl }
puts_2 (suc (suc (suc zero))) item a b c d e g below = record { items = refl; head = refl; last = refl }
puts_2 (suc (suc (suc (suc more)))) item a b c d e g below = absurd (omega (arith, below))

-- behind three, by the cell of the first
puts_3 : (cell item a b c d e g : ℕ) → cell < 4 → let row = a ∷ b ∷ c ∷ d ∷ e ∷ 3 ∷ g ∷ [] in Puts 3 cell item row (slice_set (slice_set row ((cell + 3) % 4) item) 5 4)
unfolding queue_from
puts_3 zero item a b c d e g below = record { items = refl; head = refl; last = refl }
puts_3 (suc zero) item a b c d e g below = record { items = refl; head = refl; last = refl }
puts_3 (suc (suc zero)) item a b c d e g below = record { items = refl; head = refl; last = refl }
puts_3 (suc (suc (suc zero))) item a b c d e g below = record { items = refl; head = refl; last = refl }
puts_3 (suc (suc (suc (suc more)))) item a b c d e g below = absurd (omega (arith, below))

-- behind fewer than four
puts : (count cell item a b c d e g : ℕ) → count < 4 → cell < 4 → let row = a ∷ b ∷ c ∷ d ∷ e ∷ count ∷ g ∷ [] in Puts count cell item row (slice_set (slice_set row ((cell + count) % 4) item) 5 (count + 1))
puts zero cell item a b c d e g room below = puts_0 cell item a b c d e g below
puts (suc zero) cell item a b c d e g room below = puts_1 cell item a b c d e g below
puts (suc (suc zero)) cell item a b c d e g room below = puts_2 cell item a b c d e g below
puts (suc (suc (suc zero))) cell item a b c d e g room below = puts_3 cell item a b c d e g below
puts (suc (suc (suc (suc more)))) cell item a b c d e g room below = absurd (omega (arith, room))

-- the same of the ring in seven cells
puts_last : (item a b c d e f g : ℕ) → f < 4 → let row = a ∷ b ∷ c ∷ d ∷ e ∷ f ∷ g ∷ [] in queue_in (with_item item row) ≡ queue_in row ++ item ∷ []
puts_last item a b c d e f g room =
    let row = a ∷ b ∷ c ∷ d ∷ e ∷ f ∷ g ∷ [] in
    let put = puts f (e % 4) item a b c d e g room (omega arith) in
    queue_is (suc f) (e % 4) (with_item item row) put.items (ap (λ x. x % 4) put.head) ∙ put.last

-- What is put into a ring with room comes last.
pub put_comes_last : (item : ℕ) (row : List ℕ) → length row ≡ 7 → items_in row < 4 → queue_in (with_item item row) ≡ queue_in row ++ item ∷ []
put_comes_last item row seven = with_cells (λ row. items_in row < 4 → queue_in (with_item item row) ≡ queue_in row ++ item ∷ []) (puts_last item) row seven

-- the cells of the items are the same in two rows that differ behind them
cell_is : (cell a b c d e f g x y z : ℕ) → cell < 4 → slice_index (a ∷ b ∷ c ∷ d ∷ x ∷ y ∷ z ∷ []) cell ≡ slice_index (a ∷ b ∷ c ∷ d ∷ e ∷ f ∷ g ∷ []) cell
cell_is zero a b c d e f g x y z below = refl
cell_is (suc zero) a b c d e f g x y z below = refl
cell_is (suc (suc zero)) a b c d e f g x y z below = refl
cell_is (suc (suc (suc zero))) a b c d e f g x y z below = refl
cell_is (suc (suc (suc (suc more)))) a b c d e f g x y z below = absurd (omega (arith, below))

-- so are their items
same_queue : (count cell a b c d e f g x y z : ℕ) → cell < 4 → queue_from count cell (a ∷ b ∷ c ∷ d ∷ x ∷ y ∷ z ∷ []) ≡ queue_from count cell (a ∷ b ∷ c ∷ d ∷ e ∷ f ∷ g ∷ [])
unfolding queue_from
same_queue zero cell a b c d e f g x y z below = refl
same_queue (suc count) cell a b c d e f g x y z below = rw (cell_is cell a b c d e f g x y z below, same_queue count ((cell + 1) % 4) a b c d e f g x y z (omega arith)) refl

-- what is taken from the ring in seven cells was the first
takes_first : (a b c d e f g : ℕ) → 0 < f → let row = a ∷ b ∷ c ∷ d ∷ e ∷ f ∷ g ∷ [] in queue_in row ≡ slice_index row (head_in row) ∷ queue_in (without_first row)
unfolding queue_from
takes_first a b c d e zero g some = absurd (omega (arith, some))
takes_first a b c d e (suc f) g some =
    let row = a ∷ b ∷ c ∷ d ∷ e ∷ suc f ∷ g ∷ [] in
    let rest = queue_is f ((e % 4 + 1) % 4) (without_first row) (omega arith) (omega arith) ∙ same_queue f ((e % 4 + 1) % 4) a b c d e (suc f) g _ _ _ (omega arith) in
    rw rest refl

-- What is taken from a ring with an item was the first.
pub taken_was_first : (row : List ℕ) → length row ≡ 7 → 0 < items_in row → queue_in row ≡ slice_index row (head_in row) ∷ queue_in (without_first row)
taken_was_first row seven = with_cells (λ row. 0 < items_in row → queue_in row ≡ slice_index row (head_in row) ∷ queue_in (without_first row)) takes_first row seven

-- The same of the section in hand, where its ring has room.
pub puts_last_in : (item : ℕ) (held : Option (Held Wish 7)) → IsMetIn Room held → InHand held (λ section. length section.row ≡ 7) → InHand held (λ section. queue_in (with_item item section.row) ≡ queue_in section.row ++ item ∷ [])
puts_last_in item None met seven = absurd met
puts_last_in item (Some section) met seven = put_comes_last item section.row seven (grind (arith, nat_tests))

-- The same of the section in hand, where its ring has an item.
pub takes_first_in : (item : ℕ) (held : Option (Held Wish 7)) → IsMetIn Item held → InHand held (λ section. length section.row ≡ 7) → InHand held (λ section. item ≡ slice_index section.row (head_in section.row)) →
    InHand held (λ section. queue_in section.row ≡ item ∷ queue_in (without_first section.row))
takes_first_in item None met seven first = absurd met
takes_first_in item (Some section) met seven first = rw first (taken_was_first section.row seven (grind (arith, nat_tests)))
