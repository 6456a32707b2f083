-- What the words of a wait for any of several objects write.
use Rattle.std.specs.Prelude.{List, None, Option, Some, [], if◌then◌else◌, nat_lt, option_and_then, option_map, ℕ, ◌∷◌}
use Rattle.ns_replay.specs.Names.{Declared, Item, Items, OnCounter, OnNote, OnVariable, no_items, with_item}
use Rattle.ns_replay.specs.Words.{parts, number_of, below, moment_or_none_of}

-- what stands behind a letter, by the parts of the word at it, if it is the first
unfoldable pub after_letter_of : List (List ℕ) → Option (List ℕ)
after_letter_of ([] ∷ rest ∷ []) = Some rest
after_letter_of _ = None

-- `vK`, by what stands behind the `v`, where so many condition variables may be named
abbrev pub variable_item : ℕ → Option (List ℕ) → Option Item
variable_item cvs None = None
variable_item cvs (Some word) = option_map OnVariable (below cvs (number_of word))

-- `cC`, by what stands behind the `c`, where there are so many counters, or else another item
abbrev pub counter_item : ℕ → Option (List ℕ) → Option Item → Option Item
counter_item counters None other = other
counter_item counters (Some word) other = option_map OnCounter (below counters (number_of word))

-- `nM`, by what stands behind the `n`, or else another item
abbrev pub note_item : Option (List ℕ) → Option Item → Option Item
note_item None other = other
note_item (Some word) other = option_map OnNote (below 64 (number_of word))

-- `nM`, `cC` or `vK`, where so many counters are declared, and so many condition variables may be named
unfoldable pub item_of : Declared → List ℕ → Option Item
item_of declared word =
    note_item (after_letter_of (parts 110 word)) (counter_item declared.counters (after_letter_of (parts 99 word)) (variable_item declared.any_cvs (after_letter_of (parts 118 word))))

-- one more object, if there is still room
abbrev pub one_more : Items → Item → Option Items
one_more items item = if nat_lt items.count 16 then Some (with_item items item) else None

-- these objects, and behind them those of the words
abbrev pub items_behind : Declared → Items → List (List ℕ) → Option Items
items_behind declared items [] = Some items
items_behind declared items (word ∷ words) = option_and_then (λ item. option_and_then (λ more. items_behind declared more words) (one_more items item)) (item_of declared word)

-- the objects of the words, of which there are at most 16
abbrev pub items_in : Declared → List (List ℕ) → Option Items
items_in declared words = items_behind declared no_items words

-- `T ITEM ..`
unfoldable pub any_wait_of : Declared → List (List ℕ) → Option (Items × Option ℕ)
any_wait_of declared (word ∷ words) = option_and_then (λ items. option_map (λ deadline. (items, deadline)) (moment_or_none_of word)) (items_in declared words)
any_wait_of declared [] = None
