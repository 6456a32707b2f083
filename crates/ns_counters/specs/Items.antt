-- The objects that a wait for any of several is for.
use Rattle.std.specs.List.{list_any}
use Rattle.std.specs.Prelude.{Bool, List, None, Option, [], false, if◌then◌else◌, nat_lt, replicate, slice_get, slice_set, suc, take, true, ℕ, ◌+◌, ◌<◌, ◌==◌, ◌∷◌, ◌≡◌}
use Rattle.ns_counters.specs.Names.{Cvs, Item, Items, OnNote, OnVariable, is_in}

-- the objects, in order
abbrev pub items_of : Items → List Item
items_of items = take items.count items.all

-- no object
abbrev pub no_items : Items
no_items = record { count = 0; all = replicate 16 (OnNote 0) }

-- one more object, behind the others
abbrev pub with_item : Items → Item → Items
with_item items item = record { count = items.count + 1; all = slice_set items.all items.count item }

-- the object at a place
abbrev pub item_at : Items → ℕ → Option Item
item_at items place = if nat_lt place items.count then slice_get items.all place else None

-- ---- condition variables among them

-- whether an item is a variable
abbrev pub is_variable : Item → Bool
is_variable (OnVariable k) = true
is_variable item = false

-- whether one of them is
abbrev pub have_variable : Items → Bool
have_variable items = list_any is_variable (items_of items)

-- whether an item is this variable
abbrev pub is_this : ℕ → Item → Bool
is_this k (OnVariable j) = j == k
is_this k item = false

-- whether this variable is among the items
abbrev pub is_among : ℕ → List Item → Bool
is_among k items = list_any (is_this k) items

-- the place of the first item that is this variable, or how many items there are where none is
abbrev pub place_in : ℕ → List Item → ℕ
place_in k [] = 0
place_in k (item ∷ items) = if is_this k item then 0 else suc (place_in k items)

-- the variables of the set are just those among the items
abbrev pub AreAmong : Cvs → List Item → Type 0
AreAmong cvs items = (k : ℕ) → is_in cvs k ≡ is_among k items

-- a variable is one of four
abbrev pub IsLow : Item → Type 0
IsLow (OnVariable k) = k < 4
IsLow item = Unit {0}
