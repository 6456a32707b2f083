-- What stands at a place of a list of objects, and behind it.
use Rattle.std.proofs.Common.{Bool, List, None, Some, [], ap, arith, cond, drop, eq-eqb, eqb-true, false, get_or, inl, inr, length, length-take, ltb-false, ltb-true, map, nat_lt, refl, slice_get, subst, suc, sym, take, true, zero, ℕ, ◌&&◌, ◌<◌, ◌||◌, ◌∙◌, ◌∷◌, ◌≡◌}
use Rattle.ns_counters.proofs.Prelude.{Every, IsLow, Item, Items, OnCounter, OnNote, OnVariable, by_test, drop-cons, get_or_from_slice_get, is_among, is_this, is_variable, item_at, items_of, list_any, or_cases, place_in, slice_get_past, slice_get_within}

-- where something is left of a list from a place on, its first stands there
drops_at : {A : Type 0} (at : ℕ) (xs : List A) (x : A) (more : List A) → drop at xs ≡ x ∷ more → (slice_get xs at ≡ Some x) × (drop (suc at) xs ≡ more)
drops_at zero [] x more is = absurd (cc)
drops_at zero (y ∷ xs) x more is = let same : y ≡ x = cc in (ap Some same, cc)
drops_at (suc at) [] x more is = absurd (cc)
drops_at (suc at) (y ∷ xs) x more is = drops_at at xs x more is

-- where nothing stands, nothing is left
none_from : {A : Type 0} (at : ℕ) (xs : List A) → slice_get xs at ≡ None → drop at xs ≡ []
none_from zero [] none = refl
none_from zero (x ∷ xs) none = absurd (cc)
none_from (suc at) [] none = refl
none_from (suc at) (x ∷ xs) none = none_from at xs none

-- the first n of a list stand where they stood
got_front : {A : Type 0} (n at : ℕ) (xs : List A) → at < n → slice_get (take n xs) at ≡ slice_get xs at
got_front zero at xs low = absurd (omega (arith, low))
got_front (suc n) at [] low = refl
got_front (suc n) zero (x ∷ xs) low = refl
got_front (suc n) (suc at) (x ∷ xs) low = got_front n at xs (omega (arith, low))

got_within : {A : Type 0} (n at : ℕ) (xs : List A) → slice_get (take n xs) at ≡ cond (nat_lt at n) (slice_get xs at) None
got_within n at xs = by_test (λ got. slice_get (take n xs) at ≡ got) (nat_lt at n) (λ low. got_front n at xs (ltb-true at n low))
    (λ high. let past = ltb-false at n high in let long = length-take n xs in slice_get_past (take n xs) at (omega (arith, past, long)))

-- an object stands at its place of those that are there
pub stands_at : (items : Items) (at : ℕ) (item : Item) → item_at items at ≡ Some item → slice_get (items_of items) at ≡ Some item
stands_at items at item is = got_within items.count at items.all ∙ is

pub lower : (b : Bool) (at n : ℕ) → nat_lt at n ≡ b → at < n → b ≡ true
lower true at n is low = refl
lower false at n is low = let not = ltb-false at n is in absurd (omega (arith, not, low))

-- the object from which on such are left
pub listed : (items : Items) (at : ℕ) (item : Item) (more : List Item) → drop at (items_of items) ≡ item ∷ more → (item_at items at ≡ Some item) × (drop (suc at) (items_of items) ≡ more)
listed items at item more is = let here = drops_at at (items_of items) item more is in (sym (got_within items.count at items.all) ∙ here.0, here.1)

-- what is left from an object on
pub left_at : (items : Items) (at : ℕ) (item : Item) → item_at items at ≡ Some item → drop at (items_of items) ≡ item ∷ drop (suc at) (items_of items)
left_at items at item is =
    let there = stands_at items at item is in
    drop-cons (items_of items) at item (slice_get_within (items_of items) at item there) ∙ ap (λ x. x ∷ drop (suc at) (items_of items)) (get_or_from_slice_get (items_of items) at item item there)

-- nothing is left where there is no object
pub none_left : (items : Items) (at : ℕ) → item_at items at ≡ None → drop at (items_of items) ≡ []
none_left items at is = none_from at (items_of items) (got_within items.count at items.all ∙ is)

-- nor behind it
pub none_behind_it : (items : Items) (at : ℕ) → drop at (items_of items) ≡ [] → drop (suc at) (items_of items) ≡ []
none_behind_it items at none = on (items_of items) at none where
  on : {A : Type 0} (xs : List A) (at : ℕ) → drop at xs ≡ [] → drop (suc at) xs ≡ []
  on [] at e = refl
  on (x ∷ xs) zero e = absurd (cc)
  on (x ∷ xs) (suc at) e = on xs at e

-- ---- the variables among objects

this_is : (k : ℕ) (item : Item) → is_this k item ≡ true → item ≡ OnVariable k
this_is k (OnNote note) is = absurd (cc)
this_is k (OnCounter counter) is = absurd (cc)
this_is k (OnVariable j) is = ap OnVariable (eqb-true j k is)

-- a variable among objects is one of four
pub low_if_among : (items : List Item) (k : ℕ) → Every IsLow items → is_among k items ≡ true → k < 4
low_if_among [] k low is = absurd (cc)
low_if_among (item ∷ items) k low is = elim (or_cases (is_this k item) (is_among k items) is) [
  | inl here ↦ subst IsLow (this_is k item here) low.0
  | inr there ↦ low_if_among items k low.1 there
]

-- where a variable is among objects, it is this or that one
pub some_among : (items : List Item) → list_any is_variable items ≡ true → (k : ℕ) × (is_among k items ≡ true)
some_among [] some = absurd (cc)
some_among (OnVariable k ∷ items) some = (k, rw (eq-eqb k k refl) refl)
some_among (OnNote note ∷ items) some = some_among items some
some_among (OnCounter counter ∷ items) some = some_among items some

-- ---- the place of a variable

-- there it stands
place_at : (k : ℕ) (items : List Item) → is_among k items ≡ true → slice_get items (place_in k items) ≡ Some (OnVariable k)
place_at k [] is = absurd (cc)
place_at k (item ∷ items) is = by_test (λ n. slice_get (item ∷ items) n ≡ Some (OnVariable k)) (is_this k item) (λ this. ap Some (this_is k item this)) (λ other. place_at k items (subst (λ b. (b || is_among k items) ≡ true) other is))

-- and nowhere before
before_place : (k : ℕ) (items : List Item) (i : ℕ) → i < place_in k items → slice_get items i ≡ Some (OnVariable k) → ⊥
before_place k [] i low is = absurd (omega (arith, low))
before_place k (item ∷ items) i low is = by (is_this k item) refl (λ j below there. before_place k items j below there) i low is where
  by : (b : Bool) → is_this k item ≡ b → ((j : ℕ) → j < place_in k items → slice_get items j ≡ Some (OnVariable k) → ⊥) → (i : ℕ) → i < cond b 0 (suc (place_in k items)) → slice_get (item ∷ items) i ≡ Some (OnVariable k) → ⊥
  by true this rest i low is = absurd (omega (arith, low))
  by false this rest zero low is =
      let here : item ≡ OnVariable k = cc in
      let no : false ≡ true = sym this ∙ ap (is_this k) here ∙ eq-eqb k k refl in absurd (cc)
  by false this rest (suc i) low is = rest i (omega (arith, low)) is

-- the place of a variable among objects is the first at which it stands
pub first_place : (items : Items) (k : ℕ) → is_among k (items_of items) ≡ true → (item_at items (place_in k (items_of items)) ≡ Some (OnVariable k)) × ((i : ℕ) → i < place_in k (items_of items) → item_at items i ≡ Some (OnVariable k) → ⊥)
first_place items k is = (sym (got_within items.count (place_in k (items_of items)) items.all) ∙ place_at k (items_of items) is, λ i low at. before_place k (items_of items) i low (stands_at items i (OnVariable k) at))

-- where none of them is a variable, no variable is among them
pub none_among : (items : List Item) (k : ℕ) → list_any is_variable items ≡ false → is_among k items ≡ true → ⊥
none_among [] k none is = absurd (cc)
none_among (OnNote note ∷ items) k none is = none_among items k none is
none_among (OnCounter counter ∷ items) k none is = none_among items k none is
none_among (OnVariable j ∷ items) k none is = absurd (cc)

-- each object of a list that passes a test passes it
pub first_of_all : (b c : Bool) → (b && c) ≡ true → b ≡ true
first_of_all true c e = refl
first_of_all false c e = absurd (cc)

pub rest_of_all : (b c : Bool) → (b && c) ≡ true → c ≡ true
rest_of_all true c e = e
rest_of_all false c e = absurd (cc)

-- an item of a list whose variables are each one of four
pub low_at : {A : Type 0} (item : A → Item) (things : List A) (i : ℕ) (d : A) → i < length things → Every IsLow (map item things) → IsLow (item (get_or things i d))
low_at item [] i d within low = absurd (omega (arith, within))
low_at item (x ∷ things) zero d within low = low.0
low_at item (x ∷ things) (suc i) d within low = low_at item things i d (omega (arith, within)) low.1
