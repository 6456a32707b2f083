-- What the getters of the matches read is what the rows of the matches hold.
use Rattle.std.proofs.Common.{◌≡◌, ◌≢◌, ◌^◌, ◌&&◌, ℕ, Bool, true, false, List, [], ◌∷◌, length, Option, Some, None, Result, Ok, Err, nat_lt, refl, ap, subst, codes, lt-ltb, ltb-true}
use Rattle.std.specs.Bool.{Decides}
use Rattle.std.specs.List.{list_all}
use Rattle.std.specs.Option.{option_map_or, unwrap_or}
use Rattle.std.specs.Char.{digit_value}
use Rattle.std.specs.Str.{bytes_eq}
use Rattle.std.specs.Str.Parse.{AllDigits, ParsesBool, ParsesUnsigned, digits_value, true_text, without_leading_plus}
use Rattle.std.proofs.lemmas.Slice.Eq.{bytes_eq-Decides}
use Rattle.clap.specs.Words.{ReadsOne, Text, one_of, one_text, rows_of}
use Rattle.clap.specs.declared.parser.matches.Found.{Found}
use Rattle.clap.proofs.WalkLemmas.{both, one_text-rows}
use Rattle.ns_command.specs.Asked.{items_in, limit_in, number_in}

unequal : (text : Text) (b : Bool) → Decides b (text ≡ true_text) → text ≢ true_text → false ≡ b
unequal text true d h = absurd (h (d.0 refl))
unequal text false d h = refl

flag_read : (E : Type 0) (text : Text) (r : Option Bool) → ReadsOne {E = E} ParsesBool text r → unwrap_or r false ≡ bytes_eq text (codes "true")
flag_read E text (Some true) h = rw h refl
flag_read E text (Some false) h = rw h refl
flag_read E text None h = unequal text (bytes_eq text true_text) (bytes_eq-Decides text true_text) h.1.0

-- what a getter reads: nothing, or by the text that the rows hold
pub read_of_rows : {T : Type 0} (f : Found) (name : Text) (r : Option T) (d : T) (by : Text → T) → (one_text f name ≡ None → r ≡ None)
    → ((t : Text) → one_text f name ≡ Some t → unwrap_or r d ≡ by t) → unwrap_or r d ≡ option_map_or by (one_of name (rows_of f)) d
read_of_rows f name r d by none some = subst (λ o. unwrap_or r d ≡ option_map_or by o d) (one_text-rows f name) (go (one_text f name) refl)
  where
    go : (o : Option Text) → one_text f name ≡ o → unwrap_or r d ≡ option_map_or by o d
    go None is = ap (λ x. unwrap_or x d) (none is)
    go (Some t) is = some t is

pub flag_is : (E : Type 0) (f : Found) (name : Text) (r : Option Bool) → (one_text f name ≡ None → r ≡ None)
    → ((t : Text) → one_text f name ≡ Some t → ReadsOne {E = E} ParsesBool t r)
    → unwrap_or r false ≡ option_map_or (λ text. bytes_eq text (codes "true")) (one_of name (rows_of f)) false
flag_is E f name r none value = read_of_rows f name r false (λ text. bytes_eq text (codes "true")) none (λ t is. flag_read E t r (value t is))

digits_pass : (ds : List ℕ) → AllDigits 10 ds → list_all (λ digit. nat_lt (digit_value digit) 10) ds ≡ true
digits_pass [] h = refl
digits_pass (d ∷ ds) h = rw (lt-ltb (digit_value d) 10 h.0) (digits_pass ds h.1)

digits_from : (ds : List ℕ) → list_all (λ digit. nat_lt (digit_value digit) 10) ds ≡ true → AllDigits 10 ds
digits_from [] e = tt
digits_from (d ∷ ds) e =
    let parts = both _ _ e in
    (ltb-true _ _ parts.0, digits_from ds parts.1)

abbrev is_number : List ℕ → Bool
is_number ds = nat_lt 0 (length ds) && list_all (λ digit. nat_lt (digit_value digit) 10) ds && nat_lt (digits_value 10 ds) (2 ^ 32)

number_found : (E : Type 0) (other : ℕ) (text : Text) (r : Option ℕ) → ReadsOne {E = E} (λ bs o. ParsesUnsigned 32 10 bs o) text r → unwrap_or r other ≡ number_in other text
number_found E other text (Some n) h =
    let ds = without_leading_plus text in
    rw (lt-ltb 0 (length ds) h.0.0.0, digits_pass ds h.0.0.1, lt-ltb (digits_value 10 ds) (2 ^ 32) h.0.1) h.1
number_found E other text None h = go (is_number (without_leading_plus text)) refl
  where
    go : (b : Bool) → is_number (without_leading_plus text) ≡ b → other ≡ number_in other text
    go false t = rw t refl
    go true t =
        let outer = both _ _ t in
        let inner = both _ _ outer.0 in
        absurd (h.1 ((ltb-true _ _ inner.0, digits_from (without_leading_plus text) inner.1), ltb-true _ _ outer.1))

weaker : (E : Type 0) (P Q : Text → Result ℕ E → Type 0) → ((t : Text) (r : Result ℕ E) → P t r → Q t r) → (text : Text) (r : Option ℕ) → ReadsOne P text r → ReadsOne Q text r
weaker E P Q step text (Some n) h = step text (Ok n) h
weaker E P Q step text None h = (h.0, step text (Err h.0) h.1)

pub number_is : (E : Type 0) (gives : Text → Result ℕ E → Type 0) (f : Found) (name : Text) (other : ℕ) (r : Option ℕ) → ((t : Text) (o : Result ℕ E) → gives t o → ParsesUnsigned 32 10 t o)
    → (one_text f name ≡ None → r ≡ None) → ((t : Text) → one_text f name ≡ Some t → ReadsOne gives t r)
    → unwrap_or r other ≡ option_map_or (number_in other) (one_of name (rows_of f)) other
number_is E gives f name other r parses none value =
    read_of_rows f name r other (number_in other) none (λ t is. number_found E other t r (weaker E gives (λ bs o. ParsesUnsigned 32 10 bs o) parses t r (value t is)))

pub limit_is : (E : Type 0) (gives : Text → Result ℕ E → Type 0) (f : Found) (r : Option ℕ) → ((t : Text) (o : Result ℕ E) → gives t o → ParsesUnsigned 32 10 t o)
    → (one_text f (codes "limit") ≡ None → r ≡ None) → ((t : Text) → one_text f (codes "limit") ≡ Some t → ReadsOne gives t r)
    → unwrap_or r 1000000 ≡ limit_in (rows_of f)
limit_is E gives f r = number_is E gives f (codes "limit") 1000000 r

pub items_is : (E : Type 0) (gives : Text → Result ℕ E → Type 0) (f : Found) (r : Option ℕ) → ((t : Text) (o : Result ℕ E) → gives t o → ParsesUnsigned 32 10 t o)
    → (one_text f (codes "items") ≡ None → r ≡ None) → ((t : Text) → one_text f (codes "items") ≡ Some t → ReadsOne gives t r)
    → unwrap_or r 0 ≡ items_in (rows_of f)
items_is E gives f r = number_is E gives f (codes "items") 0 r
