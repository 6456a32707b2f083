-- What serde_json reads, as the definitions of a script see it.
use Rattle.std.proofs.Common.{Bool, Err, IsUtf8, List, None, Ok, Option, Some, String, [], ap, arith, cond, false, length, map, nat_le, refl, string_bytes, true, ℕ, ◌&&◌, ◌<◌, ◌∷◌, ◌≡◌, ◌≤◌}
use Rattle.ns_replay.proofs.Prelude.{Data, Global, IsUtf8-from_is_utf8, NotJson, ScriptPath, TooMany, Value, are_known, as_array, is_known, is_utf8, is_utf8-from_IsUtf8, items_of, json_of, json_read, list_all, list_in, list_of, members_view, nat_tests, read}

pub json_ok : (bytes : List ℕ) (d : Data) → IsUtf8 bytes → read bytes ≡ Some d → json_of bytes ≡ Ok d
unfolding json_of
json_ok bytes d u e = rw (is_utf8-from_IsUtf8 bytes u, e) refl

either : (b : Bool) (r : Option Data) → (b ≡ true → r ≡ None) → cond b (json_read r) (Err NotJson) ≡ Err NotJson
either true r h = rw (h refl) refl
either false r h = refl

pub json_err : (bytes : List ℕ) → (IsUtf8 bytes → read bytes ≡ None) → json_of bytes ≡ Err NotJson
unfolding json_of
json_err bytes h = either (is_utf8 bytes) (read bytes) (λ e. h (IsUtf8-from_is_utf8 bytes e))

list_of-items_of : (ds : List Data) → list_of (items_of ds) ≡ ds
list_of-items_of [] = refl
list_of-items_of (d ∷ ds) = ap (λ (xs : List Data). d ∷ xs) (list_of-items_of ds)

pub list_few : (most : ℕ) (p : ScriptPath) (d : Data) (ds : List Data) → Some (items_of ds) ≡ as_array d → length ds ≤ most → list_in most p (Some d) ≡ Ok ds
unfolding list_in
list_few most p d ds e le =
    let few : nat_le (length ds) most ≡ true = grind (arith, nat_tests) in
    rw (← e, list_of-items_of ds, few) refl

pub list_many : (most : ℕ) (p : ScriptPath) (d : Data) (ds : List Data) → Some (items_of ds) ≡ as_array d → most < length ds → list_in most p (Some d) ≡ Err (TooMany p)
unfolding list_in
list_many most p d ds e lt =
    let many : nat_le (length ds) most ≡ false = grind (arith, nat_tests) in
    rw (← e, list_of-items_of ds, many) refl

pub are_known_entries : (es : List (String Global × Value)) → are_known (members_view es) ≡ list_all (λ name. is_known (string_bytes name)) (map (λ e. e.0) es)
are_known_entries [] = refl
are_known_entries (e ∷ es) = ap (λ (b : Bool). is_known (string_bytes e.0) && b) (are_known_entries es)
