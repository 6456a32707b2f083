-- A list, element by element.
use Rattle.std.proofs.Common.{List, Some, ap, arith, get_or, length, map, option_map, slice_get, sym, ℕ, ◌<◌, ◌∙◌, ◌≡◌}
use Rattle.ns_world.proofs.Prelude.{slice_get-get_or, slice_get-map}

module _ {A B : Type 0} (f : A → B) where
  pub got-map : (xs : List A) (i : ℕ) (x : A) → slice_get xs i ≡ Some x → slice_get (map f xs) i ≡ Some (f x)
  got-map xs i x at = slice_get-map f xs i ∙ ap (option_map f) at

-- where an element was found that there is
pub found_at : {A : Type 0} {n : ℕ} (xs : List A) (i : ℕ) (x : A) → i < n → n ≡ length xs → x ≡ get_or xs i x → slice_get xs i ≡ Some x
found_at xs i x below long is = slice_get-get_or xs i x (omega (arith, below, long)) ∙ ap Some (sym is)
