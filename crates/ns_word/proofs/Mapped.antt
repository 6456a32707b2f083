-- A list made by a loop that takes each item of another to one.
use Rattle.std.proofs.Common.{List, [], ap, arith, get_or, length, length-take-le, map, sym, take, take_all, ℕ, ◌++◌, ◌+◌, ◌<◌, ◌∷◌, ◌≡◌, ◌≤◌}
use Rattle.ns_word.proofs.Prelude.{length-map, map_more, ◌∙◌}

module _ {A B : Type 0} (to : A → B) where
  -- so far, it has room for one more
  pub so_far : (xs : List A) (i : ℕ) (got : List B) → i < length xs → length xs ≤ 64 → got ≡ map to (take i xs) → length got < 64
  so_far xs i got within most is = rw (is, length-map, length-take-le i xs (omega arith)) (omega arith)

  pub one_more : (xs : List A) (i : ℕ) (x : A) (got got' : List B) → i < length xs → x ≡ get_or xs i x → got' ≡ got ++ to x ∷ [] → got ≡ map to (take i xs) → got' ≡ map to (take (i + 1) xs)
  one_more xs i x got got' within is push before =
      let here : to x ≡ to (get_or xs i x) = ap to is in
      rw (push, before, here) (sym (map_more to xs i x within))

  pub all_of : (xs : List A) (i : ℕ) (got : List B) → length xs ≤ i → got ≡ map to (take i xs) → got ≡ map to xs
  all_of xs i got over is = is ∙ ap (map to) (take_all i xs over)
