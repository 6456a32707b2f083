-- Which variables those name whom a scan takes.
use Rattle.std.proofs.Common.{Bool, List, Some, [], ap, arith, filter, get_or, length, length-take, map, refl, sym, take, ℕ, ◌++◌, ◌+◌, ◌<◌, ◌∙◌, ◌∷◌, ◌≡◌}
use Rattle.ns_queue.proofs.Prelude.{Every, IsRow, Waiter, length-map, map-append, seated, seats_of, take_more, times_in, via_in, woken_of}
use Rattle.ns_queue.proofs.Bases.{every_marked, filter_marks, row_own, row_rest, seated_first, seated_rest, stands_not}
use Rattle.ns_queue.proofs.Leaving.{scan_is, scan_marks}

-- ---- a pass along a list that pushes what each element becomes

module _ {A B : Type 0} (f : A → B) (xs : List A) (i : ℕ) (got : List B) where
  pub mapped_on : (new : List B) (d : A) (y : B) → i < length xs → y ≡ f (get_or xs i d) → new ≡ got ++ y ∷ [] → got ≡ map f (take i xs) → new ≡ map f (take (i + 1) xs)
  mapped_on new d y within is more before =
      more ∙ ap (λ ys. ys ++ y ∷ []) before ∙ ap (λ z. map f (take i xs) ++ z ∷ []) is ∙ sym (map-append f (take i xs) (get_or xs i d ∷ [])) ∙ ap (map f) (sym (take_more xs i d within))

  pub mapped_count : i < length xs → got ≡ map f (take i xs) → length got ≡ i
  mapped_count within is = ap length is ∙ length-map (take i xs) f ∙ simp length-take (omega (arith, within))

module _ {C : Type 0} where
  -- each is found by its seat
  abbrev AreSeated : List (Waiter C) → List (Waiter C) → Type 0
  AreSeated whole ws = Every (λ v. seated v.seat whole ≡ Some v) ws

  seated_more : (w : Waiter C) (ws whole : List (Waiter C)) → times_in w.seat ws ≡ 0 → AreSeated whole ws → AreSeated (w ∷ whole) ws
  seated_more w [] whole out p = tt
  seated_more w (v ∷ ws) whole out p = let apart = stands_not w.seat v ws out in (seated_rest v.seat w whole apart.0 ∙ p.0, seated_more w ws whole apart.1 p.1)

  all_seated : (ws : List (Waiter C)) → IsRow ws → AreSeated ws ws
  all_seated [] row = tt
  all_seated (w ∷ ws) row = (seated_first w ws, seated_more w ws ws (row_own w ws row) (all_seated ws (row_rest w ws row)))

  vias_seated : (whole ws : List (Waiter C)) → AreSeated whole ws → map (λ s. via_in (seated s whole)) (seats_of ws) ≡ map (λ (w : Waiter C). w.via) ws
  vias_seated whole [] p = refl
  vias_seated whole (w ∷ ws) p = λ i. via_in (p.0 i) ∷ vias_seated whole ws p.1 i

  module _ (P : Waiter C → Type 0) where
    pub every_filter : (test : Waiter C → Bool) (ws : List (Waiter C)) → Every P ws → Every P (filter test ws)
    every_filter test ws p = rw (filter_marks test ws).0 (every_marked P (map test ws) ws p)

    -- whatever holds of all holds of those whom a scan takes
    pub every_woken : (meets : C → Bool) (ws : List (Waiter C)) → Every P ws → Every P (woken_of meets ws)
    every_woken meets ws p = rw (scan_is meets ws).0 (every_marked P (scan_marks meets ws) ws p)

  -- those whom a scan takes, found by their seats
  pub vias_woken : (meets : C → Bool) (ws : List (Waiter C)) → IsRow ws → map (λ s. via_in (seated s ws)) (seats_of (woken_of meets ws)) ≡ map (λ (w : Waiter C). w.via) (woken_of meets ws)
  vias_woken meets ws row = vias_seated ws (woken_of meets ws) (every_woken (λ v. seated v.seat ws ≡ Some v) meets ws (all_seated ws row))
