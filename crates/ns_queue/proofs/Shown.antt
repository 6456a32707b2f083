-- The lists of the four variables, one by one.
use Rattle.std.proofs.Common.{List, [], ap, arith, get_or, length, map, refl, slice_index_or, sym, ◌∷◌, ◌≡◌}
use Rattle.ns_queue.proofs.Prelude.{Shown, Waiter, shown_of}

pub four_of : {A : Type 0} (xs : List A) (x : A) → length xs ≡ 4 → xs ≡ get_or xs 0 x ∷ get_or xs 1 x ∷ get_or xs 2 x ∷ get_or xs 3 x ∷ []
four_of (e ∷ f ∷ g ∷ h ∷ []) x four = refl
four_of [] x four = absurd (omega (arith, four))
four_of (e ∷ []) x four = absurd (omega (arith, four))
four_of (e ∷ f ∷ []) x four = absurd (omega (arith, four))
four_of (e ∷ f ∷ g ∷ []) x four = absurd (omega (arith, four))
four_of (e ∷ f ∷ g ∷ h ∷ i ∷ more) x four = absurd (omega (arith, four))

-- each of four, as it is shown
pub each_shown : {C : Type 0} (cvs : List (List (Waiter C))) (a b c d : List Shown) → length cvs ≡ 4 →
    a ≡ map shown_of (slice_index_or cvs 0 []) → b ≡ map shown_of (slice_index_or cvs 1 []) → c ≡ map shown_of (slice_index_or cvs 2 []) → d ≡ map shown_of (slice_index_or cvs 3 []) →
    a ∷ b ∷ c ∷ d ∷ [] ≡ map (map shown_of) cvs
each_shown cvs a b c d four p q r s = rw (p, q, r, s) (sym (ap (map (map shown_of)) (four_of cvs [] four)))
