-- The wakes of those whom a scan took, made one by one.
use Rattle.std.proofs.Common.{List, Option, [], ap, arith, get_or, length, length-take-le, refl, sym, take, ℕ, ◌++◌, ◌+◌, ◌<◌, ◌∷◌, ◌≡◌, ◌≤◌}
use Rattle.ns_word.proofs.Prelude.{Owed, called_by, take_more, value_of, ◌∙◌}

called_both : (xs ys : List ℕ) (vs us : List (Option ℕ)) → length xs ≡ length vs → called_by (xs ++ ys) (vs ++ us) ≡ called_by xs vs ++ called_by ys us
called_both [] ys [] us e = refl
called_both [] ys (v ∷ vs) us e = absurd (omega (arith, e))
called_both (x ∷ xs) ys [] us e = absurd (omega (arith, e))
called_both (x ∷ xs) ys (v ∷ vs) us e = ap (λ wakes. record { seat = x; value = value_of v } ∷ wakes) (called_both xs ys vs us (omega (arith, e)))

length_called : (xs : List ℕ) (vs : List (Option ℕ)) → length (called_by xs vs) ≤ length xs
length_called [] vs = omega arith
length_called (x ∷ xs) [] = omega arith
length_called (x ∷ xs) (v ∷ vs) = let rest = length_called xs vs in omega (arith, rest)

-- so far, there is room for one more
pub called_few : (seats : List ℕ) (vias : List (Option ℕ)) (i : ℕ) (got : List Owed) → i < length seats → length seats ≤ 64 → got ≡ called_by (take i seats) (take i vias) → length got < 64
called_few seats vias i got within most is = let size = ap length is in omega (arith, size, length_called (take i seats) (take i vias), length-take-le i seats (omega (arith, within)), within, most)

pub called_more : (seats : List ℕ) (vias : List (Option ℕ)) (i : ℕ) (via : Option ℕ) (value : ℕ) (got got' : List Owed) → i < length seats → length vias ≡ length seats → value ≡ value_of (get_or vias i via) → got' ≡ got ++ record { seat = get_or seats i 0; value = value } ∷ [] →
    got ≡ called_by (take i seats) (take i vias) → got' ≡ called_by (take (i + 1) seats) (take (i + 1) vias)
called_more seats vias i via value got got' within same is push before =
    let lengths : length (take i seats) ≡ length (take i vias) = length-take-le i seats (omega (arith, within)) ∙ sym (length-take-le i vias (omega (arith, within, same))) in
    push ∙ (λ j. before j ++ record { seat = get_or seats i 0; value = is j } ∷ [])
    ∙ sym ((λ j. called_by (take_more seats i 0 within j) (take_more vias i via (omega (arith, within, same)) j)) ∙ called_both (take i seats) (get_or seats i 0 ∷ []) (take i vias) (get_or vias i via ∷ []) lengths)
