-- The laws of the conditions of scripts.
use Rattle.std.proofs.Common.{arith}
use Rattle.std.proofs.lemmas.Bool.Decides.{nat_tests}
use Rattle.std.specs.Prelude.{Bool, List, None, Option, Some, [], false, get_or, length, nat_le, nat_lt, refl, slice_index, suc, true, zero, ℕ, ◌&&◌, ◌<◌, ◌==◌, ◌∷◌, ◌≡◌, ◌≤◌}
use Rattle.ns_replay.specs.Names.{AtLeast, ScriptCondition}
use Rattle.ns_replay.specs.Condition.{is_at_least, are_at_least, is_true_of, has_same_fields, have_same_fields, is_same_condition, none_rose}

both : (a b : Bool) → (a && b) ≡ true → (a ≡ true) × (b ≡ true)
both true true e = (refl, refl)
both true false e = absurd cc
both false b e = absurd cc

-- ---- equivalent conditions

same_part : (a b : AtLeast) (row : List ℕ) → has_same_fields a b ≡ true → is_at_least a row ≡ is_at_least b row
same_part a b row e =
    let p = both (a.cell == b.cell) (a.least == b.least) e in
    let cell : a.cell ≡ b.cell = grind (arith, nat_tests) in
    let least : a.least ≡ b.least = grind (arith, nat_tests) in
    rw (cell, least) refl

same_parts : (a b : Option AtLeast) (row : List ℕ) → have_same_fields a b ≡ true → are_at_least a row ≡ are_at_least b row
same_parts None None row e = refl
same_parts (Some a) (Some b) row e = same_part a b row e
same_parts None (Some b) row e = absurd cc
same_parts (Some a) None row e = absurd cc

-- Equivalent conditions are true of the same rows.
pub same_conditions : (a b : ScriptCondition) (row : List ℕ) → length row ≡ 8 → is_same_condition a b ≡ true → is_true_of a row ≡ is_true_of b row
same_conditions a b row eight e =
    let p = both (has_same_fields a.first b.first) (have_same_fields a.second b.second) e in
    rw (same_part a.first b.first row p.0, same_parts a.second b.second row p.1) refl

-- ---- quiet changes

not_risen : (before after : List ℕ) (i : ℕ) → length before ≡ length after → none_rose before after ≡ true → i < length after → get_or after i 0 ≤ get_or before i 0
not_risen [] after i long e lt = let none : length after ≡ 0 = omega arith in absurd (omega arith)
not_risen (x ∷ xs) [] i long e lt = absurd (omega arith)
not_risen (x ∷ xs) (y ∷ ys) zero long e lt =
    let p = both (nat_le y x) (none_rose xs ys) e in
    let le : nat_le y x ≡ true = p.0 in
    grind (arith, nat_tests)
not_risen (x ∷ xs) (y ∷ ys) (suc i) long e lt =
    let p = both (nat_le y x) (none_rose xs ys) e in
    not_risen xs ys i (omega arith) p.1 (omega arith)

kept_by : (n m cell least x y : ℕ) → n ≡ m → (cell < m → y ≤ x) → (nat_lt cell m && nat_le least y) ≡ true → (nat_lt cell n && nat_le least x) ≡ true
kept_by n m cell least x y same h e =
    let p = both (nat_lt cell m) (nat_le least y) e in
    let lt : cell < m = let t : nat_lt cell m ≡ true = p.0 in grind (arith, nat_tests) in
    let le : least ≤ y = let t : nat_le least y ≡ true = p.1 in grind (arith, nat_tests) in
    let less = h lt in
    let first : nat_lt cell n ≡ true = grind (arith, nat_tests) in
    let second : nat_le least x ≡ true = grind (arith, nat_tests) in
    rw (first, second) refl

kept_part : (part : AtLeast) (before after : List ℕ) → length before ≡ length after → none_rose before after ≡ true → is_at_least part after ≡ true → is_at_least part before ≡ true
kept_part part before after long e h =
    kept_by (length before) (length after) part.cell part.least (slice_index before part.cell) (slice_index after part.cell) long (λ lt. not_risen before after part.cell long e lt) h

kept_parts : (part : Option AtLeast) (before after : List ℕ) → length before ≡ length after → none_rose before after ≡ true → are_at_least part after ≡ true → are_at_least part before ≡ true
kept_parts None before after long e h = refl
kept_parts (Some part) before after long e h = kept_part part before after long e h

-- What holds after a change in which no cell rose held before it.
pub quiet_conditions : (c : ScriptCondition) (before after : List ℕ) → length before ≡ 8 → length after ≡ 8 → none_rose before after ≡ true → is_true_of c after ≡ true → is_true_of c before ≡ true
quiet_conditions c before after eight long e h =
    let same : length before ≡ length after = omega arith in
    let p = both (is_at_least c.first after) (are_at_least c.second after) h in
    rw (kept_part c.first before after same e p.0, kept_parts c.second before after same e p.1) refl
