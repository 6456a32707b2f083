-- New objects are lawful.
use Rattle.std.proofs.Common.{List, [], arith, get_or, get_or-append-add, length, length-append, refl, replicate, subst, suc, zero, ℕ, ◌++◌, ◌+◌, ◌-◌, ◌∙◌, ◌∷◌, ◌≡◌, ◌≤◌}
use Rattle.ns_counters.proofs.Prelude.{AreAsAsked, AreWordsOf, IsLawful, first_objects, first_words, get_or-append, length-replicate, most, padded, setup_of}

get_zero : (m k : ℕ) → ◌≡◌ {A = ℕ} (get_or (replicate m 0) k 0) 0
get_zero zero k = refl
get_zero (suc m) zero = refl
get_zero (suc m) (suc k) = get_zero m k

-- padding changes no value
padded_same : (values : List ℕ) (m k : ℕ) → get_or (values ++ replicate m 0) k 0 ≡ get_or values k 0
padded_same [] m k = get_zero m k
padded_same (x ∷ values) m zero = refl
padded_same (x ∷ values) m (suc k) = padded_same values m k

-- the words are those of the objects before any event
first_words_are : (seats : ℕ) (values : List ℕ) (cells : ℕ) → length values ≤ 16 → ((k : ℕ) → get_or values k 0 ≤ most) → AreWordsOf (first_objects (setup_of seats values cells)) (first_words (padded values))
first_words_are seats values cells short few =
    let wide : length (padded values) ≡ 16 = let a = length-append values (replicate (16 - length values) 0) in let r = length-replicate {A = ℕ} (16 - length values) 0 in omega (arith, a, r, short) in record {
      width = let a = length-append (padded values) (replicate 16 0) in let r = length-replicate {A = ℕ} 16 0 in omega (arith, a, r, wide);
      counters = λ k below. let is = get_or-append (padded values) (replicate 16 0) 0 k (omega (arith, wide, below)) in let same = padded_same values (16 - length values) k in let most = few k in (omega (arith, is), omega (arith, same, most));
      onces = λ k below. subst (λ n. get_or (first_words (padded values)) (n + k) 0 ≡ 0) wide (get_or-append-add (padded values) (replicate 16 0) k 0 ∙ get_zero 16 k);
    }

pub new_lawful : (seats : ℕ) (values : List ℕ) (cells : ℕ) → seats ≤ 64 → length values ≤ 16 → cells ≤ 16 → ((k : ℕ) → get_or values k 0 ≤ most) → IsLawful (setup_of seats values cells) (first_words (padded values)) []
new_lawful seats values cells few_seats short few_cells few = record { few = few_seats; room = (short, few_cells); words_are = first_words_are seats values cells short few; legal = tt; by_seats = tt }

pub new_asked : (seats : ℕ) (values : List ℕ) (cells : ℕ) → AreAsAsked seats values cells (setup_of seats values cells)
new_asked seats values cells = record { all = refl; counters = refl; starts = λ k. padded_same values (16 - length values) k; onces = refl }
