-- Texts that grow, and the texts of numbers one after another.
use Rattle.std.proofs.Common.{Bool, List, [], ap, append-nil, append_assoc, arith, decimal, false, filter, flat_map, refl, suc, sym, true, zero, ℕ, ◌++◌, ◌+◌, ◌||◌, ◌∙◌, ◌∷◌, ◌≡◌}
use Rattle.ns_replay.proofs.Prelude.{Line, Seats, after_comma, filter-append, flat_map-append, is_in, left_text, lefts_text, numbers_text, range_with_len, seat_text, seats_below}

-- what grew twice grew by both
pub grows : (old mid new xs ys : List ℕ) → mid ≡ old ++ xs → new ≡ mid ++ ys → new ≡ old ++ (xs ++ ys)
grows old mid new xs ys e f = f ∙ ap (λ (t : List ℕ). t ++ ys) e ∙ append_assoc old xs ys

-- five parts, one after another
pub five_parts : (s₁ s₂ s₃ s₄ s₅ a b c d e : List ℕ) → s₁ ≡ [] ++ a → s₂ ≡ s₁ ++ b → s₃ ≡ s₂ ++ c → s₄ ≡ s₃ ++ d → s₅ ≡ s₄ ++ e → s₅ ≡ a ++ b ++ c ++ d ++ e
five_parts s₁ s₂ s₃ s₄ s₅ a b c d e e₁ e₂ e₃ e₄ e₅ = rw (e₅, e₄, e₃, e₂, e₁) refl

-- ---- a range ends with its last number

range_suc : (a n : ℕ) → range_with_len a (suc n) ≡ range_with_len a n ++ (a + n) ∷ []
range_suc a zero = let e : a + 0 ≡ a = omega arith in rw e refl
range_suc a (suc n) =
    let e : a + 1 + n ≡ a + suc n = omega arith in
    ap (λ (xs : List ℕ). a ∷ xs) (range_suc (a + 1) n) ∙ rw e refl

range_more : (n m : ℕ) → m ≡ n + 1 → range_with_len 0 m ≡ range_with_len 0 n ++ n ∷ []
range_more n m e =
    let is : m ≡ suc n = omega arith in
    let last : 0 + n ≡ n = omega arith in
    rw is (range_suc 0 n ∙ ap (λ (k : ℕ). range_with_len 0 n ++ k ∷ []) last)

pub flat_map-range : (f : ℕ → List ℕ) (n : ℕ) → flat_map f (range_with_len 0 (n + 1)) ≡ flat_map f (range_with_len 0 n) ++ f n
flat_map-range f n =
    ap (flat_map f) (range_more n (n + 1) refl) ∙ flat_map-append f (range_with_len 0 n) (n ∷ []) ∙ ap (λ (t : List ℕ). flat_map f (range_with_len 0 n) ++ t) (append-nil (f n))

pub flat_map-same : (f g : ℕ → List ℕ) → ((n : ℕ) → f n ≡ g n) → (ns : List ℕ) → flat_map f ns ≡ flat_map g ns
flat_map-same f g h [] = refl
flat_map-same f g h (n ∷ ns) = rw (h n, flat_map-same f g h ns) refl

-- the same calls are in progress by either test
pub lefts_text-same : (f g : ℕ → Bool) (lines : List Line) (threads : ℕ) → ((seat : ℕ) → f seat ≡ g seat) → lefts_text f lines threads ≡ lefts_text g lines threads
lefts_text-same f g lines threads h = flat_map-same (left_text f lines) (left_text g lines) (λ n. rw (h n) refl) (range_with_len 0 threads)

-- ---- the seats of a set, one more

-- whether there is one
abbrev pub is_any : List ℕ → Bool
is_any [] = false
is_any (n ∷ ns) = true

one_if : ℕ → Bool → List ℕ
one_if n true = n ∷ []
one_if n false = []

filter_one : (p : ℕ → Bool) (n : ℕ) (b : Bool) → p n ≡ b → filter p (n ∷ []) ≡ one_if n b
unfolding one_if
filter_one p n true e = rw e refl
filter_one p n false e = rw e refl

below_more : (seats : Seats) (n : ℕ) → seats_below (n + 1) seats ≡ seats_below n seats ++ one_if n (is_in seats n)
unfolding seats_below
below_more seats n =
    ap (filter (is_in seats)) (range_more n (n + 1) refl) ∙ filter-append (is_in seats) (range_with_len 0 n) (n ∷ []) ∙ ap (λ (t : List ℕ). filter (is_in seats) (range_with_len 0 n) ++ t) (filter_one (is_in seats) n (is_in seats n) refl)

text_more : (ns : List ℕ) (n : ℕ) (b : Bool) → numbers_text (ns ++ one_if n b) ≡ numbers_text ns ++ seat_text (is_any ns) b n
unfolding one_if
text_more [] n true = append-nil (decimal n)
text_more [] n false = refl
text_more (m ∷ ms) n true =
    ap (λ (t : List ℕ). decimal m ++ t) (flat_map-append after_comma ms (n ∷ []) ∙ ap (λ (t : List ℕ). flat_map after_comma ms ++ t) (append-nil (after_comma n)))
    ∙ sym (append_assoc (decimal m) (flat_map after_comma ms) (after_comma n))
text_more (m ∷ ms) n false = ap (λ (xs : List ℕ). numbers_text (m ∷ xs)) (append-nil ms) ∙ sym (append-nil (numbers_text (m ∷ ms)))

any_more : (ns : List ℕ) (n : ℕ) (b : Bool) → is_any (ns ++ one_if n b) ≡ (is_any ns || b)
unfolding one_if
any_more [] n true = refl
any_more [] n false = refl
any_more (m ∷ ms) n b = refl

pub numbers_text-below : (seats : Seats) (n : ℕ) → numbers_text (seats_below (n + 1) seats) ≡ numbers_text (seats_below n seats) ++ seat_text (is_any (seats_below n seats)) (is_in seats n) n
numbers_text-below seats n = ap numbers_text (below_more seats n) ∙ text_more (seats_below n seats) n (is_in seats n)

pub is_any-below : (seats : Seats) (n : ℕ) → is_any (seats_below (n + 1) seats) ≡ (is_any (seats_below n seats) || is_in seats n)
is_any-below seats n = ap is_any (below_more seats n) ∙ any_more (seats_below n seats) n (is_in seats n)

pub none_below : (seats : Seats) → seats_below 0 seats ≡ []
unfolding seats_below
none_below seats = refl

-- ---- a set is empty, or not
