-- A count over the seats, one seat at a time.
use Rattle.std.proofs.Common.{Bool, Fits, add-one, ap, arith, cond, eq-eqb, eqb, false, inl, inr, ne_eqb, refl, suc, true, w8, zero, ℕ, ◌&&◌, ◌+◌, ◌<◌, ◌∙◌, ◌≡◌, ◌≤◌}
use Rattle.ns_model.proofs.Prelude.{cases_eq, count_below, one_if}

pub count_none : (p : ℕ → Bool) → count_below 0 p ≡ 0
unfolding count_below
count_none p = refl

pub count_more : (p : ℕ → Bool) (n : ℕ) → count_below (n + 1) p ≡ count_below n p + cond (p n) 1 0
unfolding count_below
count_more p n = rw add-one refl

pub count_most : (p : ℕ → Bool) (n : ℕ) → count_below n p ≤ n
unfolding count_below
count_most p zero = omega arith
count_most p (suc n) =
    elim (p n) as (λ b. count_below n p + cond b 1 0 ≤ suc n) [ true ↦ omega (arith, count_most p n) | false ↦ omega (arith, count_most p n) ]

-- ---- a loop that counts up to seat 64

-- whether a seat is counted, by the phase that was found of it
pub count_told : {P : Type 0} (p : ℕ → P → Bool) (phases : ℕ → P) (seat : ℕ) (phase : P) (told : Bool) → told ≡ p seat phase → phase ≡ phases seat → told ≡ p seat (phases seat)
count_told p phases seat phase told is same = is ∙ ap (p seat) same

pub count_yes : (p : ℕ → Bool) (n count : ℕ) (told : Bool) → told ≡ p n → told ≡ true → count ≡ count_below n p → count + 1 ≡ count_below (n + 1) p
count_yes p n count told is one before = rw (count_more p n, ← is, one, ← before) refl

pub count_no : (p : ℕ → Bool) (n count : ℕ) (told : Bool) → told ≡ p n → told ≡ false → count ≡ count_below n p → count ≡ count_below (n + 1) p
count_no p n count told is none before = rw (count_more p n, ← is, none, ← before) (omega arith)

pub count_fits : (p : ℕ → Bool) (n count : ℕ) → n < 64 → count ≡ count_below n p → Fits w8 (count + 1)
count_fits p n count low is = omega (arith, count_most p n, is, low)

pub count_whole : (p : ℕ → Bool) (n count : ℕ) → 64 ≤ n → n ≤ 64 → count ≡ count_below n p → count ≡ count_below 64 p
count_whole p n count over most is = let end : n ≡ 64 = omega (arith, over, most) in is ∙ ap (λ m. count_below m p) end

-- ---- counts of other tests

-- tests that agree at each seat count alike
pub count_same : (n : ℕ) (p q : ℕ → Bool) → ((seat : ℕ) → p seat ≡ q seat) → count_below n p ≡ count_below n q
unfolding count_below
count_same zero p q same = refl
count_same (suc n) p q same = rw (count_same n p q same, same n) refl

-- a test that is true of no seat counts none
pub count_never : (n : ℕ) (p : ℕ → Bool) → ((seat : ℕ) → p seat ≡ false) → count_below n p ≡ 0
unfolding count_below
count_never zero p never = refl
count_never (suc n) p never = rw (count_never n p never, never n) refl

-- a test that is true where one of two others is counts what they count
pub count_split : (n : ℕ) (p q r : ℕ → Bool) → ((seat : ℕ) → one_if (p seat) ≡ one_if (q seat) + one_if (r seat)) → count_below n p ≡ count_below n q + count_below n r
unfolding count_below
count_split zero p q r parts = refl
count_split (suc n) p q r parts = omega (arith, parts n, count_split n p q r parts)

only_above : (n at : ℕ) (p : ℕ → Bool) → n ≤ at → count_below n (λ seat. eqb at seat && p seat) ≡ 0
unfolding count_below
only_above zero at p above = refl
only_above (suc n) at p above = rw (only_above n at p (omega arith), ne_eqb at n (λ e. omega arith)) refl

-- a test of one seat counts it where the test is true of it
pub count_only : (n at : ℕ) (p : ℕ → Bool) → at < n → count_below n (λ seat. eqb at seat && p seat) ≡ one_if (p at)
unfolding count_below
count_only zero at p low = absurd (omega (arith, low))
count_only (suc n) at p low = elim (cases_eq at n) [
  | inl e ↦ rw (only_above n at p (omega arith), eq-eqb at n e, ← e) (omega arith)
  | inr ne ↦ rw (count_only n at p (omega arith), ne_eqb at n ne) (omega arith)
]
