-- A word and its number: each gives the other back.
use Rattle.std.proofs.Common.{Bool, ap, arith, false, inl, inr, refl, true, ℕ, ◌%◌, ◌/◌, ◌==◌, ◌≡◌, ◌≤◌, ◌⊎◌}
use Rattle.ns_word.proofs.Prelude.{IsPackable, Word, bit, encoded, number_of, word_of}

pub bit_few : (b : Bool) → bit b ≤ 1
bit_few true = omega arith
bit_few false = omega arith

-- a bit is read back
told : (b : Bool) (n : ℕ) → n % 2 ≡ bit b → (n % 2 == 1) ≡ b
told true n e = rw e refl
told false n e = rw e refl

pub decoded : (w : Word) → word_of (number_of w) ≡ w
unfolding word_of
decoded w =
    let a = bit_few w.write in
    let b = bit_few w.spin in
    let c = bit_few w.waiting in
    let d = bit_few w.desig in
    let e = bit_few w.cond in
    let f = bit_few w.writer_waits in
    let g = bit_few w.all_false in
    let l = bit_few w.long in
    let n = number_of w in
    rw (
      told w.write (n / 1) (omega (arith, a, b, c, d, e, f, g, l)),
      told w.spin (n / 2) (omega (arith, a, b, c, d, e, f, g, l)),
      told w.waiting (n / 4) (omega (arith, a, b, c, d, e, f, g, l)),
      told w.desig (n / 8) (omega (arith, a, b, c, d, e, f, g, l)),
      told w.cond (n / 16) (omega (arith, a, b, c, d, e, f, g, l)),
      told w.writer_waits (n / 32) (omega (arith, a, b, c, d, e, f, g, l)),
      told w.all_false (n / 64) (omega (arith, a, b, c, d, e, f, g, l)),
      told w.long (n / 128) (omega (arith, a, b, c, d, e, f, g, l)),
      readers w n refl a b c d e f g l,
    ) refl
  where
    readers : (w : Word) (n : ℕ) → n ≡ number_of w → bit w.write ≤ 1 → bit w.spin ≤ 1 → bit w.waiting ≤ 1 → bit w.desig ≤ 1 → bit w.cond ≤ 1 → bit w.writer_waits ≤ 1 → bit w.all_false ≤ 1 → bit w.long ≤ 1 → n / 256 ≡ w.readers
    readers w n is a b c d e f g l = omega arith

-- a number that is not refused is its word's
pub read_back : (bits : ℕ) (w : Word) → w ≡ word_of bits → bits / 256 ≤ 64 → ((w.write ≡ true) × (bits / 256 ≤ 0)) ⊎ (w.write ≡ false) →
    (w ≡ word_of bits) × (number_of w ≡ bits) × IsPackable w
unfolding word_of
read_back bits w is few free = (is, rw is (encoded bits), record { few = rw is few; alone = alone w.readers (ap (λ w. w.readers) is) free })
  where
    alone : (readers : ℕ) → readers ≡ bits / 256 → ((w.write ≡ true) × (bits / 256 ≤ 0)) ⊎ (w.write ≡ false) → w.write ≡ true → readers ≡ 0
    alone readers e (inl p) writes = omega (arith, e, p.1)
    alone readers e (inr p) writes = absurd (cc)
