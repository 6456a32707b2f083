-- A number is that of its word.
use Rattle.std.specs.Prelude.{ℕ, ◌%◌, ◌/◌, ◌<◌, ◌==◌, ◌≡◌}
use Rattle.std.proofs.Common.{arith}
use Rattle.std.proofs.lemmas.Bool.Decides.{nat_tests}
use Rattle.ns_word.specs.Codec.{bit, number_of, word_of}

-- a number's last digit is that of its bit
pub digit : (n : ℕ) → bit (n % 2 == 1) ≡ n % 2
digit n = last (n % 2) (omega arith) where
  last : (d : ℕ) → d < 2 → bit (d == 1) ≡ d
  last d few = grind (arith, nat_tests)

pub encoded : (bits : ℕ) → number_of (word_of bits) ≡ bits
unfolding word_of
encoded bits =
    let a = digit (bits / 1) in
    let b = digit (bits / 2) in
    let c = digit (bits / 4) in
    let d = digit (bits / 8) in
    let e = digit (bits / 16) in
    let f = digit (bits / 32) in
    let g = digit (bits / 64) in
    let l = digit (bits / 128) in
    omega (arith, a, b, c, d, e, f, g, l)
