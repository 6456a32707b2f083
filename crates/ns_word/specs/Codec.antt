-- The lock word as one number.
use Rattle.std.specs.Prelude.{Bool, if◌then◌else◌, true, ℕ, ◌%◌, ◌*◌, ◌+◌, ◌/◌, ◌==◌, ◌≡◌, ◌≤◌, ◌⊎◌}
use Rattle.ns_word.specs.Names.{Word}

-- a bit as a number
abbrev pub bit : Bool → ℕ
bit b = if b then 1 else 0

-- Each bit of the word has a value, and each reader counts 256.
abbrev pub number_of : Word → ℕ
number_of w =
    bit w.write + 2 * bit w.spin + 4 * bit w.waiting + 8 * bit w.desig + 16 * bit w.cond + 32 * bit w.writer_waits + 64 * bit w.all_false
    + 128 * bit w.long + 256 * w.readers

-- whether the bit of this value is set
abbrev pub is_set : ℕ → ℕ → Bool
is_set bits value = (bits / value) % 2 == 1

-- the word whose bits and count of readers the number has
unfoldable pub word_of : ℕ → Word
word_of bits = record {
  write = is_set bits 1;
  spin = is_set bits 2;
  waiting = is_set bits 4;
  desig = is_set bits 8;
  cond = is_set bits 16;
  writer_waits = is_set bits 32;
  all_false = is_set bits 64;
  long = is_set bits 128;
  readers = bits / 256;
}

-- At most 64 seats read, and none where one writes: such a word has a number.
pub record IsPackable (w : Word) : Type 0 where
  pub few : w.readers ≤ 64
  pub alone : w.write ≡ true → w.readers ≡ 0

-- The number is no word's: a writer beside readers, or more than 64 readers.
abbrev pub IsBad : ℕ → Type 0
IsBad bits = ((is_set bits 1 ≡ true) × (256 ≤ bits)) ⊎ (65 * 256 ≤ bits)
