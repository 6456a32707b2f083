-- One bit of a word's number, or the count of readers, in place of another.
use Rattle.std.proofs.Common.{Bool, ap, arith, refl, sym, ℕ, ◌*◌, ◌+◌, ◌-◌, ◌<◌, ◌^◌, ◌≡◌, ◌≤◌}
use Rattle.ns_word.proofs.Prelude.{Bit, Word, bit, encoded, is_set, number_of, value_of_bit, word_of, word_with, ◌∙◌}
use Rattle.ns_word.specs.declared.number.Bit.TheVariants as TheBit
use Rattle.ns_word.proofs.Codes.{bit_few, decoded}

-- what is taken from a number and added to it makes the other word's
pub record Puts (w' : Word) (n old new : ℕ) : Type 0 where
  pub fits : n - old + new < 2 ^ 64
  pub is : word_of (n - old + new) ≡ w'

number_few : (w : Word) → w.readers < 2 ^ 56 → number_of w < 2 ^ 64
number_few w few = omega (arith, few, bit_few w.write, bit_few w.spin, bit_few w.waiting, bit_few w.desig, bit_few w.cond, bit_few w.writer_waits, bit_few w.all_false, bit_few w.long)

-- what a word's number has, its number has
pub has : (w : Word) (n old : ℕ) → word_of n ≡ w → old ≤ number_of w → old ≤ n
has w n old view less = omega (arith, sym (ap number_of view) ∙ encoded n, less)

pub puts : (w w' : Word) (n old new : ℕ) → word_of n ≡ w → n < 2 ^ 64 → w'.readers ≡ w.readers → old ≤ number_of w → number_of w + new ≡ number_of w' + old → Puts w' n old new
puts w w' n old new view fits readers less sum =
    let own : number_of w ≡ n = sym (ap number_of view) ∙ encoded n in
    let whole : number_of w < 2 ^ 64 = rw own fits in let few : w.readers < 2 ^ 56 = omega (arith, whole) in
    let low = number_few w' (rw readers few) in
    let made : n - old + new ≡ number_of w' = omega (arith, own, less, sum) in
    record {
      fits = rw made low;
      is = ap word_of made ∙ decoded w';
    }

-- a bit of this value, which was so, is put so
one : (w w' : Word) (n old new value : ℕ) (was is set : Bool) → word_of n ≡ w → n < 2 ^ 64 → is ≡ was → old ≡ value * bit is → new ≡ value * bit set → w'.readers ≡ w.readers → value * bit was ≤ number_of w → number_of w + value * bit set ≡ number_of w' + value * bit was →
    (old ≤ n) × Puts w' n old new
one w w' n old new value was is set view low same had puts_in readers less sum =
    let own : old ≡ value * bit was = had ∙ ap (λ b. value * bit b) same in
    (has w n old view (rw own less), puts w w' n old new view low readers (rw own less) (rw (own, puts_in) sum))

pub put : (b : Bit) (set : Bool) (w : Word) (n old new : ℕ) → word_of n ≡ w → n < 2 ^ 64 → old ≡ value_of_bit b * bit (is_set n (value_of_bit b)) → new ≡ value_of_bit b * bit set → (old ≤ n) × Puts (word_with b set w) n old new
unfolding word_of
put TheBit.Write set w n old new view low had gives = one w _ n old new 1 w.write (is_set n 1) set view low (ap (λ (w : Word). w.write) view) had gives refl (omega arith) (omega arith)
put TheBit.Spin set w n old new view low had gives = one w _ n old new 2 w.spin (is_set n 2) set view low (ap (λ (w : Word). w.spin) view) had gives refl (omega arith) (omega arith)
put TheBit.Waiting set w n old new view low had gives = one w _ n old new 4 w.waiting (is_set n 4) set view low (ap (λ (w : Word). w.waiting) view) had gives refl (omega arith) (omega arith)
put TheBit.Desig set w n old new view low had gives = one w _ n old new 8 w.desig (is_set n 8) set view low (ap (λ (w : Word). w.desig) view) had gives refl (omega arith) (omega arith)
put TheBit.Cond set w n old new view low had gives = one w _ n old new 16 w.cond (is_set n 16) set view low (ap (λ (w : Word). w.cond) view) had gives refl (omega arith) (omega arith)
put TheBit.WriterWaits set w n old new view low had gives = one w _ n old new 32 w.writer_waits (is_set n 32) set view low (ap (λ (w : Word). w.writer_waits) view) had gives refl (omega arith) (omega arith)
put TheBit.AllFalse set w n old new view low had gives = one w _ n old new 64 w.all_false (is_set n 64) set view low (ap (λ (w : Word). w.all_false) view) had gives refl (omega arith) (omega arith)
put TheBit.Long set w n old new view low had gives = one w _ n old new 128 w.long (is_set n 128) set view low (ap (λ (w : Word). w.long) view) had gives refl (omega arith) (omega arith)

-- one reader more
pub more : (w : Word) (n : ℕ) → word_of n ≡ w → w.readers < 255 → (n + 256 < 2 ^ 64) × (word_of (n + 256) ≡ record w { readers = w.readers + 1 })
more w n view few =
    let own : number_of w ≡ n = sym (ap number_of view) ∙ encoded n in
    let w' : Word = record w { readers = w.readers + 1 } in
    let low = number_few w (omega (arith, few)) in
    let high = number_few w' (omega (arith, few)) in
    let made : n + 256 ≡ number_of w' = omega (arith, own) in
    (rw made high, ap word_of made ∙ decoded w')

-- one less, where there is one
pub less : (w : Word) (n : ℕ) → word_of n ≡ w → 0 < w.readers → (256 ≤ n) × (word_of (n - 256) ≡ record w { readers = w.readers - 1 })
less w n view some =
    let own : number_of w ≡ n = sym (ap number_of view) ∙ encoded n in
    let w' : Word = record w { readers = w.readers - 1 } in
    let made : n - 256 ≡ number_of w' = omega (arith, own, some) in
    (omega (arith, own, some), ap word_of made ∙ decoded w')

-- and where there is none
pub none : (w : Word) (n : ℕ) → word_of n ≡ w → w.readers ≡ 0 → word_of n ≡ record w { readers = w.readers - 1 }
none w n view zero = rw zero (view ∙ ap (λ r. record w { readers = r }) zero)
