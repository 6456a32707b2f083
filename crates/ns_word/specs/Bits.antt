-- The bits of the lock word, one by one.
use Rattle.ns_word.specs.Names.{Bit, Bool, Word, ℕ}
use Rattle.ns_word.specs.declared.number.Bit.TheVariants as TheBit

-- what a bit counts in the number of a word
abbrev pub value_of_bit : Bit → ℕ
value_of_bit TheBit.Write = 1
value_of_bit TheBit.Spin = 2
value_of_bit TheBit.Waiting = 4
value_of_bit TheBit.Desig = 8
value_of_bit TheBit.Cond = 16
value_of_bit TheBit.WriterWaits = 32
value_of_bit TheBit.AllFalse = 64
value_of_bit TheBit.Long = 128

-- the same word, but for this bit
abbrev pub word_with : Bit → Bool → Word → Word
word_with TheBit.Write set word = record word { write = set }
word_with TheBit.Spin set word = record word { spin = set }
word_with TheBit.Waiting set word = record word { waiting = set }
word_with TheBit.Desig set word = record word { desig = set }
word_with TheBit.Cond set word = record word { cond = set }
word_with TheBit.WriterWaits set word = record word { writer_waits = set }
word_with TheBit.AllFalse set word = record word { all_false = set }
word_with TheBit.Long set word = record word { long = set }
