-- The decisions by a word, and the words that the steps make of one.
use Rattle.std.specs.Prelude.{Bool, false, if◌then◌else◌, nat_lt, not, true, ℕ, ◌&&◌, ◌+◌, ◌-◌, ◌==◌, ◌||◌}
use Rattle.ns_word.specs.Names.{Arrival, AsFresh, AsWoken, Bits, Mode, QuietWriter, Read, Reader, Releasing, Taking, ToChange, ToQueue, Word, Write, Writer, is_write}

-- the mode of the section that is left
abbrev pub mode_released : Releasing → Mode
mode_released Reader = Read
mode_released Writer = Write
mode_released QuietWriter = Write

-- the seat was woken from the lock list
abbrev pub is_woken : Arrival → Bool
is_woken AsFresh = false
is_woken (AsWoken tries) = true

-- the failed tries with which it queues, if it can't acquire: one more where it was woken, and none above 30
abbrev pub tries_of : Arrival → ℕ
tries_of AsFresh = 0
tries_of (AsWoken tries) = if nat_lt tries 30 then tries + 1 else 30

-- A lock with this word may be acquired, fresh or woken: a fresh caller stands back where one waits long, and a fresh reader where a writer waits.
abbrev pub may_acquire : Mode → Arrival → Word → Bool
may_acquire Write arrival word = not word.write && ((word.readers == 0) && (is_woken arrival || not word.long))
may_acquire Read arrival word = not word.write && (is_woken arrival || (not word.writer_waits && not word.long))

-- nobody who waits could go on: other readers stay, or all conditions are known to be false
abbrev pub is_excused : Releasing → Word → Bool
is_excused Writer word = false
is_excused QuietWriter word = word.all_false
is_excused Reader word = nat_lt 1 word.readers || word.all_false

-- A release has to look for waiters to wake.
abbrev pub needs_scan : Releasing → Word → Bool
needs_scan releasing word = word.waiting && not word.desig && not (is_excused releasing word)

-- an acquire; one that was woken is on its way no more
abbrev pub word_acquired : Mode → Arrival → Word → Word
word_acquired Write arrival word = record word { write = true; desig = word.desig && not (is_woken arrival) }
word_acquired Read arrival word = record word { readers = word.readers + 1; desig = word.desig && not (is_woken arrival) }

-- the queues are taken; by one that queues, the word tells of it at once
abbrev pub word_taken : Taking → Word → Word
word_taken ToChange word = record word { spin = true }
word_taken (ToQueue mode arrival) word =
    record word { spin = true; waiting = true; writer_waits = word.writer_waits || is_write mode; all_false = false; desig = word.desig && not (is_woken arrival) }

-- somebody holds the lock
abbrev pub is_held : Word → Bool
is_held word = word.write || nat_lt 0 word.readers

-- the queues are put back, with a lock list that these bits tell of, to which somebody was moved or nobody
abbrev pub word_returned : Bool → Bits → Word → Word
word_returned moved bits word =
    record word { spin = false; waiting = bits.waiting; cond = bits.conditional; writer_waits = bits.writer_waits; long = bits.long; all_false = word.all_false && bits.waiting && not moved }

-- a release without a scan; the row may have changed, but for a reader's and a quiet one
abbrev pub word_released : Releasing → Word → Word
word_released Writer word = record word { write = false; all_false = false }
word_released QuietWriter word = record word { write = false }
word_released Reader word = record word { readers = word.readers - 1 }

-- the queues are put back and the section is released together, after a scan that took somebody or nobody
abbrev pub word_released_returning : Releasing → Bool → Bits → Word → Word
word_released_returning releasing took bits word =
    record (word_released releasing word) {
      spin = false;
      waiting = bits.waiting;
      cond = bits.conditional;
      writer_waits = bits.writer_waits;
      long = bits.long;
      desig = took || word.desig;
      all_false = bits.waiting && not took;
    }

-- how a section in this mode is released by a wait
abbrev pub releasing_of : Mode → Releasing
releasing_of Write = Writer
releasing_of Read = Reader
