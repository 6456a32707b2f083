-- The rule of an environment's table, whose words stand as `table_words.rt` names them: the clock at CLOCK, the next note's number at NEXT, the notes from NOTES on, and the seats' bells from BELLS on.
use Rattle.std.specs.Prelude.{◌≡◌, ℕ, ◌+◌, ◌^◌, ◌<◌, ◌≤◌, List, [], length, slice_index}
use Rattle.ns_note.specs.Names.{EnvAct, EnvEvent, EnvPlain, EnvView, Every, HoldsBy, IsLawful, LoadClock, LoadNext, LoadNote, MoveClock, NoteWord, Nothing, NotifyNote, StoreNote, TableState, TakeNext, ViewFits, ViewsOf, adds, is_numbered, numbered, state_of, tally}
use Rattle.ns_note.specs.Words.{WordFits, word_of}

-- ---- the words

-- a word is that of a clock, which has room beside a deadline's bit
abbrev pub IsClockWord : ℕ → ℕ → Type 0
IsClockWord word clock = (word ≡ clock) × (clock < 2 ^ 54)

-- a word is that of a note, which has room in it
abbrev pub IsNoteWord : ℕ → NoteWord → Type 0
IsNoteWord word note = (word ≡ word_of note) × WordFits note

-- The words are those of the clock, of the next note's number and of the notes. Each bell is rung or set back, and nothing more is said of it.
pub record AreWordsOf (plain : EnvPlain) (words : List ℕ) : Type 0 where
  pub width : length words ≡ 130
  pub clock : IsClockWord (slice_index words 0) plain.clock
  pub next : slice_index words 1 ≡ plain.next
  pub notes : (note : ℕ) → note < 64 → IsNoteWord (slice_index words (note + 2)) (state_of (plain.notes note))
  pub bells : (seat : ℕ) → seat < 64 → slice_index words (seat + 66) ≤ 1

-- the word that a step is on
abbrev pub word_at : EnvAct → ℕ
word_at LoadNext = 1
word_at TakeNext = 1
word_at (StoreNote note parent deadline) = note + 2
word_at (NotifyNote note) = note + 2
word_at (MoveClock moment) = 0
word_at LoadClock = 0
word_at (LoadNote note) = note + 2

-- a word is that of what a step is on, where the clock and the notes stand so
abbrev pub IsWordAt : EnvAct → EnvPlain → ℕ → Type 0
IsWordAt LoadNext plain word = word ≡ plain.next
IsWordAt TakeNext plain word = word ≡ plain.next
IsWordAt (StoreNote note parent deadline) plain word = IsNoteWord word (state_of (plain.notes note))
IsWordAt (NotifyNote note) plain word = IsNoteWord word (state_of (plain.notes note))
IsWordAt (MoveClock moment) plain word = IsClockWord word plain.clock
IsWordAt LoadClock plain word = IsClockWord word plain.clock
IsWordAt (LoadNote note) plain word = IsNoteWord word (state_of (plain.notes note))

-- ---- the rule

-- what all seats know, a list for each seat of the table
abbrev pub Views : Type 0
Views = ViewsOf EnvView

-- 1 for a seat that goes to take a number
abbrev pub is_adding : EnvView → ℕ
is_adding view = adds view.making

-- 1 for the seat of this number
abbrev pub is_seat : ℕ → EnvView → ℕ
is_seat = is_numbered (λ view. view.seat)

-- The rule: the words are those of a clock and notes that are lawful with this history, and what each of the seats knows fits it. By that the next number is at most 127.
pub record IsRuled (seat_count : ℕ) (words : List ℕ) (views : Views) (history : List EnvEvent) : Type 0 where
  pub plain : EnvPlain
  pub words_are : AreWordsOf plain words
  pub lawful : IsLawful seat_count plain (tally is_adding views) history
  pub few : seat_count ≤ 64
  pub seats : tally (λ _. 1) views ≡ seat_count
  pub once : (seat : ℕ) → tally (is_seat seat) views ≤ 1
  pub each : Every (Every (ViewFits seat_count history)) views

-- a seat that has made no step
abbrev pub fresh_seat : ℕ → ℕ → EnvView
fresh_seat seat_count seat = record { seat_count = seat_count; seat = seat; making = Nothing; seen = []; mine = [] }

-- the first views of so many seats, from a number on
abbrev pub fresh : ℕ → ℕ → ℕ → List EnvView
fresh seat_count = numbered (fresh_seat seat_count)

-- The rule of a table with so many seats: some history is as it says.
abbrev pub Holds : {S : Type 0} → ℕ → TableState S (List EnvView) → Type 0
Holds seat_count = HoldsBy (λ words homes views history. IsRuled seat_count words views history)
