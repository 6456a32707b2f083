-- The words of a table, one of them changed with what it is the word of.
use Rattle.std.proofs.Common.{List, arith, get_or, get_or-set_other, get_or-set_same, inl, inr, length, length-set, refl, replicate, set, subst, suc, sym, zero, ℕ, ◌+◌, ◌<◌, ◌∙◌, ◌≡◌, ◌≢◌, ◌≤◌}
use Rattle.ns_note.proofs.Prelude.{AreWordsOf, EnvAct, EnvPlain, IsClockWord, IsNoteWord, IsWordAt, LoadClock, LoadNext, LoadNote, MoveClock, NoteStanding, NotifyNote, StoreNote, TakeNext, but-there, but_at, cases_eq, fresh_plain, length-replicate, made_note, notified_note, outcome, state_of}
use Rattle.ns_note.proofs.Prelude.{word_at}

module _ (plain : EnvPlain) (words : List ℕ) (are : AreWordsOf plain words) where
  clock_set : (clock word : ℕ) → IsClockWord word clock → AreWordsOf (record plain { clock = clock }) (set words 0 word)
  clock_set clock word is = let width = are.width in record {
    width = length-set words 0 word ∙ are.width;
    clock = let within : 0 < length words = omega (arith, width) in rw get_or-set_same is;
    next = let apart : 1 ≢ 0 = (λ same. omega (arith, same)) in get_or-set_other words 0 1 word 0 apart ∙ are.next;
    notes = λ n below. let apart : n + 2 ≢ 0 = (λ same. omega (arith, same)) in rw get_or-set_other (are.notes n below);
    bells = λ n below. let apart : n + 66 ≢ 0 = (λ same. omega (arith, same)) in rw get_or-set_other (are.bells n below);
  }

  next_set : (next word : ℕ) → word ≡ next → AreWordsOf (record plain { next = next }) (set words 1 word)
  next_set next word is = let width = are.width in record {
    width = length-set words 1 word ∙ are.width;
    clock = let apart : 0 ≢ 1 = (λ same. omega (arith, same)) in subst (λ n. IsClockWord n plain.clock) (sym (get_or-set_other words 1 0 word 0 apart)) are.clock;
    next = let within : 1 < length words = omega (arith, width) in rw get_or-set_same is;
    notes = λ n below. let apart : n + 2 ≢ 1 = (λ same. omega (arith, same)) in rw get_or-set_other (are.notes n below);
    bells = λ n below. let apart : n + 66 ≢ 1 = (λ same. omega (arith, same)) in rw get_or-set_other (are.bells n below);
  }

  note_set : (note word : ℕ) (notes : ℕ → NoteStanding) → note < 64 → ((n : ℕ) → n ≢ note → notes n ≡ plain.notes n) → IsNoteWord word (state_of (notes note)) → AreWordsOf (record plain { notes = notes }) (set words (note + 2) word)
  note_set note word notes low others is = let width = are.width in record {
    width = length-set words (note + 2) word ∙ are.width;
    clock = let apart : 0 ≢ note + 2 = (λ same. omega (arith, same)) in rw get_or-set_other are.clock;
    next = let apart : 1 ≢ note + 2 = (λ same. omega (arith, same)) in rw get_or-set_other are.next;
    notes = λ n below. elim (cases_eq n note) [
      | inl here ↦ let within : note + 2 < length words = omega (arith, width, low) in subst (λ (k : ℕ). IsNoteWord (get_or (set words (note + 2) word) (k + 2) 0) (state_of (notes k))) (sym here) (rw get_or-set_same is)
      | inr ne ↦ let apart : n + 2 ≢ note + 2 = (λ same. ne (omega (arith, same))) in rw get_or-set_other (subst (λ (s : NoteStanding). IsNoteWord (get_or words (n + 2) 0) (state_of s)) (sym (others n ne)) (are.notes n below))
    ];
    bells = λ n below. let apart : n + 66 ≢ note + 2 = (λ same. omega (arith, same, low)) in rw get_or-set_other (are.bells n below);
  }

  -- a bell is rung, or set back
  pub bell_set : (seat word : ℕ) → seat < 64 → word ≤ 1 → AreWordsOf plain (set words (seat + 66) word)
  bell_set seat word low most = let width = are.width in record {
    width = length-set words (seat + 66) word ∙ are.width;
    clock = let apart : 0 ≢ seat + 66 = (λ same. omega (arith, same)) in subst (λ n. IsClockWord n plain.clock) (sym (get_or-set_other words (seat + 66) 0 word 0 apart)) are.clock;
    next = let apart : 1 ≢ seat + 66 = (λ same. omega (arith, same)) in get_or-set_other words (seat + 66) 1 word 0 apart ∙ are.next;
    notes = λ n below. let apart : n + 2 ≢ seat + 66 = (λ same. omega (arith, same, below)) in rw get_or-set_other (are.notes n below);
    bells = λ n below. elim (cases_eq n seat) [
      | inl here ↦ let within : seat + 66 < length words = omega (arith, width, low) in subst (λ (k : ℕ). get_or (set words (seat + 66) word) (k + 66) 0 ≤ 1) (sym here) (rw get_or-set_same most)
      | inr ne ↦ let apart : n + 66 ≢ seat + 66 = (λ same. ne (omega (arith, same))) in rw get_or-set_other (are.bells n below)
    ];
  }

  -- a step is on the word of what it is on,
  pub word_found : (act : EnvAct) → word_at act < 66 → IsWordAt act plain (get_or words (word_at act) 0)
  word_found LoadNext low = are.next
  word_found TakeNext low = are.next
  word_found (StoreNote note parent deadline) low = are.notes note (omega (arith, low))
  word_found (NotifyNote note) low = are.notes note (omega (arith, low))
  word_found (MoveClock moment) low = are.clock
  word_found LoadClock low = are.clock
  word_found (LoadNote note) low = are.notes note (omega (arith, low))

  -- and changes no other
  pub word_set : (seat : ℕ) (act : EnvAct) (word : ℕ) → word_at act < 66 → IsWordAt act (outcome seat act plain).plain word → AreWordsOf (outcome seat act plain).plain (set words (word_at act) word)
  word_set seat LoadNext word low is = next_set plain.next word is
  word_set seat TakeNext word low is = next_set (plain.next + 1) word is
  word_set seat (StoreNote note parent deadline) word low is = note_set note word (but_at note (made_note parent deadline) plain.notes) (omega (arith, low)) (λ n ne. but-there note n (made_note parent deadline) plain.notes ne) is
  word_set seat (NotifyNote note) word low is = note_set note word (but_at note (notified_note (plain.notes note)) plain.notes) (omega (arith, low)) (λ n ne. but-there note n (notified_note (plain.notes note)) plain.notes ne) is
  word_set seat (MoveClock moment) word low is = clock_set (outcome seat (MoveClock moment) plain).plain.clock word is
  word_set seat LoadClock word low is = clock_set plain.clock word is
  word_set seat (LoadNote note) word low is = note_set note word plain.notes (omega (arith, low)) (λ n ne. refl) is

-- ---- the words of a new table

get_zero : (k n : ℕ) → ◌≡◌ {A = ℕ} (get_or (replicate k 0) n 0) 0
get_zero zero n = refl
get_zero (suc k) zero = refl
get_zero (suc k) (suc n) = get_zero k n

pub zeros_are : (k : ℕ) → k ≡ 130 → AreWordsOf fresh_plain (replicate k 0)
zeros_are k is = record { width = length-replicate k 0 ∙ is; clock = (get_zero k 0, omega arith); next = get_zero k 1; notes = λ n below. (get_zero k (n + 2), (tt, tt)); bells = λ n below. let zero_there = get_zero k (n + 66) in omega (arith, zero_there) }
