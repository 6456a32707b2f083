-- The lock word has a number, and so has the word that a seat has last seen.
use Rattle.std.proofs.Common.{List, arith, subst, sym, ℕ, ◌≡◌, ◌≤◌}
use Rattle.ns_word.proofs.Prelude.{Acquire, Act, Effect, Event, Found, IsLawful, IsPackable, LoadWord, LockState, Part, Release, ReleaseReturning, ReturnQueues, Saw, TakeQueues, Taking, ToChange, ToQueue, Truths, WaitReturning, Word, readers, word_taken}
use Rattle.ns_word.proofs.Ranges.{readers_most}

pub packable : {C : Type 0} {N : ℕ} (truths : Truths C) (seats : ℕ) (h : List (Event C N)) (s : LockState C N) → seats ≤ 64 → IsLawful truths seats h s → IsPackable s.word
packable truths seats h s few p =
    let most = readers_most truths seats h s p in
    let count : s.word.readers ≡ readers s.views = p.readers_counted in
    record { few = omega (arith, most, few, count); alone = λ e. let none : readers s.views ≡ 0 = p.one_writer.alone e in omega (arith, count, none) }

-- who takes the queues doesn't change who holds the lock
pub taken_packable : (taking : Taking) (word : Word) → IsPackable word → IsPackable (word_taken taking word)
taken_packable ToChange word p = record { few = p.few; alone = p.alone }
taken_packable (ToQueue mode arrival) word p = record { few = p.few; alone = p.alone }

-- a word that was found has a number
abbrev pub FoundFits : Found → Type 0
FoundFits (Saw word) = IsPackable word
FoundFits found = Unit {0}

-- what a step finds is the lock's word, if it finds one
pub found_fits : {C : Type 0} {N : ℕ} (truths : Truths C) (seat : ℕ) (act : Act C) (old : Part C N) (found : Found) (new : Part C N) (commits : List (Event C N)) → IsPackable old.word → Effect truths seat act old found new commits → FoundFits found
found_fits truths seat LoadWord old (Saw word) new commits p e = subst IsPackable (sym e.0) p
found_fits truths seat (Acquire aim arrival last) old (Saw word) new commits p e = subst IsPackable (sym e.0) p
found_fits truths seat (TakeQueues taking last) old (Saw word) new commits p e = subst IsPackable (sym e.0) p
found_fits truths seat (ReturnQueues change last) old (Saw word) new commits p e = subst IsPackable (sym e.0) p
found_fits truths seat (Release releasing last) old (Saw word) new commits p e = subst IsPackable (sym e.0) p
found_fits truths seat (ReleaseReturning releasing last) old (Saw word) new commits p e = subst IsPackable (sym e.0) p
found_fits truths seat (WaitReturning wait again last) old (Saw word) new commits p e = subst IsPackable (sym e.0) p
found_fits truths seat act old (Saw word) new commits p e = absurd e
found_fits truths seat act old found new commits p e = tt
