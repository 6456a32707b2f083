-- What a step finds is what the one word says that it loads or compares.
use Rattle.std.proofs.Common.{Bool, List, None, Option, Some, ap, cond, eq-eqb, eqb, false, ne_eqb, refl, sym, ℕ, ◌≡◌, ◌≢◌, ◌≤◌}
use Rattle.ns_word.proofs.Prelude.{Acquire, Act, ArmFlag, Cell, Effect, Event, Flag, Found, Held, IsLawful, IsLook, JudgeMet, JudgeQuiet, Left, LoadCell, LoadFlag, LoadWord, LockState, Look, Made, Paid, Part, PayWake, Quiet, Release, ReleaseReturning, ReturnQueues, Saw, Scanned, SeatView}
use Rattle.ns_word.proofs.Prelude.{SectionFits, Step, StoreCell, TakeQueues, Tested, Truths, WaitReturning, Walk, Woke, Word, before_in, content_at, exchanged, found_of, number_of, owes_more, part_of, row_in, scanned, standing_after, want_of, word_of, ◌∙◌}
use Rattle.ns_word.proofs.Codes.{decoded}
use Rattle.ns_word.proofs.Acts.{view_fits}

-- an exchange is made where the word is the one last seen
made_at : (word last : Word) (made : Found) → last ≡ word → exchanged (number_of word) last made ≡ made
made_at word last made e = ap (λ b. cond b made (Saw (word_of (number_of word)))) (eq-eqb (number_of last) (number_of word) (ap number_of e))

-- and refused where it is another
refused_at : (word last seen : Word) (made : Found) → seen ≡ word → seen ≢ last → Saw seen ≡ exchanged (number_of word) last made
refused_at word last seen made e ne =
    let apart : eqb (number_of last) (number_of word) ≡ false = ne_eqb (number_of last) (number_of word) (λ same. ne (e ∙ sym (decoded word) ∙ sym (ap word_of same) ∙ decoded last)) in
    ap Saw (e ∙ sym (decoded word)) ∙ sym (ap (λ b. cond b made (Saw (word_of (number_of word)))) apart)

module _ {C : Type 0} {N : ℕ} (truths : Truths C) (old : LockState C N) (view : SeatView C N) where
  -- the row of the section in hand is the row's cells
  abbrev RowFits : Type 0
  RowFits = (held : Held C N) → view.held ≡ Some held → held.row ≡ old.row

  scans : (held : Held C N) → view.held ≡ Some held → RowFits → (owes : Bool) (tests : ℕ) → scanned truths old.row old.lists.lock ≡ Scanned owes tests → Scanned owes tests ≡ scanned truths (row_in view.held) old.lists.lock
  scans held is row owes tests e = sym e ∙ ap (λ r. scanned truths r old.lists.lock) (sym (row held is) ∙ ap row_in (sym is))

  finds : (act : Act C) (found : Found) (new : Part C N) (commits : List (Event C N)) → RowFits → (IsLook act → ⊥) → Effect truths view.seat act (part_of old view.held view.owed) found new commits → found ≡ found_of truths act view old.lists (content_at view.seat act old)
  finds LoadWord (Saw word) new commits row other e = ap Saw (e.0 ∙ sym (decoded old.word))
  finds (Acquire aim arrival last) (Saw word) new commits row other e = refused_at old.word last word Made e.0 e.1
  finds (Acquire aim arrival last) Made new commits row other e = sym (made_at old.word last Made e.0)
  finds (TakeQueues taking last) (Saw word) new commits row other e = refused_at old.word last word Made e.0 e.1
  finds (TakeQueues taking last) Made new commits row other e = sym (made_at old.word last Made e.0)
  finds (ReturnQueues change last) (Saw word) new commits row other e = refused_at old.word last word _ e.0 e.1
  finds (ReturnQueues change last) Made new commits row other e = sym (made_at old.word last _ e.1 ∙ e.0)
  finds (ReturnQueues change last) (Left stood) new commits row other e = sym (made_at old.word last _ e.1 ∙ e.0)
  finds (ReturnQueues change last) (Woke owes) new commits row other e = sym (made_at old.word last _ e.1 ∙ e.0)
  finds (Release releasing last) (Saw word) new commits row other e = refused_at old.word last word Made e.0 e.1
  finds (Release releasing last) Made new commits row other e = sym (made_at old.word last Made e.3)
  finds (ReleaseReturning releasing last) (Saw word) new commits row other e = refused_at old.word last word _ e.0 e.1
  finds (ReleaseReturning releasing last) (Scanned owes tests) new commits row other e = scans e.0 e.1 row owes tests (sym (λ i. Scanned (e.5 i) (e.6 i))) ∙ sym (made_at old.word last _ e.3)
  finds (WaitReturning wait again last) (Saw word) new commits row other e = refused_at old.word last word _ e.0 e.1
  finds (WaitReturning wait again last) (Scanned owes tests) new commits row other e = scans e.0 e.1 row owes tests (sym (λ i. Scanned (e.5 i) (e.6 i))) ∙ sym (made_at old.word last _ e.3)
  finds (LoadCell i) (Cell v) new commits row other e = ap Cell e.0
  finds (JudgeQuiet i) (Quiet is_quiet) new commits row other e = ap Quiet (e.2 ∙ ap (λ (held : Option (Held C N)). truths.quiet (before_in held) (row_in held)) (sym e.1))
  finds (JudgeMet i c) (Tested is_met) new commits row other e = ap Tested (e.2 ∙ ap (λ (held : Option (Held C N)). truths.holds c (row_in held)) (sym e.1))
  finds (StoreCell i v) Made new commits row other e = refl
  finds ArmFlag Made new commits row other e = refl
  finds PayWake (Paid owes) new commits row other e = ap Paid e.4 ∙ ap owes_more (sym e.2)
  finds LoadFlag (Flag v) new commits row other e = ap Flag e.0
  finds (Look limits again) found new commits row other e = absurd (other tt)
  finds act found new commits row other e = absurd e

-- a section in hand has the row's cells
row_fits : {C : Type 0} {N : ℕ} (truths : Truths C) (seats : ℕ) (h : List (Event C N)) (old : LockState C N) (view : SeatView C N) (walk : Option (Walk C)) (held : Option (Held C N)) → view.held ≡ held → SectionFits (standing_after h) old.row view.seat walk held → RowFits truths old view
row_fits truths seats h old view walk None e p = λ held is. let never : None ≡ Some held = sym e ∙ is in absurd (cc)
row_fits truths seats h old view walk (Some was) e p = λ held is. let one : Some was ≡ Some held = sym e ∙ is in let same : was ≡ held = cc in ap (λ x. x.row) (sym same) ∙ p.cells

pub step_finds : {C : Type 0} {N : ℕ} (truths : Truths C) (seats : ℕ) (h : List (Event C N)) (old : LockState C N) (view : SeatView C N) (found : Found) (new : LockState C N) (commits : List (Event C N)) → seats ≤ 64 →
    (step : Step truths old view found new commits) → IsLawful truths seats h old → (IsLook (want_of step.walk) → ⊥) →
    found ≡ found_of truths (want_of step.walk) view old.lists (content_at view.seat (want_of step.walk) old)
step_finds truths seats h old view found new commits few step p other =
    let fits = view_fits truths seats few h old step.front view step.back step.was p in
    finds truths old view (want_of step.walk) found _ commits (row_fits truths seats h old view view.walk view.held refl fits.section) other step.effect
