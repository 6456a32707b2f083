-- What the steps leave of the sections.
use Rattle.std.proofs.Common.{Bool, List, None, Option, Some, [], ap, arith, cond, eq-eqb, eqb-true, false, inl, inr, length, length-set, ne_eqb, not, refl, slice_set, subst, sym, true, ℕ, ◌++◌, ◌+◌, ◌-◌, ◌<◌, ◌∷◌, ◌≡◌, ◌≢◌, ◌≤◌, ◌⊎◌}
use Rattle.ns_word.proofs.Prelude.{Any, CameBack, Cause, Ended, EntryFits, Event, Exit, ExitFits, Expired, Held, HeldFits, IsBySeats, IsExpected, IsLegal, IsLegalEvent, IsSettledBy, Locked, Met, Mode, ModeFits, Notified, OnCondition, OnVariables, OneWriter, Only, Opening, OwesAs, Phase, PlaceFits}
use Rattle.ns_word.proofs.Prelude.{Read, ReadersCounted, SeatView, SectionFits, Standing, Truths, Variables, ViewFits, Waiting, Walk, Woken, Word, Write, answer_of, both_ways, entry_of, every_join, every_parts, first_standing, is_met, is_reading, is_write, is_writing, left_phase, legal_append}
use Rattle.ns_word.proofs.Prelude.{one_if, phase_after, phase_before, phase_by, readers, section_of, standing_after, standing_from-append, standing_next, total_amid, who_of, writers, ◌∙◌}
use Rattle.ns_model.specs.declared.phase.Phase.TheVariants.{Left}
use Rattle.ns_word.proofs.Bases.{IsSameOrWoken, Move, Safe, apart_moves, apart_parts, each_moves, each_woken, left_event, left_is_legal, left_next, news, olds, one_set, view_of}

pub by_seats_more : {C : Type 0} {N : ℕ} (seats : ℕ) (h : List (Event C N)) (e : Event C N) → IsBySeats seats h → who_of e < seats → IsBySeats seats (h ++ e ∷ [])
by_seats_more seats [] e p q = (q, tt)
by_seats_more seats (d ∷ h) e p q = (p.0, by_seats_more seats h e p.1 q)

abbrev pub section : {C : Type 0} {N : ℕ} → Mode → Opening C → List ℕ → List ℕ → Held C N
section mode entry before row = record { mode = mode; entry = entry; before = before; row = row }

-- what a section in hand tells stays, but for the answer that is open; without one the phase of the place stays
pub record SameSection {C : Type 0} {N : ℕ} (walk : Option (Walk C)) (held : Option (Held C N)) (walk' : Option (Walk C)) (held' : Option (Held C N)) : Type 0 where
  pub writing : is_writing held' ≡ is_writing held
  pub reading : is_reading held' ≡ is_reading held
  pub fits : (now : Standing C) (row : List ℕ) (seat : ℕ) → SectionFits now row seat walk held → SectionFits now row seat walk' held'

pub same_section : {C : Type 0} {N : ℕ} (walk walk' : Option (Walk C)) (held : Option (Held C N)) → (held ≡ None → phase_by walk' ≡ phase_by walk) → SameSection walk held walk' held
same_section walk walk' None phase = record { writing = refl; reading = refl; fits = λ now row seat p. subst (λ expected. IsExpected expected (now.phases seat)) (sym (phase refl)) p }
same_section walk walk' (Some held) phase = record { writing = refl; reading = refl; fits = λ now row seat p. p }

met_of : (b : Bool) (cause : Cause) → b ≡ is_met (cond b Met (answer_of cause))
met_of true cause = refl
met_of false Expired = refl
met_of false Notified = refl

-- the entry of a section that is settled fits the phase that it comes from
pub entry_fits : {C : Type 0} (holds : C → List ℕ → Bool) (before : List ℕ) (mode : Mode) (entry : Opening C) → IsSettledBy holds before entry → EntryFits holds before mode (entry_of holds before entry) (phase_before mode entry)
entry_fits holds before mode Locked settled = tt
entry_fits holds before mode (CameBack (OnCondition c) (Woken by)) settled = (refl, settled, settled)
entry_fits holds before mode (CameBack (OnCondition c) (Ended cause)) settled = (refl, met_of (holds c before) cause, met_of (holds c before) cause)
entry_fits holds before mode (CameBack (OnVariables variables) (Woken None)) settled = absurd settled
entry_fits holds before mode (CameBack (OnVariables (Only k)) (Woken (Some j))) settled = (refl, sym (eqb-true k j settled), refl)
entry_fits holds before mode (CameBack (OnVariables (Any cvs)) (Woken (Some j))) settled = (refl, refl)
entry_fits holds before mode (CameBack (OnVariables (Only k)) (Ended Expired)) settled = (refl, eq-eqb k k refl, refl)
entry_fits holds before mode (CameBack (OnVariables (Only k)) (Ended Notified)) settled = (refl, eq-eqb k k refl, refl)
entry_fits holds before mode (CameBack (OnVariables (Any cvs)) (Ended cause)) settled = refl

-- a wake leaves all views as they are
pub after_wake : {C : Type 0} {N : ℕ} (truths : Truths C) (seats : ℕ) (h : List (Event C N)) (e : Event C N) (k : ℕ) (word : Word) (row : List ℕ) (views : List (SeatView C N)) → who_of e < seats → IsLegalEvent truths.holds (standing_after h) e →
    (standing_next (standing_after h) e).row ≡ (standing_after h).row →
    ((seat : ℕ) → IsSameOrWoken k ((standing_after h).phases seat) ((standing_next (standing_after h) e).phases seat)) →
    Safe truths seats h word row views → Safe truths seats (h ++ e ∷ []) word row views
after_wake {C} {N} truths seats h e k word row views low legal same phases p =
    let next = standing_next (standing_after h) e in
    let after : standing_after (h ++ e ∷ []) ≡ next = standing_from-append (first_standing N) h (e ∷ []) in
    let stays : (standing_after (h ++ e ∷ [])).row ≡ (standing_after h).row = ap (λ s. s.row) after ∙ same in
    record {
      one_writer = p.one_writer;
      count = p.count;
      one_history = record {
        legal = legal_append truths.holds (first_standing N) h (e ∷ []) p.one_history.legal (legal, tt);
        by_seats = by_seats_more seats h e p.one_history.by_seats low;
        each = rw after (each_woken truths seats k (standing_after h) next row views phases same p.one_history.each);
        free = λ f. p.one_history.free f ∙ sym stays;
        cells = p.one_history.cells;
        cells_after = ap length stays ∙ p.one_history.cells_after;
      };
      apart = p.apart;
    }

-- the word counts the sections in hand
abbrev Counted : {C : Type 0} {N : ℕ} → Word → List (SeatView C N) → Type 0
Counted word views = OneWriter word views × ReadersCounted word views

-- what an acquire makes of a free word, and what giving a section up makes of one: its write bit, and its readers
abbrev pub Acquires : Mode → Word → Bool → ℕ → Type 0
Acquires Write word write' readers' = (word.readers ≡ 0) × (write' ≡ true) × (readers' ≡ word.readers)
Acquires Read word write' readers' = (write' ≡ false) × (readers' ≡ word.readers + 1)

abbrev pub GivesUp : Mode → Word → Bool → ℕ → Type 0
GivesUp Write word write' readers' = (write' ≡ false) × (readers' ≡ word.readers)
GivesUp Read word write' readers' = (write' ≡ word.write) × (readers' ≡ word.readers - 1)

module _ {C : Type 0} {N : ℕ} (truths : Truths C) (seats : ℕ) (h : List (Event C N)) where
  -- ---- what the history has after an event of the seat

  after : (e : Event C N) → standing_after (h ++ e ∷ []) ≡ standing_next (standing_after h) e
  after e = standing_from-append (first_standing N) h (e ∷ [])

  -- after a section
  pub row_left : (who : ℕ) (held : Held C N) (exit : Exit C) → (standing_after (h ++ section_of truths.holds who held exit ∷ [])).row ≡ held.row
  row_left who held exit = ap (λ (s : Standing C). s.row) (after (section_of truths.holds who held exit))

  pub phases_there : (who : ℕ) (held : Held C N) (exit : Exit C) (seat : ℕ) → who ≢ seat → (standing_after (h ++ section_of truths.holds who held exit ∷ [])).phases seat ≡ (standing_after h).phases seat
  phases_there who held exit seat ne = ap (λ (s : Standing C). s.phases seat) (after (section_of truths.holds who held exit)) ∙ rw (ne_eqb who seat ne) refl

  pub phases_here : (who : ℕ) (held : Held C N) (exit : Exit C) → (standing_after (h ++ section_of truths.holds who held exit ∷ [])).phases who ≡ phase_after held.mode exit
  phases_here who held exit = ap (λ (s : Standing C). s.phases who) (after (section_of truths.holds who held exit)) ∙ rw (eq-eqb who who refl) refl

  -- after the seat has left its variables
  pub left_same : (who : ℕ) (variables : Variables) → (standing_after (h ++ left_event who variables ∷ [])).row ≡ (standing_after h).row
  left_same who variables = ap (λ (s : Standing C). s.row) (after (left_event who variables)) ∙ (left_next C N who variables (standing_after h)).1

  pub left_there : (who : ℕ) (variables : Variables) (seat : ℕ) → who ≢ seat → (standing_after (h ++ left_event who variables ∷ [])).phases seat ≡ (standing_after h).phases seat
  left_there who variables seat ne = ap (λ (s : Standing C). s.phases seat) (after (left_event who variables)) ∙ (left_next C N who variables (standing_after h)).2 seat ne

  pub left_here : (who : ℕ) (variables : Variables) (mode : Mode) → (standing_after h).phases who ≡ Waiting variables mode → (standing_after (h ++ left_event who variables ∷ [])).phases who ≡ Left variables mode
  left_here who variables mode was = ap (λ (s : Standing C). s.phases who) (after (left_event who variables)) ∙ (left_next C N who variables (standing_after h)).3 ∙ ap left_phase was

  keeps_row : (mode : Mode) (before row : List ℕ) → (mode ≡ Read → row ≡ before) → ModeFits mode before row
  keeps_row Write before row e = tt
  keeps_row Read before row e = e refl

  commits : (who : ℕ) (row : List ℕ) (held : Held C N) (exit : Exit C) → who < 64 → IsSettledBy truths.holds held.before held.entry → ExitFits truths.holds held.row exit → HeldFits (standing_after h) row who held →
      IsLegal truths.holds h → IsLegal truths.holds (h ++ section_of truths.holds who held exit ∷ [])
  commits who row held exit few settled leaves fits legal =
      legal_append truths.holds (first_standing N) h (section_of truths.holds who held exit ∷ []) legal (
        (
          few,
          record {
            starts = fits.starts;
            keeps = keeps_row held.mode held.before held.row fits.reads;
            enters = subst (λ phase. EntryFits truths.holds held.before held.mode (entry_of truths.holds held.before held.entry) phase) (sym fits.enters) (entry_fits truths.holds held.before held.mode held.entry settled);
            leaves = leaves;
          },
        ),
        tt,
      )

  -- a move, with any section before it and after it
  module _ (m : Move C N) where
    open m use {front, who, walk, owed, walk', owed', back}

    abbrev had : Option (Held C N) → List (SeatView C N)
    had held = olds (record m { held = held })

    abbrev has : Option (Held C N) → List (SeatView C N)
    has held = news (record m { held' = held })

    -- ---- what is counted

    writers_old : (held : Option (Held C N)) → writers (had held) ≡ writers front + (cond (is_writing held) 1 0 + writers back)
    writers_old held = total_amid (λ view. one_if (is_writing view.held)) front (view_of who walk held owed) back

    readers_old : (held : Option (Held C N)) → readers (had held) ≡ readers front + (cond (is_reading held) 1 0 + readers back)
    readers_old held = total_amid (λ view. one_if (is_reading view.held)) front (view_of who walk held owed) back

    writers_new : (held : Option (Held C N)) → writers (has held) ≡ writers front + (cond (is_writing held) 1 0 + writers back)
    writers_new held = total_amid (λ view. one_if (is_writing view.held)) front (view_of who walk' held owed') back

    readers_new : (held : Option (Held C N)) → readers (has held) ≡ readers front + (cond (is_reading held) 1 0 + readers back)
    readers_new held = total_amid (λ view. one_if (is_reading view.held)) front (view_of who walk' held owed') back

    counted_same : (word word' : Word) (held held' : Option (Held C N)) → word'.write ≡ word.write → word'.readers ≡ word.readers → is_writing held' ≡ is_writing held → is_reading held' ≡ is_reading held → Counted word (had held) → Counted word' (has held')
    counted_same word word' held held' same_write same_readers writing reading p =
        let w : writers (has held') ≡ writers (had held) = writers_new held' ∙ ap (λ b. writers front + (cond b 1 0 + writers back)) writing ∙ sym (writers_old held) in
        let r : readers (has held') ≡ readers (had held) = readers_new held' ∙ ap (λ b. readers front + (cond b 1 0 + readers back)) reading ∙ sym (readers_old held) in
        (record { bit = w ∙ p.0.bit ∙ ap (λ b. cond b 1 0) (sym same_write); alone = λ e. r ∙ p.0.alone (sym same_write ∙ e) }, same_readers ∙ p.1 ∙ sym r)

    counted_more : (mode : Mode) (entry : Opening C) (word word' : Word) (row : List ℕ) → word.write ≡ false → Acquires mode word word'.write word'.readers → Counted word (had None) → Counted word' (has (Some (section mode entry row row)))
    counted_more Write entry word word' row free is p =
        let held = Some (section {C = C} {N = N} Write entry row row) in
        let none : writers (had None) ≡ 0 = p.0.bit ∙ ap (λ b. cond b 1 0) free in
        let unit : ◌≡◌ {A = ℕ} (cond word'.write 1 0) 1 = rw is.1 refl in
        (record { bit = omega (arith, none, unit, writers_old None, writers_new held); alone = λ e. omega (arith, readers_old None, readers_new held, p.1, is.0) }, omega (arith, readers_old None, readers_new held, p.1, is.2))
    counted_more Read entry word word' row free is p =
        let held = Some (section {C = C} {N = N} Read entry row row) in
        let none : writers (had None) ≡ 0 = p.0.bit ∙ ap (λ b. cond b 1 0) free in
        let unit : ◌≡◌ {A = ℕ} (cond word'.write 1 0) 0 = rw is.0 refl in
        (record { bit = omega (arith, none, unit, writers_old None, writers_new held); alone = λ e. absurd (both_ways word'.write is.0 e) }, omega (arith, readers_old None, readers_new held, p.1, is.1))

    -- beside a writer nobody else has a section
    writes : (word : Word) (held : Held C N) → held.mode ≡ Write → Counted word (had (Some held)) → word.write ≡ true
    writes word held e p = let one : one_if (is_write held.mode) ≡ 1 = ap (λ mode. one_if (is_write mode)) e in one_set word.write (omega (arith, p.0.bit, writers_old (Some held), one))

    alone : (word : Word) (held : Held C N) → held.mode ≡ Write → Counted word (had (Some held)) → (writers front + readers front ≡ 0) × (writers back + readers back ≡ 0)
    alone word held e p =
        let one : one_if (is_write held.mode) ≡ 1 = ap (λ mode. one_if (is_write mode)) e in
        let write = writes word held e p in
        let unit : ◌≡◌ {A = ℕ} (cond word.write 1 0) 1 = rw write refl in
        let nobody : readers (had (Some held)) ≡ 0 = p.0.alone write in
        (omega (arith, writers_old (Some held), readers_old (Some held), p.0.bit, unit, nobody, one), omega (arith, writers_old (Some held), readers_old (Some held), p.0.bit, unit, nobody, one))

    counted_less : (mode : Mode) (held : Held C N) (word word' : Word) → held.mode ≡ mode → GivesUp mode word word'.write word'.readers → Counted word (had (Some held)) → Counted word' (has None)
    counted_less Write held word word' e is p =
        let none : one_if (not (is_write held.mode)) ≡ 0 = ap (λ mode. one_if (not (is_write mode))) e in
        let unit' : ◌≡◌ {A = ℕ} (cond word'.write 1 0) 0 = rw is.0 refl in
        let others = alone word held e p in
        (record { bit = omega (arith, writers_new None, unit', others.0, others.1); alone = λ f. absurd (both_ways word'.write is.0 f) }, omega (arith, readers_old (Some held), readers_new None, p.1, is.1, none))
    counted_less Read held word word' e is p =
        let none : one_if (is_write held.mode) ≡ 0 = ap (λ mode. one_if (is_write mode)) e in
        let one : one_if (not (is_write held.mode)) ≡ 1 = ap (λ mode. one_if (not (is_write mode))) e in
        let same : ◌≡◌ {A = ℕ} (cond word'.write 1 0) (cond word.write 1 0) = ap (λ b. cond b 1 0) is.0 in (
          record {
            bit = omega (arith, writers_old (Some held), writers_new None, p.0.bit, same, none);
            alone = λ f. let nobody : readers (had (Some held)) ≡ 0 = p.0.alone (sym is.0 ∙ f) in omega (arith, readers_old (Some held), nobody, one);
          },
          omega (arith, readers_old (Some held), readers_new None, p.1, is.1, one),
        )

    -- ---- what holds of the sections

    here : (word : Word) (row : List ℕ) (held : Option (Held C N)) → Safe truths seats h word row (had held) → ViewFits truths seats (standing_after h) row (view_of who walk held owed)
    here word row held p = (every_parts (ViewFits truths seats (standing_after h) row) front (view_of who walk held owed) back p.one_history.each).1

    -- The seat's own section may change. The history leaves the others' phases, and the row too, or nobody else has a section.
    moved : (h' : List (Event C N)) (word word' : Word) (row row' : List ℕ) (held held' : Option (Held C N)) → Counted word' (has held') → IsLegal truths.holds h' → IsBySeats seats h' →
        ((seat : ℕ) → who ≢ seat → (standing_after h').phases seat ≡ (standing_after h).phases seat) →
        (((standing_after h').row ≡ (standing_after h).row) × (row' ≡ row)) ⊎ ((writers front + readers front ≡ 0) × (writers back + readers back ≡ 0)) →
        PlaceFits truths walk' held' → OwesAs walk' owed' → SectionFits (standing_after h') row' who walk' held' → (word'.write ≡ false → row' ≡ (standing_after h').row) → length row' ≡ N → length (standing_after h').row ≡ N →
        Safe truths seats h word row (had held) → Safe truths seats h' word' row' (has held')
    moved h' word word' row row' held held' counted legal by_seats others same place owes section free cells cells_after p =
        let view = view_of who walk held owed in
        let view' = view_of who walk' held' owed' in
        let now = standing_after h in
        let next = standing_after h' in
        let parts = every_parts (ViewFits truths seats now row) front view back p.one_history.each in
        let apart = apart_parts front view back p.apart in
        let there : (seat : ℕ) → seat ≢ who → next.phases seat ≡ now.phases seat = λ seat ne. others seat (λ e. ne (sym e)) in
        record {
          one_writer = counted.0;
          count = counted.1;
          one_history = record {
            legal = legal;
            by_seats = by_seats;
            each = every_join (ViewFits truths seats next row') front view' back (each_moves truths seats now next row row' who front apart.0 there (elim same [ inl s ↦ inl s | inr none ↦ inr none.0 ]) parts.0)
                (record { in_range = parts.1.in_range; place = place; owes = owes; section = section }) (each_moves truths seats now next row row' who back apart.1 there (elim same [ inl s ↦ inl s | inr none ↦ inr none.1 ]) parts.2);
            free = free;
            cells = cells;
            cells_after = cells_after;
          };
          apart = apart_moves front view view' back refl p.apart;
        }

    -- without an event, and with the same cells
    stays : (word word' : Word) (row : List ℕ) (held held' : Option (Held C N)) → Counted word' (has held') → PlaceFits truths walk' held' → OwesAs walk' owed' → SectionFits (standing_after h) row who walk' held' → (word'.write ≡ false → row ≡ (standing_after h).row) →
        Safe truths seats h word row (had held) → Safe truths seats h word' row (has held')
    stays word word' row held held' counted place owes section free p =
        moved h word word' row row held held' counted p.one_history.legal p.one_history.by_seats (λ seat ne. refl) (inl (refl, refl)) place owes section free p.one_history.cells p.one_history.cells_after p

    -- ---- each kind of step

    -- a step that leaves the sections, but for what is shown of the seat's own
    pub unchanged_by : (word word' : Word) (row : List ℕ) (held held' : Option (Held C N)) → word'.write ≡ word.write → word'.readers ≡ word.readers →
        PlaceFits truths walk' held' → OwesAs walk' owed' → is_writing held' ≡ is_writing held → is_reading held' ≡ is_reading held →
        (SectionFits (standing_after h) row who walk held → SectionFits (standing_after h) row who walk' held') →
        Safe truths seats h word row (had held) → Safe truths seats h word' row (has held')
    unchanged_by word word' row held held' same_write same_readers place owes writing reading fits p =
        stays word word' row held held' (counted_same word word' held held' same_write same_readers writing reading (p.one_writer, p.count)) place owes (fits (here word row held p).section) (λ e. p.one_history.free (sym same_write ∙ e)) p

    -- a step that leaves the sections, but for how one is said to have begun
    pub unchanged : (word word' : Word) (row : List ℕ) (held held' : Option (Held C N)) → word'.write ≡ word.write → word'.readers ≡ word.readers →
        PlaceFits truths walk' held' → OwesAs walk' owed' → SameSection walk held walk' held' → Safe truths seats h word row (had held) → Safe truths seats h word' row (has held')
    unchanged word word' row held held' same_write same_readers place owes same p =
        unchanged_by word word' row held held' same_write same_readers place owes same.writing same.reading (same.fits (standing_after h) row who) p

    -- a wake of those who wait for a variable: beside its event, the seat's place changes, and what it owes
    pub woken : (e : Event C N) (k : ℕ) (word word' : Word) (row : List ℕ) (held : Option (Held C N)) → who_of e ≡ who → IsLegalEvent truths.holds (standing_after h) e →
        (standing_next (standing_after h) e).row ≡ (standing_after h).row →
        ((seat : ℕ) → IsSameOrWoken k ((standing_after h).phases seat) ((standing_next (standing_after h) e).phases seat)) →
        word'.write ≡ word.write → word'.readers ≡ word.readers → PlaceFits truths walk' held → OwesAs walk' owed' →
        (SectionFits (standing_after h) row who walk held → SectionFits (standing_after h) row who walk' held) →
        Safe truths seats h word row (had held) → Safe truths seats (h ++ e ∷ []) word' row (has held)
    woken e k word word' row held by legal same phases same_write same_readers place owes fits p =
        after_wake truths seats h e k word' row (has held) (subst (λ seat. seat < seats) (sym by) (here word row held p).in_range) legal same phases
        (unchanged_by word word' row held held same_write same_readers place owes refl refl fits p)

    -- a wait for variables takes itself out of its lists
    pub left_variables : (variables : Variables) (mode : Mode) (word word' : Word) (row : List ℕ) → seats ≤ 64 → (standing_after h).phases who ≡ Waiting variables mode → IsExpected (phase_by walk') (Left variables mode) →
        word'.write ≡ word.write → word'.readers ≡ word.readers → PlaceFits {C = C} {N = N} truths walk' None → OwesAs walk' owed' →
        Safe truths seats h word row (had None) → Safe truths seats (h ++ left_event who variables ∷ []) word' row (has None)
    left_variables variables mode word word' row few phase is same_write same_readers place owes p =
        let in_range = (here word row None p).in_range in
        moved (h ++ left_event who variables ∷ []) word word' row row None None (counted_same word word' None None same_write same_readers refl refl (p.one_writer, p.count))
        (legal_append truths.holds (first_standing N) h (left_event who variables ∷ []) p.one_history.legal (left_is_legal C N who truths.holds variables mode (standing_after h) (omega (arith, few, in_range)) phase, tt))
        (by_seats_more seats h (left_event who variables) p.one_history.by_seats (subst (λ s. s < seats) (sym (left_next C N who variables (standing_after h)).0) in_range))
        (left_there who variables) (inl (left_same who variables, refl)) place owes (subst (λ ph. IsExpected (phase_by walk') ph) (sym (left_here who variables mode phase)) is)
        (λ f. p.one_history.free (sym same_write ∙ f) ∙ sym (left_same who variables)) p.one_history.cells (ap length (left_same who variables) ∙ p.one_history.cells_after) p

    -- an acquire
    pub acquired : (mode : Mode) (word word' : Word) (row : List ℕ) (entry : Opening C) → ((p : Phase C) → IsExpected (phase_by walk) p → p ≡ phase_before mode entry) → word.write ≡ false → Acquires mode word word'.write word'.readers →
        PlaceFits truths walk' (Some (section {C = C} {N = N} mode entry row row)) → OwesAs walk' owed' →
        Safe truths seats h word row (had None) → Safe truths seats h word' row (has (Some (section mode entry row row)))
    acquired mode word word' row entry phase free is place owes p =
        stays word word' row None (Some (section mode entry row row)) (counted_more mode entry word word' row free is (p.one_writer, p.count)) place owes
        (record { starts = p.one_history.free free; enters = phase ((standing_after h).phases who) (here word row None p).section; cells = refl; reads = λ e. refl }) (λ e. p.one_history.free free) p

    -- a store into a cell, by the writer
    pub stored : (word : Word) (row : List ℕ) (held : Held C N) (i v : ℕ) → held.mode ≡ Write → let held' = Some (record held { row = slice_set held.row i v }) in
        PlaceFits truths walk' held' → OwesAs walk' owed' → Safe truths seats h word row (had (Some held)) → Safe truths seats h word (slice_set row i v) (has held')
    stored word row held i v writing place owes p =
        let fit = (here word row (Some held) p).section in
        moved h word word row (slice_set row i v) (Some held) (Some (record held { row = slice_set held.row i v }))
        (counted_same word word (Some held) (Some (record held { row = slice_set held.row i v })) refl refl refl refl (p.one_writer, p.count)) p.one_history.legal p.one_history.by_seats (λ seat ne. refl)
        (inr (alone word held writing (p.one_writer, p.count))) place owes (record { starts = fit.starts; enters = fit.enters; cells = ap (λ xs. slice_set xs i v) fit.cells; reads = λ e. let clash : Write ≡ Read = sym writing ∙ e in absurd (cc) })
        (λ e. absurd (both_ways word.write e (writes word held writing (p.one_writer, p.count)))) (length-set row i v ∙ p.one_history.cells) p.one_history.cells_after p

    -- the others, beside one that leaves its section: a reader leaves the row as it was
    others_left : (mode : Mode) (exit : Exit C) (word : Word) (row : List ℕ) (held : Held C N) → held.mode ≡ mode → Safe truths seats h word row (had (Some held)) →
        (((standing_after (h ++ section_of truths.holds who held exit ∷ [])).row ≡ (standing_after h).row) × (row ≡ row)) ⊎ ((writers front + readers front ≡ 0) × (writers back + readers back ≡ 0))
    others_left Write exit word row held e p = inr (alone word held e (p.one_writer, p.count))
    others_left Read exit word row held e p = let fit = (here word row (Some held) p).section in inl (row_left who held exit ∙ fit.reads e ∙ fit.starts, refl)

    -- a release
    pub released : (mode : Mode) (exit : Exit C) (word word' : Word) (row : List ℕ) (held : Held C N) → held.mode ≡ mode → seats ≤ 64 → IsSettledBy truths.holds held.before held.entry → ExitFits truths.holds held.row exit → IsExpected (phase_by walk') (phase_after held.mode exit) →
        GivesUp mode word word'.write word'.readers → PlaceFits {C = C} {N = N} truths walk' None → OwesAs walk' owed' →
        Safe truths seats h word row (had (Some held)) → Safe truths seats (h ++ section_of truths.holds who held exit ∷ []) word' row (has None)
    released mode exit word word' row held is few settled leaves phase gives place owes p =
        let fit = here word row (Some held) p in
        moved (h ++ section_of truths.holds who held exit ∷ []) word word' row row (Some held) None (counted_less mode held word word' is gives (p.one_writer, p.count))
        (commits who row held exit (omega (arith, few, fit.in_range)) settled leaves fit.section p.one_history.legal) (by_seats_more seats h (section_of truths.holds who held exit) p.one_history.by_seats fit.in_range)
        (phases_there who held exit) (others_left mode exit word row held is p) place owes (subst (λ ph. IsExpected (phase_by walk') ph) (sym (phases_here who held exit)) phase)
        (λ e. sym fit.section.cells ∙ sym (row_left who held exit)) p.one_history.cells (ap length (row_left who held exit ∙ fit.section.cells) ∙ p.one_history.cells) p

    -- a section is given up without an event: nothing has changed in it, and its seat goes back to where it came from
    pub dropped : (mode : Mode) (word word' : Word) (row : List ℕ) (held : Held C N) → held.mode ≡ mode → held.row ≡ held.before → IsExpected (phase_by walk') (phase_before held.mode held.entry) →
        GivesUp mode word word'.write word'.readers → PlaceFits {C = C} {N = N} truths walk' None → OwesAs walk' owed' →
        Safe truths seats h word row (had (Some held)) → Safe truths seats h word' row (has None)
    dropped mode word word' row held is same phase gives place owes p =
        let fit = (here word row (Some held) p).section in
        stays word word' row (Some held) None (counted_less mode held word word' is gives (p.one_writer, p.count)) place owes
        (subst (λ ph. IsExpected (phase_by walk') ph) (sym fit.enters) phase) (λ e. sym fit.cells ∙ same ∙ fit.starts) p
