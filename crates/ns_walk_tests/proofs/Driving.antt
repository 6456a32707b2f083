-- A step of a driven seat: what its test knows behind it.
use Rattle.std.proofs.Common.{Bool, List, None, Option, Some, [], ap, arith, false, if◌then◌else◌, length, not, refl, slice_index, slice_set, subst, suc, sym, true, zero, ℕ, ◌&&◌, ◌<◌, ◌∙◌, ◌∷◌, ◌≡◌}
use Rattle.ns_gate.proofs.Calls.{begins, goes_on}
use Rattle.ns_gate.proofs.Findings.{cell_in_hand, does}
use Rattle.ns_gate.proofs.Prelude.{Acquire, Act, ArmFlag, Cause, Cell, Done, Effect, Event, Flag, Found, GateView, HasReached, HasStepped, Held, Idle, InAcquire, InQueuing, InWait, IsAtPlace, IsAtRest, IsWide, JudgeMet, JudgeQuiet, Lists, LoadCell, LoadFlag, LoadWord, LockState, Look, Looked, Made, Next, On, Owed, Paid, Part, PayWake, Performed, Queue, QueueToWait, Quiet, Release, ReleaseReturning, Reply, Request, ReturnQueues, Saw, SeatOf, SeatView, SectionFits, StoreCell, TakeQueues, Tested, Truths, WaitReturning, Walk, Woke, asked_of, called_of, carried_by, got_of, has_queues, held_after, meets_at, owed_after, part_of, place_after, rest, row_in, standing_after, the, view_fits, view_in, woken_of}
use Rattle.ns_gate.proofs.Stays.{effect_of, nowhere_now}
use Rattle.ns_gate.specs.declared.perform.Beside.{Beside}
use Rattle.ns_gate.specs.Performing.{Needs}
use Rattle.ns_gate.specs.Steps.{HasUnchangedQueues}
use Rattle.ns_word.specs.declared.act.Found.TheVariants.{Left, Scanned}
use Rattle.ns_word.specs.Walks.{awaits, has_armed}
use Rattle.ns_word.specs.declared.wait.QueuePlace.TheVariants.{LoadToScan}
use Rattle.ns_walk_tests.specs.Driving.{IsDriven, IsPrepared, Knows, RowsAre, Stands, at_most_one, behind_first, goes_between, is_made, is_returning, is_saw, is_taking, loaded, owed_by, section_after, stored}
use Rattle.ns_walk_tests.specs.declared.known.Known.{Known}
use Rattle.ns_walk_tests.specs.declared.known.Rows.TheVariants.{Are, Unknown, Unread}
use Rattle.ns_walk_tests.specs.declared.known.Rows.{Rows}
use Rattle.ns_walk_tests.specs.declared.known.Section.{Section}

-- a row of one cell is that cell
one_row : (row : List ℕ) (i v : ℕ) → length row ≡ 1 → i < 1 → v ≡ slice_index row i → row ≡ v ∷ []
one_row [] i v one low is = absurd (omega (arith, one))
one_row (x ∷ []) zero v one low is = ap (λ n. n ∷ []) (sym is)
one_row (x ∷ []) (suc i) v one low is = absurd (omega (arith, low))
one_row (x ∷ y ∷ zs) i v one low is = absurd (omega (arith, one))

module _ {C : Type 0} (truths : Truths C) where
  -- ---- what is known of the section

  kept : (section : Option Section) (old new : Option (Held C 1)) → new ≡ old → Knows section old → Knows section new
  kept section old new e k = subst (Knows section) (sym e) k

  -- a look leaves the mode and the rows
  entry_only : (rows : Rows) (held other : Held C 1) → other.before ≡ held.before → other.row ≡ held.row → RowsAre rows held → RowsAre rows other
  entry_only Unread held other b r k = b ∙ (k ∙ sym r)
  entry_only (Are before row) held other b r k = (b ∙ k.0, r ∙ k.1)
  entry_only Unknown held other b r k = tt

  looked : (again : Bool) (cause : Option Cause) (section : Option Section) (held : Option (Held C 1)) → Knows section held → Knows section (held_after again cause held)
  looked again None section held k = k
  looked false (Some cause) section held k = k
  looked true (Some cause) None None k = tt
  looked true (Some cause) None (Some held) k = absurd k
  looked true (Some cause) (Some section) None k = absurd k
  looked true (Some cause) (Some section) (Some held) k = (k.0, entry_only section.rows held (record held { entry = _ }) refl refl k.1)

  rows_loaded : (v : ℕ) (rows : Rows) (held : Held C 1) → held.row ≡ v ∷ [] → RowsAre rows held → RowsAre (loaded (Cell v) rows) held
  rows_loaded v Unread held is k = (k ∙ is, is)
  rows_loaded v (Are before row) held is k = k
  rows_loaded v Unknown held is k = tt

  cell_loaded : (v : ℕ) (i : ℕ) (section : Option Section) (held : Option (Held C 1)) → ((s : Held C 1) → held ≡ Some s → s.row ≡ v ∷ []) → Knows section held → Knows (section_after {C = C} (LoadCell i) (Cell v) section) held
  cell_loaded v i None None cell k = tt
  cell_loaded v i None (Some held) cell k = absurd k
  cell_loaded v i (Some section) None cell k = absurd k
  cell_loaded v i (Some section) (Some held) cell k = (k.0, rows_loaded v section.rows held (cell held refl) k.1)

  rows_stored : (v : ℕ) (rows : Rows) (held other : Held C 1) → other.before ≡ held.before → other.row ≡ slice_set held.row 0 v → RowsAre rows held → RowsAre (stored v rows) other
  rows_stored v Unread held other b r k = tt
  rows_stored v (Are before row) held other b r k = (b ∙ k.0, r ∙ ap (λ xs. slice_set xs 0 v) k.1)
  rows_stored v Unknown held other b r k = tt

  cell_stored : (v : ℕ) (section : Option Section) (old : Option (Held C 1)) (held other : Held C 1) → old ≡ Some held → other.mode ≡ held.mode → other.before ≡ held.before → other.row ≡ slice_set held.row 0 v → Knows section old → Knows (section_after {C = C} (StoreCell 0 v) Made section) (Some other)
  cell_stored v None old held other is m b r k = absurd (subst (Knows None) is k)
  cell_stored v (Some section) old held other is m b r k = let at = subst (Knows (Some section)) is k in (m ∙ at.0, rows_stored v section.rows held other b r at.1)

  -- the cell that was loaded is the section's own, and one that is stored is the first
  abbrev CellIs : Act C → Found → Option (Held C 1) → Type 0
  CellIs (LoadCell i) (Cell v) held = (s : Held C 1) → held ≡ Some s → s.row ≡ v ∷ []
  CellIs (StoreCell i v) found held = i ≡ 0
  CellIs act found held = Unit {0}

  know_by : (seat : ℕ) (act : Act C) (found : Found) (section : Option Section) (old new : Part C 1) (commits : List (Event C 1)) → Effect truths seat act old found new commits → CellIs act found new.held → Knows section old.held → Knows (section_after act found section) new.held
  know_by seat LoadWord (Saw word) section old new commits e cell k = kept section old.held new.held (ap (λ (q : Part C 1). q.held) e.1) k
  know_by seat (Acquire aim arrival last) (Saw word) section old new commits e cell k = kept section old.held new.held (ap (λ (q : Part C 1). q.held) e.2) k
  know_by seat (Acquire aim arrival last) Made section old new commits e cell k = subst (Knows (section_after (Acquire aim arrival last) Made section)) (sym (ap (λ (q : Part C 1). q.held) e.3)) (refl, refl)
  know_by seat (TakeQueues taking last) (Saw word) section old new commits e cell k = kept section old.held new.held (ap (λ (q : Part C 1). q.held) e.2) k
  know_by seat (TakeQueues taking last) Made section old new commits e cell k = kept section old.held new.held (ap (λ (q : Part C 1). q.held) e.2) k
  know_by seat (ReturnQueues change last) (Saw word) section old new commits e cell k = kept section old.held new.held (ap (λ (q : Part C 1). q.held) e.2) k
  know_by seat (ReturnQueues change last) Made section old new commits e cell k = kept section old.held new.held (ap (λ (q : Part C 1). q.held) e.2) k
  know_by seat (ReturnQueues change last) (Left stood) section old new commits e cell k = kept section old.held new.held (ap (λ (q : Part C 1). q.held) e.2) k
  know_by seat (ReturnQueues change last) (Woke owes) section old new commits e cell k = kept section old.held new.held (ap (λ (q : Part C 1). q.held) e.2) k
  know_by seat (Release releasing last) (Saw word) section old new commits e cell k = kept section old.held new.held (ap (λ (q : Part C 1). q.held) e.2) k
  know_by seat (Release releasing last) Made section old new commits e cell k = subst (Knows None) (sym (ap (λ (q : Part C 1). q.held) e.4)) tt
  know_by seat (ReleaseReturning releasing last) (Saw word) section old new commits e cell k = kept section old.held new.held (ap (λ (q : Part C 1). q.held) e.2) k
  know_by seat (ReleaseReturning releasing last) (Scanned owes tests) section old new commits e cell k = subst (Knows None) (sym (ap (λ (q : Part C 1). q.held) e.4)) tt
  know_by seat (WaitReturning wait again last) (Saw word) section old new commits e cell k = kept section old.held new.held (ap (λ (q : Part C 1). q.held) e.2) k
  know_by seat (WaitReturning wait again last) (Scanned owes tests) section old new commits e cell k = subst (Knows None) (sym (ap (λ (q : Part C 1). q.held) e.4)) tt
  know_by seat (LoadCell i) (Cell v) section old new commits e cell k = cell_loaded v i section new.held cell (kept section old.held new.held (ap (λ (q : Part C 1). q.held) e.1) k)
  know_by seat (JudgeQuiet i) (Quiet quiet) section old new commits e cell k = kept section old.held new.held (ap (λ (q : Part C 1). q.held) e.3) k
  know_by seat (JudgeMet i c) (Tested met) section old new commits e cell k = kept section old.held new.held (ap (λ (q : Part C 1). q.held) e.3) k
  know_by seat (StoreCell i v) Made section old new commits e cell k = subst (Knows (section_after {C = C} (StoreCell 0 v) Made section)) (sym (ap (λ (q : Part C 1). q.held) e.3))
      (cell_stored v section old.held e.0 (record e.0 { row = slice_set e.0.row i v }) e.1 refl refl (ap (λ n. slice_set e.0.row n v) cell) k)
  know_by seat ArmFlag Made section old new commits e cell k = kept section old.held new.held (ap (λ (q : Part C 1). q.held) e.0) k
  know_by seat PayWake (Paid owes) section old new commits e cell k = kept section old.held new.held (ap (λ (q : Part C 1). q.held) e.3) k
  know_by seat LoadFlag (Flag v) section old new commits e cell k = kept section old.held new.held (ap (λ (q : Part C 1). q.held) e.1) k
  know_by seat (Look limits again) (Looked cause) section old new commits e cell k = subst (Knows section) (sym (ap (λ (q : Part C 1). q.held) e.1)) (looked again cause section old.held k)
  know_by seat _ _ section old new commits e cell k = absurd e

  held_in : (b : Option (Walk C)) (view : SeatView C 1) → (view_in view b).held ≡ view.held
  held_in None view = refl
  held_in (Some first) view = refl

  cell_is : (b : Option (Walk C)) (act : Act C) (found : Found) (beside : Beside 1) (was me now : SeatOf C 1) → Needs truths b act beside was → Performed truths b act found me now → IsWide (the now.0).at.held → CellIs act found (the now.0).at.held
  cell_is b (LoadCell i) (Cell v) beside was me now needs p wide = λ s has. one_row s.row i v (subst (λ (o : Option (Held C 1)). IsWide o) has wide).1 needs (cell_in_hand truths b i v s me now p has)
  cell_is b (StoreCell i v) found beside was me now needs p wide = omega (arith, needs.1)
  cell_is b act found beside was me now needs p wide = tt

  knows_after : (b : Option (Walk C)) (act : Act C) (found : Found) (section : Option Section) (beside : Beside 1) (was me now : SeatOf C 1) → Needs truths b act beside was → Performed truths b act found me now → IsWide (the now.0).at.held → Knows section (the me.0).at.held → Knows (section_after act found section) (the now.0).at.held
  knows_after b act found section beside was me now needs p wide k =
      let d = p.did in let view = view_in (the me.0).at b in
      let is : (the now.0).at.held ≡ d.made.step.held = ap (λ (x : SeatView C 1). x.held) d.becomes in
      subst (Knows (section_after act found section)) (sym is)
      (know_by view.seat act found section (part_of d.made.between view.held view.owed) (part_of d.new d.made.step.held d.made.step.owed) d.commits (does truths b act found me now p)
      (subst (CellIs act found) is (cell_is b act found beside was me now needs p wide)) (subst (Knows section) (sym (held_in b (the me.0).at)) k))

  -- ---- the lists, and the wakes that are owed

  -- an act that puts no queues back leaves the lists, and pays the first wake at most
  abbrev owed_kept : Act C → List Owed → List Owed
  owed_kept PayWake owed = behind_first owed
  owed_kept act owed = owed

  keeps_by : (seat : ℕ) (act : Act C) (found : Found) (old new : Part C 1) (commits : List (Event C 1)) → is_returning act ≡ false → Effect truths seat act old found new commits → (new.lists ≡ old.lists) × (new.owed ≡ owed_kept act old.owed)
  keeps_by seat LoadWord (Saw word) old new commits plain e = (ap (λ (q : Part C 1). q.lists) e.1, ap (λ (q : Part C 1). q.owed) e.1)
  keeps_by seat (Acquire aim arrival last) (Saw word) old new commits plain e = (ap (λ (q : Part C 1). q.lists) e.2, ap (λ (q : Part C 1). q.owed) e.2)
  keeps_by seat (Acquire aim arrival last) Made old new commits plain e = (ap (λ (q : Part C 1). q.lists) e.3, ap (λ (q : Part C 1). q.owed) e.3)
  keeps_by seat (TakeQueues taking last) (Saw word) old new commits plain e = (ap (λ (q : Part C 1). q.lists) e.2, ap (λ (q : Part C 1). q.owed) e.2)
  keeps_by seat (TakeQueues taking last) Made old new commits plain e = (ap (λ (q : Part C 1). q.lists) e.2, ap (λ (q : Part C 1). q.owed) e.2)
  keeps_by seat (Release releasing last) (Saw word) old new commits plain e = (ap (λ (q : Part C 1). q.lists) e.2, ap (λ (q : Part C 1). q.owed) e.2)
  keeps_by seat (Release releasing last) Made old new commits plain e = (ap (λ (q : Part C 1). q.lists) e.4, ap (λ (q : Part C 1). q.owed) e.4)
  keeps_by seat (LoadCell i) (Cell v) old new commits plain e = (ap (λ (q : Part C 1). q.lists) e.1, ap (λ (q : Part C 1). q.owed) e.1)
  keeps_by seat (JudgeQuiet i) (Quiet quiet) old new commits plain e = (ap (λ (q : Part C 1). q.lists) e.3, ap (λ (q : Part C 1). q.owed) e.3)
  keeps_by seat (JudgeMet i c) (Tested met) old new commits plain e = (ap (λ (q : Part C 1). q.lists) e.3, ap (λ (q : Part C 1). q.owed) e.3)
  keeps_by seat (StoreCell i v) Made old new commits plain e = (ap (λ (q : Part C 1). q.lists) e.3, ap (λ (q : Part C 1). q.owed) e.3)
  keeps_by seat ArmFlag Made old new commits plain e = (ap (λ (q : Part C 1). q.lists) e.0, ap (λ (q : Part C 1). q.owed) e.0)
  keeps_by seat PayWake (Paid owes) old new commits plain e = (ap (λ (q : Part C 1). q.lists) e.3, ap (λ (q : Part C 1). q.owed) e.3 ∙ sym (ap behind_first e.2))
  keeps_by seat LoadFlag (Flag v) old new commits plain e = (ap (λ (q : Part C 1). q.lists) e.1, ap (λ (q : Part C 1). q.owed) e.1)
  keeps_by seat (Look limits again) (Looked cause) old new commits plain e = (ap (λ (q : Part C 1). q.lists) e.1, ap (λ (q : Part C 1). q.owed) e.1)
  keeps_by seat (ReturnQueues change last) found old new commits plain e = absurd (cc)
  keeps_by seat (ReleaseReturning releasing last) found old new commits plain e = absurd (cc)
  keeps_by seat (WaitReturning wait again last) found old new commits plain e = absurd (cc)
  keeps_by seat _ _ old new commits plain e = absurd e

  owed_plain : (act : Act C) (view : GateView C 1) → is_returning act ≡ false → owed_kept act view.at.owed ≡ owed_by truths act view
  owed_plain (ReturnQueues change last) view plain = absurd (cc)
  owed_plain (ReleaseReturning releasing last) view plain = absurd (cc)
  owed_plain (WaitReturning wait again last) view plain = absurd (cc)
  owed_plain act view plain = refl

  -- the row of the section in hand is the lock's
  row_of_lock : (found : Found) (v w : GateView C 1) (d : HasStepped truths None found v w) (held : Held C 1) → v.at.held ≡ Some held → d.old.row ≡ row_in v.at.held
  row_of_lock found v w d held has =
      let split = ap (λ (s : LockState C 1). s.views) (sym d.made.begins) ∙ d.made.step.was in
      let fits = view_fits truths v.seat_count d.few d.history d.old d.made.step.front v.at d.made.step.back split d.lawful in
      sym (ap row_in has ∙ (subst (λ o. SectionFits (standing_after d.history) d.old.row v.at.seat v.at.walk o) has fits.section).cells)

  owes_returned : (act : Act C) (found : Found) (me now : SeatOf C 1) → is_returning act ≡ true → is_saw found ≡ false → has_queues (the me.0).at.walk ≡ true → (p : Performed truths None act found me now) →
      Effect truths (the me.0).at.seat act (part_of p.did.old (the me.0).at.held (the me.0).at.owed) found (part_of p.did.new p.did.made.step.held p.did.made.step.owed) p.did.commits → p.did.made.step.owed ≡ owed_by truths act (the me.0)
  owes_returned (ReturnQueues change last) Made me now back saw has p e = ap (λ (q : Part C 1). q.owed) e.2 ∙ ap (λ (l : Lists C). owed_after change last l (the me.0).at.owed) (sym (p.did.stood_was has))
  owes_returned (ReturnQueues change last) (Left stood) me now back saw has p e = ap (λ (q : Part C 1). q.owed) e.2 ∙ ap (λ (l : Lists C). owed_after change last l (the me.0).at.owed) (sym (p.did.stood_was has))
  owes_returned (ReturnQueues change last) (Woke owes) me now back saw has p e = ap (λ (q : Part C 1). q.owed) e.2 ∙ ap (λ (l : Lists C). owed_after change last l (the me.0).at.owed) (sym (p.did.stood_was has))
  owes_returned (ReleaseReturning releasing last) (Scanned owes tests) me now back saw has p e =
      let row = row_of_lock (Scanned owes tests) (the me.0) (the now.0) p.did e.0 e.1 in
      ap (λ (q : Part C 1). q.owed) e.4 ∙ (λ i. called_of (woken_of (meets_at truths (row i)) (sym (p.did.stood_was has) i).lock))
  owes_returned (WaitReturning wait again last) (Scanned owes tests) me now back saw has p e =
      let row = row_of_lock (Scanned owes tests) (the me.0) (the now.0) p.did e.0 e.1 in
      ap (λ (q : Part C 1). q.owed) e.4 ∙ (λ i. called_of (woken_of (meets_at truths (row i)) (sym (p.did.stood_was has) i).lock))
  owes_returned act (Saw word) me now back saw has p e = absurd (cc)
  owes_returned (ReturnQueues change last) _ me now back saw has p e = absurd e
  owes_returned (ReleaseReturning releasing last) _ me now back saw has p e = absurd e
  owes_returned (WaitReturning wait again last) _ me now back saw has p e = absurd e
  owes_returned _ found me now back saw has p e = absurd (cc)

  -- ---- what the seat has in hand

  plain_slots : (act : Act C) (found : Found) (stood : Lists C) (slots : List (ℕ × Lists C)) → is_taking act ≡ false → is_returning act ≡ false → carried_by act found stood slots ≡ slots
  plain_slots (TakeQueues taking last) found stood slots take back = absurd (cc)
  plain_slots (ReturnQueues change last) found stood slots take back = absurd (cc)
  plain_slots (ReleaseReturning releasing last) found stood slots take back = absurd (cc)
  plain_slots (WaitReturning wait again last) found stood slots take back = absurd (cc)
  plain_slots act found stood slots take back = refl

  taking_slots : (act : Act C) (found : Found) (stood : Lists C) (slots : List (ℕ × Lists C)) (b : Bool) → is_taking act ≡ true → is_made found ≡ b → carried_by act found stood slots ≡ (if b then (0, stood) ∷ slots else slots)
  taking_slots (TakeQueues taking last) Made stood slots true take made = refl
  taking_slots (TakeQueues taking last) Made stood slots false take made = absurd (cc)
  taking_slots (TakeQueues taking last) found stood slots true take made = absurd (cc)
  taking_slots (TakeQueues taking last) found stood slots false take made = refl
  taking_slots act found stood slots b take made = absurd (cc)

  empty_slots : (seat : ℕ) (act : Act C) (found : Found) (old new : Part C 1) (commits : List (Event C 1)) (stood : Lists C) (slots : List (ℕ × Lists C)) → is_returning act ≡ true → is_saw found ≡ false → Effect truths seat act old found new commits → carried_by act found stood slots ≡ rest slots
  empty_slots seat (ReturnQueues change last) Made old new commits stood slots back saw e = refl
  empty_slots seat (ReturnQueues change last) (Left stands) old new commits stood slots back saw e = refl
  empty_slots seat (ReturnQueues change last) (Woke owes) old new commits stood slots back saw e = refl
  empty_slots seat (ReleaseReturning releasing last) (Scanned owes tests) old new commits stood slots back saw e = refl
  empty_slots seat (WaitReturning wait again last) (Scanned owes tests) old new commits stood slots back saw e = refl
  empty_slots seat act (Saw word) old new commits stood slots back saw e = absurd (cc)
  empty_slots seat (ReturnQueues change last) _ old new commits stood slots back saw e = absurd e
  empty_slots seat (ReleaseReturning releasing last) _ old new commits stood slots back saw e = absurd e
  empty_slots seat (WaitReturning wait again last) _ old new commits stood slots back saw e = absurd e
  empty_slots seat _ found old new commits stood slots back saw e = absurd (cc)

  both : (a b : Bool) → (a && b) ≡ true → (a ≡ true) × (b ≡ true)
  both true b e = (refl, e)
  both false b e = absurd (cc)

  is_false : (b : Bool) → not b ≡ true → b ≡ false
  is_false true e = absurd (cc)
  is_false false e = refl

  -- the act in its three kinds, with what the test has asked of its step
  module _ (act : Act C) (found : Found) (had has : Bool) where
    abbrev Kind : Bool → Bool → Type 0
    Kind t r = (if t then not had && (if is_made found then has else not has) else (if r then had && (not has && not (is_saw found)) else (if had then has else not has))) ≡ true

  not_both : (act : Act C) → is_taking act ≡ true → is_returning act ≡ true → ⊥
  not_both (TakeQueues taking last) take back = absurd (cc)
  not_both act take back = absurd (cc)

  -- who puts the queues back had them
  had_them : (act : Act C) (found : Found) (had has : Bool) → is_returning act ≡ true → goes_between act found had has ≡ true → had ≡ true
  had_them act found had has back goes = by (is_taking act) (is_returning act) refl refl goes where
    by : (t r : Bool) → is_taking act ≡ t → is_returning act ≡ r → Kind act found had has t r → had ≡ true
    by true r take is g = absurd (not_both act take back)
    by false true take is g = (both had _ g).0
    by false false take is g = absurd (let e = sym back ∙ is in cc)

  hand_taking : (act : Act C) (found : Found) (me now : SeatOf C 1) (had has b : Bool) → is_taking act ≡ true → is_made found ≡ b → not had && (if b then has else not has) ≡ true → (had ≡ false → me.1 ≡ []) → Performed truths None act found me now
      → (has ≡ false → now.1 ≡ []) × (has ≡ true → HasUnchangedQueues now)
  hand_taking act found me now had has true take made g free p =
      let s = both (not had) has g in let slots = taking_slots act found (the now.0).stood me.1 true take made in
      ((λ e. absurd (let h = s.1 in cc)), (λ e. p.carried ∙ (slots ∙ ap (λ xs. (0, (the now.0).stood) ∷ xs) (free (is_false had s.0)))))
  hand_taking act found me now had has false take made g free p =
      let s = both (not had) (not has) g in let slots = taking_slots act found (the now.0).stood me.1 false take made in
      ((λ e. p.carried ∙ (slots ∙ free (is_false had s.0))), (λ e. absurd (let h = is_false has s.1 in cc)))

  same_stood : (act : Act C) (found : Found) (me now : SeatOf C 1) → is_returning act ≡ false → has_queues (the me.0).at.walk ≡ true → Performed truths None act found me now → (the now.0).stood ≡ (the me.0).stood
  same_stood act found me now plain has p = let d = p.did in
      let e = keeps_by (the me.0).at.seat act found (part_of d.old (the me.0).at.held (the me.0).at.owed) (part_of d.new d.made.step.held d.made.step.owed) d.commits plain (effect_of truths act found me now p) in
      d.stood_now ∙ (e.0 ∙ sym (d.stood_was has))

  hand_plain : (act : Act C) (found : Found) (me now : SeatOf C 1) (had has : Bool) → is_taking act ≡ false → is_returning act ≡ false → (if had then has else not has) ≡ true → has_queues (the me.0).at.walk ≡ had → (had ≡ false → me.1 ≡ []) → (had ≡ true → HasUnchangedQueues me)
      → Performed truths None act found me now → (has ≡ false → now.1 ≡ []) × (has ≡ true → HasUnchangedQueues now)
  hand_plain act found me now true has take back g is free carries p = (
    λ e. absurd (cc),
    λ e. p.carried ∙ (plain_slots act found (the now.0).stood me.1 take back ∙ (carries refl ∙ ap (λ (l : Lists C). (0, l) ∷ []) (sym (same_stood act found me now back is p)))),
  )
  hand_plain act found me now false has take back g is free carries p = (
    λ e. p.carried ∙ (plain_slots act found (the now.0).stood me.1 take back ∙ free refl),
    λ e. absurd (let h = is_false has g in cc),
  )

  hand_back : (act : Act C) (found : Found) (me now : SeatOf C 1) (had has : Bool) → is_returning act ≡ true → had && (not has && not (is_saw found)) ≡ true → rest me.1 ≡ [] → Performed truths None act found me now → (has ≡ false → now.1 ≡ []) × (has ≡ true → HasUnchangedQueues now)
  hand_back act found me now had has back g left p =
      let s = both had _ g in let t = both (not has) _ s.1 in let d = p.did in
      let slots = empty_slots (the me.0).at.seat act found _ _ d.commits (the now.0).stood me.1 back (is_false (is_saw found) t.1) (effect_of truths act found me now p) in
      ((λ e. p.carried ∙ (slots ∙ left)), (λ e. absurd (let h = is_false has t.0 in cc)))

  hand_after : (act : Act C) (found : Found) (me now : SeatOf C 1) (had has : Bool) → goes_between act found had has ≡ true → has_queues (the me.0).at.walk ≡ had → (had ≡ false → me.1 ≡ []) → (is_returning act ≡ false → had ≡ true → HasUnchangedQueues me)
      → (is_returning act ≡ true → rest me.1 ≡ []) → Performed truths None act found me now → (has ≡ false → now.1 ≡ []) × (has ≡ true → HasUnchangedQueues now)
  hand_after act found me now had has goes is free carries left p = by (is_taking act) (is_returning act) refl refl goes where
    by : (t r : Bool) → is_taking act ≡ t → is_returning act ≡ r → Kind act found had has t r → (has ≡ false → now.1 ≡ []) × (has ≡ true → HasUnchangedQueues now)
    by true r take back g = hand_taking act found me now had has (is_made found) take refl g free p
    by false true take back g = hand_back act found me now had has back g (left back) p
    by false false take back g = hand_plain act found me now had has take back g is free (carries back) p

  -- ---- where it stands

  stands_by : (request : Request C) (next : Next (Walk C) Reply) (me : SeatOf C 1) → HasReached truths request next me → Stands truths (place_after next) me
  stands_by request (On walk) me led = led
  stands_by request (Idle walk) me led = led
  stands_by request (Done reply) me led = led.rest

  stands_wide : (at : Option (Walk C)) (me : SeatOf C 1) → Stands truths at me → IsWide (the me.0).at.held
  stands_wide None me s = s.wide
  stands_wide (Some walk) me s = s.wide

  stands_walk : (at : Option (Walk C)) (me : SeatOf C 1) → Stands truths at me → (the me.0).at.walk ≡ at
  stands_walk None me s = s.over
  stands_walk (Some walk) me s = s.walks

  -- with the queues changed in hand alone it stands where it stood
  still_at : (walk : Walk C) (old me : SeatOf C 1) → IsAtPlace truths walk old → me.0 ≡ old.0 → (has_queues (Some walk) ≡ false → me.1 ≡ []) → IsAtPlace truths walk me
  still_at walk old me at same free = subst (λ (vs : List (GateView C 1)). IsAtPlace truths walk (vs, me.1)) (sym same) (record { one = at.one; empty = free; walks = at.walks; so_far = at.so_far; owes = at.owes; fits = at.fits; wide = at.wide })

  armed_waits : (at : Option (Walk C)) → has_armed at ≡ true → awaits at ≡ false
  armed_waits (Some (InAcquire aim (Queue arrival last))) e = refl
  armed_waits (Some (InWait wait (InQueuing again (LoadToScan last i)))) e = refl
  armed_waits (Some (InWait wait (InQueuing again (QueueToWait last)))) e = refl
  armed_waits _ e = absurd (cc)

  armed_has : (at : Option (Walk C)) → has_armed at ≡ true → has_queues at ≡ true
  armed_has (Some (InAcquire aim (Queue arrival last))) e = refl
  armed_has (Some (InWait wait (InQueuing again (LoadToScan last i)))) e = refl
  armed_has (Some (InWait wait (InQueuing again (QueueToWait last)))) e = refl
  armed_has _ e = absurd (cc)

  -- ---- a step

  -- what its test knows then
  pub record Learns (act : Act C) (found : Found) (owed : Option Owed) (known new : Known) : Type 0 where
    pub number : new.number ≡ known.number
    pub section : new.section ≡ section_after act found known.section
    pub owes : new.owed ≡ owed

  -- the slot is empty once what was put there is taken out
  left_none : (act : Act C) (beside : Beside 1) (me : SeatOf C 1) → is_returning act ≡ true → Needs truths None act beside me → rest me.1 ≡ []
  left_none (ReturnQueues change last) beside me back needs = ap rest needs.1.hand.carries
  left_none (ReleaseReturning releasing last) beside me back needs = ap rest needs.1.hand.carries
  left_none (WaitReturning wait again last) beside me back needs = ap rest needs.1.hand.carries
  left_none _ beside me back needs = absurd (cc)

  owes_now : (act : Act C) (found : Found) (me now : SeatOf C 1) (had has : Bool) → goes_between act found had has ≡ true → has_queues (the me.0).at.walk ≡ had → Performed truths None act found me now → (the now.0).at.owed ≡ owed_by truths act (the me.0)
  owes_now act found me now had has goes is p = ap (λ (x : SeatView C 1). x.owed) p.did.becomes ∙ by (is_taking act) (is_returning act) refl refl goes where
    e : Effect truths (the me.0).at.seat act (part_of p.did.old (the me.0).at.held (the me.0).at.owed) found (part_of p.did.new p.did.made.step.held p.did.made.step.owed) p.did.commits
    e = effect_of truths act found me now p

    plain : is_returning act ≡ false → p.did.made.step.owed ≡ owed_by truths act (the me.0)
    plain back = (keeps_by (the me.0).at.seat act found _ _ p.did.commits back e).1 ∙ owed_plain act (the me.0) back

    by : (t r : Bool) → is_taking act ≡ t → is_returning act ≡ r → Kind act found had has t r → p.did.made.step.owed ≡ owed_by truths act (the me.0)
    by true true take back g = absurd (not_both act take back)
    by true false take back g = plain back
    by false true take back g = let s = both had _ g in owes_returned act found me now back (is_false (is_saw found) (both (not has) _ s.1).1) (is ∙ s.0) p e
    by false false take back g = plain back

  pub goes_driven : (walk : Walk C) (act : Act C) (next : Next (Walk C) Reply) (beside : Beside 1) (owed : Option Owed) (found : Found) (known new : Known) (old me now : SeatOf C 1) → IsDriven truths (Some walk) known old → IsPrepared truths act beside owed old me
      → Performed truths None act found me now → next ≡ got_of 1 walk found → goes_between act found (has_queues (Some walk)) (has_queues (place_after next)) ≡ true → Learns act found owed known new → IsDriven truths (place_after next) new now
  goes_driven walk act next beside owed found known new old me now driven prep p is goes l =
      let had = has_queues (Some walk) in let has = has_queues (place_after next) in let at : IsAtPlace truths walk old = driven.stands in
      let free : had ≡ false → me.1 ≡ [] = λ e. prep.kept (plain_if e) ∙ at.empty e in
      let here = still_at walk old me at prep.same free in
      let carries : is_returning act ≡ false → had ≡ true → HasUnchangedQueues me = λ plain e. prep.kept plain ∙ (driven.hand e ∙ λ i. (0, (the (sym prep.same i)).stood) ∷ []) in
      let hand = hand_after act found me now had has goes (ap has_queues here.walks) free carries (λ back. left_none act beside me back prep.needs) p in
      let stands = stands_by (asked_of walk) next now (goes_on truths walk act found next me now here (sym is) hand.0 p) in
      record {
        stands = stands;
        number = (l.number ∙ (driven.number.0 ∙ ((λ i. (the (sym prep.same i)).at.seat) ∙ sym (ap (λ (x : SeatView C 1). x.seat) p.did.becomes))), subst (λ n. n < 64) (sym l.number) driven.number.1);
        knows = subst (λ (s : Option Section). Knows s (the now.0).at.held) (sym l.section)
            (knows_after None act found known.section beside me me now prep.needs p (stands_wide (place_after next) now stands) (subst (λ (vs : List (GateView C 1)). Knows known.section (the vs).at.held) (sym prep.same) driven.knows));
        owes = owes_now act found me now had has goes (ap has_queues here.walks) p ∙ (prep.owes ∙ ap at_most_one (sym l.owes));
        hand = hand.1;
        nowhere = λ armed. nowhere_now truths act found me now p (armed_waits (the now.0).at.walk (ap has_armed (stands_walk (place_after next) now stands) ∙ armed));
      }
    where
      plain_if : has_queues (Some walk) ≡ false → is_returning act ≡ false
      plain_if e = by (is_returning act) refl where
        by : (b : Bool) → is_returning act ≡ b → b ≡ false
        by true back = absurd (let h = had_them act found (has_queues (Some walk)) (has_queues (place_after next)) back goes in cc)
        by false back = refl

  -- ---- the first step of a call

  begins_plain : (first : Walk C) (act : Act C) (beside : Beside 1) (me : SeatOf C 1) → Needs truths (Some first) act beside me → (is_taking act ≡ false) × (is_returning act ≡ false) × ((owed : List Owed) → owed_kept act owed ≡ owed)
  begins_plain first LoadWord beside me needs = (refl, refl, λ owed. refl)
  begins_plain first (LoadCell i) beside me needs = (refl, refl, λ owed. refl)
  begins_plain first (JudgeQuiet i) beside me needs = (refl, refl, λ owed. refl)
  begins_plain first (JudgeMet i c) beside me needs = (refl, refl, λ owed. refl)
  begins_plain first (Acquire aim arrival last) beside me needs = absurd (let e = needs.0 in cc)
  begins_plain first (TakeQueues taking last) beside me needs = absurd (let e = needs.0 in cc)
  begins_plain first (ReturnQueues change last) beside me needs = absurd (let e = needs.0 in cc)
  begins_plain first (Release releasing last) beside me needs = absurd (let e = needs.0 in cc)
  begins_plain first (ReleaseReturning releasing last) beside me needs = absurd (let e = needs.0 in cc)
  begins_plain first (WaitReturning wait again last) beside me needs = absurd (let e = needs.0 in cc)
  begins_plain first (StoreCell i v) beside me needs = absurd (let e = needs.0 in cc)
  begins_plain first ArmFlag beside me needs = absurd (let e = needs in cc)
  begins_plain first PayWake beside me needs = absurd (let e = needs.0 in cc)
  begins_plain first LoadFlag beside me needs = absurd (let e = needs in cc)
  begins_plain first (Look limits again) beside me needs = absurd (let e = needs.0 in cc)

  pub begins_driven : (first : Walk C) (act : Act C) (next : Next (Walk C) Reply) (beside : Beside 1) (found : Found) (known new : Known) (me now : SeatOf C 1) → IsDriven truths None known me → Needs truths (Some first) act beside me
      → Performed truths (Some first) act found me now → next ≡ got_of 1 first found → has_queues (place_after next) ≡ false → Learns act found known.owed known new → IsDriven truths (place_after next) new now
  begins_driven first act next beside found known new me now driven needs p is none l =
      let plain = begins_plain first act beside me needs in let d = p.did in let rest : IsAtRest truths me = driven.stands in
      let empty : now.1 ≡ [] = p.carried ∙ (plain_slots act found (the now.0).stood me.1 plain.0 plain.1 ∙ rest.empty) in
      let stands = stands_by (asked_of first) next now (begins truths first act found next me now (sym is) (λ _. empty) p) in
      let e = keeps_by (the me.0).at.seat act found _ _ d.commits plain.1 (does truths (Some first) act found me now p) in
      record {
        stands = stands;
        number = (l.number ∙ (driven.number.0 ∙ sym (ap (λ (x : SeatView C 1). x.seat) d.becomes)), subst (λ n. n < 64) (sym l.number) driven.number.1);
        knows = subst (λ (s : Option Section). Knows s (the now.0).at.held) (sym l.section) (knows_after (Some first) act found known.section beside me me now needs p (stands_wide (place_after next) now stands) driven.knows);
        owes = ap (λ (x : SeatView C 1). x.owed) d.becomes ∙ (e.1 ∙ (plain.2 _ ∙ (driven.owes ∙ ap at_most_one (sym l.owes))));
        hand = λ has. absurd (let h = sym none ∙ has in cc);
        nowhere = λ armed. absurd (let h = sym none ∙ armed_has (place_after next) armed in cc);
      }
