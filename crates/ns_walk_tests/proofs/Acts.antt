-- An act that its test may make has what it needs, and a call that it may begin fits.
use Rattle.std.proofs.Common.{Bool, List, None, Option, Some, [], arith, false, length, nat_le, nat_lt, not, refl, subst, suc, sym, true, zero, ℕ, ◌&&◌, ◌<◌, ◌==◌, ◌||◌, ◌∙◌, ◌∷◌, ◌≡◌, ◌≤◌}
use Rattle.std.proofs.lemmas.Bool.Decides.{nat_tests}
use Rattle.ns_gate.proofs.Prelude.{Acquire, Act, ArmFlag, Cause, GetLoad, Held, InAcquire, InCells, InQueuing, InRelease, InShow, InSignal, InTry, InWait, IsOwedNext, IsPackable, IsSettled, IsWide, JudgeMet, JudgeQuiet, Limits, LoadCell, LoadFlag, LoadWord, Look, MayShow, Mode, OnCondition, OnVariables, Owed, OwesBelow, Paid, PayWake, PlaceFits, Read, Release, SeatOf, StoreCell, Subject, TakeQueues, TestLast, Truths, TryLoad, Walk, Word, Write, Writer, before_in, row_in, the}
use Rattle.ns_gate.specs.Performing.{IsRowBut, Needs}
use Rattle.ns_gate.specs.Prelude.{AcquireLoad, Expired, IsFirst, Load, Reader, SignalLoad}
use Rattle.ns_gate.specs.declared.queues.Turned.{Turned}
use Rattle.ns_word.specs.Begins.{IsForVariables}
use Rattle.ns_word.specs.Finds.{owes_more}
use Rattle.ns_word.specs.Places.{IsForCondition, IsUnmet}
use Rattle.ns_env.specs.declared.limits.Cause.TheVariants.{Notified}
use Rattle.ns_model.specs.declared.cvs.Variables.TheVariants.{Any, Only}
use Rattle.ns_word.specs.declared.cell_walk.CellPlace.TheVariants.{QuietLast, SetLoad}
use Rattle.ns_word.specs.declared.release_walk.ReleasePlace.TheVariants.{ReleaseLoad}
use Rattle.ns_word.specs.declared.show_walk.ShowPlace.TheVariants.{ShowLoad}
use Rattle.ns_word.specs.declared.wait.Aim.TheVariants.{ForLock}
use Rattle.ns_word.specs.declared.wait.Visit.TheVariants.{OnEntry}
use Rattle.ns_word.specs.declared.word.Arrival.TheVariants.{AsFresh}
use Rattle.std.specs.Option.{is_some}
use Rattle.ns_walk_tests.specs.Acts.{are_read, beside_of, has_read, is_for_condition, is_for_one, is_packable, is_same, may_begin, may_begin_free, may_begin_in, may_make, may_show, owed_or_none, was_in, was_known}
use Rattle.ns_walk_tests.specs.Driving.{IsDriven, Knows, RowsAre, Stands, at_most_one}
use Rattle.ns_walk_tests.specs.declared.known.Known.{Known}
use Rattle.ns_walk_tests.specs.declared.known.Rows.TheVariants.{Are, Unknown, Unread}
use Rattle.ns_walk_tests.specs.declared.known.Rows.{Rows}
use Rattle.ns_walk_tests.specs.declared.known.Section.{Section}

both : (a b : Bool) → (a && b) ≡ true → (a ≡ true) × (b ≡ true)
both true b e = (refl, e)
both false b e = absurd (cc)

below : (i n : ℕ) → nat_lt i n ≡ true → i < n
below i n e = grind (arith, nat_tests)

equal : (m n : ℕ) → (m == n) ≡ true → m ≡ n
equal m n e = grind (arith, nat_tests)

pub packs : (last : Word) → is_packable last ≡ true → IsPackable last
packs last e = let s = both (nat_le last.readers 64) _ e in record { few = few s.0; alone = λ writes. alone last.write writes s.1 } where
  few : nat_le last.readers 64 ≡ true → last.readers ≤ 64
  few is = grind (arith, nat_tests)

  alone : (b : Bool) → b ≡ true → (not b || last.readers == 0) ≡ true → last.readers ≡ 0
  alone true is e = equal last.readers 0 e
  alone false is e = absurd (cc)

shows : (limits : Limits) (shown : Option Cause) → may_show limits shown ≡ true → MayShow limits shown
shows limits None e = tt
shows limits (Some Expired) e = e
shows limits (Some Notified) e = e

-- a row of one cell but for that cell is any
row_but : (row : ℕ) (i : ℕ) (whole : List ℕ) → i < 1 → length whole ≡ 1 → IsRowBut i (row ∷ []) whole
row_but row i [] low one = absurd (omega (arith, one))
row_but row zero (x ∷ []) low one = refl
row_but row (suc i) (x ∷ []) low one = absurd (omega (arith, low))
row_but row i (x ∷ y ∷ zs) low one = absurd (omega (arith, one))

begins_none : {C : Type 0} (begins : Option (Walk C)) → not (is_some begins) ≡ true → begins ≡ None
begins_none None e = refl
begins_none (Some first) e = absurd (cc)

module _ {C : Type 0} (truths : Truths C) where
  has_one : (section : Option Section) (held : Option (Held C 1)) → is_some section ≡ true → Knows section held → IsWide held → length (row_in held) ≡ 1
  has_one None held some k wide = absurd (cc)
  has_one (Some section) None some k wide = absurd k
  has_one (Some section) (Some held) some k wide = wide.1

  read_some : (section : Option Section) → has_read section ≡ true → is_some section ≡ true
  read_some None e = absurd (cc)
  read_some (Some section) e = refl

  was_at : (section : Option Section) (held : Option (Held C 1)) → has_read section ≡ true → Knows section held → was_known section ∷ [] ≡ before_in held
  was_at None held read k = absurd (cc)
  was_at (Some section) None read k = absurd k
  was_at (Some section) (Some held) read k = by section.rows read k.1 where
    by : (rows : Rows) → are_read rows ≡ true → RowsAre rows held → was_in rows ∷ [] ≡ held.before
    by (Are before row) read k = sym k.0
    by Unread read k = absurd (cc)
    by Unknown read k = absurd (cc)

  wide_at : (at : Option (Walk C)) (me : SeatOf C 1) → Stands truths at me → IsWide (the me.0).at.held
  wide_at None me s = s.wide
  wide_at (Some walk) me s = s.wide

  owes_at : (at : Option (Walk C)) (me : SeatOf C 1) → Stands truths at me → OwesBelow (the me.0).at.owed
  owes_at None me s = subst OwesBelow (sym s.owes) tt
  owes_at (Some walk) me s = s.owes

  -- the one wake is owed next, and it alone
  pays : (owed : Option Owed) (owes : List Owed) → is_some owed ≡ true → owes ≡ at_most_one owed → OwesBelow owes → IsOwedNext (owed_or_none owed) owes × ((owed_or_none owed).seat < 64) × (Paid false ≡ owes_more owes)
  pays None owes some is low = absurd (cc)
  pays (Some wake) owes some is low = subst (λ (ns : List Owed). OwesBelow ns → IsOwedNext wake ns × (wake.seat < 64) × (Paid false ≡ owes_more ns)) (sym is) (λ low. (refl, low, refl)) low

  pub needs_by : (begins : Option (Walk C)) (act : Act C) (known : Known) (turned : Turned) (at : Option (Walk C)) (me : SeatOf C 1) → may_make (is_some begins) act known ≡ true → IsDriven truths at known me → Needs truths begins act (beside_of known turned (Paid false)) me
  needs_by begins LoadWord known turned at me may d = tt
  needs_by begins (Acquire aim arrival last) known turned at me may d = let s = both (not (is_some begins)) _ may in (begins_none begins s.0, packs last s.1)
  needs_by begins (TakeQueues taking last) known turned at me may d = let s = both (not (is_some begins)) _ may in (begins_none begins s.0, packs last s.1)
  needs_by begins (Release releasing last) known turned at me may d = let s = both (not (is_some begins)) _ may in (begins_none begins s.0, packs last s.1)
  needs_by begins (LoadCell i) known turned at me may d = below i 1 may
  needs_by begins (JudgeQuiet i) known turned at me may d = let s = both (nat_lt i 1) _ may in let low = below i 1 s.0 in
      (low, was_at known.section (the me.0).at.held s.1 d.knows, row_but _ i (row_in (the me.0).at.held) low (has_one known.section (the me.0).at.held (read_some known.section s.1) d.knows (wide_at at me d.stands)))
  needs_by begins (JudgeMet i c) known turned at me may d = let s = both (nat_lt i 1) _ may in let low = below i 1 s.0 in
      (low, row_but _ i (row_in (the me.0).at.held) low (has_one known.section (the me.0).at.held s.1 d.knows (wide_at at me d.stands)))
  needs_by begins (StoreCell i v) known turned at me may d = let s = both (not (is_some begins)) _ may in (begins_none begins s.0, below i 1 s.1)
  needs_by begins ArmFlag known turned at me may d = begins_none begins may
  needs_by begins LoadFlag known turned at me may d = begins_none begins may
  needs_by begins PayWake known turned at me may d = let s = both (not (is_some begins)) _ may in let p = pays known.owed (the me.0).at.owed s.1 d.owes (owes_at at me d.stands) in (begins_none begins s.0, p.0, p.1, p.2)
  needs_by begins (Look limits again) known turned at me may d = let s = both (not (is_some begins)) _ may in (begins_none begins s.0, shows limits known.shown s.1)
  needs_by begins act known turned at me may d = absurd (cc)

  -- ---- a call that begins

  same_is : (one other : Mode) → is_same one other ≡ true → one ≡ other
  same_is Write Write e = refl
  same_is Read Read e = refl
  same_is Write Read e = absurd (cc)
  same_is Read Write e = absurd (cc)

  for_condition : (on : Subject C) → is_for_condition on ≡ true → IsForCondition on
  for_condition (OnCondition c) e = tt
  for_condition (OnVariables variables) e = absurd (cc)

  for_one : (on : Subject C) (row : List ℕ) → is_for_one on ≡ true → IsForVariables on × IsUnmet truths on row
  for_one (OnVariables (Only k)) row e = (tt, below k 4 e)
  for_one (OnVariables (Any cvs)) row e = absurd (cc)
  for_one (OnCondition c) row e = absurd (cc)

  fits_free : (first : Walk C) → may_begin_free first ≡ true → IsFirst 1 first × PlaceFits {N = 1} truths (Some first) None
  fits_free (InTry mode TryLoad) e = (tt, (refl, tt))
  fits_free (InAcquire (ForLock mode) (AcquireLoad AsFresh)) e = (refl, (refl, tt, tt))
  fits_free (InSignal waking k SignalLoad) e = (tt, (tt, below k 4 e, tt))
  fits_free (InShow ShowLoad) e = (tt, (tt, tt))
  fits_free _ e = absurd (cc)

  fits_in : (first : Walk C) (mode : Mode) (held : Held C 1) → may_begin_in first mode ≡ true → held.mode ≡ mode → IsSettled truths (Some held) → IsFirst 1 first × PlaceFits truths (Some first) (Some held)
  fits_in (InRelease Writer ReleaseLoad) mode held e is settled = (tt, (is ∙ same_is mode Write e, tt, settled))
  fits_in (InRelease Reader ReleaseLoad) mode held e is settled = (tt, (is ∙ same_is mode Read e, tt, settled))
  fits_in (InCells (GetLoad i)) mode held e is settled = (tt, ((refl, below i 1 e), settled))
  fits_in (InCells (SetLoad i v)) mode held e is settled = let s = both (is_same mode Write) _ e in (tt, ((is ∙ same_is mode Write s.0, below i 1 s.1), settled))
  fits_in (InCells (QuietLast judging i)) mode held e is settled = let s = both (is_same mode Write) _ e in let zero_is = equal i 0 s.1 in (zero_is, ((is ∙ same_is mode Write s.0, omega (arith, zero_is)), settled))
  fits_in (InWait wait (TestLast OnEntry i)) mode held e is settled = let s = both (is_same mode wait.mode) _ e in let t = both (i == 0) _ s.1 in let zero_is = equal i 0 t.0 in
      (zero_is, (((is ∙ same_is mode wait.mode s.0, settled), omega (arith, zero_is), for_condition wait.on t.1), tt))
  fits_in (InWait wait (InQueuing false Load)) mode held e is settled = let s = both (is_same mode wait.mode) _ e in let on = for_one wait.on held.row s.1 in
      ((refl, on.0), ((record { mode = is ∙ same_is mode wait.mode s.0; unmet = on.1; settled = λ first. settled; back = λ again. absurd (cc) }, tt), tt))
  fits_in (InSignal waking k SignalLoad) mode held e is settled = (tt, (tt, below k 4 e, settled))
  fits_in (InShow ShowLoad) mode held e is settled = (tt, (tt, settled))
  fits_in _ mode held e is settled = absurd (cc)

  pub begins_fit : (first : Walk C) (section : Option Section) (held : Option (Held C 1)) → may_begin first section ≡ true → Knows section held → IsSettled truths held → IsFirst 1 first × PlaceFits truths (Some first) held
  begins_fit first None None e k settled = fits_free first e
  begins_fit first None (Some held) e k settled = absurd k
  begins_fit first (Some section) None e k settled = absurd k
  begins_fit first (Some section) (Some held) e k settled = fits_in first section.mode held e k.0 settled
