-- The cells of the row are loaded one after another, step by step, and the test of a wait tells.
use Rattle.std.proofs.Common.{Bool, List, None, Option, Some, [], ap, arith, cond, false, get_or, get_or-set_other, get_or-set_same, inl, inr, le-ltb, length, length-set, lt-ltb, nat_lt, refl, set, slice_index, subst, sym, true, ℕ, ◌+◌, ◌-◌, ◌<◌, ◌∙◌, ◌∷◌, ◌≡◌, ◌≤◌}
use Rattle.ns_monitor.proofs.Prelude.{Act, AreRead, Await, Bounded, CanStep, Cell, Found, HasAnswered, HasGone, HasLoaded, HasMade, HasMadeSteps, HasReached, HasTested, HasUnchangedQueues, Held, InCells, InQueuing, InRelease, InWait, Is, IsAtPlace, IsQuiet, IsWide, JudgeMet, JudgeQuiet, Lists, LoadCell}
use Rattle.ns_monitor.proofs.Prelude.{LoadToScan, LockState, Next, On, Part, Performed, PlaceFits, QueueToWait, Quiet, QuietCells, QuietLast, Reply, ScanAndRelease, ScanCells, SeatOf, StandsAt, TestCells, Tested, ToTell, Truths, Visit, Wait, Walk, asked_of, before_in, begins, carried_by, cases_Bool}
use Rattle.ns_monitor.proofs.Prelude.{cases_eq, cell_in_hand, cond-false, cond-true, cond_both, does, goes_on, got_of, has_queues, judging, loading, loading_at, place_after, release_has_queues, row_in, same_number_lists, tested_by, the, view_in, wait_has_queues}
use Rattle.ns_monitor.proofs.Prelude.{want_of}
use Rattle.ns_monitor.proofs.Bounds.{gone_by, gone_itself, gone_then}
use Rattle.ns_monitor.proofs.Standing.{commits_none, held_in, same_held}

-- ---- the row

-- one more cell was read
reads_more : (N : ℕ) (row read : List ℕ) (i value : ℕ) → i < N → AreRead N row read i → value ≡ slice_index row i → AreRead N row (set read i value) (i + 1)
reads_more N row read i value low are is = let wide = are.width in record {
  width = length-set read i value ∙ are.width;
  cells = λ k below. elim (cases_eq k i) [
    | inl same ↦ subst (λ (m : ℕ). get_or (set read i value) m 0 ≡ get_or row m 0) (sym same) (get_or-set_same read i value 0 (omega (arith, wide, low)) ∙ is)
    | inr ne ↦ get_or-set_other read i k value 0 ne ∙ are.cells k (omega (arith, below, ne))
  ];
}

-- all of them were
all_read : (N : ℕ) (row read : List ℕ) → length row ≡ N → AreRead N row read N → read ≡ row
all_read N row read wide are = let width = are.width in same_number_lists read row (width ∙ sym wide) (λ k low. are.cells k (omega (arith, low, width)))

-- ---- the places

-- what is made of one of two things is one of what is made of them
pub moves_in : {A B : Type 0} (f : A → B) (b : Bool) (x y : A) → f (cond b x y) ≡ cond b (f x) (f y)
moves_in f true x y = refl
moves_in f false x y = refl

-- about to load a cell it wants that, and then stands where it has loaded one more, with the queues or without them as before
record LoadsAt {C : Type 0} (N : ℕ) (walk : Walk C) (i : ℕ) : Type 0 where
  wants : want_of ((loading N walk).at i) ≡ LoadCell i
  goes : (value : ℕ) → got_of N ((loading N walk).at i) (Cell value) ≡ On (loading_at N walk (i + 1))
  free : has_queues (Some (loading_at N walk (i + 1))) ≡ false → has_queues (Some ((loading N walk).at i)) ≡ false

module _ {C : Type 0} (N : ℕ) where
  loads_at : (walk : Walk C) (i : ℕ) → i < (loading N walk).count → LoadsAt N walk i
  loads_at (InWait wait (TestCells visit k)) i low = record { wants = refl; goes = λ value. refl; free = λ e. refl }
  loads_at (InCells (QuietCells judges k)) i low = record { wants = refl; goes = λ value. refl; free = λ e. refl }
  loads_at (InRelease releasing (ScanCells word k)) i low = record { wants = refl; goes = λ value. refl; free = cond_both _ (ScanCells word (i + 1)) (ScanAndRelease word) (λ place. release_has_queues place ≡ false → true ≡ false) (λ _ e. e) (λ _ e. e) }
  loads_at (InWait wait (InQueuing again (LoadToScan word k))) i low =
      record { wants = refl; goes = λ value. refl; free = cond_both _ (LoadToScan word (i + 1)) (QueueToWait word) (λ place. wait_has_queues (InQueuing again place) ≡ false → true ≡ false) (λ _ e. e) (λ _ e. e) }
  loads_at walk i low = absurd (omega (arith, low))

  placed : (walk : Walk C) (k : ℕ) → loading_at N walk k ≡ cond (nat_lt k (loading N walk).count) ((loading N walk).at k) (loading N walk).last
  placed (InWait wait (TestCells visit i)) k = refl
  placed (InCells (QuietCells judges i)) k = moves_in (λ place. InCells place) _ (QuietCells judges k) (QuietLast judges (N - 1))
  placed (InRelease releasing (ScanCells word i)) k = moves_in (λ place. InRelease releasing place) _ (ScanCells word k) (ScanAndRelease word)
  placed (InWait wait (InQueuing again (LoadToScan word i))) k = moves_in (λ place. InWait wait (InQueuing again place)) _ (LoadToScan word k) (QueueToWait word)
  placed walk k = moves_in (λ (b : Bool). walk) _ true false

  at_cell : (walk : Walk C) (i : ℕ) → i < (loading N walk).count → loading_at N walk i ≡ (loading N walk).at i
  at_cell walk i low = placed walk i ∙ cond-true _ _ _ (lt-ltb i (loading N walk).count low)

  at_last : (walk : Walk C) → loading_at N walk (loading N walk).count ≡ (loading N walk).last
  at_last walk = placed walk (loading N walk).count ∙ cond-false _ _ _ (le-ltb (loading N walk).count (loading N walk).count (omega arith))

  -- it has a section in hand
  there : (truths : Truths C) (walk : Walk C) (i : ℕ) (held : Option (Held C N)) → i < (loading N walk).count → PlaceFits truths (Some ((loading N walk).at i)) held → (section : Held C N) × (held ≡ Some section)
  there truths walk i (Some section) low fits = (section, refl)
  there truths (InWait wait (TestCells visit k)) i None low fits = absurd (fits.0.0)
  there truths (InCells (QuietCells judges k)) i None low fits = absurd (fits.0.0)
  there truths (InRelease releasing (ScanCells word k)) i None low fits = absurd (fits.0)
  there truths (InWait wait (InQueuing again (LoadToScan word k))) i None low fits = absurd (fits.0.0)
  there truths walk i None low fits = absurd (omega (arith, low))

  wide_row : (held : Option (Held C N)) (section : Held C N) → held ≡ Some section → IsWide held → length (row_in held) ≡ N
  wide_row held section is = subst (λ (o : Option (Held C N)). IsWide o → length (row_in o) ≡ N) (sym is) (λ wide. wide.1)

module _ {C : Type 0} {N : ℕ} (truths : Truths C) where
  -- ---- a step from where it stands, or with which it begins

  fits_at : (b : Option (Walk C)) (walk : Walk C) (me : SeatOf C N) → StandsAt truths b walk me → PlaceFits truths (Some walk) (the me.0).at.held × IsWide (the me.0).at.held
  fits_at None walk me at = (at.fits, at.wide)
  fits_at (Some first) walk me at = (subst (λ w. PlaceFits truths (Some w) (the me.0).at.held) at.0 at.3, at.1.wide)

  can_step : (b : Option (Walk C)) (walk : Walk C) (act : Act C) (me : SeatOf C N) → want_of walk ≡ act → StandsAt truths b walk me → CanStep truths b act me
  can_step None walk act me wants at = record { one = at.one; may = tt; walk = walk; walks = at.walks; wants = wants }
  can_step (Some first) walk act me wants at = record { one = at.1.one; may = (at.1.over, at.2, at.3); walk = first; walks = refl; wants = ap want_of at.0 ∙ wants }

  steps : (b : Option (Walk C)) (walk : Walk C) (act : Act C) (found : Found) (next : Next (Walk C) Reply) (me now : SeatOf C N) → StandsAt truths b walk me → got_of N walk found ≡ next → (has_queues (place_after next) ≡ false → has_queues (Some walk) ≡ false)
      → carried_by act found (the now.0).stood me.1 ≡ me.1 → Performed truths b act found me now → HasReached truths (asked_of walk) next now
  steps None walk act found next me now at is free keeps p = goes_on truths walk act found next me now at is (λ e. p.carried ∙ (keeps ∙ at.empty (free e))) p
  steps (Some first) walk act found next me now at is free keeps p =
      subst (λ w. HasReached truths (asked_of w) next now) at.0 (begins truths first act found next me now (ap (λ w. got_of N w found) at.0 ∙ is) (λ _. p.carried ∙ (keeps ∙ at.1.empty)) p)

  since_more : (b left : Option (Walk C)) (act : Act C) (found : Found) (start old new : Bounded C N) → HasGone b left start old → HasMade truths left act found old new → HasMadeSteps b start new
  since_more b None act found start old new s did = gone_then b start old new s (gone_by did)
  since_more b (Some first) act found start old new s did = subst (λ (x : Option (Walk C) × Bounded C N). HasMadeSteps x.0 x.1 new) (λ i. (sym s.0 i, s.1 i)) (gone_by did)

  -- ---- a cell is loaded

  -- the queues in hand stay as they stood
  stays_taken : (b : Option (Walk C)) (walk : Walk C) (i value : ℕ) (me now : SeatOf C N) → StandsAt truths b walk me → Performed truths b (LoadCell i) (Cell value) me now → HasUnchangedQueues me → HasUnchangedQueues now × ((the now.0).stood ≡ (the me.0).stood)
  stays_taken (Some first) walk i value me now at p taken = absurd (let none : me.1 ≡ [] = at.1.empty in cc)
  stays_taken None walk i value me now at p taken = elim (cases_Bool (has_queues (Some walk))) [
    | inl has ↦ let same = p.did.stood_now ∙ (ap (λ (q : Part C N). q.lists) (does truths None (LoadCell i) (Cell value) me now p).1 ∙ (ap (λ (s : LockState C N). s.lists) p.did.made.begins ∙ sym (p.did.stood_was (ap has_queues at.walks ∙ has)))) in
        (p.carried ∙ (taken ∙ ap (λ (lists : Lists C). (0, lists) ∷ []) (sym same)), same)
    | inr free ↦ absurd (let none : me.1 ≡ [] = at.empty free in cc)
  ]

  -- nothing is loaded yet
  pub loads_none : (b : Option (Walk C)) (walk : Walk C) (row : List ℕ) (seat : Bounded C N) → length row ≡ N → StandsAt truths b (loading_at N walk 0) seat.me → HasLoaded truths b b walk 0 row seat seat
  loads_none b walk row seat width at = record { at = at; since = gone b; held = refl; mine = refl; taken = λ taken. (taken, refl); read = record { width = width; cells = λ k low. absurd (omega (arith, low)) } } where
    gone : (b : Option (Walk C)) → HasGone b b seat seat
    gone None = gone_itself seat
    gone (Some first) = (refl, refl)

  pub can_load_cell : (b left : Option (Walk C)) (walk : Walk C) (i : ℕ) (row : List ℕ) (start old : Bounded C N) → i < (loading N walk).count → HasLoaded truths b left walk i row start old → CanStep truths left (LoadCell i) old.me
  can_load_cell b left walk i row start old low has = can_step left ((loading N walk).at i) (LoadCell i) old.me (loads_at N walk i low).wants (subst (λ w. StandsAt truths left w old.me) (at_cell N walk i low) has.at)

  -- one more is
  pub loads_cell : (b left : Option (Walk C)) (walk : Walk C) (i value : ℕ) (row : List ℕ) (start old new : Bounded C N) → i < (loading N walk).count → i < N → HasLoaded truths b left walk i row start old → HasMade truths left (LoadCell i) (Cell value) old new
      → HasLoaded truths b None walk (i + 1) (set row i value) start new
  loads_cell b left walk i value row start old new low inside has did =
      let me = old.me in let now = new.me in let p = did.by in
      let l = loads_at N walk i low in let place = (loading N walk).at i in let at = subst (λ w. StandsAt truths left w me) (at_cell N walk i low) has.at in
      let held = same_held truths left (LoadCell i) (Cell value) me now p (ap (λ (q : Part C N). q.held) (does truths left (LoadCell i) (Cell value) me now p).1) in
      let section = there N truths walk i (the me.0).at.held low (fits_at left place me at).0 in record {
        at = steps left place (LoadCell i) (Cell value) (On (loading_at N walk (i + 1))) me now at (l.goes value) l.free refl p;
        since = since_more b left (LoadCell i) (Cell value) start old new has.since did;
        held = held ∙ has.held;
        mine = commits_none truths left (LoadCell i) (Cell value) me now p (does truths left (LoadCell i) (Cell value) me now p).2 ∙ has.mine;
        taken = λ taken. let before = has.taken taken in let after = stays_taken left place i value me now at p before.0 in (after.0, after.1 ∙ before.1);
        read = reads_more N (row_in (the start.me.0).at.held) row i value inside has.read
            (cell_in_hand truths left i value section.0 me now p (held ∙ section.1) ∙ ap (λ (o : Option (Held C N)). slice_index (row_in o) i) (sym section.1 ∙ has.held));
      }

  -- ---- the last one tells

  pub can_tell : (b left : Option (Walk C)) (walk : Walk C) (act : Act C) (row : List ℕ) (start old : Bounded C N) → want_of (loading N walk).last ≡ act → HasLoaded truths b left walk (loading N walk).count row start old → CanStep truths left act old.me
  can_tell b left walk act row start old wants has = can_step left (loading N walk).last act old.me wants (subst (λ w. StandsAt truths left w old.me) (at_last N walk) has.at)

  -- what comes of a last load: where it leads, and the row, which is the one of the section in hand
  record HasTold (b : Option (Walk C)) (walk : Walk C) (found : Found) (row : List ℕ) (start new : Bounded C N) : Type 0 where
    leads : HasReached truths (asked_of (loading N walk).last) (got_of N (loading N walk).last found) new.me
    since : HasMadeSteps b start new
    held : (the new.me.0).at.held ≡ (the start.me.0).at.held
    mine : (the new.me.0).told.mine ≡ (the start.me.0).told.mine
    row_is : row ≡ row_in (the start.me.0).at.held

  told : (b left : Option (Walk C)) (walk : Walk C) (act : Act C) (found : Found) (row : List ℕ) (value : ℕ) (section : Held C N) (start old new : Bounded C N) → 1 ≤ N → (loading N walk).count ≡ N - 1 → has_queues (Some (loading N walk).last) ≡ false
      → HasLoaded truths b left walk (loading N walk).count row start old → (view_in (the old.me.0).at left).held ≡ Some section → value ≡ slice_index (row_in (the old.me.0).at.held) (N - 1) → carried_by act found (the new.me.0).stood old.me.1 ≡ old.me.1
      → (did : HasMade truths left act found old new) → did.by.did.made.step.held ≡ (view_in (the old.me.0).at left).held → did.by.did.commits ≡ [] → HasTold b walk found (set row (N - 1) value) start new
  told b left walk act found row value section start old new some last free has there is keeps did same none =
      let me = old.me in let now = new.me in let p = did.by in
      let at = subst (λ w. StandsAt truths left w me) (at_last N walk) has.at in let whole = row_in (the start.me.0).at.held in
      let more = reads_more N whole row (N - 1) value (omega (arith, some)) (subst (AreRead N whole row) last has.read) (is ∙ ap (λ (o : Option (Held C N)). slice_index (row_in o) (N - 1)) has.held) in record {
        leads = steps left (loading N walk).last act found (got_of N (loading N walk).last found) me now at refl (λ _. free) keeps p;
        since = since_more b left act found start old new has.since did;
        held = same_held truths left act found me now p same ∙ has.held;
        mine = commits_none truths left act found me now p none ∙ has.mine;
        row_is = all_read N whole (set row (N - 1) value) (ap (λ (o : Option (Held C N)). length (row_in o)) (sym has.held) ∙ wide_row N (the me.0).at.held section (sym (held_in truths left (the me.0).at) ∙ there) (fits_at left (loading N walk).last me at).1)
            (subst (AreRead N whole (set row (N - 1) value)) (omega (arith, some)) more);
      }

  -- ---- a wait tests its condition

  pub is_tested : (b left : Option (Walk C)) (wait : Wait C) (visit : Visit) (c : C) (row : List ℕ) (value : ℕ) (met : Bool) (start old new : Bounded C N) → 1 ≤ N → HasLoaded truths b left (InWait wait (TestCells visit 0)) (N - 1) row start old
      → value ≡ slice_index (row_in (the old.me.0).at.held) (N - 1) → HasMade truths left (JudgeMet (N - 1) c) (Tested (truths.holds c (row_in (the old.me.0).at.held))) old new → met ≡ truths.holds c (set row (N - 1) value)
      → HasMadeSteps b start new × HasTested truths wait visit c met (set row (N - 1) value) start.me new.me
  is_tested b left wait visit c row value met start old new some has cell did is =
      let found = Tested (truths.holds c (row_in (the old.me.0).at.held)) in let e = does truths left (JudgeMet (N - 1) c) found old.me new.me did.by in
      let t = told b left (InWait wait (TestCells visit 0)) (JudgeMet (N - 1) c) found row value e.0 start old new some refl refl has e.1 cell refl did (ap (λ (q : Part C N). q.held) e.3) e.4 in (
        t.since,
        record {
          leads = subst (λ met. HasReached truths (Await wait) (tested_by wait visit met) new.me) (ap (λ o. truths.holds c (row_in o)) has.held ∙ (ap (truths.holds c) (sym t.row_is) ∙ sym is)) t.leads;
          held = t.held;
          mine = t.mine;
          row_is = t.row_is;
          is = is;
        },
      )

  -- ---- a section is judged

  -- the answer tells of the section that was in hand as the call began, and the row is that section's
  pub is_judged : (left : Option (Walk C)) (first : Walk C) (row : List ℕ) (value : ℕ) (start old new : Bounded C N) → 1 ≤ N → first ≡ judging N → HasLoaded truths (Some first) left (InCells (QuietCells ToTell 0)) (N - 1) row start old
      → value ≡ slice_index (row_in (the old.me.0).at.held) (N - 1) → HasMade truths left (JudgeQuiet (N - 1)) (Quiet (truths.quiet (before_in (the old.me.0).at.held) (row_in (the old.me.0).at.held))) old new
      → HasMadeSteps (Some (judging N)) start new × HasAnswered truths IsQuiet (Is (truths.quiet (before_in (the start.me.0).at.held) (row_in (the start.me.0).at.held))) new.me × (set row (N - 1) value ≡ row_in (the start.me.0).at.held)
  is_judged left first row value start old new some is has cell did =
      let found = Quiet (truths.quiet (before_in (the old.me.0).at.held) (row_in (the old.me.0).at.held)) in let e = does truths left (JudgeQuiet (N - 1)) found old.me new.me did.by in
      let t = told (Some first) left (InCells (QuietCells ToTell 0)) (JudgeQuiet (N - 1)) found row value e.0 start old new some refl refl has e.1 cell refl did (ap (λ (q : Part C N). q.held) e.3) e.4 in (
        subst (λ w. HasMadeSteps (Some w) start new) is t.since,
        subst (λ (o : Option (Held C N)). HasAnswered truths IsQuiet (Is (truths.quiet (before_in o) (row_in o))) new.me) has.held t.leads,
        t.row_is,
      )

  -- ---- a scan has its row

  pub is_scanned : (left : Option (Walk C)) (walk : Walk C) (row : List ℕ) (start old : Bounded C N) → 1 ≤ N → (loading N walk).count ≡ N → IsAtPlace truths (loading_at N walk 0) start.me → HasLoaded truths None left walk N row start old
      → IsAtPlace truths (loading N walk).last old.me × HasMadeSteps None start old × (row ≡ row_in (the start.me.0).at.held)
  is_scanned (Some first) walk row start old some scans at has = absurd (let no = has.since.0 in cc)
  is_scanned None walk row start old some scans at has =
      let held = (the start.me.0).at.held in let low = subst (λ n. 1 ≤ n) (sym scans) some in
      let section = there N truths walk 0 held low (subst (λ w. PlaceFits truths (Some w) held) (at_cell N walk 0 low) at.fits) in (
        subst (λ w. IsAtPlace truths w old.me) (ap (loading_at N walk) (sym scans) ∙ at_last N walk) has.at,
        has.since,
        all_read N (row_in held) row (wide_row N held section.0 section.1 at.wide) has.read,
      )
