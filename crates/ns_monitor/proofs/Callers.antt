-- What a call of the gate's seat tells its caller.
use Rattle.std.proofs.Common.{Bool, Err, None, Ok, Option, Result, Some, [], ap, append-nil, cond, false, refl, subst, sym, true, ℕ, ◌++◌, ◌∙◌, ◌∷◌, ◌≡◌}
use Rattle.ns_monitor.proofs.Prelude.{Acquire, Acquiring, AsFresh, Busy, CanStep, Cell, Done, ForLock, Get, Grows, HasAnswered, HasBegun, HasGoneBehind, HasLocked, HasReached, HasSeenMore, HasSince, HasUnlocked, InCells, InHand, InTry, IsAtPlace, IsAtRest, IsFreshIn, IsNumberOf, Known, LoadCell}
use Rattle.ns_monitor.proofs.Prelude.{LoadWord, Made, Mode, Number, On, Performed, Releasing, Reply, Saw, SeatOf, Set, SetStore, StoreCell, Succeeded, TableId, Truths, TryAcquire, TryLock, Unchanged, Walk, WantsNext, WentAtOnce, Word, asked_of, begins, getting, goes, going_act, gone_to, got_of}
use Rattle.ns_monitor.proofs.Prelude.{known_of, locking, may_acquire, may_go, place_after, releasing_by, row_after, section_of, setting, since, since_then, the, tried, trying}
use Rattle.ns_monitor.proofs.Begins.{locked_fresh}
use Rattle.ns_monitor.proofs.Standing.{loads_first}
use Rattle.ns_model.specs.declared.event.Exit.TheVariants as TheExit
use Rattle.ns_word.specs.Meanings as TheMeanings

abbrev made_of : {A B : Type 0} → Result A B → Bool
made_of (Ok x) = true
made_of (Err e) = false

-- another seat is of one's own monitor, as the handles of both tell
pub of_one : {C : Type 0} {N : ℕ} (mine seen its other : Known C N) (monitor : TableId) → mine ≡ seen → its ≡ other → seen.monitor ≡ other.monitor → mine.monitor ≡ monitor → its.monitor ≡ monitor
of_one {C = C} {N = N} mine seen its other monitor sees shows same own = let of = λ (k : Known C N). k.monitor in
    ◌∙◌ {A = TableId} (ap of shows) (◌∙◌ {A = TableId} (sym same) (◌∙◌ {A = TableId} (sym (ap of sees)) own))

module _ {C : Type 0} {N : ℕ} (truths : Truths C) where
  -- a call that is over has let its caller see more
  pub grew : (first : Walk C) (old : Known C N) (was is : TableId) (me now : SeatOf C N) → known_of was me ≡ old → is ≡ old.monitor → IsAtRest truths now → HasSince (Some first) (the me.0) (the now.0) → Grows truths first old (known_of is now)
  grew first old was is me now view same rest s = subst (λ (k : Known C N). is ≡ k.monitor → Grows truths first k (known_of is now)) view
      (λ same. record { monitor = same; seat_count = s.seat_count; seat = s.seat; begins = s.begins; begun = s.calls; true_to = rest.true_to; over = rest.over; owes = rest.owes; empty = rest.empty }) same

  -- one that has committed nothing leaves its own events
  silent : (first : Walk C) (old : Known C N) (was : TableId) (me now : SeatOf C N) → known_of was me ≡ old → HasSince (Some first) (the me.0) (the now.0) → (the now.0).course.committed ≡ [] → (the now.0).told.mine ≡ old.mine
  silent first old was me now view s none = s.mine ∙ (ap (λ es. (the me.0).told.mine ++ es) (sym s.committed ∙ none) ∙ (append-nil (the me.0).told.mine ∙ ap (λ (k : Known C N). k.mine) view))

  -- and one that has changed nothing its section too
  pub saw_more : (first : Walk C) (old : Known C N) (was is : TableId) (me now : SeatOf C N) → known_of was me ≡ old → is ≡ old.monitor → IsAtRest truths now → HasSince (Some first) (the me.0) (the now.0) →
      Unchanged (the now.0).course (the now.0).at.held → HasSeenMore truths first old (known_of is now)
  saw_more first old was is me now view same rest s kept = record { grows = grew first old was is me now view same rest s; mine = silent first old was me now view s kept.silent; held = kept.same ∙ (s.began ∙ ap (λ (k : Known C N). k.held) view) }

  -- one that has locked has a new section
  pub locked : (first : Walk C) (mode : Mode) (old : Known C N) (was is : TableId) (me now : SeatOf C N) → known_of was me ≡ old → is ≡ old.monitor → IsAtRest truths now → HasSince (Some first) (the me.0) (the now.0) →
      TheMeanings.HasLocked (row_after (the now.0).told.seen) mode (the now.0).course (the now.0).at.held → HasLocked truths first mode old (known_of is now)
  locked first mode old was is me now view same rest s h = record { grows = grew first old was is me now view same rest s; mine = silent first old was me now view s h.silent; section = h.section }

  -- one that has released has committed its section
  pub released : (first : Walk C) (releasing : Releasing) (old : Known C N) (was is : TableId) (me now : SeatOf C N) → known_of was me ≡ old → HasSince (Some first) (the me.0) (the now.0) →
      TheMeanings.HasReleased truths (the now.0).at.seat releasing (the now.0).course (the now.0).at.held → InHand old.held (λ section. (known_of is now).mine ≡ old.mine ++ section_of truths.holds old.seat section TheExit.Plain ∷ [])
  released first releasing old was is me now view s r = subst (λ (k : Known C N). InHand k.held (λ section. (the now.0).told.mine ≡ k.mine ++ section_of truths.holds k.seat section TheExit.Plain ∷ [])) view
      (subst (λ o. InHand o (λ section. (the now.0).told.mine ≡ (the me.0).told.mine ++ section_of truths.holds (the me.0).at.seat section TheExit.Plain ∷ [])) (sym r.began ∙ s.began)
      (s.mine ∙ ap (λ es. (the me.0).told.mine ++ es) (sym s.committed ∙ (r.committed ∙ (λ i. section_of truths.holds (s.seat i) r.was TheExit.Plain ∷ [])))))

  -- ---- calls that go at once

  -- one that has gone so is over, or has acquired
  pub went_so : (first walk : Walk C) (left : Option Word) (now : SeatOf C N) → walk ≡ first → left ≡ None → WentAtOnce truths walk left now → HasReached truths (asked_of first) (gone_to N first) now
  went_so first walk left now is none went = (subst (λ (x : Walk C × Option Word). WentAtOnce truths x.0 x.1 now) (λ i. (is i, none i)) went).1

  -- where one begun so has come since, which has gone at once or behind a wait
  abbrev pub CameSo : Walk C → TableId → SeatOf C N → TableId × SeatOf C N → Type 0
  CameSo first monitor was now = (now.0 ≡ monitor) × HasSince (Some first) (the was.0) (the now.1.0) × HasReached truths (asked_of first) (gone_to N first) now.1

  pub came_at_once : (first : Walk C) (old : Known C N) (monitor of : TableId) (number : ℕ) (last : Option Word) (now : SeatOf C N) → last ≡ None → of ≡ monitor → (b : HasBegun first old of number now) → WentAtOnce truths first last now → CameSo first monitor b.was (of, now)
  came_at_once first old monitor of number last now none same b went = (same, b.since, went_so first first last now refl none went)

  -- one that has locked so has a section that has just begun
  abbrev pub LockedSo : Mode → Known C N → ℕ → TableId × SeatOf C N → Type 0
  LockedSo mode old number now = (IsAtRest truths now.1 × IsNumberOf number now.1) × IsFreshIn N mode (the now.1.0).at.held × HasLocked truths (locking mode) mode old (known_of now.0 now.1)

  pub locked_so : (mode : Mode) (old : Known C N) (monitor of : TableId) (number : ℕ) (began : SeatOf C N) (now : TableId × SeatOf C N) → old.monitor ≡ monitor → (b : HasBegun (locking mode) old of number began) → CameSo (locking mode) monitor b.was now → LockedSo mode old number now
  locked_so mode old monitor of number began now own b came = let over = came.2 in (
    (over.rest, (b.own.0 ∙ b.since.seat ∙ sym (came.1).seat, b.own.1)),
    locked_fresh mode (row_after (the now.1.0).told.seen) (the now.1.0).at.held over.means.section over.rest.wide,
    locked (locking mode) mode old of now.0 b.was now.1 b.view (came.0 ∙ sym own) over.rest came.1 over.means,
  )

  -- and one that has released so has none
  abbrev pub ReleasedSo : Releasing → Known C N → ℕ → TableId × SeatOf C N → Type 0
  ReleasedSo releasing old number now = (IsAtRest truths now.1 × IsNumberOf number now.1 × ((the now.1.0).at.held ≡ None)) × HasUnlocked truths releasing old (known_of now.0 now.1)

  pub released_so : (releasing : Releasing) (old : Known C N) (monitor of : TableId) (number : ℕ) (began : SeatOf C N) (now : TableId × SeatOf C N) → old.monitor ≡ monitor → (b : HasBegun (releasing_by releasing) old of number began) →
      CameSo (releasing_by releasing) monitor b.was now → ReleasedSo releasing old number now
  released_so releasing old monitor of number began now own b came = let first = releasing_by releasing in let over = came.2 in (
    (over.rest, (b.own.0 ∙ b.since.seat ∙ sym (came.1).seat, b.own.1), over.means.left),
    record { grows = grew first old of now.0 b.was now.1 b.view (came.0 ∙ sym own) over.rest came.1; mine = released first releasing old of now.0 b.was now.1 b.view came.1 over.means },
  )

  -- ---- tries

  -- a try loads the word first
  pub may_try : (mode : Mode) (walk : Walk C) (me : SeatOf C N) → walk ≡ trying mode → IsAtRest truths me → (the me.0).at.held ≡ None → CanStep truths (Some walk) LoadWord me
  may_try mode walk me is rest free = subst (λ (w : Walk C). CanStep truths (Some w) LoadWord me) (sym is) (record { one = rest.one; may = (rest.over, tt, (free, tt)); walk = trying mode; walks = refl; wants = refl })

  -- and wants to acquire next where that lets it
  pub wants_to_try : (mode : Mode) (walk : Walk C) (word : Word) → walk ≡ trying mode → may_go {C = C} (Acquiring (ForLock mode) AsFresh) word ≡ true → WantsNext N walk word (going_act (Acquiring (ForLock mode) AsFresh) word)
  wants_to_try mode walk word is may = subst (λ (w : Walk C). WantsNext N w word (going_act (Acquiring (ForLock mode) AsFresh) word)) (sym is) (record {
    next = InTry mode (TryAcquire word);
    goes = ap (λ (b : Bool). place_after {R = Reply} (cond b (On (InTry mode (TryAcquire word))) (Done Busy))) may;
    wants = refl;
  })

  -- the word that was loaded decides
  pub tries_by : (mode : Mode) (word : Word) (b : Bool) (now : SeatOf C N) → may_acquire mode AsFresh word ≡ b → HasReached truths (TryLock mode) (got_of N (trying mode) (Saw word)) now → HasReached truths (TryLock mode) (cond b (On (InTry mode (TryAcquire word))) (Done Busy)) now
  tries_by mode word b now may led = subst (λ (x : Bool). HasReached truths (TryLock mode) (cond x (On (InTry mode (TryAcquire word))) (Done Busy)) now) may led

  -- and then the exchange
  pub is_tried : (mode : Mode) (last : Word) (r : Result Unit Word) (made : Bool) (me now : SeatOf C N) → made ≡ made_of r → IsAtPlace truths (InTry mode (TryAcquire last)) me →
      Performed truths None (Acquire (ForLock mode) AsFresh last) (tried r) me now → HasAnswered truths (TryLock mode) (cond made Succeeded Busy) now
  is_tried mode last r made me now is at p = subst (λ b. HasAnswered truths (TryLock mode) (cond b Succeeded Busy) now) (sym is) (by_result r p) where
    by_result : (r : Result Unit Word) → Performed truths None (Acquire (ForLock mode) AsFresh last) (tried r) me now → HasAnswered truths (TryLock mode) (cond (made_of r) Succeeded Busy) now
    by_result (Ok x) p = goes truths (InTry mode (TryAcquire last)) (Acquire (ForLock mode) AsFresh last) Made (Done Succeeded) me now at refl refl refl p
    by_result (Err word) p = goes truths (InTry mode (TryAcquire last)) (Acquire (ForLock mode) AsFresh last) (Saw word) (Done Busy) me now at refl refl refl p

  -- one exchange was both, the load and the acquire behind it
  pub tried_behind : (mode : Mode) (walk : Walk C) (me now : SeatOf C N) → walk ≡ trying mode → IsAtRest truths me → HasGoneBehind truths walk (Acquiring (ForLock mode) AsFresh) me now → HasAnswered truths (TryLock mode) Succeeded now × HasSince (Some (trying mode)) (the me.0) (the now.0)
  tried_behind mode walk me now is rest b =
      let word = b.word in let mid = b.both.between in let act = Acquire (ForLock mode) AsFresh word in
      let led = loads_first truths (trying mode) walk word me mid is rest b.both.loaded in
      let at : IsAtPlace truths (InTry mode (TryAcquire word)) mid = tries_by mode word true mid b.may led.0 in (
        goes truths (InTry mode (TryAcquire word)) act Made (Done Succeeded) mid now at refl refl refl b.both.made,
        since_then (Some (trying mode)) _ _ _ led.1 (since truths None act Made mid now b.both.made),
      )

  -- ---- the row

  pub is_got : (i value : ℕ) (walk : Walk C) (me now : SeatOf C N) → walk ≡ getting i → IsAtRest truths me → Performed truths (Some walk) (LoadCell i) (Cell value) me now → HasAnswered truths (Get i) (Number value) now × HasSince (Some (getting i)) (the me.0) (the now.0)
  is_got i value walk me now is rest did = let p = subst (λ w. Performed truths (Some w) (LoadCell i) (Cell value) me now) is did in
      (begins truths (getting i) (LoadCell i) (Cell value) (Done (Number value)) me now refl (λ _. p.carried ∙ rest.empty) p, since truths (Some (getting i)) (LoadCell i) (Cell value) me now p)

  pub sets_next : (i value old : ℕ) (walk : Walk C) (me now : SeatOf C N) → walk ≡ setting i value → IsAtRest truths me → Performed truths (Some walk) (LoadCell i) (Cell old) me now → IsAtPlace truths (InCells (SetStore i value)) now × HasSince (Some (setting i value)) (the me.0) (the now.0)
  sets_next i value old walk me now is rest did = let p = subst (λ w. Performed truths (Some w) (LoadCell i) (Cell old) me now) is did in
      (begins truths (setting i value) (LoadCell i) (Cell old) (On (InCells (SetStore i value))) me now refl (λ _. p.carried ∙ rest.empty) p, since truths (Some (setting i value)) (LoadCell i) (Cell old) me now p)

  pub is_set : (i value : ℕ) (start me now : SeatOf C N) → IsAtPlace truths (InCells (SetStore i value)) me × HasSince (Some (setting i value)) (the start.0) (the me.0) →
      Performed truths None (StoreCell i value) Made me now → HasAnswered truths (Set i value) Succeeded now × HasSince (Some (setting i value)) (the start.0) (the now.0)
  is_set i value start me now at p = (goes truths (InCells (SetStore i value)) (StoreCell i value) Made (Done Succeeded) me now at.0 refl refl refl p, since_then (Some (setting i value)) _ _ _ at.1 (since truths None (StoreCell i value) Made me now p))
