-- A step keeps the law: what has happened by it is legal, the words are those of the objects as they then stand, and its caller and all others stand where they may.
use Rattle.std.proofs.Common.{Err, List, Ok, Result, [], ap, arith, bit_or, eqb, eqb-true, get_or, get_or-set_other, get_or-set_same, length, length-set, refl, set, slice_index, subst, sym, true, ℕ, ℤ, ◌+◌, ◌<◌, ◌^◌, ◌∙◌, ◌∷◌, ◌≡◌, ◌≢◌, ◌≤◌}
use Rattle.ns_counters.proofs.Prelude.{Adding, AreWordsOf, Began, BeginOnce, Begun, CanAct, CounterFault, CounterState, EndOnce, Every, ExchangeToAdd, Free, HasWords, IsLegalFrom, IsLegalObjectEvent, IsLegalOnceEvent, IsWordOf, LoadToAdd, LookCounter, LookOnce, MarkWait, ObjectAct, ObjectEvent}
use Rattle.ns_counters.proofs.Prelude.{ObjectStanding, OnOnce, OnceEvent, OnceState, Outcome, Place, PlaceFits, Ran, Running, Setup, accepted, but-here, but_at, but_cases, by_test, counter_of, counter_word, judged, looked, most, object_next, object_who, objects_from, once_next, outcome, set-get_or}
use Rattle.ns_counters.proofs.Prelude.{stage, stage_word, tried, word_at, word_of_once}
use Rattle.ns_counters.specs.Prelude.{OnCounter}
use Rattle.ns_counters.proofs.Words.{counter_of-counter_word, marked}
use Rattle.ns_model.specs.declared.once.OnceState.TheVariants as TheOnce

-- ---- the words

-- the word of one counter is changed with the counter
counter_set : (now : ObjectStanding) (words : List ℕ) (number word : ℕ) (counter : CounterState) → number < 16 → AreWordsOf now words → IsWordOf word counter → AreWordsOf (record { counters = but_at number counter now.counters; onces = now.onces }) (set words number word)
counter_set now words number word counter low are is = let width = are.width in record {
  width = length-set words number word ∙ are.width;
  counters = λ n below. but_cases (λ (z : CounterState). IsWordOf (get_or (set words number word) n 0) z) number n counter now.counters
      (λ here. let within : number < length words = omega (arith, width, low) in subst (λ (k : ℕ). IsWordOf (get_or (set words number word) k 0) counter) (sym here) (rw get_or-set_same is))
      (λ apart. rw get_or-set_other (are.counters n below));
  onces = λ n below. let apart : 16 + n ≢ number = (λ same. omega (arith, same, low)) in rw get_or-set_other (are.onces n below);
}

-- the word of one once cell is changed with the cell
once_set : (now : ObjectStanding) (words : List ℕ) (number word : ℕ) (cell : OnceState) → number < 16 → AreWordsOf now words → word ≡ stage_word (stage cell) → AreWordsOf (record { counters = now.counters; onces = but_at number cell now.onces }) (set words (word_of_once number) word)
once_set now words number word cell low are is = let width = are.width in record {
  width = length-set words (16 + number) word ∙ are.width;
  counters = λ n below. let apart : n ≢ 16 + number = (λ same. omega (arith, same, below)) in rw get_or-set_other (are.counters n below);
  onces = λ n below. but_cases (λ (z : OnceState). get_or (set words (16 + number) word) (16 + n) 0 ≡ stage_word (stage z)) number n cell now.onces
      (λ here. let within : 16 + number < length words = omega (arith, width, low) in subst (λ (k : ℕ). get_or (set words (16 + number) word) (16 + k) 0 ≡ stage_word (stage cell)) (sym here) (rw get_or-set_same is))
      (λ apart. let other : 16 + n ≢ 16 + number = (λ same. apart (omega (arith, same))) in rw get_or-set_other (are.onces n below));
}

-- a step that only looks leaves all words
words_stay : (now : ObjectStanding) (words : List ℕ) (i : ℕ) → AreWordsOf now words → AreWordsOf now (set words i (get_or words i 0))
words_stay now words i are = subst (AreWordsOf now) (sym (set-get_or words i 0)) are

-- ---- where the others stand

-- who has begun to run a function still has, whatever others do
pub place_still : (setup : Setup) (now : ObjectStanding) (event : ObjectEvent) (seat : ℕ) (place : Place) → object_who event ≢ seat → IsLegalObjectEvent setup now event → PlaceFits setup now seat place → PlaceFits setup (object_next now event) seat place
place_still setup now event seat Free apart legal fits = tt
place_still setup now event seat (Adding counter delta) apart legal fits = fits
place_still setup now (OnCounter counter event) seat (Running once) apart legal fits = fits
place_still setup now (OnOnce cell event) seat (Running once) apart legal fits =
    (fits.0, but_cases (λ (z : OnceState). z ≡ TheOnce.Running seat) cell once (once_next (now.onces cell) event) now.onces (λ here. absurd (taken event apart (subst (λ (z : OnceState). IsLegalOnceEvent z event) (ap now.onces (sym here) ∙ fits.1) legal.1))) (λ _. fits.1)) where
      taken : (event : OnceEvent) → object_who (OnOnce cell event) ≢ seat → IsLegalOnceEvent (TheOnce.Running seat) event → ⊥
      taken (Began who) apart legal = legal
      taken (Ran who) apart legal = apart legal

pub places_still : (setup : Setup) (now : ObjectStanding) (events : List ObjectEvent) (who seat : ℕ) (place : Place) → who ≢ seat → Every (λ event. object_who event ≡ who) events →
    IsLegalFrom (IsLegalObjectEvent setup) object_next now events → PlaceFits setup now seat place → PlaceFits setup (objects_from now events) seat place
places_still setup now [] who seat place apart by legal fits = fits
places_still setup now (event ∷ events) who seat place apart by legal fits =
    places_still setup (object_next now event) events who seat place apart by.1 legal.1 (place_still setup now event seat place (λ is. apart (sym by.0 ∙ is)) legal.0 fits)

-- ---- one step

-- what a step keeps that leaves this
pub record StepKeeps (setup : Setup) (now : ObjectStanding) (words : List ℕ) (who at : ℕ) (left : Outcome) : Type 0 where
  pub legal : IsLegalFrom (IsLegalObjectEvent setup) object_next now left.events
  pub words_are : AreWordsOf (objects_from now left.events) (set words at left.word)
  pub place : PlaceFits setup (objects_from now left.events) who left.place
  pub by : Every (λ event. object_who event ≡ who) left.events

module _ (setup : Setup) (now : ObjectStanding) (words : List ℕ) (who : ℕ) (room : HasWords setup) (are : AreWordsOf now words) where
  -- a look
  looks : (at : ℕ) (place : Place) → PlaceFits setup now who place → StepKeeps setup now words who at (looked place (slice_index words at))
  looks at place fits = record { legal = tt; words_are = words_stay now words at are; place = fits; by = tt }

  module _ (counter : ℕ) (there : counter < setup.counters) where
    low : counter < 16
    low = let few = room.0 in omega (arith, few, there)

    found_is : counter_of (slice_index words counter) ≡ now.counters counter
    found_is = let is = are.counters counter low in ap counter_of is.0 ∙ counter_of-counter_word (now.counters counter) is.1

    -- a change that was judged, but not made
    tries : (delta : ℤ) (reply : Result ℕ CounterFault) → reply ≡ judged (now.counters counter) delta → StepKeeps setup now words who counter (tried who counter delta (slice_index words counter) reply)
    tries delta (Ok value) is = looks counter (Adding counter delta) there
    tries delta (Err fault) is = record {
      legal = ((there, is), tt);
      words_are = counter_set now words counter (slice_index words counter) (now.counters counter) low are (are.counters counter low);
      place = tt;
      by = (refl, tt);
    }

    judges : (delta : ℤ) → StepKeeps setup now words who counter (tried who counter delta (slice_index words counter) (judged (counter_of (slice_index words counter)) delta))
    judges delta = tries delta (judged (counter_of (slice_index words counter)) delta) (ap (λ (z : CounterState). judged z delta) found_is)

    -- a change that is made where the counter is as it was seen
    exchanges : (delta : ℤ) (seen : CounterState) (value : ℕ) (place : Place) → judged seen delta ≡ Ok value → seen.value ≤ most → StepKeeps setup now words who counter (outcome who (ExchangeToAdd counter delta seen value) place (slice_index words counter))
    exchanges delta seen value place fits few = by_test (StepKeeps setup now words who counter) (eqb (slice_index words counter) (counter_word seen))
        (λ same. let is : now.counters counter ≡ seen = sym found_is ∙ (ap counter_of (eqb-true (slice_index words counter) (counter_word seen) same) ∙ counter_of-counter_word seen few) in record {
          legal = ((there, sym (ap (λ (z : CounterState). judged z delta) is ∙ fits)), tt);
          words_are = counter_set now words counter (counter_word (record { value = value; waited = seen.waited })) (record { value = value; waited = (now.counters counter).waited }) low are
              (ap (λ (z : CounterState). counter_word (record { value = value; waited = z.waited })) (sym is), (accepted seen delta value fits).1);
          place = tt;
          by = (refl, tt);
        })
        (λ _. judges delta)

    marks : (place : Place) → PlaceFits setup now who place → StepKeeps setup now words who counter (outcome who (MarkWait counter) place (slice_index words counter))
    marks place fits = let is = are.counters counter low in record {
      legal = ((there, tt), tt);
      words_are = counter_set now words counter (bit_or (slice_index words counter) (2 ^ 32)) (record { value = (now.counters counter).value; waited = true }) low are (ap (λ n. bit_or n (2 ^ 32)) is.0 ∙ marked (now.counters counter) is.1, is.1);
      place = still place fits;
      by = (refl, tt);
    } where
      still : (place : Place) → PlaceFits setup now who place → PlaceFits setup (objects_from now (OnCounter counter (Begun who) ∷ [])) who place
      still Free fits = tt
      still (Adding other delta) fits = fits
      still (Running once) fits = fits

  module _ (once : ℕ) (there : once < setup.cells) where
    low_once : once < 16
    low_once = let few = room.1 in omega (arith, few, there)

    -- a word of 0 is that of a cell that nobody has begun
    unused : (cell : OnceState) → stage_word (stage cell) ≡ 0 → cell ≡ TheOnce.Unused
    unused TheOnce.Unused is = refl
    unused (TheOnce.Running runner) is = absurd (omega (arith, is))
    unused TheOnce.Done is = absurd (omega (arith, is))

    begins : (place : Place) → PlaceFits setup now who place → StepKeeps setup now words who (word_of_once once) (outcome who (BeginOnce once) place (slice_index words (word_of_once once)))
    begins place fits = by_test (StepKeeps setup now words who (word_of_once once)) (eqb (slice_index words (word_of_once once)) 0)
        (λ same. let is = unused (now.onces once) (sym (are.onces once low_once) ∙ eqb-true (slice_index words (word_of_once once)) 0 same) in record {
          legal = ((there, subst (λ (z : OnceState). IsLegalOnceEvent z (Began who)) (sym is) tt), tt);
          words_are = once_set now words once 1 (TheOnce.Running who) low_once are refl;
          place = (there, but-here once (TheOnce.Running who) now.onces);
          by = (refl, tt);
        })
        (λ _. looks (word_of_once once) place fits)

    ends : now.onces once ≡ TheOnce.Running who → (place : Place) → StepKeeps setup now words who (word_of_once once) (outcome who (EndOnce once) place (slice_index words (word_of_once once)))
    ends runs place = record {
      legal = ((there, subst (λ (z : OnceState). IsLegalOnceEvent z (Ran who)) (sym runs) refl), tt);
      words_are = once_set now words once 2 TheOnce.Done low_once are refl;
      place = tt;
      by = (refl, tt);
    }

  -- A step that its caller may make keeps the law.
  pub step_keeps : (act : ObjectAct) (place : Place) → PlaceFits setup now who place → CanAct setup place act → StepKeeps setup now words who (word_at act) (outcome who act place (slice_index words (word_at act)))
  step_keeps (LookCounter counter) place fits can = looks counter place fits
  step_keeps (LoadToAdd counter delta) place fits can = judges counter can.0 delta
  step_keeps (ExchangeToAdd counter delta seen value) place fits can = exchanges counter can.0 delta seen value place can.2 can.3
  step_keeps (MarkWait counter) place fits can = marks counter can.0 place fits
  step_keeps (LookOnce once) place fits can = looks (word_of_once once) place fits
  step_keeps (BeginOnce once) place fits can = begins once can.0 place fits
  step_keeps (EndOnce once) place fits can = let runs = subst (PlaceFits setup now who) can fits in ends once runs.0 runs.1 place
