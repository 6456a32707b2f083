-- How far a call on counters and once cells has come: whatever others do leaves that as it is, and each step of its own takes it on to an answer that means what it says.
use Rattle.std.proofs.Common.{Bool, Err, List, None, Ok, Option, Result, Some, [], ap, append-nil, arith, cond, drop, eq-eqb, eqb, eqb-true, false, inl, inr, ltb-false, nat_lt, refl, slice_get, slice_index, subst, suc, sym, take, take-append-drop, true, ℕ, ℤ, ◌++◌, ◌<◌, ◌∙◌, ◌∷◌, ◌≡◌, ◌≤◌}
use Rattle.ns_counters.proofs.Prelude.{AddExchange, AddLoad, AnyAnswers, AtCounter, AtNote, AtSomeMoment, AtSomePoint, BeginsWith, ChainFits, Clock, CounterFault, CounterState, Done, DoneLoad, Env, EnvEnd, EnvEvent, EnvFound, EnvState, EnvWalk, FirstClock, ForIsNotified, Free, HadValue}
use Rattle.ns_counters.proofs.Prelude.{HasLookedUpTo, HasShownNone, HaveShownNothing, InRound, InTurn, IsBetween, IsLater, IsLawful, IsLawfulEnv, IsLegalEnv, IsReady, IsSo, Item, Items, LookOnce, Next, Note, NoteLoad, Number, ObjectEffect, ObjectEvent, ObjectFound, ObjectGoes, ObjectSoFar}
use Rattle.ns_counters.proofs.Prelude.{ObjectStanding, ObjectWalk, On, OnCounterItem, OnNote, OnOnce, OnVariable, OnceBegin, OnceEnd, OnceLoad, OnceState, Outcome, Over, Past, Round, RoundGo, RoundNext, RoundOver, RoundPlace, RoundSoFar, Setup, Stage, ValueLoad, WaitClock, WaitLoad, WaitMark}
use Rattle.ns_counters.proofs.Prelude.{WalkFits, WereThere, Word, begins_itself, begins_through, both, by_answer, by_begun, by_chain, by_deadline, by_round, by_stage, by_test, chain_answers, chain_from, clock_of, counter_of, counter_word, either, env_after, env_got_of, first_objects, fold-append}
use Rattle.ns_counters.proofs.Prelude.{from_items, from_place, get_or_from_slice_get, has_run, is_done, is_due, is_ready, item_at, items_of, judged, legal_begins, line_starts, made_begins, object_asked, object_got, object_next, object_place, object_want, objects_after, objects_own, outcome}
use Rattle.ns_counters.proofs.Prelude.{past_and, round_got, round_want, slice_get_within, stage, stage_of, take-suc, tried, waited_next, word_of_once}
use Rattle.ns_counters.specs.Prelude.{OnCounter}
use Rattle.ns_counters.proofs.Listed.{listed, stands_at}
use Rattle.ns_counters.proofs.Objects.{own-append}
use Rattle.ns_counters.proofs.Rounds.{answers_until, later_itself, later_through, nothing_later, nothing_until, turn_more, turn_until}
use Rattle.ns_counters.proofs.WalkLaw.{clock_found, counter_there, note_found, note_there}
use Rattle.ns_counters.proofs.Words.{counter_of-counter_word, stage_of-stage_word}
use Rattle.ns_model.specs.declared.counter.CounterEvent.TheVariants as TheCounter
use Rattle.ns_model.specs.declared.once.OnceEvent.TheVariants as TheOnce
use Rattle.ns_model.specs.declared.once.OnceState.TheVariants as TheState
use Rattle.ns_counters.specs.declared.word.Stage.TheVariants as TheStage

-- ---- more that has happened

pub later_and : (now more : Past) → IsLater now (past_and now more)
later_and now more = record { notes = (more.notes, refl); objects = (more.objects, refl) }

-- what lay between these lies between them when more has happened
between_on : {A : Type 0} (earlier point now more : List A) → IsBetween earlier point now → IsBetween earlier point (now ++ more)
between_on earlier point now more between = (between.0, begins_through (now ++ more) now point (more, refl) between.1)

-- all that has happened so far is a point of it
between_now : {A : Type 0} (earlier now : List A) → BeginsWith now earlier → IsBetween earlier now now
between_now earlier now since = (since, begins_itself now)

-- how far a round had looked it has looked still
looked_until : (setup : Setup) (earlier now on : Past) (round : Round) (start : Past) (clock at : ℕ) → HasLookedUpTo setup earlier now round start clock at → IsLater now on → HasLookedUpTo setup earlier on round start clock at
looked_until setup earlier now on round start clock at looked later = record {
  rounds = looked.rounds;
  mid = looked.mid;
  nothing = looked.nothing;
  begins = looked.begins;
  loaded = looked.loaded;
  unready = turn_until (IsReady setup false) start (record { notes = start.notes; objects = now.objects }) (record { notes = start.notes; objects = on.objects }) (take at (items_of round.items)) looked.unready (record { notes = begins_itself start.notes; objects = later.objects });
  since = later_through start now on looked.since later;
}

module _ (setup : Setup) (earlier now more : Past) where
  pub any_on : (items : Items) (deadline : Option ℕ) (place : ℕ) → AnyAnswers setup earlier now items deadline place → AnyAnswers setup earlier (past_and now more) items deadline place
  any_on items deadline place answers = answers_until (IsReady setup) (items_of items) deadline earlier now (past_and now more) place answers (later_and now more)

  pub nothing_on : (round : Round) (rounds : ℕ) → HaveShownNothing (IsReady setup) (items_of round.items) round.deadline rounds earlier now → HaveShownNothing (IsReady setup) (items_of round.items) round.deadline rounds earlier (past_and now more)
  nothing_on round rounds nothing = nothing_until (IsReady setup) (items_of round.items) round.deadline rounds earlier now (past_and now more) nothing (later_and now more)

  pub round_on : (round : Round) (place : RoundPlace) → RoundSoFar setup earlier now round place → RoundSoFar setup earlier (past_and now more) round place
  round_on round FirstClock so = (so.0, nothing_on round so.0 so.1)
  round_on round (AtNote at clock asked note) so = (so.0, looked_until setup earlier now (past_and now more) round so.0 clock at so.1 (later_and now more), so.2)
  round_on round (AtCounter at clock counter) so = (so.0, looked_until setup earlier now (past_and now more) round so.0 clock at so.1 (later_and now more))

module _ (setup : Setup) (earlier : Past) (seat : ℕ) (now more : Past) where
  had_on : (counter value : ℕ) → HadValue setup earlier now seat counter value → HadValue setup earlier (past_and now more) seat counter value
  had_on counter value had = (had.0, between_on earlier.objects had.0 now.objects more.objects had.1, had.2, had.3)

  -- What others do leaves a call where it is.
  pub so_far_on : (events : List ObjectEvent) (walk : ObjectWalk) → ObjectSoFar setup earlier now seat events walk → ObjectSoFar setup earlier (past_and now more) seat events walk
  so_far_on events (WaitClock counter moment value) so = (so.0, had_on counter value so.1)
  so_far_on events (InRound round place) so = (so.0, so.1, round_on setup earlier now more round place so.2)
  so_far_on events other so = so

-- ---- what a word tells

module _ (setup : Setup) (words : List ℕ) (history : List ObjectEvent) (law : IsLawful setup words history) where
  abbrev standing : ObjectStanding
  standing = objects_after setup history

  -- of a counter
  counter_is : (counter : ℕ) → counter < setup.counters → counter_of (slice_index words counter) ≡ standing.counters counter
  counter_is counter there =
      let most = law.room.0 in
      let is = law.words_are.counters counter (omega (arith, most, there)) in
      ap counter_of is.0 ∙ counter_of-counter_word (standing.counters counter) is.1

  -- and of a once cell
  stage_is : (once : ℕ) → once < setup.cells → stage_of (slice_index words (word_of_once once)) ≡ stage (standing.onces once)
  stage_is once there = let most = law.room.1 in ap stage_of (law.words_are.onces once (omega (arith, most, there))) ∙ stage_of-stage_word (stage (standing.onces once))

has_run_is : (state : OnceState) → has_run (stage state) ≡ is_done state
has_run_is TheState.Unused = refl
has_run_is other = refl

done_is : (state : OnceState) → stage state ≡ TheStage.Done → is_done state ≡ true
done_is TheState.Unused e = absurd (cc)
done_is (TheState.Running who) e = absurd (cc)
done_is TheState.Done e = refl

-- ---- what is left of a list from a place on, and what stands before it

take_all : {A : Type 0} (at : ℕ) (xs : List A) → drop at xs ≡ [] → take at xs ≡ xs
take_all at xs none = sym (append-nil (take at xs)) ∙ ap (λ rest. take at xs ++ rest) (sym none) ∙ take-append-drop at xs

take_next : {A : Type 0} (at : ℕ) (xs : List A) (x : A) → slice_get xs at ≡ Some x → take (suc at) xs ≡ take at xs ++ x ∷ []
take_next at xs x is = take-suc xs at x (slice_get_within xs at x is) ∙ ap (λ y. take at xs ++ y ∷ []) (get_or_from_slice_get xs at x x is)

-- where a round's step has led
abbrev pub RoundGoes : Setup → Past → Past → Round → RoundNext → Type 0
RoundGoes setup earlier now round (RoundGo place) = RoundSoFar setup earlier now round place
RoundGoes setup earlier now round (RoundOver None) = (rounds : ℕ) × HaveShownNothing (IsReady setup) (items_of round.items) round.deadline (suc rounds) earlier now
RoundGoes setup earlier now round (RoundOver (Some answer)) = AnyAnswers setup earlier now round.items round.deadline answer

module _ (setup : Setup) (earlier now : Past) (round : Round) (start : Past) (clock : ℕ) where
  abbrev HasLooked : ℕ → Type 0
  HasLooked at = HasLookedUpTo setup earlier now round start clock at

  -- the notes as of the clock that was loaded, and the objects as they are
  abbrev here : Past
  here = record { notes = start.notes; objects = now.objects }

  -- one more item was unready
  looked_more : (at : ℕ) (item : Item) → item_at round.items at ≡ Some item → HasLooked at → IsReady setup false here item → HasLooked (suc at)
  looked_more at item is looked unready = record {
    rounds = looked.rounds;
    mid = looked.mid;
    nothing = looked.nothing;
    begins = looked.begins;
    loaded = looked.loaded;
    unready = subst (InTurn (IsReady setup false) start here) (sym (take_next at (items_of round.items) item (stands_at round.items at item is)))
        (turn_more (IsReady setup false) start here here here (take at (items_of round.items)) item looked.unready (later_itself here) unready (later_itself here));
    since = looked.since;
  }

  -- looks until now
  looks_now : (at : ℕ) → HasLooked at → InTurn (IsReady setup false) start now (take at (items_of round.items))
  looks_now at looked = turn_until (IsReady setup false) start here now (take at (items_of round.items)) looked.unready (record { notes = looked.since.notes; objects = begins_itself now.objects })

  -- behind the last item
  shows_none : (come : Bool) (at : ℕ) → drop at (items_of round.items) ≡ [] → is_due clock round.deadline ≡ come → (looked : HasLooked at) → HasShownNone (IsReady setup) (items_of round.items) round.deadline come looked.mid now
  shows_none come at none due looked = record {
    clock = start;
    begins = looked.begins;
    come_then = subst (λ c. is_due c round.deadline ≡ come) looked.loaded due;
    unready = subst (InTurn (IsReady setup false) start now) (take_all at (items_of round.items) none) (looks_now at looked);
  }

  -- at an item that is ready
  shows_one : (at : ℕ) (item : Item) → item_at round.items at ≡ Some item → HasLooked at → IsReady setup true now item → AnyAnswers setup earlier now round.items round.deadline at
  shows_one at item is looked ready = record {
    rounds = looked.rounds;
    mid = looked.mid;
    nothing = looked.nothing;
    last = inl (record {
      clock = start;
      begins = looked.begins;
      point = now;
      unready = looks_now at looked;
      thing = item;
      is = stands_at round.items at item is;
      ready = ready;
      ends = later_itself now;
    });
  }

  module _ (legal : IsLegalEnv now.notes) (there : WereThere setup earlier round.items) where
    from_goes : (at : ℕ) → HasLooked at → RoundGoes setup earlier now round (from_place round clock at)
    from_goes at looked = by (drop at (items_of round.items)) at refl looked where
      -- a note was made as the clock was loaded
      was_made : (at note : ℕ) → item_at round.items at ≡ Some (OnNote note) → (looked : HasLooked at) → ((env_after start.notes).notes note).made ≡ true
      was_made at note is looked =
          let begun = nothing_later (IsReady setup) (items_of round.items) round.deadline looked.rounds earlier looked.mid looked.nothing in
          made_begins start.notes earlier.notes note (legal_begins now.notes start.notes legal looked.since.notes) (later_through earlier looked.mid start begun looked.begins).notes (note_there setup (env_after earlier.notes).notes round.items at note there is)

      by : (items : List Item) (at : ℕ) → drop at (items_of round.items) ≡ items → HasLooked at → RoundGoes setup earlier now round (from_items round clock at items)
      by [] at is looked = by_test (RoundGoes setup earlier now round) (is_due clock round.deadline)
          (λ due. record { rounds = looked.rounds; mid = looked.mid; nothing = looked.nothing; last = inr (sym there.2, shows_none true at is due looked) })
          (λ early. (looked.rounds, (looked.mid, looked.nothing, shows_none false at is early looked)))
      by (OnNote note ∷ items) at is looked = (start, looked, line_starts start.notes note (was_made at note (listed round.items at (OnNote note) items is).0 looked))
      by (OnCounterItem counter ∷ items) at is looked = (start, looked)
      by (OnVariable k ∷ items) at is looked = by items (suc at) (listed round.items at (OnVariable k) items is).1 (looked_more at (OnVariable k) (listed round.items at (OnVariable k) items is).0 looked tt)

    -- behind an item that was unready
    past_goes : (at : ℕ) (item : Item) → item_at round.items at ≡ Some item → HasLooked at → IsReady setup false here item → RoundGoes setup earlier now round (from_place round clock (suc at))
    past_goes at item is looked unready = from_goes (suc at) (looked_more at item is looked unready)

    -- by the chain of a note
    chain_goes : (at asked : ℕ) (next : Next EnvWalk EnvEnd) → HasLooked at → item_at round.items at ≡ Some (OnNote asked) → ChainFits start.notes now.notes (ForIsNotified asked) next → RoundGoes setup earlier now round (by_chain round at clock asked next)
    chain_goes at asked (On (NoteLoad chain moment above)) looked is fits = (start, looked, fits.2)
    chain_goes at asked (Done (Over (IsSo true))) looked is fits = shows_one at (OnNote asked) is looked fits
    chain_goes at asked (Done (Over (IsSo false))) looked is fits = past_goes at (OnNote asked) is looked fits
    chain_goes at asked next looked is fits = absurd fits

-- ---- a step of the call's own

module _ (setup : Setup) (earlier : Past) (seat : ℕ) (now : Past) (more : List ObjectEvent) where
  -- what has happened when the step has been made
  abbrev later : Past
  later = past_and now (record { notes = []; objects = more })

  -- so it is now
  point_now : (P : List EnvEvent → Type 0) → BeginsWith now.notes earlier.notes → P now.notes → AtSomePoint earlier.notes later.notes P
  point_now P since so = (now.notes, between_on earlier.notes now.notes now.notes [] (between_now earlier.notes now.notes since), so)

  round_goes : (round : Round) (next : RoundNext) (done : List ObjectEvent) → done ≡ [] → WereThere setup earlier round.items → RoundGoes setup earlier later round next → ObjectGoes setup earlier later seat (InRound round FirstClock) done (by_round round next)
  round_goes round (RoundGo place) done none there goes = (refl, (none, there, goes))
  round_goes round (RoundOver None) done none there goes = (refl, (none, there, (suc goes.0, goes.1)))
  round_goes round (RoundOver (Some answer)) done none there goes = (none, goes)

-- ---- by what the step found

joined : (events more done : List ObjectEvent) → events ≡ [] → more ≡ done → events ++ more ≡ done
joined events more done none is = λ i. none i ++ is i

-- what a mark leaves of the value
marked_value : (setup : Setup) (history : List ObjectEvent) (seat counter value : ℕ) → ((objects_after setup history).counters counter).value ≡ value → ((objects_after setup (history ++ OnCounter counter (TheCounter.Begun seat) ∷ [])).counters counter).value ≡ value
marked_value setup history seat counter value is =
    ap (λ (now : ObjectStanding). (now.counters counter).value) (fold-append object_next (first_objects setup) history (OnCounter counter (TheCounter.Begun seat) ∷ [])) ∙ rw (eq-eqb counter counter refl) is

own_one : (seat counter : ℕ) → objects_own (OnCounter counter (TheCounter.Begun seat) ∷ []) seat ≡ OnCounter counter (TheCounter.Begun seat) ∷ []
own_one seat counter = rw (eq-eqb seat seat refl) refl

-- ---- a round's step

module _ (setup : Setup) (earlier : Past) (seat : ℕ) (now : Past) (words : List ℕ) (law : IsLawful setup words now.objects) (state : EnvState) (led : IsLawfulEnv now.notes state) (more : List ObjectEvent) where
  -- it is no event
  pub round_makes_none : (place : RoundPlace) (found : ObjectFound) (words' : List ℕ) → ObjectEffect seat Free (round_want place) words state.plain found words' more → more ≡ []
  round_makes_none (AtCounter at clock counter) (Word word) words' effect = effect.2
  round_makes_none (AtCounter at clock counter) (Env found) words' effect = absurd effect
  round_makes_none other (Env found) words' effect = effect.2
  round_makes_none other (Word word) words' effect = absurd effect

  shows_now : (round : Round) (place : RoundPlace) (found : ObjectFound) (words' : List ℕ) → WalkFits setup (objects_after setup now.objects) state.plain.notes seat (InRound round place) →
      WereThere setup earlier round.items → RoundSoFar setup earlier now round place → ObjectEffect seat Free (round_want place) words state.plain found words' more →
      RoundGoes setup earlier now round (round_got round place found)
  shows_now round FirstClock (Env (Clock clock)) words' fits there so effect = from_goes setup earlier now round now clock led.lawful.meets.legal there 0 (record {
    rounds = so.0;
    mid = now;
    nothing = so.1;
    begins = later_itself now;
    loaded = clock_found clock state.plain.clock effect.0.found_is ∙ led.lawful.meets.clock;
    unready = later_itself now;
    since = later_itself now;
  })
  shows_now round (AtNote at clock asked note) (Env (Note found)) words' fits there so effect =
      let answers = chain_answers so.0.notes now.notes state (ForIsNotified asked) clock note found led so.1.since.notes (refl, so.1.loaded, so.2) (note_found found (state.plain.notes note) effect.0.found_is) in
      chain_goes setup earlier now round so.0 clock led.lawful.meets.legal there at asked (env_got_of (chain_from asked clock note) (Note found)) so.1 fits.1.0 answers
  shows_now round (AtCounter at clock counter) (Word word) words' fits there so effect = by_test (RoundGoes setup earlier now round) (eqb (counter_of word).value 0)
      (λ is. shows_one setup earlier now round so.0 clock at (OnCounterItem counter) fits.1 so.1 (is_so true is))
      (λ is. past_goes setup earlier now round so.0 clock led.lawful.meets.legal there at (OnCounterItem counter) fits.1 so.1 (is_so false is)) where
        is_so : (b : Bool) → eqb (counter_of word).value 0 ≡ b → IsReady setup b now (OnCounterItem counter)
        is_so b is = sym (ap (λ w. is_ready (counter_of w)) effect.0 ∙ ap is_ready (counter_is setup words now.objects law counter (counter_there setup state.plain.notes round.items at counter fits.0 fits.1))) ∙ is
  shows_now round FirstClock (Word word) words' fits there so effect = absurd effect
  shows_now round FirstClock (Env found) words' fits there so effect = let no = effect.0.found_is in absurd (cc)
  shows_now round (AtNote at clock asked note) (Word word) words' fits there so effect = absurd effect
  shows_now round (AtNote at clock asked note) (Env found) words' fits there so effect = let no = effect.0.found_is in absurd (cc)
  shows_now round (AtCounter at clock counter) (Env found) words' fits there so effect = absurd effect

  -- What it shows is so.
  pub round_by : (round : Round) (place : RoundPlace) (found : ObjectFound) (words' : List ℕ) → WalkFits setup (objects_after setup now.objects) state.plain.notes seat (InRound round place) →
      WereThere setup earlier round.items → RoundSoFar setup earlier now round place → ObjectEffect seat Free (round_want place) words state.plain found words' more →
      RoundGoes setup earlier (past_and now (record { notes = []; objects = more })) round (round_got round place found)
  round_by round place found words' fits there so effect =
      let none : more ≡ [] = round_makes_none place found words' effect in
      subst (λ (z : List EnvEvent × List ObjectEvent). RoundGoes setup earlier (record { notes = z.0; objects = z.1 }) round (round_got round place found)) (λ i. (sym (append-nil now.notes) i, (sym (append-nil now.objects) ∙ ap (λ es. now.objects ++ es) (sym none)) i))
      (shows_now round place found words' fits there so effect)

module _ (setup : Setup) (earlier : Past) (seat : ℕ) (now : Past) (words : List ℕ) (law : IsLawful setup words now.objects) (state : EnvState) (led : IsLawfulEnv now.notes state) (since : BeginsWith now.notes earlier.notes) (since_objects : BeginsWith now.objects earlier.objects) where
  abbrev stands : ObjectStanding
  stands = objects_after setup now.objects

  value_was : (counter : ℕ) → counter < setup.counters → (word : ℕ) → word ≡ slice_index words counter → (stands.counters counter).value ≡ (counter_of word).value
  value_was counter there word is = sym (ap (λ w. (counter_of w).value) is ∙ ap (λ (c : CounterState). c.value) (counter_is setup words now.objects law counter there))

  module _ (events : List ObjectEvent) (added : objects_own now.objects seat ≡ objects_own earlier.objects seat ++ events) (more : List ObjectEvent) where
    abbrev so_far : Past
    so_far = later setup earlier seat now more

    moment_now : (P : ObjectStanding → Type 0) → P stands → AtSomeMoment setup earlier.objects so_far.objects P
    moment_now P so = (now.objects, between_on earlier.objects now.objects now.objects more (between_now earlier.objects now.objects since_objects), so)

    -- a change that was judged
    judged_goes : (counter : ℕ) (delta : ℤ) (word : ℕ) (seen : CounterState) (r : Result ℕ CounterFault) → events ≡ [] → more ≡ (tried seat counter delta word r).events → ObjectGoes setup earlier so_far seat (AddLoad counter delta) (events ++ more) (by_answer counter delta seen r)
    judged_goes counter delta word seen (Ok value) none is = (refl, joined events more [] none is)
    judged_goes counter delta word seen (Err fault) none is = joined events more (OnCounter counter (TheCounter.Add seat delta (Err fault)) ∷ []) none is

    -- a wait for 0 that has seen this value
    waited_goes : (counter : ℕ) (deadline : Option ℕ) (value : ℕ) (done : List ObjectEvent) → done ≡ OnCounter counter (TheCounter.Begun seat) ∷ [] → HadValue setup earlier so_far seat counter value →
        ObjectGoes setup earlier so_far seat (WaitMark counter deadline) done (waited_next counter deadline value)
    waited_goes counter deadline value done begun had = by (eqb value 0) refl deadline where
      by : (b : Bool) → eqb value 0 ≡ b → (deadline : Option ℕ) → ObjectGoes setup earlier so_far seat (WaitMark counter deadline) done (cond b (Done (Number 0)) (by_deadline counter deadline value))
      by true is deadline = (begun, subst (HadValue setup earlier so_far seat counter) (eqb-true value 0 is) had, λ ne. absurd (ne refl))
      by false is None = (refl, begun)
      by false is (Some moment) = (refl, (begun, had))

    stage_goes : (once : ℕ) (at : Stage) (done : List ObjectEvent) → done ≡ [] → stage (stands.onces once) ≡ at → ObjectGoes setup earlier so_far seat (OnceLoad once) done (by_stage once at)
    stage_goes once TheStage.Unused done none is = (refl, none)
    stage_goes once TheStage.Running done none is = (refl, none)
    stage_goes once TheStage.Done done none is = (none, moment_now (λ standing. is_done (standing.onces once) ≡ true) (done_is (stands.onces once) is))

    -- A step on a word takes the call on.
    pub word_takes_on : (walk : ObjectWalk) (word : ℕ) (words' : List ℕ) → WalkFits setup stands state.plain.notes seat walk → ObjectSoFar setup earlier now seat events walk → ObjectEffect seat (object_place (Some walk)) (object_want walk) words state.plain (Word word) words' more →
        ObjectGoes setup earlier so_far seat (object_asked walk) (events ++ more) (object_got walk (Word word))
    word_takes_on (AddLoad counter delta) word words' fits so effect = judged_goes counter delta word (counter_of word) (judged (counter_of word) delta) so effect.2
    word_takes_on (AddExchange counter delta seen value) word words' fits so effect =
        both (λ (left : Outcome) next. more ≡ left.events → ObjectGoes setup earlier so_far seat (AddLoad counter delta) (events ++ more) next) (eqb word (counter_word seen))
        (joined events more (OnCounter counter (TheCounter.Add seat delta (Ok value)) ∷ []) so)
        (judged_goes counter delta word (counter_of word) (judged (counter_of word) delta) so) effect.2
    word_takes_on (ValueLoad counter) word words' fits so effect =
        (joined events more [] so effect.2, moment_now (λ standing. (standing.counters counter).value ≡ (counter_of word).value) (value_was counter fits word effect.0))
    word_takes_on (WaitMark counter deadline) word words' fits so effect =
        let mark = OnCounter counter (TheCounter.Begun seat) ∷ [] in
        let value = (counter_of word).value in
        let was = value_was counter fits word effect.0 in
        let own : objects_own (now.objects ++ more) seat ≡ objects_own earlier.objects seat ++ mark =
        ap (λ m. objects_own (now.objects ++ m) seat) effect.2 ∙ own-append now.objects mark seat ∙ (λ i. (added ∙ ap (λ es. objects_own earlier.objects seat ++ es) so ∙ append-nil (objects_own earlier.objects seat)) i ++ own_one seat counter i) in
        waited_goes counter deadline value (events ++ more) (joined events more mark so effect.2) (
          now.objects ++ more,
          between_now earlier.objects (now.objects ++ more) (begins_through (now.objects ++ more) now.objects earlier.objects (more, refl) since_objects),
          own,
          subst (λ m. ((objects_after setup (now.objects ++ m)).counters counter).value ≡ value) (sym effect.2) (marked_value setup now.objects seat counter value was),
        )
    word_takes_on (WaitLoad counter deadline) word words' fits so effect =
        let value = (counter_of word).value in
        let was = value_was counter fits word effect.0 in
        waited_goes counter deadline value (events ++ more) (λ i. so i ++ effect.2 i)
        (now.objects, between_on earlier.objects now.objects now.objects more (between_now earlier.objects now.objects since_objects), added ∙ ap (λ es. objects_own earlier.objects seat ++ es) so, was)
    word_takes_on (WaitClock counter moment value) word words' fits so effect = absurd effect
    word_takes_on (OnceLoad once) word words' fits so effect =
        stage_goes once (stage_of word) (events ++ more) (joined events more [] so effect.2) (sym (ap stage_of effect.0 ∙ stage_is setup words now.objects law once fits))
    word_takes_on (OnceBegin once) word words' fits so effect =
        let Goes = λ (left : Outcome) (at : Stage). more ≡ left.events → stage (stands.onces once) ≡ at → ObjectGoes setup earlier so_far seat (OnceLoad once) (events ++ more) (by_begun once at) in
        both Goes (eqb word 0) (λ is at. (refl, joined events more (OnOnce once (TheOnce.Began seat) ∷ []) so is))
        (either (Goes (outcome seat (LookOnce once) Free word)) (eqb word 1) (λ is at. stage_goes once TheStage.Running (events ++ more) (joined events more [] so is) at) (λ is at. stage_goes once TheStage.Done (events ++ more) (joined events more [] so is) at))
        effect.2 (sym (ap stage_of effect.0 ∙ stage_is setup words now.objects law once fits))
    word_takes_on (OnceEnd once) word words' fits so effect = λ i. so i ++ effect.2 i
    word_takes_on (DoneLoad once) word words' fits so effect =
        (joined events more [] so effect.2, moment_now (λ standing. is_done (standing.onces once) ≡ has_run (stage_of word)) (sym (ap (λ w. has_run (stage_of w)) effect.0 ∙ ap has_run (stage_is setup words now.objects law once fits) ∙ has_run_is (stands.onces once))))
    word_takes_on (InRound round place) word words' fits so effect =
        round_goes setup earlier seat now more round (round_got round place (Word word)) (events ++ more)
        (joined events more [] so.0 (round_makes_none setup earlier seat now words law state led more place (Word word) words' effect)) so.1
        (round_by setup earlier seat now words law state led more round place (Word word) words' fits so.1 so.2 effect)

    -- And so does a load of the clock or of a note.
    pub env_takes_on : (walk : ObjectWalk) (found : EnvFound) (words' : List ℕ) → WalkFits setup stands state.plain.notes seat walk → ObjectSoFar setup earlier now seat events walk → ObjectEffect seat (object_place (Some walk)) (object_want walk) words state.plain (Env found) words' more →
        ObjectGoes setup earlier so_far seat (object_asked walk) (events ++ more) (object_got walk (Env found))
    env_takes_on (WaitClock counter moment value) (Clock clock) words' fits so effect =
        let done : events ++ more ≡ OnCounter counter (TheCounter.Begun seat) ∷ [] = λ i. so.0 i ++ effect.2 i in
        let clock_is : clock ≡ clock_of now.notes = clock_found clock state.plain.clock effect.0.found_is ∙ led.lawful.meets.clock in
        by_test (ObjectGoes setup earlier so_far seat (WaitMark counter (Some moment)) (events ++ more)) (nat_lt clock moment) (λ early. (refl, done))
        (λ due. (done, had_on setup earlier seat now (record { notes = []; objects = more }) counter value so.1, λ ne. point_now setup earlier seat now more (λ point. moment ≤ clock_of point) since (subst (λ c. moment ≤ c) clock_is (ltb-false clock moment due))))
    env_takes_on (InRound round place) found words' fits so effect =
        round_goes setup earlier seat now more round (round_got round place (Env found)) (events ++ more)
        (joined events more [] so.0 (round_makes_none setup earlier seat now words law state led more place (Env found) words' effect)) so.1
        (round_by setup earlier seat now words law state led more round place (Env found) words' fits so.1 so.2 effect)
    env_takes_on (WaitClock counter moment value) found words' fits so effect = let no = effect.0.found_is in absurd (cc)
    env_takes_on other found words' fits so effect = absurd effect

    -- A step of the call's own takes it on.
    pub operates_on : (walk : ObjectWalk) (found : ObjectFound) (words' : List ℕ) → WalkFits setup stands state.plain.notes seat walk → ObjectSoFar setup earlier now seat events walk → ObjectEffect seat (object_place (Some walk)) (object_want walk) words state.plain found words' more →
        ObjectGoes setup earlier so_far seat (object_asked walk) (events ++ more) (object_got walk found)
    operates_on walk (Word word) words' fits so effect = word_takes_on walk word words' fits so effect
    operates_on walk (Env found) words' fits so effect = env_takes_on walk found words' fits so effect
