-- A step of a call on counters and once cells keeps their law, and leaves each seat where it may stand.
use Rattle.std.proofs.Common.{Bool, Err, IfSome, List, None, Ok, Option, Result, Some, [], ap, append-nil, arith, drop, eqb, length, length-take, ltb-true, nat_lt, refl, slice_get, slice_index, slice_set, subst, suc, sym, true, zero, ℕ, ℤ, ◌%◌, ◌++◌, ◌<◌, ◌^◌, ◌∙◌, ◌∷◌, ◌≡◌, ◌≢◌, ◌≤◌}
use Rattle.ns_counters.proofs.Prelude.{AddExchange, AddLoad, AreThere, AtCounter, AtNote, BeginOnce, CanAct, Clock, CounterFault, CounterState, Done, Env, EnvEnd, EnvEvent, EnvFound, EnvPlain, EnvWalk, Every, ExchangeToAdd, FirstClock, ForIsNotified, Free, IfSome_then, InRound, Is, IsLawfulObjects}
use Rattle.ns_counters.proofs.Prelude.{Item, Items, LoadToAdd, Meets, Next, Note, NoteLoad, NoteStanding, NoteWord, ObjectAct, ObjectEffect, ObjectEvent, ObjectFound, ObjectReply, ObjectStanding, ObjectState, ObjectView, ObjectWalk, ObjectWant, On, OnCounter, OnEnv, OnNote, OnVariable, OnWord}
use Rattle.ns_counters.proofs.Prelude.{OnceBegin, OnceEnd, OnceLoad, Outcome, Over, Place, PlaceFits, Round, RoundFits, RoundGo, RoundNext, RoundOver, Setup, ViewFits, WaitClock, WaitLoad, WaitMark, WalkFits, Word, begins_itself, both, by_answer, by_begun, by_chain, by_judging, by_round, chain_from}
use Rattle.ns_counters.proofs.Prelude.{chain_up, counter_of, counter_word, either, env_got_of, from_items, from_place, is_due, is_there, item_at, items_of, judged, list_all, most, object_got, object_place, object_want, object_who, objects_after, objects_own, outcome, place_after, round_got}
use Rattle.ns_counters.proofs.Prelude.{slice_get_within, stage_of, standing_of, state_of, tried, waited_next, walk_in, word_at, word_left}
use Rattle.ns_counters.proofs.Acts.{acted_fits, acted_lawful, others_fit}
use Rattle.ns_counters.proofs.Keeps.{step_keeps}
use Rattle.ns_counters.proofs.Listed.{first_of_all, listed, rest_of_all, stands_at}
use Rattle.ns_counters.proofs.Placed.{put_each, put_keeps, stands_within}
use Rattle.ns_counters.proofs.Ways.{at_answer, at_begun, at_round, at_stage, at_waited}

-- ---- objects of a list

passes : {A : Type 0} (p : A → Bool) (xs : List A) (at : ℕ) (x : A) → list_all p xs ≡ true → slice_get xs at ≡ Some x → p x ≡ true
passes p [] at x all is = absurd (cc)
passes p (y ∷ xs) zero x all is = let same : y ≡ x = cc in subst (λ z. p z ≡ true) same (first_of_all (p y) (list_all p xs) all)
passes p (y ∷ xs) (suc at) x all is = passes p xs at x (rest_of_all (p y) (list_all p xs) all) is

-- an object is one of the 16 places
pub in_list : (items : Items) (at : ℕ) (item : Item) → items.count ≤ 16 → item_at items at ≡ Some item → at < 16
in_list items at item few is = let low = slice_get_within (items_of items) at item (stands_at items at item is) in let long = length-take items.count items.all in omega (arith, few, low, long)

module _ (setup : Setup) (notes : ℕ → NoteStanding) where
  -- there is each object of a list of which there is each
  pub note_there : (items : Items) (at note : ℕ) → AreThere setup notes items → item_at items at ≡ Some (OnNote note) → (notes note).made ≡ true
  note_there items at note there is = passes (is_there setup notes) (items_of items) at (OnNote note) there.1 (stands_at items at (OnNote note) is)

  pub counter_there : (items : Items) (at counter : ℕ) → AreThere setup notes items → item_at items at ≡ Some (OnCounter counter) → counter < setup.counters
  counter_there items at counter there is = ltb-true counter setup.counters (passes (is_there setup notes) (items_of items) at (OnCounter counter) there.1 (stands_at items at (OnCounter counter) is))

  -- ---- where a round stands

  abbrev RoundStands : Round → RoundNext → Type 0
  RoundStands round (RoundGo place) = RoundFits notes round place
  RoundStands round (RoundOver shown) = Unit {0}

  from_stands : (round : Round) (clock at : ℕ) → AreThere setup notes round.items → RoundStands round (from_place round clock at)
  from_stands round clock at there = by (drop at (items_of round.items)) at refl where
    by : (items : List Item) (at : ℕ) → drop at (items_of round.items) ≡ items → RoundStands round (from_items round clock at items)
    by [] at is = either (RoundStands round) (is_due clock round.deadline) tt tt
    by (OnNote note ∷ items) at is = let here = listed round.items at (OnNote note) items is in (here.0, note_there round.items at note there here.0)
    by (OnCounter counter ∷ items) at is = (listed round.items at (OnCounter counter) items is).0
    by (OnVariable k ∷ items) at is = by items (suc at) (listed round.items at (OnVariable k) items is).1

-- ---- where a step leads

-- where a seat may stand after a step, if it goes on
abbrev pub NextFits : Setup → ObjectStanding → (ℕ → NoteStanding) → ℕ → Next ObjectWalk ObjectReply → Type 0
NextFits setup now notes seat next = IfSome (place_after next) (WalkFits setup now notes seat)

-- a word is read as one of a counter that has room
value_few : (word : ℕ) → (counter_of word).value ≤ most
value_few word = let low : word % 2 ^ 32 < 2 ^ 32 = omega arith in omega (arith, low)

module _ (setup : Setup) (now : ObjectStanding) (notes : ℕ → NoteStanding) (seat : ℕ) where
  abbrev Fits : Next ObjectWalk ObjectReply → Type 0
  Fits next = NextFits setup now notes seat next

  -- a change that was judged by a word
  judged_stands : (counter : ℕ) (delta : ℤ) (word : ℕ) → counter < setup.counters → Fits (by_judging counter delta word)
  judged_stands counter delta word there = at_answer Fits (λ _. tt) counter delta (counter_of word) (judged (counter_of word) delta) (λ value is. (there, is, value_few word))

  round_stands : (round : Round) (next : RoundNext) → AreThere setup notes round.items → RoundStands setup notes round next → Fits (by_round round next)
  round_stands round (RoundGo place) there fits = (there, fits)
  round_stands round (RoundOver None) there fits = (there, tt)
  round_stands round (RoundOver (Some at)) there fits = tt

  -- where a step on a word leads, in what it leaves
  pub word_leads : (word : ℕ) (walk : ObjectWalk) (was : ObjectStanding) → WalkFits setup was notes seat walk → PlaceFits setup now seat (object_place (place_after (object_got walk (Word word)))) → Fits (object_got walk (Word word))
  word_leads word (AddLoad counter delta) was fits placed = judged_stands counter delta word fits
  word_leads word (AddExchange counter delta seen value) was fits placed = either Fits (eqb word (counter_word seen)) tt (judged_stands counter delta word fits.0)
  word_leads word (WaitMark counter deadline) was fits placed = at_waited Fits (λ _. tt) counter deadline (counter_of word).value (λ _. fits) (λ _ _. fits)
  word_leads word (WaitLoad counter deadline) was fits placed = at_waited Fits (λ _. tt) counter deadline (counter_of word).value (λ _. fits) (λ _ _. fits)
  word_leads word (WaitClock counter moment value) was fits placed = fits
  word_leads word (OnceLoad once) was fits placed = at_stage Fits (λ _. tt) once (stage_of word) fits fits
  word_leads word (OnceBegin once) was fits placed =
      at_begun (λ next. PlaceFits setup now seat (object_place (place_after next)) → Fits next) (λ _ _. tt) once (stage_of word) (λ p. p) (λ _. fits) placed
  word_leads word (InRound round FirstClock) was fits placed = (fits.0, tt)
  word_leads word (InRound round (AtNote at clock asked note)) was fits placed = (fits.0, fits.1)
  word_leads word (InRound round (AtCounter at clock counter)) was fits placed =
      round_stands round (round_got round (AtCounter at clock counter) (Word word)) fits.0 (either (RoundStands setup notes round) (eqb (counter_of word).value 0) tt (from_stands setup notes round clock (suc at) fits.0))
  word_leads word other was fits placed = tt

-- what a load finds
pub note_found : (state : NoteWord) (note : NoteStanding) → Note state ≡ Note (state_of note) → standing_of state ≡ note
note_found state note is = let same : state ≡ state_of note = cc in ap standing_of same

pub clock_found : (clock now : ℕ) → Clock clock ≡ Clock now → clock ≡ now
clock_found clock now is = cc

-- where a load of the clock or of a note leads
module _ (setup : Setup) (now : ObjectStanding) (env : EnvPlain) (happened : List EnvEvent) (meets : Meets happened env) (seat : ℕ) where
  note_leads : (round : Round) (at clock asked note : ℕ) (next : Next EnvWalk EnvEnd) (state : NoteWord) → AreThere setup env.notes round.items → standing_of state ≡ env.notes note →
      env_got_of (chain_from asked clock note) (Note state) ≡ next → (item_at round.items at ≡ Some (OnNote asked)) → RoundStands setup env.notes round (by_chain round at clock asked next)
  note_leads round at clock asked note (On (NoteLoad chain moment above)) state there same is here =
      let up = chain_up happened env (ForIsNotified asked) chain clock moment note above state meets same is in
      (here, ap (λ (notes : ℕ → NoteStanding). (notes above).made) meets.notes ∙ up.1)
  note_leads round at clock asked note (Done (Over (Is true))) state there same is here = tt
  note_leads round at clock asked note next state there same is here = from_stands setup env.notes round clock (suc at) there

  pub env_leads : (walk : ObjectWalk) (found : EnvFound) (words' : List ℕ) (events : List ObjectEvent) (words : List ℕ) → WalkFits setup now env.notes seat walk →
      ObjectEffect seat (object_place (Some walk)) (object_want walk) words env (Env found) words' events → NextFits setup now env.notes seat (object_got walk (Env found))
  env_leads (WaitClock counter moment value) (Clock clock) words' events words fits effect = either (Fits setup now env.notes seat) (nat_lt clock moment) fits tt
  env_leads (WaitClock counter moment value) found words' events words fits effect = let no = effect.0.found_is in absurd (cc)
  env_leads (InRound round FirstClock) (Clock clock) words' events words fits effect = round_stands setup now env.notes seat round (from_place round clock 0) fits.0 (from_stands setup env.notes round clock 0 fits.0)
  env_leads (InRound round FirstClock) found words' events words fits effect = let no = effect.0.found_is in absurd (cc)
  env_leads (InRound round (AtNote at clock asked note)) (Note state) words' events words fits effect =
      round_stands setup now env.notes seat round (by_chain round at clock asked (env_got_of (chain_from asked clock note) (Note state))) fits.0
      (note_leads round at clock asked note (env_got_of (chain_from asked clock note) (Note state)) state fits.0 (note_found state (env.notes note) effect.0.found_is) refl fits.1.0)
  env_leads (InRound round (AtNote at clock asked note)) found words' events words fits effect = let no = effect.0.found_is in absurd (cc)
  env_leads other found words' events words fits effect = absurd effect

-- ---- the step

-- what a seat at this place of a call knows of what has happened
abbrev pub view_at : Setup → List ObjectEvent → ℕ → Option ObjectWalk → ObjectView
view_at setup history seat walk = record { setup = setup; seat = seat; place = object_place walk; seen = history; mine = objects_own history seat }

placed_by : (setup : Setup) (now : ObjectStanding) (notes : ℕ → NoteStanding) (seat : ℕ) (walk : ObjectWalk) → WalkFits setup now notes seat walk → PlaceFits setup now seat (object_place (Some walk))
placed_by setup now notes seat (AddExchange counter delta seen value) fits = fits.0
placed_by setup now notes seat (OnceEnd once) fits = fits
placed_by setup now notes seat other fits = tt

-- who stood somewhere stands there where what binds it still holds
pub stays_put : (setup : Setup) (now later : ObjectStanding) (notes : ℕ → NoteStanding) (seat : ℕ) (walk : ObjectWalk) → WalkFits setup now notes seat walk → PlaceFits setup later seat (object_place (Some walk)) → WalkFits setup later notes seat walk
stays_put setup now later notes seat (OnceEnd once) fits placed = placed
stays_put setup now later notes seat other fits placed = fits

-- the step that a place wants is one that it allows
abbrev Allows : Setup → Place → ObjectWant → Type 0
Allows setup place (OnWord act) = CanAct setup place act
Allows setup place (OnEnv act) = Unit {0}

allows : (setup : Setup) (now : ObjectStanding) (notes : ℕ → NoteStanding) (seat : ℕ) (walk : ObjectWalk) → WalkFits setup now notes seat walk → Allows setup (object_place (Some walk)) (object_want walk)
allows setup now notes seat (AddLoad counter delta) fits = (fits, refl)
allows setup now notes seat (AddExchange counter delta seen value) fits = (fits.0, refl, fits.1, fits.2)
allows setup now notes seat (WaitMark counter deadline) fits = (fits, refl)
allows setup now notes seat (WaitClock counter moment value) fits = tt
allows setup now notes seat (OnceBegin once) fits = (fits, refl)
allows setup now notes seat (OnceEnd once) fits = refl
allows setup now notes seat (InRound round FirstClock) fits = tt
allows setup now notes seat (InRound round (AtNote at clock asked note)) fits = tt
allows setup now notes seat (InRound round (AtCounter at clock counter)) fits = counter_there setup notes round.items at counter fits.0 fits.1
allows setup now notes seat other fits = fits

abbrev Below : ObjectWant → Type 0
Below (OnWord act) = word_at act < 32
Below (OnEnv act) = Unit {0}

-- the word that it is on is one of 32
pub want_below : (setup : Setup) (now : ObjectStanding) (notes : ℕ → NoteStanding) (seat : ℕ) (walk : ObjectWalk) (act : ObjectAct) → setup.counters ≤ 16 → setup.cells ≤ 16 → WalkFits setup now notes seat walk → object_want walk ≡ OnWord act → word_at act < 32
want_below setup now notes seat walk act counters cells fits is = subst Below is (below walk fits) where
  below : (walk : ObjectWalk) → WalkFits setup now notes seat walk → Below (object_want walk)
  below (AddExchange counter delta seen value) fits = let low = fits.0 in omega (arith, counters, low)
  below (WaitClock counter moment value) fits = tt
  below (OnceEnd once) fits = let low = fits.0 in omega (arith, cells, low)
  below (InRound round FirstClock) fits = tt
  below (InRound round (AtNote at clock asked note)) fits = tt
  below (InRound round (AtCounter at clock counter)) fits = let low = counter_there setup notes round.items at counter fits.0 fits.1 in omega (arith, counters, low)
  below other fits = omega (arith, counters, cells, fits)

-- where the step leads binds its seat just to what is left of its call
abbrev Leads : ℕ → ObjectWalk → ℕ → ObjectWant → Type 0
Leads seat walk word (OnWord act) = object_place (place_after (object_got walk (Word word))) ≡ (outcome seat act (object_place (Some walk)) word).place
Leads seat walk word (OnEnv act) = Unit {0}

judged_leads : (seat counter : ℕ) (delta : ℤ) (word : ℕ) (seen : CounterState) (r : Result ℕ CounterFault) → object_place (place_after (by_answer counter delta seen r)) ≡ (tried seat counter delta word r).place
judged_leads seat counter delta word seen (Ok value) = refl
judged_leads seat counter delta word seen (Err fault) = refl

tried_left : (seat counter : ℕ) (delta : ℤ) (word : ℕ) (r : Result ℕ CounterFault) → (tried seat counter delta word r).word ≡ word
tried_left seat counter delta word (Ok value) = refl
tried_left seat counter delta word (Err fault) = refl

-- a call that is over, or goes on to most places, goes where it may make no step of its own
abbrev IsFree : Next ObjectWalk ObjectReply → Type 0
IsFree next = object_place (place_after next) ≡ Free

waited_leads : (counter : ℕ) (deadline : Option ℕ) (value : ℕ) → IsFree (waited_next counter deadline value)
waited_leads counter deadline value = at_waited IsFree (λ _. refl) counter deadline value (λ _. refl) (λ _ _. refl)

abbrev IsBound : Next ObjectWalk ObjectReply → Outcome → Type 0
IsBound next left = object_place (place_after next) ≡ left.place

leads : (seat : ℕ) (walk : ObjectWalk) (word : ℕ) → Leads seat walk word (object_want walk)
leads seat (AddLoad counter delta) word = judged_leads seat counter delta word (counter_of word) (judged (counter_of word) delta)
leads seat (AddExchange counter delta seen value) word = both IsBound (eqb word (counter_word seen)) refl (judged_leads seat counter delta word (counter_of word) (judged (counter_of word) delta))
leads seat (WaitMark counter deadline) word = waited_leads counter deadline (counter_of word).value
leads seat (WaitLoad counter deadline) word = waited_leads counter deadline (counter_of word).value
leads seat (WaitClock counter moment value) word = tt
leads seat (OnceLoad once) word = at_stage IsFree (λ _. refl) once (stage_of word) refl refl
leads seat (OnceBegin once) word = both (λ stage (left : Outcome). IsBound (by_begun once stage) left) (eqb word 0) refl (either (λ stage. IsFree (by_begun once stage)) (eqb word 1) refl refl)
leads seat (InRound round FirstClock) word = tt
leads seat (InRound round (AtNote at clock asked note)) word = tt
leads seat (InRound round (AtCounter at clock counter)) word = at_round IsFree (λ _. refl) round (round_got round (AtCounter at clock counter) (Word word)) (λ _. refl) refl
leads seat other word = refl

-- what a step leaves of its word, whoever makes it
pub left_is : (seat : ℕ) (act : ObjectAct) (place : Place) (word : ℕ) → (outcome seat act place word).word ≡ word_left act word
left_is seat (LoadToAdd counter delta) place word = tried_left seat counter delta word (judged (counter_of word) delta)
left_is seat (ExchangeToAdd counter delta seen value) place word = both (λ (left : Outcome) n. left.word ≡ n) (eqb word (counter_word seen)) refl (tried_left seat counter delta word (judged (counter_of word) delta))
left_is seat (BeginOnce once) place word = both (λ (left : Outcome) n. left.word ≡ n) (eqb word 0) refl refl
left_is seat other place word = refl

module _ (objects : ObjectState) (env : EnvPlain) (happened : List EnvEvent) (meets : Meets happened env) (history : List ObjectEvent) (led : IsLawfulObjects history objects env.notes) (seat : ℕ) (walk : ObjectWalk) (walks : walk_in objects.walks seat ≡ Some walk) where
  abbrev setup : Setup
  setup = objects.setup

  abbrev standing : ObjectStanding
  standing = objects_after setup history

  fits : WalkFits setup standing env.notes seat walk
  fits = led.each seat walk walks

  abbrev view : ObjectView
  view = view_at setup history seat (Some walk)

  knows : (other : ℕ) (w : ObjectWalk) → walk_in objects.walks other ≡ Some w → ViewFits setup history (view_at setup history other (Some w))
  knows other w at = record { made = refl; below = led.within other w at; seen = begins_itself history; mine = refl; mine_seen = refl; place = placed_by setup standing env.notes other w (led.each other w at) }

  -- the objects after the step
  abbrev after : List ℕ → Next ObjectWalk ObjectReply → ObjectState
  after words next = record objects { words = words; walks = slice_set objects.walks seat (place_after next) }

  inside : seat < length objects.walks
  inside = stands_within objects.walks seat walk walks

  -- a step on a word
  module _ (act : ObjectAct) (wants : object_want walk ≡ OnWord act) where
    abbrev word : ℕ
    word = slice_index objects.words (word_at act)

    can : CanAct setup view.place act
    can = subst (Allows setup view.place) wants (allows setup standing env.notes seat walk fits)

    abbrev made_by : List ObjectEvent
    made_by = (outcome seat act view.place word).events

    abbrev next : Next ObjectWalk ObjectReply
    next = object_got walk (Word word)

    abbrev later : ObjectStanding
    later = objects_after setup (history ++ made_by)

    placed : PlaceFits setup later seat (object_place (place_after next))
    placed = subst (PlaceFits setup later seat) (sym (subst (Leads seat walk word) wants (leads seat walk word))) (acted_fits setup objects.words history led.lawful view (knows seat walk walks) act can).place

    goes : NextFits setup later env.notes seat next
    goes = word_leads setup later env.notes seat word walk standing fits placed

    others : (other : ℕ) (w : ObjectWalk) → other ≢ seat → walk_in objects.walks other ≡ Some w → WalkFits setup later env.notes other w
    others other w ne at =
        stays_put setup standing later env.notes other w (led.each other w at) (others_fit setup objects.words history led.lawful view (knows seat walk walks) act can (view_at setup history other (Some w)) ne (knows other w at)).place

    word_keeps : IsLawfulObjects (history ++ made_by) (after (slice_set objects.words (word_at act) (outcome seat act view.place word).word) next) env.notes
    word_keeps = record {
      lawful = acted_lawful setup objects.words history led.lawful view (knows seat walk walks) act can;
      within = put_each (λ other w. other < setup.seats) objects.walks seat (place_after next) inside (IfSome_then (place_after next) goes (λ _ _. led.within seat walk walks)) (λ other w _ at. led.within other w at);
      each = put_each (WalkFits setup later env.notes) objects.walks seat (place_after next) inside goes others;
    }

    by_seat : Every (λ event. object_who event ≡ seat) made_by
    by_seat = (step_keeps setup standing objects.words seat led.lawful.room led.lawful.words_are act view.place (knows seat walk walks).place can).by

  -- a load of the clock or of a note
  env_keeps : (found : EnvFound) → NextFits setup standing env.notes seat (object_got walk (Env found)) → IsLawfulObjects (history ++ []) (after objects.words (object_got walk (Env found))) env.notes
  env_keeps found here = subst (λ h. IsLawfulObjects h (after objects.words (object_got walk (Env found))) env.notes) (sym (append-nil history))
      (put_keeps history objects env.notes seat (place_after (object_got walk (Env found))) inside (led.within seat walk walks) here led)

  abbrev Kept : ObjectFound → List ℕ → List ObjectEvent → Type 0
  Kept found words events = IsLawfulObjects (history ++ events) (after words (object_got walk found)) env.notes × Every (λ event. object_who event ≡ seat) events

  kept_by : (want : ObjectWant) → object_want walk ≡ want → (found : ObjectFound) (words : List ℕ) (events : List ObjectEvent) → ObjectEffect seat view.place want objects.words env found words events →
      ObjectEffect seat view.place (object_want walk) objects.words env found words events → Kept found words events
  kept_by (OnWord act) wants (Word w) words events effect same =
      subst (λ (z : ℕ × (List ℕ × List ObjectEvent)). Kept (Word z.0) z.1.0 z.1.1) (λ i. (sym effect.0 i, (sym (effect.1 ∙ ap (λ n. slice_set objects.words (word_at act) (outcome seat act view.place n).word) effect.0) i, sym (effect.2 ∙ ap (λ n. (outcome seat act view.place n).events) effect.0) i)))
      (word_keeps act wants, by_seat act wants)
  kept_by (OnWord act) wants (Env found) words events effect same = absurd effect
  kept_by (OnEnv act) wants (Env found) words events effect same =
      subst (λ (z : List ℕ × List ObjectEvent). Kept (Env found) z.0 z.1) (λ i. (sym effect.1 i, sym effect.2 i))
      (env_keeps found (env_leads setup standing env happened meets seat walk found words events objects.words fits same), tt)
  kept_by (OnEnv act) wants (Word w) words events effect same = absurd effect

  -- A step keeps the law, and its events are its seat's.
  pub operates_keeps : (found : ObjectFound) (words : List ℕ) (events : List ObjectEvent) → ObjectEffect seat view.place (object_want walk) objects.words env found words events → Kept found words events
  operates_keeps found words events effect = kept_by (object_want walk) refl found words events effect effect
