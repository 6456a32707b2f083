-- Where seats stand in calls on counters and once cells: after one of them is put elsewhere, and while more notes are made; what a step leaves of what was asked, and what it needs.
use Rattle.std.proofs.Common.{Bool, IfSome, List, None, Option, Some, [], ap, eqb, length, nat_lt, refl, slice_get, slice_set, sym, true, unwrap_or, ℕ, ℤ, ◌<◌, ◌∷◌, ◌≡◌, ◌≢◌}
use Rattle.ns_counters.proofs.Prelude.{AddExchange, AddLoad, AreThere, AtCounter, AtNote, Clock, DoneLoad, Env, FirstClock, IfSome_then, InRound, IsLawfulObjects, Item, Items, Next, NoteStanding, ObjectEvent, ObjectFound, ObjectReply, ObjectStanding, ObjectState, ObjectWalk, OnCounter, OnNote}
use Rattle.ns_counters.proofs.Prelude.{OnVariable, OnceBegin, OnceEnd, OnceLoad, Round, RoundFits, RoundPlace, Setup, ValueLoad, WaitClock, WaitLoad, WaitMark, WalkFits, Word, by_judging, counter_of, counter_word, either, is_there, items_of, judged, list_all, object_asked, object_got, objects_after}
use Rattle.ns_counters.proofs.Prelude.{place_after, round_got, set_each, slice_get_within, stage_of, waited_next, walk_in}
use Rattle.ns_counters.proofs.Ways.{at_answer, at_begun, at_round, at_stage, at_waited}
use Rattle.ns_counters.proofs.Listed.{first_of_all, rest_of_all}

-- ---- a seat is put elsewhere

stood : (at : Option (Option ObjectWalk)) (walk : ObjectWalk) → unwrap_or at None ≡ Some walk → at ≡ Some (Some walk)
stood None walk is = absurd (cc)
stood (Some place) walk is = ap Some is

-- a seat that stands somewhere is one of those that there are
pub stands_within : (walks : List (Option ObjectWalk)) (seat : ℕ) (walk : ObjectWalk) → walk_in walks seat ≡ Some walk → seat < length walks
stands_within walks seat walk is = slice_get_within walks seat (Some walk) (stood (slice_get walks seat) walk is)

-- what is so of where the seat is put, and of where each other stands, is so of each
pub put_each : (P : ℕ → ObjectWalk → Type 0) (walks : List (Option ObjectWalk)) (seat : ℕ) (walk : Option ObjectWalk) → seat < length walks → IfSome walk (P seat) →
    ((other : ℕ) (w : ObjectWalk) → other ≢ seat → walk_in walks other ≡ Some w → P other w) → (other : ℕ) (w : ObjectWalk) → walk_in (slice_set walks seat walk) other ≡ Some w → P other w
put_each P walks seat walk within here there other w at =
    set_each P walks seat walk within here (λ j x ne is. there j x ne (ap (λ (o : Option (Option ObjectWalk)). unwrap_or o None) is)) other w (stood (slice_get (slice_set walks seat walk) other) w at)

-- ---- notes that are made stay made

all_more : {A : Type 0} (p q : A → Bool) (xs : List A) → ((x : A) → p x ≡ true → q x ≡ true) → list_all p xs ≡ true → list_all q xs ≡ true
all_more p q [] more all = refl
all_more p q (x ∷ xs) more all = rw (more x (first_of_all (p x) (list_all p xs) all)) (all_more p q xs more (rest_of_all (p x) (list_all p xs) all))

-- a seat stands where it stood when more notes are made
module _ (setup : Setup) (notes later : ℕ → NoteStanding) (more : (n : ℕ) → (notes n).made ≡ true → (later n).made ≡ true) where
  pub there_more : (items : Items) → AreThere setup notes items → AreThere setup later items
  there_more items there = (there.0, all_more (is_there setup notes) (is_there setup later) (items_of items) each there.1, there.2) where
    each : (item : Item) → is_there setup notes item ≡ true → is_there setup later item ≡ true
    each (OnNote note) is = more note is
    each (OnCounter counter) is = is
    each (OnVariable k) is = is

  round_more : (round : Round) (place : RoundPlace) → RoundFits notes round place → RoundFits later round place
  round_more round FirstClock fits = tt
  round_more round (AtNote at clock asked note) fits = (fits.0, more note fits.1)
  round_more round (AtCounter at clock counter) fits = fits

  walk_more : (now : ObjectStanding) (seat : ℕ) (walk : ObjectWalk) → WalkFits setup now notes seat walk → WalkFits setup now later seat walk
  walk_more now seat (InRound round place) fits = (there_more round.items fits.0, round_more round place fits.1)
  walk_more now seat other fits = fits

pub led_more : (history : List ObjectEvent) (state : ObjectState) (notes later : ℕ → NoteStanding) → ((n : ℕ) → (notes n).made ≡ true → (later n).made ≡ true) → IsLawfulObjects history state notes → IsLawfulObjects history state later
led_more history state notes later more led = record {
  lawful = led.lawful;
  within = led.within;
  each = λ seat walk at. walk_more state.setup notes later more (objects_after state.setup history) seat walk (led.each seat walk at);
}

-- a seat that is in no call may stand anywhere
abbrev pub Fit : Setup → ObjectStanding → (ℕ → NoteStanding) → ℕ → Option ObjectWalk → Type 0
Fit setup now notes seat walk = IfSome walk (WalkFits setup now notes seat)

-- what has led to the objects has led to them where a seat is put at a place that fits
pub put_keeps : (history : List ObjectEvent) (state : ObjectState) (notes : ℕ → NoteStanding) (seat : ℕ) (walk : Option ObjectWalk) → seat < length state.walks → seat < state.setup.seats → Fit state.setup (objects_after state.setup history) notes seat walk → IsLawfulObjects history state notes →
    IsLawfulObjects history (record state { walks = slice_set state.walks seat walk }) notes
put_keeps history state notes seat walk inside low fits led = record {
  lawful = led.lawful;
  within = put_each (λ other w. other < state.setup.seats) state.walks seat walk inside (IfSome_then walk fits (λ _ _. low)) (λ other w _ at. led.within other w at);
  each = put_each (WalkFits state.setup (objects_after state.setup history) notes) state.walks seat walk inside fits (λ other w _ at. led.each other w at);
}

-- ---- a step of a call on counters and once cells leaves what the call was asked

abbrev pub StaysAsked : ObjectWalk → Next ObjectWalk ObjectReply → Type 0
StaysAsked asked next = IfSome (place_after next) (λ walk. object_asked walk ≡ asked)

judged_stays : (counter : ℕ) (delta : ℤ) (word : ℕ) → StaysAsked (AddLoad counter delta) (by_judging counter delta word)
judged_stays counter delta word = at_answer (StaysAsked (AddLoad counter delta)) (λ _. tt) counter delta (counter_of word) (judged (counter_of word) delta) (λ _ _. refl)

waited_stays : (counter : ℕ) (deadline : Option ℕ) (value : ℕ) → StaysAsked (WaitMark counter deadline) (waited_next counter deadline value)
waited_stays counter deadline value = at_waited (StaysAsked (WaitMark counter deadline)) (λ _. tt) counter deadline value (λ is. ap (WaitMark counter) (sym is)) (λ _ is. ap (WaitMark counter) (sym is))

pub stays_asked : (walk : ObjectWalk) (found : ObjectFound) → StaysAsked (object_asked walk) (object_got walk found)
stays_asked (AddLoad counter delta) (Word word) = judged_stays counter delta word
stays_asked (AddExchange counter delta seen value) (Word word) = either (StaysAsked (AddLoad counter delta)) (eqb word (counter_word seen)) tt (judged_stays counter delta word)
stays_asked (ValueLoad counter) (Word word) = tt
stays_asked (WaitMark counter deadline) (Word word) = waited_stays counter deadline (counter_of word).value
stays_asked (WaitLoad counter deadline) (Word word) = waited_stays counter deadline (counter_of word).value
stays_asked (WaitClock counter moment value) (Env (Clock clock)) = either (StaysAsked (WaitMark counter (Some moment))) (nat_lt clock moment) refl tt
stays_asked (OnceLoad once) (Word word) = at_stage (StaysAsked (OnceLoad once)) (λ _. tt) once (stage_of word) refl refl
stays_asked (OnceBegin once) (Word word) = at_begun (StaysAsked (OnceLoad once)) (λ _. tt) once (stage_of word) refl refl
stays_asked (OnceEnd once) (Word word) = tt
stays_asked (DoneLoad once) (Word word) = tt
stays_asked (InRound round place) found = at_round (StaysAsked (InRound round FirstClock)) (λ _. tt) round (round_got round place found) (λ _. refl) refl
stays_asked walk found = refl
