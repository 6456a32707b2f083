-- The steps, as the table asks for them.
use Rattle.std.proofs.Common.{Bool, Err, List, Ok, Result, [], ap, arith, bit_or, cond, eq-eqb, false, refl, set, slice_index, subst, sym, true, ℕ, ℤ, ◌++◌, ◌+◌, ◌-◌, ◌<◌, ◌==◌, ◌^◌, ◌∙◌, ◌∷◌, ◌≡◌, ◌≢◌, ◌≤◌}
use Rattle.ns_objects.proofs.Prelude.{Add, Adding, Allows, Began, BeginOnce, CanAct, CounterFault, CounterState, EndOnce, Every, ExchangeToAdd, Free, HasActed, Holds, IsCounterWord, IsOne, IsRuled, LoadToAdd, LookOnce, MarkWait, Me, ObjectAct, ObjectEvent, ObjectView, OnCounter, OnOnce, OneActs}
use Rattle.ns_objects.proofs.Prelude.{OneEnds, Others, Running, Setup, ViewFits, Views, accepted, acted, acted_fits, acted_lawful, counter_of, counter_of-counter_word, counter_word, either, events_of, every_at, every_put, get_elem?, has_acted, is_seat, judged, keeps, looked, most, one_if}
use Rattle.ns_objects.proofs.Prelude.{others_both, others_fit, others_map, others_none, others_of, outcome, some, the, total, total_none, total_set, tried, value_of, word_at}

seat_one : (seat : ℕ) (v : ObjectView) → v.seat ≡ seat → is_seat seat v ≡ 1
seat_one seat v is = ap one_if (eq-eqb v.seat seat is)

apart_of : (seat : ℕ) (u : ObjectView) → is_seat seat u ≡ 0 → u.seat ≢ seat
apart_of seat u none is = let one = seat_one seat u is in omega (arith, none, one)

module _ (setup : Setup) (words : List ℕ) (views : Views) (h : List ObjectEvent) (rule : IsRuled setup words views h) (id : ℕ) (v : ObjectView) (at : get_elem? views id ≡ some (v ∷ [])) (act : ObjectAct) (may : CanAct v.setup v.place act) where
  its_fit : ViewFits setup h v
  its_fit = (every_at (Every (ViewFits setup h)) views id (v ∷ []) rule.each at).0

  can : CanAct setup v.place act
  can = subst (λ (s : Setup). CanAct s v.place act) its_fit.made may

  abbrev found : ℕ
  found = slice_index words (word_at act)

  abbrev now : List ObjectEvent
  now = h ++ events_of act found v

  -- no other seat has its number
  others_apart : Others (Every (λ u. is_seat v.seat u ≡ 0)) id views
  others_apart = let o = seat_one v.seat v refl in let m = rule.once v.seat in
      others_map (λ us. total (is_seat v.seat) us ≡ 0) (Every (λ u. is_seat v.seat u ≡ 0)) (λ us e. total_none (is_seat v.seat) us e) views id (others_none (total (is_seat v.seat)) views id (v ∷ []) at (omega (arith, o, m)))

  others : Others (Every (ViewFits setup now)) id views
  others = others_both (Every (ViewFits setup h)) (Every (λ u. is_seat v.seat u ≡ 0)) (Every (ViewFits setup now)) (λ us f z. each us f z) views id (others_of (Every (ViewFits setup h)) views id rule.each) others_apart
    where
      each : (us : List ObjectView) → Every (ViewFits setup h) us → Every (λ u. is_seat v.seat u ≡ 0) us → Every (ViewFits setup now) us
      each [] f z = tt
      each (u ∷ us) f z = (others_fit setup words h rule.lawful v its_fit act can u (apart_of v.seat u z.0) f.0, each us f.1 z.1)

  -- the rule after the step
  keep : IsRuled setup (set words (word_at act) (outcome v.seat act v.place found).word) (set views id (acted act found h v ∷ [])) now
  keep = record {
    lawful = acted_lawful setup words h rule.lawful v its_fit act can;
    seats = let s = total_set (total (λ (u : ObjectView). 1)) views id (v ∷ []) (acted act found h v ∷ []) at in let was = rule.seats in omega (arith, s, was);
    once = λ x. let s = total_set (total (is_seat x)) views id (v ∷ []) (acted act found h v ∷ []) at in let was = rule.once x in omega (arith, s, was);
    each = every_put (Every (ViewFits setup now)) views id (acted act found h v ∷ []) others (acted_fits setup words h rule.lawful v its_fit act can, tt);
  }

  tells : HasActed act found v (acted act found h v)
  tells = has_acted setup words h rule.lawful v its_fit act can

-- A seat that stands for itself alone may make any step that its place lets it make.
pub allows : (S : Type 0) (setup : Setup) (slots id : ℕ) (me : Me S (List ObjectView)) (act : ObjectAct) (f : ℕ → ℕ) → IsOne me.0 → CanAct (the me.0).setup (the me.0).place act → ((n : ℕ) → f n ≡ (outcome (the me.0).seat act (the me.0).place n).word)
    → Allows (Holds setup) slots id me (word_at act) f (λ found now. OneActs act found me now)
allows S setup slots id me act f one may is s holds _ at _ = let r = by me.0 one may is at in (r.0, keeps, tt, r.1, r.2) where
  by : (vs : List ObjectView) → IsOne vs → CanAct (the vs).setup (the vs).place act → ((n : ℕ) → f n ≡ (outcome (the vs).seat act (the vs).place n).word) → get_elem? s.views id ≡ some vs
      → (w : List ObjectView) × ((h : List ObjectEvent) × IsRuled setup (set s.words (word_at act) (f (slice_index s.words (word_at act)))) (set s.views id w) h) × OneActs {S = S} act (slice_index s.words (word_at act)) (vs, me.1) (w, me.1)
  by [] one may is at = absurd one
  by (v ∷ u ∷ us) one may is at = absurd one
  by (v ∷ []) one may is at = let h = holds.0 in let found = slice_index s.words (word_at act) in (
    acted act found h v ∷ [],
    (h ++ events_of act found v, subst (λ (n : ℕ). IsRuled setup (set s.words (word_at act) n) (set s.views id (acted act found h v ∷ [])) (h ++ events_of act found v)) (sym (is found)) (keep setup s.words s.views h holds.1 id v at act may)),
    (tt, refl, tells setup s.words s.views h holds.1 id v at act may),
  )

-- the words of once cells come after 16 others
pub back : (once : ℕ) → (16 + once) - 16 ≡ once
back once = omega arith

-- a look at a once cell, as the table names it by its word
pub looks_at_once : (S : Type 0) (setup : Setup) (slots id : ℕ) (me : Me S (List ObjectView)) (once : ℕ) → IsOne me.0 → once < (the me.0).setup.cells → Allows (Holds setup) slots id me (16 + once) (λ n. n) (λ found now. OneActs (LookOnce ((16 + once) - 16)) found me now)
looks_at_once S setup slots id me once one there = subst (λ k. Allows (Holds setup) slots id me (16 + once) (λ n. n) (λ found now. OneActs (LookOnce k) found me now)) (sym (back once)) (allows S setup slots id me (LookOnce once) (λ n. n) one there (λ n. refl))

-- ---- changes of a counter

-- a change that is judged leaves the word
tried_word : (who counter : ℕ) (delta : ℤ) (n : ℕ) (reply : Result ℕ CounterFault) → n ≡ (tried who counter delta n reply).word
tried_word who counter delta n (Ok value) = refl
tried_word who counter delta n (Err fault) = refl

pub loads_to_change : (S : Type 0) (setup : Setup) (slots id : ℕ) (me : Me S (List ObjectView)) (counter : ℕ) (delta : ℤ) → IsOne me.0 → counter < (the me.0).setup.counters → (the me.0).place ≡ Free →
    Allows (Holds setup) slots id me counter (λ n. n) (λ found now. OneActs (LoadToAdd counter delta) found me now)
loads_to_change S setup slots id me counter delta one there free = allows S setup slots id me (LoadToAdd counter delta) (λ n. n) one (there, free) (λ n. tried_word (the me.0).seat counter delta n (judged (counter_of n) delta))

pub exchanges : (S : Type 0) (setup : Setup) (slots id : ℕ) (me : Me S (List ObjectView)) (counter : ℕ) (delta : ℤ) (seen : CounterState) (value old new : ℕ) → IsOne me.0 → counter < (the me.0).setup.counters →
    (the me.0).place ≡ Adding counter delta → judged seen delta ≡ Ok value → seen.value ≤ most
    → old ≡ counter_word seen → new ≡ counter_word (record { value = value; waited = seen.waited }) → Allows (Holds setup) slots id me counter (λ n. either (n == old) new n) (λ found now. OneActs (ExchangeToAdd counter delta seen value) found me now)
exchanges S setup slots id me counter delta seen value old new one there place fits few was becomes =
    subst (λ (z : ℕ × ℕ). Allows (Holds setup) slots id me counter (λ n. either (n == z.0) z.1 n) (λ found now. OneActs (ExchangeToAdd counter delta seen value) found me now)) (λ i. (sym was i, sym becomes i))
    (allows S setup slots id me (ExchangeToAdd counter delta seen value) (λ n. either (n == counter_word seen) (counter_word (record { value = value; waited = seen.waited })) n) one (there, place, fits, few) (λ n. by n (n == counter_word seen))) where
      by : (n : ℕ) (b : Bool) → either b (counter_word (record { value = value; waited = seen.waited })) n
          ≡ (cond b (record { word = counter_word (record { value = value; waited = seen.waited }); events = OnCounter counter (Add (the me.0).seat delta (Ok value)) ∷ []; place = Free }) (tried (the me.0).seat counter delta n (judged (counter_of n) delta))).word
      by n true = refl
      by n false = tried_word (the me.0).seat counter delta n (judged (counter_of n) delta)

-- the value that a counter's word was made for
pub value_made : (value new : ℕ) (waited : Bool) → value ≤ most → new ≡ counter_word (record { value = value; waited = waited }) → value_of new ≡ value
value_made value new waited few is = ap value_of is ∙ ap (λ (z : CounterState). z.value) (counter_of-counter_word (record { value = value; waited = waited }) few)

-- the same, as the table names them by words
pub exchanges_word : (S : Type 0) (setup : Setup) (slots id : ℕ) (me : Me S (List ObjectView)) (word counter : ℕ) (delta : ℤ) (value old new : ℕ) → word ≡ counter → IsOne me.0 → counter < (the me.0).setup.counters →
    (the me.0).place ≡ Adding counter delta → judged (counter_of old) delta ≡ Ok value → IsCounterWord old
    → new ≡ counter_word (record { value = value; waited = (counter_of old).waited }) → Allows (Holds setup) slots id me word (λ n. either (n == old) new n) (λ found now. OneActs (ExchangeToAdd word delta (counter_of old) (value_of new)) found me now)
exchanges_word S setup slots id me word counter delta value old new is one there place fits coded becomes =
    subst (λ (z : ℕ × ℕ). Allows (Holds setup) slots id me z.0 (λ n. either (n == old) new n) (λ found now. OneActs (ExchangeToAdd z.0 delta (counter_of old) z.1) found me now))
    (λ i. (sym is i, sym (value_made value new (counter_of old).waited (accepted (counter_of old) delta value fits).1 becomes) i))
    (exchanges S setup slots id me counter delta (counter_of old) value old new one there place fits coded.1 coded.0 becomes)

-- ---- once cells, which the table names by their words

pub begins_once : (S : Type 0) (setup : Setup) (slots id : ℕ) (me : Me S (List ObjectView)) (once old new : ℕ) → IsOne me.0 → once < (the me.0).setup.cells → (the me.0).place ≡ Free → old ≡ 0 → new ≡ 1
    → Allows (Holds setup) slots id me (16 + once) (λ n. either (n == old) new n) (λ found now. OneActs (BeginOnce ((16 + once) - 16)) found me now)
begins_once S setup slots id me once old new one there free unused running =
    subst (λ (z : ℕ × ℕ × ℕ). Allows (Holds setup) slots id me (16 + once) (λ n. either (n == z.1) z.2 n) (λ found now. OneActs (BeginOnce z.0) found me now)) (λ i. (sym (back once) i, sym unused i, sym running i))
    (allows S setup slots id me (BeginOnce once) (λ n. either (n == 0) 1 n) one (there, free) (λ n. by n (n == 0))) where
      by : (n : ℕ) (b : Bool) → either b 1 n ≡ (cond b (record { word = 1; events = OnOnce once (Began (the me.0).seat) ∷ []; place = Running once }) (looked (the me.0).place n)).word
      by n true = refl
      by n false = refl

-- a step that tells less
tells_less : {S : Type 0} (setup : Setup) (slots id : ℕ) (me : Me S (List ObjectView)) (i : ℕ) (f : ℕ → ℕ) (P Q : ℕ → Me S (List ObjectView) → Type 0) →
    ((found : ℕ) (now : Me S (List ObjectView)) → P found now → Q found now) → Allows (Holds setup) slots id me i f P → Allows (Holds setup) slots id me i f Q
tells_less setup slots id me i f P Q less may s holds homes at bound = let r = may s holds homes at bound in (r.0, r.1, r.2, r.3, less _ _ r.4)

pub ends_once : (S : Type 0) (setup : Setup) (slots id : ℕ) (me : Me S (List ObjectView)) (once new : ℕ) → IsOne me.0 → (the me.0).place ≡ Running once → new ≡ 2
    → Allows (Holds setup) slots id me (16 + once) (λ _. new) (λ _ now. OneEnds ((16 + once) - 16) me now)
ends_once S setup slots id me once new one runs done =
    subst (λ (z : ℕ × ℕ). Allows (Holds setup) slots id me (16 + once) (λ _. z.1) (λ _ now. OneEnds z.0 me now)) (λ i. (sym (back once) i, sym done i))
    (tells_less setup slots id me (16 + once) (λ _. 2) (λ found now. OneActs (EndOnce once) found me now) (λ _ now. OneEnds once me now) (λ found now acts. (found, acts)) (allows S setup slots id me (EndOnce once) (λ _. 2) one runs (λ n. refl)))

-- ---- waits for a counter

pub marks_wait : (S : Type 0) (setup : Setup) (slots id : ℕ) (me : Me S (List ObjectView)) (counter : ℕ) → IsOne me.0 → counter < (the me.0).setup.counters → (the me.0).place ≡ Free →
    Allows (Holds setup) slots id me counter (λ n. bit_or n (2 ^ 32)) (λ found now. OneActs (MarkWait counter) found me now)
marks_wait S setup slots id me counter one there free = allows S setup slots id me (MarkWait counter) (λ n. bit_or n (2 ^ 32)) one (there, free) (λ n. refl)
