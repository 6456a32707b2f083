-- What a legal history of a counter means.
use Rattle.std.proofs.Common.{Bool, Err, List, Ok, Result, [], ap, arith, false, fold, pos, refl, sym, true, ℕ, ℤ, ◌+ℤ◌, ◌<ℤ◌, ◌||◌, ◌∙◌, ◌∷◌, ◌≡◌, ◌≤ℤ◌, ◌≤◌}
use Rattle.ns_model.proofs.Prelude.{Add, AfterWait, AnswersRightly, Begun, CounterEvent, CounterFault, CounterState, IsLegalCounter, IsLegalCounterEvent, IsLegalFrom, Over, Under, added, added_by, counter_after, counter_next, first_counter, ints, is_begun, judged, list_any, most, or-false}
use Rattle.ns_model.proofs.Prelude.{rises_after_wait, sum_of}

-- ---- one change

-- A change that is answered with a value was answered with the sum, which the counter holds, and was no rise from 0 after a wait.
pub accepted : (now : CounterState) (delta : ℤ) (value : ℕ) → judged now delta ≡ Ok value → (pos value ≡ sum_of now delta) × (value ≤ most) × (rises_after_wait now delta ≡ false)
accepted now delta value is = grind (arith, ints)

-- What a change comes to means what its answer says.
judged_under : (now : CounterState) (delta : ℤ) → judged now delta ≡ Err Under → (pos now.value +ℤ delta) <ℤ pos 0
judged_under now delta is = grind (arith, ints)

judged_over : (now : CounterState) (delta : ℤ) → judged now delta ≡ Err Over → pos 4294967295 <ℤ (pos now.value +ℤ delta)
judged_over now delta is = grind (arith, ints)

judged_after_wait : (now : CounterState) (delta : ℤ) → judged now delta ≡ Err AfterWait → (now.value ≡ 0) × (pos 0 <ℤ delta) × (delta ≤ℤ pos 4294967295) × (now.waited ≡ true)
judged_after_wait now delta is = (grind (arith, ints), grind (arith, ints), grind (arith, ints), grind (arith, ints))

judged_value : (now : CounterState) (delta : ℤ) (value : ℕ) → judged now delta ≡ Ok value → now.value ≡ 0 → pos 0 <ℤ delta → now.waited ≡ false
judged_value now delta value is none rises = grind (arith, ints)

pub answers_rightly : (now : CounterState) (delta : ℤ) → AnswersRightly now delta (judged now delta)
answers_rightly now delta = by (judged now delta) refl where
  by : (reply : Result ℕ CounterFault) → judged now delta ≡ reply → AnswersRightly now delta reply
  by (Ok value) is = let a = accepted now delta value is in (a.0, a.1, judged_value now delta value is)
  by (Err Under) is = judged_under now delta is
  by (Err Over) is = judged_over now delta is
  by (Err AfterWait) is = judged_after_wait now delta is

-- ---- a whole history

counted_one : (now : CounterState) (event : CounterEvent) → IsLegalCounterEvent now event → pos (counter_next now event).value ≡ pos now.value +ℤ added event
counted_one now (Add who delta (Ok value)) legal = (accepted now delta value (sym legal)).0
counted_one now (Add who delta (Err fault)) legal = omega (arith, ints)
counted_one now (Begun who) legal = omega (arith, ints)

counted_from : (now : CounterState) (events : List CounterEvent) → IsLegalFrom IsLegalCounterEvent counter_next now events → pos (fold counter_next now events).value ≡ pos now.value +ℤ added_by events
counted_from now [] legal = omega (arith, ints)
counted_from now (event ∷ events) legal =
    let one = counted_one now event legal.0 in
    let others = counted_from (counter_next now event) events legal.1 in
    omega (arith, ints)

-- The value is what the counter began with and all changes that were accepted, added up.
pub counts : (start : ℕ) (history : List CounterEvent) → IsLegalCounter start history → pos (counter_after start history).value ≡ pos start +ℤ added_by history
counts start history legal = counted_from (first_counter start) history legal

few_one : (now : CounterState) (event : CounterEvent) → now.value ≤ most → IsLegalCounterEvent now event → (counter_next now event).value ≤ most
few_one now (Add who delta (Ok value)) few legal = (accepted now delta value (sym legal)).1
few_one now (Add who delta (Err fault)) few legal = few
few_one now (Begun who) few legal = few

few_from : (now : CounterState) (events : List CounterEvent) → now.value ≤ most → IsLegalFrom IsLegalCounterEvent counter_next now events → (fold counter_next now events).value ≤ most
few_from now [] few legal = few
few_from now (event ∷ events) few legal = few_from (counter_next now event) events (few_one now event few legal.0) legal.1

zero_one : (now : CounterState) (event : CounterEvent) → now.value ≡ 0 → now.waited ≡ true → IsLegalCounterEvent now event → ((counter_next now event).value ≡ 0) × ((counter_next now event).waited ≡ true)
zero_one now (Add who delta (Ok value)) zero waited legal = let a = accepted now delta value (sym legal) in (grind (arith, ints), waited)
zero_one now (Add who delta (Err fault)) zero waited legal = (zero, waited)
zero_one now (Begun who) zero waited legal = (zero, refl)

-- Where a wait for 0 has begun, a counter that is 0 is 0 for good: who waits can't miss it.
pub stays_at_zero : (now : CounterState) (events : List CounterEvent) → now.value ≡ 0 → now.waited ≡ true → IsLegalFrom IsLegalCounterEvent counter_next now events → (fold counter_next now events).value ≡ 0
stays_at_zero now [] zero waited legal = zero
stays_at_zero now (event ∷ events) zero waited legal = let next = zero_one now event zero waited legal.0 in stays_at_zero (counter_next now event) events next.0 next.1 legal.1

waited_one : (now : CounterState) (event : CounterEvent) → (counter_next now event).waited ≡ (is_begun event || now.waited)
waited_one now (Add who delta (Ok value)) = refl
waited_one now other = refl

waited_from : (now : CounterState) (events : List CounterEvent) → (fold counter_next now events).waited ≡ (list_any is_begun events || now.waited)
waited_from now [] = refl
waited_from now (event ∷ events) = waited_from (counter_next now event) events ∙ (ap (λ (b : Bool). list_any is_begun events || b) (waited_one now event) ∙ turn (list_any is_begun events) (is_begun event) now.waited) where
  turn : (a b c : Bool) → (a || (b || c)) ≡ ((b || a) || c)
  turn true true c = refl
  turn true false c = refl
  turn false true c = refl
  turn false false c = refl

-- A counter remembers just whether a wait for 0 has begun.
pub remembers : (start : ℕ) (history : List CounterEvent) → (counter_after start history).waited ≡ list_any is_begun history
remembers start history = waited_from (first_counter start) history ∙ or-false (list_any is_begun history)
