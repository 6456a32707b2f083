-- How a change of a counter comes to its end.
use Rattle.std.proofs.Common.{Bool, List, Ok, Result, [], ap, cond, eqb, ne_eqb, subst, sym, ℕ, ℤ, ◌∙◌, ◌∷◌, ◌≡◌, ◌≢◌, ◌≤◌}
use Rattle.ns_objects.proofs.Prelude.{Add, Adding, CounterFault, CounterState, ExchangeToAdd, Free, HasCome, HasJudged, IsCounterWord, Me, ObjectView, OnCounter, OneActs, OneComes, Outcome, change_in_hand, counter_of, counter_of-counter_word, counter_word, judged, judging, most, outcome, the}
use Rattle.ns_objects.proofs.Prelude.{tried}
use Rattle.ns_objects.proofs.Rests.{came, came_through}

module _ {S : Type 0} (counter : ℕ) (delta : ℤ) (me now : Me S (List ObjectView)) where
  abbrev who : ℕ
  who = (the me.0).seat

  -- what it is, by the reply that it was judged by
  comes_by : (word : ℕ) (reply : Result ℕ CounterFault) → judged (counter_of word) delta ≡ reply → HasJudged counter delta word me now → OneComes {S = S} (tried who counter delta word reply).events (tried who counter delta word reply).place me now
  comes_by word reply is judges = subst (λ (r : Result ℕ CounterFault). OneComes {S = S} (tried who counter delta word r).events (tried who counter delta word r).place me now) is judges

  -- a change that is accepted is to be made
  pub goes_on : (word value : ℕ) → judged (counter_of word) delta ≡ Ok value → HasJudged counter delta word me now → OneComes {S = S} [] (Adding counter delta) me now
  goes_on word value is judges = comes_by word (Ok value) is judges

module _ {S : Type 0} (counter : ℕ) (delta : ℤ) (me now next : Me S (List ObjectView)) (word found value : ℕ) (goes : OneComes {S = S} [] (Adding counter delta) me now) (coded : IsCounterWord word)
    (acts : OneActs (ExchangeToAdd counter (change_in_hand (the now.0).place) (counter_of word) value) found now next) where
  abbrev caller : ℕ
  caller = (the me.0).seat

  -- what the exchange leaves, by whether the word was the one seen
  abbrev left_by : Bool → Outcome
  left_by same = cond same (record { word = counter_word (record { value = value; waited = (counter_of word).waited }); events = OnCounter counter (Add caller delta (Ok value)) ∷ []; place = Free }) (judging caller counter delta found)

  comes : OneComes {S = S} (left_by (eqb found (counter_word (counter_of word)))).events (left_by (eqb found (counter_word (counter_of word)))).place me next
  comes = let d : change_in_hand (the now.0).place ≡ delta = ap change_in_hand goes.2.place_is in
      let here = came (ExchangeToAdd counter (change_in_hand (the now.0).place) (counter_of word) value) found (the now.0) (the next.0) acts.2 in
      let named = subst (λ (z : ℕ × ℤ). HasCome (outcome z.0 (ExchangeToAdd counter z.1 (counter_of word) value) (the now.0).place found).events
      (outcome z.0 (ExchangeToAdd counter z.1 (counter_of word) value) (the now.0).place found).place (the now.0) (the next.0)) (λ i. (goes.2.seat i, d i)) here in
      (acts.0, acts.1 ∙ goes.1, came_through [] _ (Adding counter delta) _ (the me.0) (the now.0) (the next.0) goes.2 named)

  -- where the word is not the one seen the change is judged anew, by the word found
  pub judged_anew : found ≢ word → HasJudged counter delta found me next
  judged_anew apart = subst (λ (b : Bool). OneComes {S = S} (left_by b).events (left_by b).place me next) (ne_eqb found (counter_word (counter_of word)) (λ is. apart (is ∙ sym coded.0))) comes

  -- which is a counter's word, too
  pub found_coded : IsCounterWord found
  found_coded = let is = acts.2.found_is in let same = ap counter_of is.0 ∙ counter_of-counter_word _ is.1 in
      subst (λ (z : CounterState). (found ≡ counter_word z) × (z.value ≤ most)) (sym same) is

-- what a caller's judgement came to, by the word that it has decoded
pub judged_so : (seen : CounterState) (word : ℕ) (delta told : ℤ) (reply : Result ℕ CounterFault) → seen ≡ counter_of word → told ≡ delta → reply ≡ judged seen told → judged (counter_of word) delta ≡ reply
judged_so seen word delta told reply is same judges = (λ i. judged (sym is i) (sym same i)) ∙ sym judges
