-- One exchange of the lock word that is a load and the exchange behind it, where the word was guessed.
use Rattle.std.proofs.Common.{Bool, Err, None, Ok, Result, Some, ap, cond, eq-eqb, eqb, inl, inr, ne_eqb, refl, subst, sym, ℕ, ◌<◌, ◌∙◌, ◌≡◌}
use Rattle.ns_gate.proofs.Prelude.{Acquire, Act, Allows, CameByGuess, CanStep, Found, GateView, GoesOn, HasGuessed, HasMadeBoth, Holds, IsExchange, IsPackable, IsPlainExchange, LoadWord, Made, MayExchange, MayGuess, Performed, PerformedBoth, PerformedWith, QuietKeeps, Release, Saw, SeatOf, SeatView}
use Rattle.ns_gate.proofs.Prelude.{Truths, Walk, WantsNext, Word, act_by, at_once, carried_after, cases_eq, decoded, either, exchanged, got_of, made_by, number_of, place_after, the, tried_for, want_of, word_of}
use Rattle.ns_gate.proofs.Allowed.{may_load, may_exchange}
use Rattle.ns_gate.proofs.Findings.{exchanged_by, stepped, walk_is, word_packs}

-- one word is seen
saw_is : {x y : Word} → Saw x ≡ Saw y → x ≡ y
saw_is e = cc

module _ {C : Type 0} {N : ℕ} (truths : Truths C) where
  -- behind the load the call wants the act
  wants_then : (first : Walk C) (word : Word) (act : Act C) (k : ℕ) (me mid : SeatOf C N) → WantsNext N first word act → k ≡ number_of word → PerformedWith truths (Some first) LoadWord k me mid → CanStep truths None act mid
  wants_then first word act k me mid w is p =
      let d = p.made.did in
      let same : d.made.step.walk ≡ first = walk_is truths (Some first) (Saw (word_of k)) first (the me.0) (the mid.0) d refl in
      record {
        one = p.made.one;
        may = tt;
        walk = w.next;
        walks = ap (λ (x : SeatView C N). x.walk) d.becomes ∙ (ap (λ (x : Walk C). place_after (got_of N x (Saw (word_of k)))) same ∙ (ap (λ (u : Word). place_after (got_of N first (Saw u))) (ap word_of is ∙ decoded word) ∙ w.goes));
        wants = w.wants;
      }

  plain_exchanges : (act : Act C) (last new : Word) (me : SeatOf C N) → IsPlainExchange act last new → IsExchange truths act last new (the me.0) me.1
  plain_exchanges (Acquire aim arrival seen) last new me p = p
  plain_exchanges (Release releasing seen) last new me p = p
  plain_exchanges act last new me p = absurd p

  plain_makes : (act : Act C) (last new : Word) (view : GateView C N) → IsPlainExchange act last new → made_by truths act view ≡ Made
  plain_makes (Acquire aim arrival seen) last new view p = refl
  plain_makes (Release releasing seen) last new view p = refl
  plain_makes act last new view p = absurd p

  -- and may make it
  may_then : (first : Walk C) (guess new : Word) (k : ℕ) (me mid : SeatOf C N) → MayGuess N first guess new → k ≡ number_of guess → PerformedWith truths (Some first) LoadWord k me mid → MayExchange truths guess new mid
  may_then first guess new k me mid g is p = record { act = g.act; can = wants_then first guess g.act k me mid g.next is p; exchanges = plain_exchanges g.act guess new mid g.plain }

  -- what was loaded has a number, whether the guess was right or not
  pub guess_packs : (first : Walk C) (x k : ℕ) (me now : SeatOf C N) → CanStep truths (Some first) LoadWord me → HasGuessed truths (Some first) x k me now → IsPackable (word_of k)
  guess_packs first x k me now can h = elim (cases_eq k x) [
    | inl e ↦ (let b = h.hit e in word_packs truths (Some first) k me b.between (stepped truths (Some first) k me b.between b.loaded LoadWord can))
    | inr ne ↦ word_packs truths (Some first) k me now (stepped truths (Some first) k me now (h.missed ne) LoadWord can)
  ]

  -- one walk wants one act next
  same_next : (first : Walk C) (word : Word) (a b : Act C) → WantsNext N first word a → WantsNext N first word b → a ≡ b
  same_next first word a b v w = let same : v.next ≡ w.next = some_is (sym v.goes ∙ w.goes) in sym v.wants ∙ (ap want_of same ∙ w.wants) where
    some_is : {x y : Walk C} → Some x ≡ Some y → x ≡ y
    some_is e = cc

  both_made : (first : Walk C) (guess new : Word) (k : ℕ) (me now : SeatOf C N) → MayGuess N first guess new → CanStep truths (Some first) LoadWord me → k ≡ number_of guess → PerformedBoth truths (Some first) k me now →
      (act : Act C) → WantsNext N first guess act → HasMadeBoth truths first guess act me now
  unfolding may_then
  both_made first guess new k me now g can is b act w =
      let mid = b.between in
      let loaded = stepped truths (Some first) k me mid b.loaded LoadWord can in
      let may = may_then first guess new k me mid g is loaded in
      let made : Performed truths None g.act (exchanged k guess (made_by truths g.act (the mid.0))) mid now = exchanged_by truths guess new k mid now may b.exchanged in
      let finds : exchanged k guess (made_by truths g.act (the mid.0)) ≡ Made = ap (λ (c : Bool). cond c (made_by truths g.act (the mid.0)) (Saw (word_of k))) (eq-eqb (number_of guess) k (sym is)) ∙ plain_makes g.act guess new (the mid.0) g.plain in
      record {
        between = mid;
        loaded = subst (λ (u : Word). Performed truths (Some first) LoadWord (Saw u) me mid) (ap word_of is ∙ decoded guess) loaded.made;
        made = subst (λ (z : Act C × Found). Performed truths None z.0 z.1 mid now) (λ i. (same_next first guess g.act act g.next w i, finds i)) made;
      }

  -- what came of it
  pub came_so : (first : Walk C) (guess new : Word) (x k : ℕ) (result : Result Unit Word) (me now : SeatOf C N) → x ≡ number_of guess → MayGuess N first guess new → CanStep truths (Some first) LoadWord me →
      ((made : Found) → tried_for made result ≡ exchanged k guess made) → HasGuessed truths (Some first) x k me now
      → (act : Act C) → WantsNext N first guess act → CameByGuess truths first guess act result me now
  came_so first guess new x k (Ok u) me now is_x g can tries h act w = elim (cases_eq (number_of guess) k) [
    | inl e ↦ both_made first guess new k me now g can (sym e) (h.hit (sym e ∙ sym is_x)) act w
    | inr ne ↦ absurd (let other : Made ≡ Saw (word_of k) = tries Made ∙ ap (λ (c : Bool). cond c Made (Saw (word_of k))) (ne_eqb (number_of guess) k ne) in cc)
  ]
  came_so first guess new x k (Err word) me now is_x g can tries h act w = elim (cases_eq (number_of guess) k) [
    | inl e ↦ absurd (let other : Saw word ≡ Made = tries Made ∙ ap (λ (c : Bool). cond c Made (Saw (word_of k))) (eq-eqb (number_of guess) k e) in cc)
    | inr ne ↦ (let same : Saw word ≡ Saw (word_of k) = tries Made ∙ ap (λ (c : Bool). cond c Made (Saw (word_of k))) (ne_eqb (number_of guess) k ne) in
        let p = stepped truths (Some first) k me now (h.missed (λ e. ne (sym (e ∙ is_x)))) LoadWord can in
        let there : word_of k ≡ p.made.did.old.word = ap word_of p.tells ∙ decoded p.made.did.old.word in
        (λ hit. ne (sym (p.tells ∙ ap number_of (sym (sym hit ∙ (saw_is same ∙ there))))), subst (λ (f : Found). Performed truths (Some first) LoadWord f me now) (sym same) p.made))
  ]

module _ {C : Type 0} {N : ℕ} (truths : Truths C) (cells : 0 < N) (quiet : QuietKeeps N truths) (seat_count id slots : ℕ) (me : SeatOf C N) where
  -- the word behind such an exchange
  abbrev swapped : ℕ → ℕ → ℕ → ℕ
  swapped x y n = either (eqb n x) y n

  -- A seat may begin its call so.
  pub may_guess : (first : Walk C) (guess new : Word) (x y : ℕ) → CanStep truths (Some first) LoadWord me → MayGuess N first guess new → x ≡ number_of guess → y ≡ number_of new →
      Allows (Holds truths seat_count) slots id me 0 (λ n. either (eqb n x) y n) (λ k now. HasGuessed truths (Some first) x k me now)
  may_guess first guess new x y can g is_x is_y = at_once (Holds truths seat_count) slots id 0 (swapped x y) me (λ k mid. PerformedWith truths (Some first) (act_by (Some first) (the me.0)) k me mid) (λ k now. HasGuessed truths (Some first) x k me now)
      (may_load truths cells quiet seat_count id slots me (Some first) 0 (record { act = LoadWord; can = can; loads = tt; there = refl })) goes_on
    where
      goes_on : (k : ℕ) (mid : SeatOf C N) → PerformedWith truths (Some first) (act_by (Some first) (the me.0)) k me mid → GoesOn (Holds truths seat_count) slots id 0 (swapped x y) (λ k now. HasGuessed truths (Some first) x k me now) k mid
      goes_on k mid p = elim (cases_eq k x) [
        | inl e ↦ inr (λ s h size there small.
            let may = may_then truths first guess new k me mid g (e ∙ is_x) (stepped truths (Some first) k me mid p LoadWord can) in
            let r = may_exchange truths cells quiet seat_count id slots mid guess new x y may is_x is_y s h size there small in (
              r.0,
              r.1,
              r.2,
              r.3,
              λ same. record { missed = λ ne. absurd (ne e); hit = λ _. record { between = mid; loaded = p; exchanged = subst (λ n. PerformedWith truths None (act_by None (the mid.0)) n mid (r.0, carried_after mid.1 r.1)) same r.4 } },
            ))
        | inr ne ↦ inl (ap (λ (c : Bool). either c y k) (ne_eqb k x ne), record { missed = λ _. p; hit = λ e. absurd (ne e) })
      ]
