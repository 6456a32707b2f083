-- What is known of a gate that is closed.
use Rattle.std.proofs.Common.{Bool, List, [], ap, arith, ext_get_or, false, get_or, length, nat_lt, not, refl, subst, suc, sym, true, zero, ℕ, ◌+◌, ◌<◌, ◌||◌, ◌∙◌, ◌∷◌, ◌≡◌, ◌≤◌}
use Rattle.ns_gate.proofs.Prelude.{EndsAs, Every, Final, Fits, GateView, Holds, Homes, IsLawful, IsOne, IsPackable, IsRuled, IsTold, Lists, Seen, Truths, Underlying, Views, Word, decoded, every_at, get_elem?, is_held, one_is, packable, some, some-injective, some-ne-none, the, word_of}

-- ---- what is read

-- what stands at a number is what is read there
read_at : (xs : List ℕ) (i x : ℕ) → get_elem? xs i ≡ some x → get_or xs i 0 ≡ x
read_at [] i x at = absurd (some-ne-none x (sym at))
read_at (y ∷ xs) zero x at = some-injective y x at
read_at (y ∷ xs) (suc i) x at = read_at xs i x at

-- a lock that nobody holds has no writer
no_writer : (word : Word) → not (is_held word) ≡ true → word.write ≡ false
no_writer word e = by_bit word.write (nat_lt 0 word.readers) e where
  by_bit : (bit reading : Bool) → not (bit || reading) ≡ true → bit ≡ false
  by_bit false reading e = refl
  by_bit true reading e = absurd (cc)

module _ {C : Type 0} {N : ℕ} (truths : Truths C) (seat_count id : ℕ) where
  -- what the rule says of one of the seats
  its_fit : (g : Underlying C N) (vs : List (GateView C N)) → IsOne vs → Every (Fits truths seat_count g.history g.state) vs → Fits truths seat_count g.history g.state (the vs)
  its_fit g vs one f = let v = one_is vs one in subst (λ us. Every (Fits truths seat_count g.history g.state) us → Fits truths seat_count g.history g.state (the us)) (sym v.1) (λ own. own.0) f

  module _ (words : List ℕ) (homes : Homes C) (views : Views C N) (g : Underlying C N) (r : IsRuled truths seat_count words homes views g) where
    -- the number of the word, and the word
    shows_word : (n : ℕ) → get_elem? words 0 ≡ some n → word_of n ≡ g.state.word
    shows_word n at = ap word_of (sym (read_at words 0 n at) ∙ r.shows.word_is) ∙ decoded g.state.word

    -- the cells, read one by one
    shows_row : (row : List ℕ) → length row ≡ N → ((k : ℕ) → k < N → get_elem? words (k + 1) ≡ some (get_or row k 0)) → row ≡ g.state.row
    shows_row row wide each = let cells = r.lawful.one_history.cells in
        ext_get_or 0 row g.state.row (wide ∙ sym cells) (λ k low. let below : k < N = omega (arith, low, wide) in sym (read_at words (k + 1) (get_or row k 0) (each k below)) ∙ r.shows.cells k below)

    ends_so : (vs : List (GateView C N)) (row : List ℕ) (free : Bool) (n : ℕ) → get_elem? views id ≡ some vs → IsOne vs → get_elem? words 0 ≡ some n → length row ≡ N →
        ((k : ℕ) → k < N → get_elem? words (k + 1) ≡ some (get_or row k 0)) → free ≡ not (is_held (word_of n)) → EndsAs truths (the vs) row free
    ends_so vs row free n at one word wide each is =
        let fit = its_fit g vs one (every_at (Every (Fits truths seat_count g.history g.state)) views id vs r.each at) in
        let limited = sym fit.limited in
        record {
          state = g.state;
          history = g.history;
          few = subst (λ k. k ≤ 64) limited r.few;
          lawful = subst (λ k. IsLawful truths k g.history g.state) limited r.lawful;
          row_is = shows_row row wide each;
          free_is = is ∙ ap (λ (w : Word). not (is_held w)) (shows_word n word);
          after = λ none. shows_row row wide each ∙ r.lawful.one_history.free (no_writer g.state.word (sym (is ∙ ap (λ (w : Word). not (is_held w)) (shows_word n word)) ∙ none));
          stands = fit.stands;
          told = subst (λ k. IsTold truths.holds k g.history (the vs).at.seat (the vs).at.walk (the vs).told) limited fit.told;
        }

  -- the lock's word has a number
  pub last_packs : (vs : List (GateView C N)) (words : List ℕ) (slots : List (Lists C)) (n : ℕ) → Final (Seen (Holds truths seat_count) id vs) words slots → get_elem? words 0 ≡ some n → IsPackable (word_of n)
  last_packs vs words slots n f word =
      let s = f.0 in
      let g = f.1.0.0 in
      let r = f.1.0.1 in
      subst IsPackable (sym (shows_word s.words s.homes s.views g r n (subst (λ ws. get_elem? ws 0 ≡ some n) (sym f.2) word))) (packable truths seat_count g.history g.state r.few r.lawful)

  -- what a closed table shows
  pub ends : (vs : List (GateView C N)) (words : List ℕ) (slots : List (Lists C)) (row : List ℕ) (free : Bool) (n : ℕ) → Final (Seen (Holds truths seat_count) id vs) words slots → IsOne vs → get_elem? words 0 ≡ some n → length row ≡ N
      → ((k : ℕ) → k < N → get_elem? words (k + 1) ≡ some (get_or row k 0)) → free ≡ not (is_held (word_of n)) → EndsAs truths (the vs) row free
  ends vs words slots row free n f one word wide each is =
      let s = f.0 in
      ends_so s.words s.homes s.views f.1.0.0 f.1.0.1 vs row free n f.1.1 one (subst (λ ws. get_elem? ws 0 ≡ some n) (sym f.2) word) wide (λ k below. subst (λ ws. get_elem? ws (k + 1) ≡ some (get_or row k 0)) (sym f.2) (each k below)) is
