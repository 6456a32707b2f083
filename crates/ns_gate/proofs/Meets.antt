-- Two seats of a gate that meet.
use Rattle.std.proofs.Common.{Bool, List, None, Option, Some, [], ap, arith, cond, eq-eqb, eqb, false, not, refl, slice_get, subst, suc, sym, true, zero, ℕ, ◌++◌, ◌+◌, ◌∙◌, ◌∷◌, ◌≡◌, ◌≢◌, ◌≤◌}
use Rattle.ns_gate.proofs.Prelude.{Allows, ArePair, Event, Fits, GateView, HasLearned, HasSight, HaveLearned, HaveMet, Held, Holds, Homes, IsAtRest, IsBySeats, IsBySums, IsOne, IsRuled, IsSettled, IsWide, Mode, OneWriter, Read, SeatOf, SeatView, ShareTheLock, Truths, Underlying, Views, Word, Write}
use Rattle.ns_gate.proofs.Prelude.{begins_itself, first_of, fresh_seat, get_elem?, is_reading, is_seat, is_write, is_writing, joined_learn, meets, number_of_seat, one_history, one_if, own_append, own_of, readers, rest_of, sight_of, some, the, total, total_at, writers}
use Rattle.ns_gate.proofs.Keeps.{once}

-- ---- two of those that share a sum

one_at : {X : Type 0} (f : X → ℕ) (xs : List X) (i : ℕ) (x : X) → slice_get xs i ≡ Some x → f x ≤ total f xs
one_at f [] i x at = absurd (cc)
one_at f (z ∷ xs) zero x at = let is : z ≡ x = cc in let same : f z ≡ f x = ap f is in omega (arith, same)
one_at f (z ∷ xs) (suc i) x at = let rest = one_at f xs i x at in omega (arith, rest)

two_at : {X : Type 0} (f : X → ℕ) (xs : List X) (i j : ℕ) (x y : X) → i ≢ j → slice_get xs i ≡ Some x → slice_get xs j ≡ Some y → f x + f y ≤ total f xs
two_at f [] i j x y ne at other = absurd (cc)
two_at f (z ∷ xs) zero zero x y ne at other = absurd (ne refl)
two_at f (z ∷ xs) zero (suc j) x y ne at other = let is : z ≡ x = cc in let same : f z ≡ f x = ap f is in let rest = one_at f xs j y other in omega (arith, same, rest)
two_at f (z ∷ xs) (suc i) zero x y ne at other = let is : z ≡ y = cc in let same : f z ≡ f y = ap f is in let rest = one_at f xs i x at in omega (arith, same, rest)
two_at f (z ∷ xs) (suc i) (suc j) x y ne at other = let rest = two_at f xs i j x y (λ e. ne (ap suc e)) at other in omega (arith, rest)

reads : (m : Mode) → (m ≡ Write → ⊥) → m ≡ Read
reads Read no_writer = refl
reads Write no_writer = absurd (no_writer refl)

module _ {C : Type 0} {N : ℕ} where
  -- ---- two sections in hand at once

  writing : (held : Option (Held C N)) (h : Held C N) → held ≡ Some h → h.mode ≡ Write → one_if (is_writing held) ≡ 1
  writing held h is mode = ap (λ o. one_if (is_writing o)) is ∙ ap (λ m. one_if (is_write m)) mode

  reading : (held : Option (Held C N)) (h : Held C N) → held ≡ Some h → h.mode ≡ Read → one_if (is_reading held) ≡ 1
  reading held h is mode = ap (λ o. one_if (is_reading o)) is ∙ ap (λ m. one_if (not (is_write m))) mode

  -- beside a writer nobody has a section
  alone : (word : Word) (views : List (SeatView C N)) (i j : ℕ) (x y : SeatView C N) (a b : Held C N) → OneWriter word views → i ≢ j → slice_get views i ≡ Some x → slice_get views j ≡ Some y → x.held ≡ Some a → y.held ≡ Some b → a.mode ≡ Write → ⊥
  alone word views i j x y a b law ne at other has theirs mode = by_bit word.write refl where
    most : one_if (is_writing x.held) + one_if (is_writing y.held) ≤ writers views
    most = two_at (λ (view : SeatView C N). one_if (is_writing view.held)) views i j x y ne at other

    mine : one_if (is_writing x.held) ≡ 1
    mine = writing x.held a has mode

    by_mode : (m : Mode) → b.mode ≡ m → writers views ≡ 1 → readers views ≡ 0 → ⊥
    by_mode Write is one none = let two = writing y.held b theirs is in omega (arith, most, mine, two, one)
    by_mode Read is one none = let two = reading y.held b theirs is in let few = one_at (λ (view : SeatView C N). one_if (is_reading view.held)) views j y other in omega (arith, two, few, none)

    by_bit : (bit : Bool) → word.write ≡ bit → ⊥
    by_bit true is = by_mode b.mode refl (law.bit ∙ ap (λ c. cond c 1 0) is) (law.alone is)
    by_bit false is = let none = law.bit ∙ ap (λ c. cond c 1 0) is in omega (arith, most, mine, none)

  shares : (word : Word) (views : List (SeatView C N)) (i j : ℕ) (x y : SeatView C N) → OneWriter word views → i ≢ j → slice_get views i ≡ Some x → slice_get views j ≡ Some y → ShareTheLock x.held y.held
  shares word views i j x y law ne at other = by_held x.held y.held refl refl where
    by_held : (o p : Option (Held C N)) → x.held ≡ o → y.held ≡ p → ShareTheLock o p
    by_held None p has theirs = tt
    by_held (Some a) None has theirs = tt
    by_held (Some a) (Some b) has theirs = (reads a.mode (alone word views i j x y a b law ne at other has theirs), reads b.mode (alone word views j i y x b a law (λ e. ne (sym e)) other at theirs has))

-- ---- the two learn

-- the rule reads the views by sums over what has to do with their numbers, and by what holds of each
pub by_sums : {C : Type 0} {N : ℕ} (truths : Truths C) (seat_count : ℕ) → IsBySums {K = ℕ} number_of_seat (λ (shown : Underlying C N). Fits truths seat_count shown.history shown.state) (IsRuled truths seat_count)
by_sums truths seat_count = record {
  each = λ words homes views shown r. r.each;
  same = λ words homes views views' shown r same each. record {
    few = r.few;
    lawful = r.lawful;
    shows = r.shows;
    home = r.home;
    seats = λ seat. same (λ number. one_if (eqb number seat)) ∙ r.seats seat;
    each = each;
  };
}

module _ {C : Type 0} {N : ℕ} (truths : Truths C) (seat_count : ℕ) where
  has_sight : (g : Underlying C N) (v : GateView C N) → Fits truths seat_count g.history g.state v → HasSight own_of g.history (sight_of v)
  has_sight g v f = record { begins = f.told.seen_of; own = sym f.told.own_of; own_seen = sym f.told.own_seen }

  -- a seat that has seen this history
  abbrev seen_now : List (Event C N) → GateView C N → GateView C N
  seen_now history v = record v { told = record v.told { seen = history } }

  fits_now : (words : List ℕ) (homes : Homes C) (views : Views C N) (g : Underlying C N) → IsRuled truths seat_count words homes views g → (v : GateView C N) → Fits truths seat_count g.history g.state v → Fits truths seat_count g.history g.state (seen_now g.history v)
  fits_now words homes views g r v f = record {
    limited = f.limited;
    stands = f.stands;
    told = record {
      seen_of = begins_itself g.history;
      legal = r.lawful.one_history.legal;
      by_seats = r.lawful.one_history.by_seats;
      own_of = f.told.own_of;
      own_seen = f.told.own_of;
      firsts = f.told.firsts;
      led = f.told.led;
    };
    come = f.come;
    stood = f.stood;
  }

  learned : (words : List ℕ) (homes : Homes C) (views : Views C N) (g : Underlying C N) → IsRuled truths seat_count words homes views g → (v : GateView C N) → Fits truths seat_count g.history g.state v → HasLearned truths v (seen_now g.history v)
  learned words homes views g r v f = record {
    seat_count = refl;
    at = refl;
    mine = refl;
    begun = refl;
    begins = f.told.seen_of;
    true_to = record { legal = r.lawful.one_history.legal; by_seats = subst (λ n. IsBySeats n g.history) (sym f.limited) r.lawful.one_history.by_seats; own = sym f.told.own_of };
  }

  have_met : (id : ℕ) (words : List ℕ) (homes : Homes C) (views : Views C N) (g : Underlying C N) → IsRuled truths seat_count words homes views g → (v u : GateView C N) → get_elem? views id ≡ some (v ∷ u ∷ []) → Fits truths seat_count g.history g.state v → Fits truths seat_count g.history g.state u
      → HaveMet truths v u (seen_now g.history v) (seen_now g.history u)
  have_met id words homes views g r v u at f h = record {
    first = learned words homes views g r v f;
    second = learned words homes views g r u h;
    same = refl;
    before = one_history own_of own_append g.history (sight_of v) (sight_of u) (has_sight g v f) (has_sight g u h);
    apart = two_seats;
    share = shares g.state.word g.state.views v.at.seat u.at.seat v.at u.at r.lawful.one_writer two_seats f.stands h.stands;
  } where
    two_seats : v.at.seat ≢ u.at.seat
    two_seats e =
        let most = once truths seat_count words homes views g r v.at.seat in
        let some_of = total_at (total (is_seat v.at.seat)) views id (v ∷ u ∷ []) at in
        let one : one_if (eqb v.at.seat v.at.seat) ≡ 1 = ap one_if (eq-eqb v.at.seat v.at.seat refl) in
        let other : one_if (eqb u.at.seat v.at.seat) ≡ 1 = ap one_if (eq-eqb u.at.seat v.at.seat (sym e)) in omega (arith, most, some_of, one, other)

  -- two seats that are joined may learn
  pub learns : (id slots : ℕ) (me : SeatOf C N) → ArePair me.0 → Allows (Holds truths seat_count) slots id me 0 (λ n. n) (λ found now. HaveLearned truths me now)
  learns id slots me two = joined_learn (by_sums truths seat_count) (fresh_seat 0 0) (HaveMet truths) (λ g v. seen_now g.history v) (λ g v. refl) fits_now have_met slots id me two

-- ---- what the two know in the end

module _ {C : Type 0} {N : ℕ} (truths : Truths C) where
  -- a seat that has learned is at rest as it was
  pub rests : (me now : SeatOf C N) → IsAtRest truths me → IsOne now.0 → now.1 ≡ [] → HasLearned truths (the me.0) (the now.0) → IsAtRest truths now
  rests me now rest one empty h = record {
    one = one;
    empty = empty;
    over = ap (λ (x : SeatView C N). x.walk) h.at ∙ rest.over;
    owes = ap (λ (x : SeatView C N). x.owed) h.at ∙ rest.owes;
    settled = subst (λ o. IsSettled truths o) (sym (ap (λ (x : SeatView C N). x.held) h.at)) rest.settled;
    wide = subst (λ (o : Option (Held C N)). IsWide o) (sym (ap (λ (x : SeatView C N). x.held) h.at)) rest.wide;
    true_to = h.true_to;
  }

  -- both seats, behind the load and the split
  pub met_at : (first second both learned now rest : SeatOf C N) → IsAtRest truths first → IsAtRest truths second → both ≡ (first.0 ++ second.0, first.1) → HaveLearned truths both learned → now ≡ (first_of learned.0, []) → rest ≡ (rest_of learned.0, learned.1)
      → IsAtRest truths now × IsAtRest truths rest × HaveMet truths (the first.0) (the second.0) (the now.0) (the rest.0)
  met_at first second both learned now rest p q is l at_now at_rest =
      let m = meets (fresh_seat 0 0) (HaveMet truths) first.0 second.0 both.0 learned.0 now.0 rest.0 p.one q.one (ap (λ (x : SeatOf C N). x.0) is) l.pair l.met (ap (λ (x : SeatOf C N). x.0) at_now) (ap (λ (x : SeatOf C N). x.0) at_rest) in (
        rests first now p m.0 (ap (λ (x : SeatOf C N). x.1) at_now) m.2.first,
        rests second rest q m.1 (ap (λ (x : SeatOf C N). x.1) at_rest ∙ (l.carried ∙ (ap (λ (x : SeatOf C N). x.1) is ∙ p.empty))) m.2.second,
        m.2,
      )
