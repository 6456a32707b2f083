-- A seat after a step.
use Rattle.std.proofs.Common.{List, [], ap, append_assoc, refl, subst, sym, ℕ, ℤ, ◌++◌, ◌∙◌, ◌∷◌, ◌≡◌}
use Rattle.ns_objects.proofs.Prelude.{AreObjectsBySeats, CounterState, EnvGrows, EnvKnown, EnvTrue, ExchangeToAdd, Grows, HasActed, HasCome, HasJudged, HasWords, IsLegalObjects, IsTrueToHistory, LoadToAdd, Me, ObjectAct, ObjectEvent, ObjectView, ObjectsKnown, OneActs, OneComes, Place, Setup}
use Rattle.ns_objects.proofs.Prelude.{TableId, begins_itself, begins_through, events_of, known_of, outcome, the}

-- a step brings its caller further
pub came : (act : ObjectAct) (found : ℕ) (v w : ObjectView) → HasActed act found v w → HasCome (events_of act found v) (outcome v.seat act v.place found).place v w
came act found v w acted = record {
  setup = acted.setup;
  seat = acted.seat;
  since = begins_through w.seen acted.point v.seen (events_of act found v, acted.seen) acted.since;
  mine = acted.mine;
  place_is = acted.place;
  legal = acted.legal;
  by_seats = acted.by_seats;
  own = acted.own;
}

-- one after the other
pub came_through : (es fs : List ObjectEvent) (p q : Place) (u v w : ObjectView) → HasCome es p u v → HasCome fs q v w → HasCome (es ++ fs) q u w
came_through es fs p q u v w a b = record {
  setup = b.setup ∙ a.setup;
  seat = b.seat ∙ a.seat;
  since = begins_through w.seen v.seen u.seen b.since a.since;
  mine = b.mine ∙ (ap (λ (l : List ObjectEvent). l ++ fs) a.mine ∙ append_assoc u.mine es fs);
  place_is = b.place_is;
  legal = subst (λ (s : Setup). IsLegalObjects s w.seen) a.setup b.legal;
  by_seats = subst (λ (s : Setup). AreObjectsBySeats s w.seen) a.setup b.by_seats;
  own = b.own;
}

module _ (es : List ObjectEvent) (p : Place) (v w : ObjectView) (room : HasWords v.setup) (come : HasCome es p v w) where
  -- what its caller knows is true to a history,
  pub come_true_to : (objects : TableId) → IsTrueToHistory (known_of objects w)
  come_true_to objects = record {
    room = subst HasWords (sym come.setup) room;
    legal = subst (λ (s : Setup). IsLegalObjects s w.seen) (sym come.setup) come.legal;
    by_seats = subst (λ (s : Setup). AreObjectsBySeats s w.seen) (sym come.setup) come.by_seats;
    own = come.own;
  }

  -- and has grown
  pub come_grows : (objects : TableId) → Grows (known_of objects v) (known_of objects w)
  come_grows objects = record { objects = refl; setup = come.setup; seat = come.seat; begins = come.since; true_to = come_true_to objects }

-- what has grown in a view, whatever its table, has grown for a caller that knows its seat by another name
pub grew : (k : ObjectsKnown) (objects objects' : TableId) (v w : ObjectView) → known_of objects v ≡ k → objects' ≡ objects → ((any : TableId) → Grows (known_of any v) (known_of any w)) → Grows k (known_of objects' w)
grew k objects objects' v w is same grows = subst (λ (z : ObjectsKnown × TableId). Grows z.0 (known_of z.1 w)) (λ i. (is i, sym same i)) (grows objects)

-- a change that was loaded for was judged by what was found
pub has_judged : {S : Type 0} (counter word : ℕ) (delta told : ℤ) (found : ℕ) (me now : Me S (List ObjectView)) → word ≡ counter → told ≡ delta → OneActs (LoadToAdd word told) found me now → HasJudged counter delta found me now
has_judged {S} counter word delta told found me now is same one = subst (λ (z : ℕ × ℤ). HasJudged {S = S} z.0 z.1 found me now) (λ i. (is i, same i)) (one.0, one.1, came (LoadToAdd word told) found (the me.0) (the now.0) one.2)

-- an exchange that the table names by words
pub has_exchanged : {S : Type 0} (counter word : ℕ) (delta : ℤ) (seen : CounterState) (value named found : ℕ) (me now : Me S (List ObjectView)) → word ≡ counter → named ≡ value →
    OneActs (ExchangeToAdd word delta seen named) found me now → OneActs (ExchangeToAdd counter delta seen value) found me now
has_exchanged {S} counter word delta seen value named found me now is same one = subst (λ (z : ℕ × ℕ). OneActs {S = S} (ExchangeToAdd z.0 delta seen z.1) found me now) (λ i. (is i, same i)) one

-- ---- one after the other

module _ {S : Type 0} (me now next : Me S (List ObjectView)) where
  pub comes_through : (es fs : List ObjectEvent) (p q : Place) → OneComes {S = S} es p me now → OneComes {S = S} fs q now next → OneComes {S = S} (es ++ fs) q me next
  comes_through es fs p q a b = (b.0, b.1 ∙ a.1, came_through es fs p q (the me.0) (the now.0) (the next.0) a.2 b.2)

  -- where the second is with an event of the caller
  pub comes_with : (es : List ObjectEvent) (event : ℕ → ObjectEvent) (p q : Place) → OneComes {S = S} es p me now → OneComes {S = S} (event (the now.0).seat ∷ []) q now next → OneComes {S = S} (es ++ event (the me.0).seat ∷ []) q me next
  comes_with es event p q a b = subst (λ (n : ℕ). OneComes {S = S} (es ++ event n ∷ []) q me next) a.2.seat (comes_through es (event (the now.0).seat ∷ []) p q a b)

-- ---- seats that have seen nothing more, and that go on

-- a seat of an environment that has seen nothing more
pub env_grows_not : (k : EnvKnown) → EnvTrue k → EnvGrows k k
env_grows_not k true_to = record { env = refl; seat_count = refl; seat = refl; begins = begins_itself k.seen; true_to = true_to }

pub env_grows_through : (a b c : EnvKnown) → EnvGrows a b → EnvGrows b c → EnvGrows a c
env_grows_through a b c f g = record { env = g.env ∙ f.env; seat_count = g.seat_count ∙ f.seat_count; seat = g.seat ∙ f.seat; begins = begins_through c.seen b.seen a.seen g.begins f.begins; true_to = g.true_to }

pub grows_through : (a b c : ObjectsKnown) → Grows a b → Grows b c → Grows a c
grows_through a b c f g = record { objects = g.objects ∙ f.objects; setup = g.setup ∙ f.setup; seat = g.seat ∙ f.seat; begins = begins_through c.seen b.seen a.seen g.begins f.begins; true_to = g.true_to }

-- a seat of objects that has seen nothing more
pub grows_not : (k : ObjectsKnown) → IsTrueToHistory k → Grows k k
grows_not k true_to = record { objects = refl; setup = refl; seat = refl; begins = begins_itself k.seen; true_to = true_to }
