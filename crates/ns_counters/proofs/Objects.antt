-- Histories of all objects: their parts, and the history of each object in them.
use Rattle.std.proofs.Common.{Bool, List, [], ap, cond, eq-eqb, eqb, eqb-true, false, fold, ne_eqb, refl, subst, sym, true, ℕ, ◌++◌, ◌∙◌, ◌∷◌, ◌≡◌, ◌≢◌}
use Rattle.ns_counters.proofs.Prelude.{Every, IsLegalCounterEvent, IsLegalFrom, IsLegalObjectEvent, IsLegalOnceEvent, ObjectEvent, ObjectStanding, OnOnce, Setup, but_at, counter_next, filter-append, object_next, object_who, objects_from, objects_own, of_counter, of_once, once_next}
use Rattle.ns_counters.specs.Prelude.{OnCounter}

-- ---- each object by itself

-- What a part of the events is of one object: its legal history, which leaves this.
module _ {S E : Type 0} (IsLegal : S → E → Type 0) (next : S → E → S) (left : S) where
  pub record IsOwn (now : S) (events : List E) : Type 0 where
    pub legal : IsLegalFrom IsLegal next now events
    pub leaves : left ≡ fold next now events

  -- an event of this object is one of its own history, and an event of another leaves it as it is
  own_next : (number other : ℕ) (states : ℕ → S) (event : E) (events : List E) → IsLegal (states other) event → IsOwn (but_at other (next (states other) event) states number) events →
      IsOwn (states number) (cond (eqb number other) (event ∷ events) events)
  own_next number other states event events legal own = by (eqb number other) (λ is. ap states (sym (eqb-true number other is))) own where
    by : (b : Bool) → (b ≡ true → states other ≡ states number) → IsOwn (cond b (next (states other) event) (states number)) events → IsOwn (states number) (cond b (event ∷ events) events)
    by true same own = subst (λ now. IsOwn now (event ∷ events)) (same refl) (record { legal = (legal, own.legal); leaves = own.leaves })
    by false same own = own

-- In a legal history of all objects, each has a legal history of its own, which leaves it as it then stands.
module _ (number : ℕ) (setup : Setup) where
  pub counter_own : (now : ObjectStanding) (events : List ObjectEvent) → IsLegalFrom (IsLegalObjectEvent setup) object_next now events →
      IsOwn IsLegalCounterEvent counter_next ((objects_from now events).counters number) (now.counters number) (of_counter number events)
  counter_own now [] legal = record { legal = tt; leaves = refl }
  counter_own now (OnOnce once event ∷ events) legal = counter_own (object_next now (OnOnce once event)) events legal.1
  counter_own now (OnCounter counter event ∷ events) legal =
      own_next IsLegalCounterEvent counter_next ((objects_from now (OnCounter counter event ∷ events)).counters number) number counter now.counters event (of_counter number events) legal.0.1 (counter_own (object_next now (OnCounter counter event)) events legal.1)

  pub once_own : (now : ObjectStanding) (events : List ObjectEvent) → IsLegalFrom (IsLegalObjectEvent setup) object_next now events →
      IsOwn IsLegalOnceEvent once_next ((objects_from now events).onces number) (now.onces number) (of_once number events)
  once_own now [] legal = record { legal = tt; leaves = refl }
  once_own now (OnCounter counter event ∷ events) legal = once_own (object_next now (OnCounter counter event)) events legal.1
  once_own now (OnOnce once event ∷ events) legal =
      own_next IsLegalOnceEvent once_next ((objects_from now (OnOnce once event ∷ events)).onces number) number once now.onces event (of_once number events) legal.0.1 (once_own (object_next now (OnOnce once event)) events legal.1)

-- ---- callers

pub own-append : (g h : List ObjectEvent) (seat : ℕ) → objects_own (g ++ h) seat ≡ objects_own g seat ++ objects_own h seat
own-append g h seat = filter-append (λ event. eqb (object_who event) seat) g h

-- events of one caller are all its own, and none of another's
pub own_all : (events : List ObjectEvent) (seat : ℕ) → Every (λ event. object_who event ≡ seat) events → objects_own events seat ≡ events
own_all [] seat are = refl
own_all (event ∷ events) seat are = ap (λ (b : Bool). cond b (event ∷ objects_own events seat) (objects_own events seat)) (eq-eqb (object_who event) seat are.0) ∙ ap (λ rest. event ∷ rest) (own_all events seat are.1)

pub own_none : (events : List ObjectEvent) (who seat : ℕ) → who ≢ seat → Every (λ event. object_who event ≡ who) events → objects_own events seat ≡ []
own_none [] who seat apart are = refl
own_none (event ∷ events) who seat apart are = ap (λ (b : Bool). cond b (event ∷ objects_own events seat) (objects_own events seat)) (ne_eqb (object_who event) seat (λ is. apart (sym are.0 ∙ is))) ∙ own_none events who seat apart are.1
