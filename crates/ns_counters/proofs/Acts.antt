-- One step of one caller, and all who look on.
use Rattle.std.proofs.Common.{List, [], append-nil, arith, refl, set, slice_index, subst, sym, ℕ, ◌++◌, ◌<◌, ◌∙◌, ◌≡◌, ◌≢◌}
use Rattle.ns_counters.proofs.Prelude.{AreObjectsBySeats, AreWordsOf, BeginOnce, CanAct, EndOnce, ExchangeToAdd, HasActed, IsFoundAt, IsLawful, IsLegalObjectEvent, IsLegalObjects, IsWordOf, LoadToAdd, LookCounter, LookOnce, MarkWait, ObjectAct, ObjectEvent, ObjectStanding, ObjectView, Outcome}
use Rattle.ns_counters.proofs.Prelude.{Place, PlaceFits, Setup, ViewFits, acted, begins_through, every-append, every_map, first_objects, fold-append, legal_append, object_next, object_who, objects_after, objects_from, objects_own, outcome, stage, stage_word, word_at, word_of_once}
use Rattle.ns_counters.proofs.Keeps.{StepKeeps, step_keeps, places_still}
use Rattle.ns_counters.proofs.Objects.{own-append, own_all, own_none}

module _ (setup : Setup) (words : List ℕ) (history : List ObjectEvent) (law : IsLawful setup words history) (view : ObjectView) (fits : ViewFits setup history view) (act : ObjectAct) (can : CanAct setup view.place act) where
  abbrev found : ℕ
  found = slice_index words (word_at act)

  abbrev left : Outcome
  left = outcome view.seat act view.place found

  keeps : StepKeeps setup (objects_after setup history) words view.seat (word_at act) left
  keeps = step_keeps setup (objects_after setup history) words view.seat law.room law.words_are act view.place fits.place can

  -- the standing after both
  after : objects_after setup (history ++ left.events) ≡ objects_from (objects_after setup history) left.events
  after = fold-append object_next (first_objects setup) history left.events

  legal_now : IsLegalObjects setup (history ++ left.events)
  legal_now = legal_append (IsLegalObjectEvent setup) object_next (first_objects setup) history left.events law.legal keeps.legal

  by_seats_now : AreObjectsBySeats setup (history ++ left.events)
  by_seats_now = every-append (λ event. object_who event < setup.seats) history left.events law.by_seats (every_map (λ event. object_who event ≡ view.seat) (λ event. object_who event < setup.seats) (λ event is. subst (λ n. n < setup.seats) (sym is) fits.below) left.events keeps.by)

  -- The law holds after it.
  pub acted_lawful : IsLawful setup (set words (word_at act) left.word) (history ++ left.events)
  acted_lawful = record {
    few = law.few;
    room = law.room;
    words_are = subst (λ (now : ObjectStanding). AreWordsOf now (set words (word_at act) left.word)) (sym after) keeps.words_are;
    legal = legal_now;
    by_seats = by_seats_now;
  }

  own_now : objects_own (history ++ left.events) view.seat ≡ view.mine ++ left.events
  own_now = own-append history left.events view.seat ∙ (λ i. fits.mine i ++ own_all left.events view.seat keeps.by i)

  -- Its caller knows what fits,
  pub acted_fits : ViewFits setup (history ++ left.events) (acted act found history view)
  acted_fits = record {
    made = fits.made;
    below = fits.below;
    seen = ([], sym (append-nil (history ++ left.events)));
    mine = own_now;
    mine_seen = own_now;
    place = subst (λ (now : ObjectStanding). PlaceFits setup now view.seat left.place) (sym after) keeps.place;
  }

  -- and so does each other seat.
  pub others_fit : (other : ObjectView) → other.seat ≢ view.seat → ViewFits setup history other → ViewFits setup (history ++ left.events) other
  others_fit other apart theirs = record {
    made = theirs.made;
    below = theirs.below;
    seen = begins_through (history ++ left.events) history other.seen (left.events, refl) theirs.seen;
    mine = own-append history left.events other.seat ∙ ((λ i. theirs.mine i ++ own_none left.events view.seat other.seat (λ is. apart (sym is)) keeps.by i) ∙ append-nil other.mine);
    mine_seen = theirs.mine_seen;
    place = subst (λ (now : ObjectStanding). PlaceFits setup now other.seat other.place) (sym after) (places_still setup (objects_after setup history) left.events view.seat other.seat other.place (λ is. apart (sym is)) keeps.by keeps.legal theirs.place);
  }

  -- the word found is that of its object
  found_at : IsFoundAt (objects_after setup history) act found
  found_at = by act view.place can fits.place where
    counter_at : (counter : ℕ) → counter < setup.counters → IsWordOf (slice_index words counter) ((objects_after setup history).counters counter)
    counter_at counter there = let few = law.room.0 in law.words_are.counters counter (omega (arith, few, there))

    once_at : (once : ℕ) → once < setup.cells → slice_index words (word_of_once once) ≡ stage_word (stage ((objects_after setup history).onces once))
    once_at once there = let few = law.room.1 in law.words_are.onces once (omega (arith, few, there))

    by : (act : ObjectAct) (place : Place) → CanAct setup place act → PlaceFits setup (objects_after setup history) view.seat place → IsFoundAt (objects_after setup history) act (slice_index words (word_at act))
    by (LookCounter counter) place can stands = counter_at counter can
    by (LoadToAdd counter delta) place can stands = counter_at counter can.0
    by (ExchangeToAdd counter delta seen value) place can stands = counter_at counter can.0
    by (MarkWait counter) place can stands = counter_at counter can.0
    by (LookOnce once) place can stands = once_at once can
    by (BeginOnce once) place can stands = once_at once can.0
    by (EndOnce once) place can stands = once_at once (subst (PlaceFits setup (objects_after setup history) view.seat) can stands).0

  -- What the caller knows of the step.
  pub has_acted : HasActed act found view (acted act found history view)
  has_acted = record {
    setup = refl;
    seat = refl;
    point = history;
    since = fits.seen;
    found_is = subst (λ (made : Setup). IsFoundAt (objects_after made history) act found) (sym fits.made) found_at;
    seen = refl;
    mine = refl;
    place = refl;
    legal = subst (λ (made : Setup). IsLegalObjects made (history ++ left.events)) (sym fits.made) legal_now;
    by_seats = subst (λ (made : Setup). AreObjectsBySeats made (history ++ left.events)) (sym fits.made) by_seats_now;
    own = own_now;
  }
