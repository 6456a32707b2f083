-- What a caller knows of a step that it has made.
use Rattle.std.specs.Prelude.{List, ℕ, ◌++◌, ◌≡◌}
use Rattle.ns_counters.specs.Names.{BeginOnce, BeginsWith, EndOnce, ExchangeToAdd, LoadToAdd, LookCounter, LookOnce, MarkWait, ObjectAct, ObjectEvent, ObjectView}
use Rattle.ns_counters.specs.Lawful.{IsWordOf}
use Rattle.ns_counters.specs.Objects.{ObjectStanding, objects_after, IsLegalObjects, objects_own, AreObjectsBySeats}
use Rattle.ns_counters.specs.Steps.{outcome}
use Rattle.ns_counters.specs.Words.{stage, stage_word}

-- the word that a step has found is that of its object
abbrev pub IsFoundAt : ObjectStanding → ObjectAct → ℕ → Type 0
IsFoundAt now (LookCounter counter) found = IsWordOf found (now.counters counter)
IsFoundAt now (LoadToAdd counter delta) found = IsWordOf found (now.counters counter)
IsFoundAt now (ExchangeToAdd counter delta seen value) found = IsWordOf found (now.counters counter)
IsFoundAt now (MarkWait counter) found = IsWordOf found (now.counters counter)
IsFoundAt now (LookOnce once) found = found ≡ stage_word (stage (now.onces once))
IsFoundAt now (BeginOnce once) found = found ≡ stage_word (stage (now.onces once))
IsFoundAt now (EndOnce once) found = found ≡ stage_word (stage (now.onces once))

-- what happens by the step of a caller that knew this
abbrev pub events_of : ObjectAct → ℕ → ObjectView → List ObjectEvent
events_of act found old = (outcome old.seat act old.place found).events

-- what a caller knows once it has made a step, which has found this word, after this history
abbrev pub acted : ObjectAct → ℕ → List ObjectEvent → ObjectView → ObjectView
acted act found history view = record view {
  place = (outcome view.seat act view.place found).place;
  seen = history ++ events_of act found view;
  mine = view.mine ++ events_of act found view;
}

-- The step was made at one point of the history, which goes on from what the caller had seen: there its object was as it has found it, and just what happened by the step has come behind that. The
-- caller has seen so far, and this is a legal history, by the seats that there are, in which its own events are just its own.
pub record HasActed (act : ObjectAct) (found : ℕ) (old new : ObjectView) : Type 0 where
  pub setup : new.setup ≡ old.setup
  pub seat : new.seat ≡ old.seat
  pub point : List ObjectEvent
  pub since : BeginsWith point old.seen
  pub found_is : IsFoundAt (objects_after old.setup point) act found
  pub seen : new.seen ≡ point ++ events_of act found old
  pub mine : new.mine ≡ old.mine ++ events_of act found old
  pub place : new.place ≡ (outcome old.seat act old.place found).place
  pub legal : IsLegalObjects old.setup new.seen
  pub by_seats : AreObjectsBySeats old.setup new.seen
  pub own : objects_own new.seen new.seat ≡ new.mine
