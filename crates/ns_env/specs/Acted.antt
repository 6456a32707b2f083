-- What a caller knows of a step that it has made.
use Rattle.std.specs.Prelude.{◌≡◌, List, ◌++◌}
use Rattle.ns_env.specs.Names.{BeginsWith, EnvAct, EnvEvent, EnvView, IsEnvBySeats, IsLegalEnv, env_own}
use Rattle.ns_env.specs.Lawful.{Meets}
use Rattle.ns_env.specs.Steps.{EnvPlain, outcome, making_after}

-- what happens by the step of a caller that knew this, where the clock and the notes stood so
abbrev pub events_of : EnvAct → EnvPlain → EnvView → List EnvEvent
events_of act plain old = (outcome old.seat act plain).events

-- what a caller knows once it has made a step where the clock and the notes stood so, after this history
abbrev pub acted : EnvAct → EnvPlain → List EnvEvent → EnvView → EnvView
acted act plain history view = record view {
  making = making_after act plain view.making;
  seen = history ++ events_of act plain view;
  mine = view.mine ++ events_of act plain view;
}

-- The step was made at one point of the history, which goes on from what the caller had seen: there the clock and the notes stood so, and just what happened by the step has come behind that. The
-- caller has seen so far, and this is a legal history, by the seats that there are, in which its own events are just its own.
pub record HasActed (act : EnvAct) (plain : EnvPlain) (old new : EnvView) : Type 0 where
  pub seat_count : new.seat_count ≡ old.seat_count
  pub seat : new.seat ≡ old.seat
  pub point : List EnvEvent
  pub since : BeginsWith point old.seen
  pub meets : Meets point plain
  pub seen : new.seen ≡ point ++ events_of act plain old
  pub mine : new.mine ≡ old.mine ++ events_of act plain old
  pub making : new.making ≡ making_after act plain old.making
  pub legal : IsLegalEnv new.seen
  pub by_seats : IsEnvBySeats old.seat_count new.seen
  pub own : env_own new.seen new.seat ≡ new.mine
