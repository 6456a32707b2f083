-- A step of a look of a wait, at the clock and the notes or by a round.
use Rattle.std.specs.Prelude.{None, Option, Some, [], ℕ, ◌≡◌}
use Rattle.ns_world.specs.Names.{AnyWait, Cause, EnvEffect, EnvEnd, EnvFound, EnvPlain, EnvWalk, LookOver, Looked, LooksByLimits, LooksByRound, Next, ObjectReply, ObjectWalk, On, Seat, Step, Walk, Went, env_got_of, env_want_of, got_of, held_after, want_of}
use Rattle.ns_world.specs.Among.{cause_of, shown_by}
use Rattle.ns_world.specs.Looks.{came_back, doing_after}
use Rattle.ns_world.specs.Performs.{step_of}
use Rattle.ns_env.specs.declared.next.Next.TheVariants as TheNext

-- the wait of the seat goes on with what its look has shown
pub record Sees {C : Type 0} {N : ℕ} (seat : Seat C N) (walk : Walk C) (wait : Option AnyWait) (cause : Option Cause) (seat' : Seat C N) (step : Step) : Type 0 where
  pub goes : seat' ≡ record seat { doing = doing_after wait (got_of N walk (Looked cause)); held = held_after (came_back (want_of walk)) cause seat.held }
  pub answers : step ≡ step_of wait (got_of N walk (Looked cause))

-- where a step of a look at the clock and the notes leads its seat
abbrev pub SeatLooks : {C : Type 0} {N : ℕ} → Next EnvWalk EnvEnd → Seat C N → Walk C → Seat C N → Step → Type 0
SeatLooks (On next) seat walk seat' step = (seat' ≡ record seat { doing = LooksByLimits walk next }) × (step ≡ Went)
SeatLooks (TheNext.Done (LookOver cause)) seat walk seat' step = Sees seat walk None cause seat' step
SeatLooks next seat walk seat' step = ⊥

-- where a step of a round leads, by which a wait looks
abbrev pub RoundLeads : {C : Type 0} {N : ℕ} → Next ObjectWalk ObjectReply → Seat C N → Walk C → AnyWait → Seat C N → Step → Type 0
RoundLeads (On next) seat walk wait seat' step = (seat' ≡ record seat { doing = LooksByRound walk wait next }) × (step ≡ Went)
RoundLeads next seat walk wait seat' step = Sees seat walk (Some (record { round = wait.round; shown = shown_by next })) (cause_of (shown_by next)) seat' step

-- a step of a look at the clock and the notes was made, which are as they were, and the seat is where it leads
pub record LookStep {C : Type 0} {N : ℕ} (env : EnvPlain) (seat : Seat C N) (walk : Walk C) (place : EnvWalk) (seat' : Seat C N) (step : Step) : Type 0 where
  pub found : EnvFound
  pub effect : EnvEffect seat.number (env_want_of place) env found env []
  pub goes : SeatLooks (env_got_of place found) seat walk seat' step
