-- The law of a clock and notes: they, and how far their callers have come, are as one history leaves them.
use Rattle.std.specs.Prelude.{◌≡◌, ℕ, ◌+◌, ◌<◌, ◌≤◌, min, false, List, Some}
use Rattle.ns_env.specs.Names.{Adding, BeginsWith, EnvEvent, EnvStanding, EnvView, IsEnvBySeats, IsLegalEnv, Making, Nothing, clock_of, env_after, env_own, takes_in}
use Rattle.ns_env.specs.declared.view.Making.TheVariants.{Taken}
use Rattle.ns_env.specs.Steps.{EnvPlain}

-- The clock and the notes are as this history leaves them, which is legal. The next number goes on past the last.
pub record Meets (history : List EnvEvent) (plain : EnvPlain) : Type 0 where
  pub legal : IsLegalEnv history
  pub clock : plain.clock ≡ clock_of history
  pub takes : takes_in history ≡ min plain.next 64
  pub notes : plain.notes ≡ (env_after history).notes

-- 1 for who goes to take a number
abbrev pub adds : Making → ℕ
adds Adding = 1
adds making = 0

-- A number that a seat has taken is its own, and its note isn't made yet.
abbrev pub MakingFits : EnvStanding → ℕ → Making → Type 0
MakingFits now seat Nothing = Unit {0}
MakingFits now seat Adding = Unit {0}
MakingFits now seat (Taken note) = (now.takers note ≡ Some seat) × ((now.notes note).made ≡ false)

-- The law, where so many seats go to take a number: the clock and the notes are as this history leaves them, which is by the seats that there are. The next number may pass 64, where seats saw it
-- below 64 and go to take one, but no further than the seats go. So with 64 seats its word stays at most 127. It isn't said where the seats stand that go, so one theorem serves a table, which counts them over what its seats know, and plain data, which counts them over places in calls (`making_of`).
pub record IsLawful (seats : ℕ) (plain : EnvPlain) (adders : ℕ) (history : List EnvEvent) : Type 0 where
  pub meets : Meets history plain
  pub by_seats : IsEnvBySeats seats history
  pub room : plain.next + adders ≤ 63 + seats

-- What one of so many seats knows fits the history: it has seen a beginning of it, which has all of its own events, and it has come so far in making a note.
pub record ViewFits (seats : ℕ) (history : List EnvEvent) (view : EnvView) : Type 0 where
  pub limited : view.seat_count ≡ seats
  pub below : view.seat < seats
  pub seen : BeginsWith history view.seen
  pub mine : env_own history view.seat ≡ view.mine
  pub mine_seen : env_own view.seen view.seat ≡ view.mine
  pub making : MakingFits (env_after history) view.seat view.making
