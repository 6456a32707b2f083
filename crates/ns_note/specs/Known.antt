-- What a seat knows, and how it grows.
use Rattle.std.specs.Prelude.{◌≡◌, ◌<◌, ℕ, List, []}
use Rattle.ns_note.specs.Names.{AreNewBy, AreOfOneHistoryBy, BeginsWith, EnvEvent, EnvView, IsEnvBySeats, IsLegalEnv, IsOne, Me, Nothing, Sight, TableId, env_own, the_or}
use Rattle.ns_note.specs.Law.{fresh_seat}

-- what contracts see of a seat: its environment, how many seats that has, its own number, the history that it has seen, and its own events
pub record EnvKnown : Type 0 where
  pub env : TableId
  pub seat_count : ℕ
  pub seat : ℕ
  pub seen : List EnvEvent
  pub mine : List EnvEvent

-- what a seat of an environment with so many seats has seen and done
abbrev pub known : TableId → ℕ → ℕ → List EnvEvent → List EnvEvent → EnvKnown
known env seat_count seat seen mine = record { env = env; seat_count = seat_count; seat = seat; seen = seen; mine = mine }

-- what a seat with this view shows of itself
abbrev pub known_of : TableId → EnvView → EnvKnown
known_of env view = known env view.seat_count view.seat view.seen view.mine

-- what a seat has seen
abbrev pub sight_of : EnvKnown → Sight EnvEvent
sight_of k = record { seat = k.seat; seen = k.seen; mine = k.mine }

-- the seat that a view stands for, where it is one
abbrev pub the : List EnvView → EnvView
the = the_or (fresh_seat 0 0)

-- What a seat has seen is a legal history by the seats that there are, and the seat's own events in it are just its own.
pub record IsTrueToHistory (k : EnvKnown) : Type 0 where
  pub legal : IsLegalEnv k.seen
  pub by_seats : IsEnvBySeats k.seat_count k.seen
  pub own : env_own k.seen k.seat ≡ k.mine

-- a seat between its calls: it stands for itself alone, holds nothing of the table and makes no note
pub record IsAtRest {S : Type 0} (env : TableId) (me : Me S (List EnvView)) : Type 0 where
  pub one : IsOne me.0
  pub empty : me.1 ≡ []
  pub idle : (the me.0).making ≡ Nothing
  pub true_to : IsTrueToHistory (known_of env (the me.0))

-- this is the number of the seat, one of at most 64
abbrev pub IsNumberOf : {S : Type 0} → ℕ → Me S (List EnvView) → Type 0
IsNumberOf number me = (number ≡ (the me.0).seat) × (number < 64)

-- The same seat later: it has seen a history that begins with what it had seen, and that is one of those above.
pub record Grows (old new : EnvKnown) : Type 0 where
  pub env : new.env ≡ old.env
  pub seat_count : new.seat_count ≡ old.seat_count
  pub seat : new.seat ≡ old.seat
  pub begins : BeginsWith new.seen old.seen
  pub true_to : IsTrueToHistory new

-- the seats of a new environment, from a number on: none has seen or done anything
abbrev pub AreNew : TableId → ℕ → ℕ → List EnvKnown → Type 0
AreNew env seat_count = AreNewBy (λ seat. known env seat_count seat [] [])

-- Of two seats, one has seen all that the other has: a history that begins with what the other has seen, in which the events of both are just their own.
abbrev pub AreOfOneHistory : EnvKnown → EnvKnown → Type 0
AreOfOneHistory first second = AreOfOneHistoryBy env_own (sight_of first) (sight_of second)
