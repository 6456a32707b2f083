-- What seats have seen of one history, each a beginning of it.
use Rattle.std.specs.Prelude.{◌≡◌, ◌⊎◌, ℕ, List}
use Rattle.ns_model.specs.Beginnings.{BeginsWith}

-- the number of a seat, the history that it has seen, and its own events
pub record Sight (E : Type 0) : Type 0 where
  pub seat : ℕ
  pub seen : List E
  pub mine : List E

-- which events of a history are the own ones of a seat
abbrev pub OwnIn : Type 0 → Type 0
OwnIn E = List E → ℕ → List E

-- What a seat has seen begins the history, and the seat's own events in both are just its own.
pub record HasSight {E : Type 0} (own_of : OwnIn E) (history : List E) (sight : Sight E) : Type 0 where
  pub begins : BeginsWith history sight.seen
  pub own : own_of history sight.seat ≡ sight.mine
  pub own_seen : own_of sight.seen sight.seat ≡ sight.mine

-- The one ahead has seen all that the one behind has: what it has seen begins with what the other has, and in it the events of each are just its own.
pub record SawAllOf {E : Type 0} (own_of : OwnIn E) (ahead behind : Sight E) : Type 0 where
  pub begins : BeginsWith ahead.seen behind.seen
  pub own : own_of ahead.seen ahead.seat ≡ ahead.mine
  pub theirs : own_of ahead.seen behind.seat ≡ behind.mine

-- Two seats see one history: one of them has seen all that the other has.
abbrev pub AreOfOneHistory : {E : Type 0} → OwnIn E → Sight E → Sight E → Type 0
AreOfOneHistory own_of first second = SawAllOf own_of first second ⊎ SawAllOf own_of second first
