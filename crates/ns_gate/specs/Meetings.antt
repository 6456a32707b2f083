-- What two seats of a gate know once they have met.
use Rattle.std.specs.Prelude.{None, Option, Some, ℕ, ◌≡◌, ◌≢◌}
use Rattle.ns_gate.specs.Names.{AreOfOneHistory, BeginsWith, Event, HaveLearnedBy, Held, Read, Sight, Truths, own_of}
use Rattle.ns_gate.specs.Calls.{SeatOf, IsTrueToHistory}
use Rattle.ns_gate.specs.Law.{GateView, fresh_seat}

-- Nothing of the seat has changed but what it has seen: a history that begins with what it had seen, is legal, is by the seats that there are, and has just the seat's own events as its own.
pub record HasLearned {C : Type 0} {N : ℕ} (truths : Truths C) (v w : GateView C N) : Type 0 where
  pub seat_count : w.seat_count ≡ v.seat_count
  pub at : w.at ≡ v.at
  pub mine : w.told.mine ≡ v.told.mine
  pub begun : w.told.begun ≡ v.told.begun
  pub begins : BeginsWith w.told.seen v.told.seen
  pub true_to : IsTrueToHistory truths w.seat_count w.at.seat w.told.seen w.told.mine

-- what a seat has seen
abbrev pub sight_of : {C : Type 0} {N : ℕ} → GateView C N → Sight (Event C N)
sight_of view = record { seat = view.at.seat; seen = view.told.seen; mine = view.told.mine }

-- Where both of two seats have a section in hand, both read.
abbrev pub ShareTheLock : {C : Type 0} {N : ℕ} → Option (Held C N) → Option (Held C N) → Type 0
ShareTheLock None other = Unit {0}
ShareTheLock (Some one) None = Unit {0}
ShareTheLock (Some one) (Some other) = (one.mode ≡ Read) × (other.mode ≡ Read)

-- Two seats have met: they are two, and share the lock where both hold it; of what they had seen, one began the other; now both have seen the one history so far.
pub record HaveMet {C : Type 0} {N : ℕ} (truths : Truths C) (v u v' u' : GateView C N) : Type 0 where
  pub first : HasLearned truths v v'
  pub second : HasLearned truths u u'
  pub same : u'.told.seen ≡ v'.told.seen
  pub before : AreOfOneHistory own_of (sight_of v) (sight_of u)
  pub apart : v.at.seat ≢ u.at.seat
  pub share : ShareTheLock v.at.held u.at.held

-- Two seats that stand together have met, and hold the slots that they held.
abbrev pub HaveLearned : {C : Type 0} {N : ℕ} → Truths C → SeatOf C N → SeatOf C N → Type 0
HaveLearned truths = HaveLearnedBy (fresh_seat 0 0) (HaveMet truths)
