-- How far a bound seat has come, told otherwise.
use Rattle.std.proofs.Common.{ℕ}
use Rattle.ns_gate.proofs.Prelude.{Bounded, HasComeBy, SeatOf}

-- what it has come by tells also this
pub come_by : {C : Type 0} {N : ℕ} {far so : SeatOf C N → SeatOf C N → Type 0} (old new : Bounded C N) → HasComeBy far old new → (far old.me new.me → so old.me new.me) → HasComeBy so old new
come_by old new come so = record { gate = come.gate; lent = come.lent; by = so come.by }
