-- Whom a count of the seats is of.
use Rattle.std.specs.Prelude.{ℕ, Bool, not, ◌&&◌}
use Rattle.ns_model.specs.declared.phase.Phase.{Phase}
use Rattle.ns_model.specs.declared.seats.Seats.{Seats}
use Rattle.ns_model.specs.declared.wakes.Counted.{Counted}
use Rattle.ns_model.specs.declared.wakes.Counted.TheVariants.{WaitingAs, WokenAs, Stranger, Left}
use Rattle.ns_model.specs.Seats.{is_in}
use Rattle.ns_model.specs.Phases.{is_waiting, is_waiting_as}

-- whether the count is of the seat, which is in this phase
abbrev pub is_counted : {C : Type 0} → Counted → ℕ → Seats → ℕ → Phase C → Bool
is_counted (WaitingAs writes) k woken seat phase = is_waiting_as writes k phase
is_counted (WokenAs writes) k woken seat phase = is_in woken seat && is_waiting_as writes k phase
is_counted Stranger k woken seat phase = is_in woken seat && not (is_waiting k phase)
is_counted Left k woken seat phase = not (is_in woken seat) && is_waiting k phase
