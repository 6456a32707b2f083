-- The list of a variable beside the phases of the seats.
use Rattle.std.specs.Prelude.{List, if◌then◌else◌, true, ℕ, ◌≡◌, ◌≤◌}
use Rattle.ns_queue.specs.Names.{Every, Mode, Phase, Seats, Variables, Waiter, Waiting, has, is_in, is_waiting, woken_phase}
use Rattle.ns_queue.specs.Waiters.{times_in, HaveSeats}

-- the phase is that of a wait in this mode, for variables among which is k
abbrev pub WaitsAmong : {C : Type 0} → ℕ → Mode → Phase C → Type 0
WaitsAmong k mode phase = (among : Variables) × (phase ≡ Waiting among mode) × (has among k ≡ true)

-- each waiter's phase is that it waits for the variable k, or for several with k among them, in the waiter's mode
abbrev pub WaitFor : {C : Type 0} → ℕ → (ℕ → Phase C) → List (Waiter C) → Type 0
WaitFor k phases ws = Every (λ w. WaitsAmong k w.mode (phases w.seat)) ws

-- The waiters are just the seats whose phase is that they wait for the variable k, each of them once and in its mode. By it the counts over the 64 seats, by which a signal or a broadcast is legal, become tallies of the variable's list.
pub record AreWaiting {C : Type 0} (k : ℕ) (phases : ℕ → Phase C) (ws : List (Waiter C)) : Type 0 where
  pub own : WaitFor k phases ws
  pub once : (seat : ℕ) → times_in seat ws ≤ 1
  pub all : (seat : ℕ) → is_waiting k (phases seat) ≡ true → 1 ≤ times_in seat ws
  pub below : HaveSeats ws

-- the phases after a wake of these seats, by the variable k
abbrev pub woken_phases : {C : Type 0} → ℕ → Seats → (ℕ → Phase C) → ℕ → Phase C
woken_phases k woken phases seat = if is_in woken seat then woken_phase k (phases seat) else phases seat
