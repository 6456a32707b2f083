use Rattle.std.proofs.Common.{le-ltb, sym, ◌∙◌}
use Rattle.ns_model.proofs.Prelude.{false≢true, number}
use Rattle.ns_model.proofs.Sizes.{events_fit}
use Rattle.ns_model.proofs.history.event_fits.Goals as goal
use Rattle.ns_model.proofs.history.event_fits.Goals.{then-who-lt64, else-who-lt64, then-is_row_after, else-is_row_after}

pub phase_of-requires : goal.phase_of-requires
phase_of-requires g c = (
  events_fit g.row.C (number g.row.N) g.met.C.Condition.has_room,
  elim c.if-is_row_after.branch [
    | then-is_row_after w ↦ elim c.if-who-lt64.branch [
      | then-who-lt64 v ↦ v.if-who-lt64.true
      | else-who-lt64 v ↦ absurd (false≢true (sym (le-ltb c.in-Section.who 64 v.if-who-lt64.false) ∙ sym v.value-is ∙ w.if-is_row_after.true))
    ]
    | else-is_row_after w ↦ absurd cc
  ],
)

pub returns-then-who-lt64-2 : goal.returns-then-who-lt64-2
returns-then-who-lt64-2 g c = rw c.in-Signal.is (λ yes. (c.if-who-lt64-2.true, c.signal_fits.ensures.0 yes), λ fits. c.signal_fits.ensures.1 fits.1)

pub returns-then-who-lt64-3 : goal.returns-then-who-lt64-3
returns-then-who-lt64-3 g c = rw c.in-Broadcast.is (λ yes. (c.if-who-lt64-3.true, c.broadcast_fits.ensures.0 yes), λ fits. c.broadcast_fits.ensures.1 fits.1)

pub returns-then-who-lt64-4 : goal.returns-then-who-lt64-4
returns-then-who-lt64-4 g c =
    let fits = rw c.phase_of-then-who-lt64-4.ensures at c.leave_fits.ensures in
    rw c.in-Leave.is (λ yes. (c.if-who-lt64-4.true, fits.0 yes), λ legal. fits.1 legal.1)

pub returns-then-who-lt64-5 : goal.returns-then-who-lt64-5
returns-then-who-lt64-5 g c =
    let fits = rw c.phase_of-then-who-lt64-5.ensures at c.leave_any_fits.ensures in
    rw c.in-LeaveAny.is (λ yes. (c.if-who-lt64-5.true, fits.0 yes), λ legal. fits.1 legal.1)
