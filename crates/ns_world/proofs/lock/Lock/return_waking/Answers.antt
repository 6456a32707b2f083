use Rattle.std.proofs.Common.{ap, not, refl, ◌&&◌, ◌∙◌, ◌≡◌}
use Rattle.ns_world.proofs.Prelude.{err_from_is_err_and}
use Rattle.ns_world.proofs.Exchanged.{woken_back}
use Rattle.ns_world.proofs.lock.Lock.return_waking.Goals as goal
use Rattle.ns_world.proofs.lock.Lock.return_waking.Goals.{else-held, else-not-held, then-held, then-not-held}

pub returns : goal.returns
returns g c =
    rw owes
    (woken_back g.C.Condition.means c.args.self.now c.args.seat.now c.args.waking c.args.k _ _ c.is_held-held.result c.has_waiters-some.result c.is_held-held.ensures c.has_waiters-some.ensures c.in_ok-commit_wake.ensures
    c.wake_waiters-seat.ensures.owed c.wake_waiters-seat.ensures.lists (rw (c.returned-self.ensures, moves, c.bits.ensures) refl) refl) where
      moves : c.if-held.returned ≡ (c.is_held-held.result && c.has_waiters-some.result)
      moves = elim c.if-held.branch [ then-held w ↦ rw w.if-held.true w.returned-is | else-held w ↦ rw w.if-held.false (w.returned-is ∙ w.if-held.false) ]

      owes : c.if-not-held.owes ≡ (not c.is_held-held.result && c.has_waiters-some.result)
      owes = elim c.if-not-held.branch [ then-not-held w ↦ rw w.if-not-held.true w.owes-is | else-not-held w ↦ rw w.if-not-held.false (w.owes-is ∙ ap not w.if-not-held.false) ]

pub returns-in_err-commit_wake : goal.returns-in_err-commit_wake
returns-in_err-commit_wake g c =
    let p = err_from_is_err_and c.from_residual.result c.from_residual.ensures.1 in
    rw p.1 record { commits = (tt, refl); lock = refl; history = c.in_err-commit_wake.ensures; seat = refl }

pub bits-requires : goal.bits-requires
bits-requires g c = g.met.C.Queueable.parts_fit.queues

pub commit_wake-requires : goal.commit_wake-requires
commit_wake-requires g c = (g.met.C.Queueable.parts_fit.queues, (g.met.C.Seated.event_fits, c.requires))

pub has_waiters-some-requires : goal.has_waiters-some-requires
has_waiters-some-requires g c = (g.met.C.Queueable.parts_fit.queues, c.requires)

pub wake_waiters-seat-requires : goal.wake_waiters-seat-requires
wake_waiters-seat-requires g c = (g.met.C.Queueable.parts_fit.queues, c.requires)
