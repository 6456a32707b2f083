use Rattle.ns_world.proofs.Prelude.{LeaveSelf, Left, ap, change_commits, err_from_is_err_and, refl, sym}
use Rattle.ns_world.proofs.lock.Lock.return_left.Goals as goal

pub returns : goal.returns
returns g c = record {
  commits = change_commits c.args.seat.now.number (LeaveSelf c.args.home) c.args.self.now.queues;
  effect = (ap Left (sym c.leave_self-stood.ensures.stood), refl, rw (c.returned-self.ensures, c.bits.ensures, c.leave_self-stood.ensures.left c.args.self.now.word) refl, refl);
  grows = c.in_ok-commit_leave.ensures;
  stays = refl;
}

pub returns-in_err-commit_leave : goal.returns-in_err-commit_leave
returns-in_err-commit_leave g c =
    let p = err_from_is_err_and c.from_residual.result c.from_residual.ensures.1 in
    let err = c.in_err-commit_leave.ensures in
    rw p.1 record { commits = (err.0, refl); lock = refl; history = err.1; seat = refl }

pub commit_leave-requires : goal.commit_leave-requires
commit_leave-requires g c = (g.met.C.Queueable.parts_fit.queues, g.met.C.Seated.event_fits)

pub leave_self-stood-requires : goal.leave_self-stood-requires
leave_self-stood-requires g c = g.met.C.Queueable.parts_fit.queues

pub bits-requires : goal.bits-requires
bits-requires g c = g.met.C.Queueable.parts_fit.queues
