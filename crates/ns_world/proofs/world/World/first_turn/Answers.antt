use Rattle.ns_world.proofs.Prelude.{err_from_is_err_and, number, whole_of}
use Rattle.ns_world.proofs.Sizes.{world_fits}
use Rattle.ns_world.proofs.Turns.{begin_refused, map_err, map_ok, turns_misused, turns_started, turns_busy, started_steps}
use Rattle.ns_world.proofs.world.World.first_turn.Goals as goal

pub returns-in-Started : goal.returns-in-Started
returns-in-Started g c = record {
  ok = let starts = rw c.in-Started.is at c.in_ok-begin.ensures.ok in
      map_ok c.step.result (λ step p. turns_started (whole_of g.C.Condition.means c.args.self.now) (whole_of g.C.Condition.means c.begin.new.self) (whole_of g.C.Condition.means c.step.new.self) c.args.seat c.args.call step starts p)
      c.step.ensures.ok;
  err = let starts = rw c.in-Started.is at c.in_ok-begin.ensures.ok in
      map_err c.step.result (λ fault p. absurd (started_steps (whole_of g.C.Condition.means c.args.self.now) (whole_of g.C.Condition.means c.begin.new.self) c.args.seat c.args.call fault starts p.1)) c.step.ensures.err;
}

pub returns-in-Busy-clause-ok : goal.returns-in-Busy-clause-ok
returns-in-Busy-clause-ok g c =
    let busy = rw c.in-Busy.is at c.in_ok-begin.ensures.ok in
    map_ok c.step-in-Busy.result (λ step p. turns_busy (whole_of g.C.Condition.means c.args.self.now) (whole_of g.C.Condition.means c.begin.new.self) (whole_of g.C.Condition.means c.step-in-Busy.new.self) c.args.seat c.args.call step busy p) c.step-in-Busy.ensures.ok

pub begin-requires : goal.begin-requires
begin-requires g c = (world_fits g.row.C (number g.row.N) g.met.C.Condition.has_room g.C.Condition, c.requires)

pub returns-in_err-begin-clause-ok : goal.returns-in_err-begin-clause-ok
returns-in_err-begin-clause-ok g c = let p = err_from_is_err_and c.from_residual.result c.from_residual.ensures.1 in rw p.1 tt

pub returns-in-Misuse-clause-err : goal.returns-in-Misuse-clause-err
returns-in-Misuse-clause-err g c = tt

pub step-requires : goal.step-requires
step-requires g c = world_fits g.row.C (number g.row.N) g.met.C.Condition.has_room g.C.Condition

pub step-requires-in-Busy : goal.step-requires-in-Busy
step-requires-in-Busy g c = world_fits g.row.C (number g.row.N) g.met.C.Condition.has_room g.C.Condition

pub returns-in_err-begin-clause-err : goal.returns-in_err-begin-clause-err
returns-in_err-begin-clause-err g c =
    let p = err_from_is_err_and c.from_residual.result c.from_residual.ensures.1 in
    rw (p.1, p.2) (c.in_err-begin.ensures.err.0, begin_refused (whole_of g.C.Condition.means c.args.self.now) c.args.seat c.in_err-begin.field-0.0 c.in_err-begin.ensures.err.1)

pub returns-in-Misuse-clause-ok : goal.returns-in-Misuse-clause-ok
returns-in-Misuse-clause-ok g c = turns_misused (whole_of g.C.Condition.means c.args.self.now) (whole_of g.C.Condition.means c.begin.new.self) c.args.seat c.args.call (rw c.in-Misuse.is at c.in_ok-begin.ensures.ok)
