use Rattle.ns_replay.proofs.Prelude.{err_from_is_err_and, plan_of}
use Rattle.ns_replay.proofs.Plans.{script_runs}
use Rattle.ns_replay.proofs.Outcomes.{plan_read, script_refused, run_refused}
use Rattle.ns_replay.proofs.replaying.run_bytes.Goals as goal

pub returns-in_err-script-clause-err : goal.returns-in_err-script-clause-err
returns-in_err-script-clause-err g c =
    let p = err_from_is_err_and c.from_residual.result c.from_residual.ensures.1 in
    rw (p.1, p.2) (script_refused c.args.limit c.args.bytes.now c.in_err-script.field-0.0 c.requires c.in_err-script.ensures)

pub run_script-requires : goal.run_script-requires
run_script-requires g c = script_runs c.args.bytes.now (plan_of c.in_ok-script.script) c.in_ok-script.ensures

pub returns-in_err-run-clause-err : goal.returns-in_err-run-clause-err
returns-in_err-run-clause-err g c =
    let p = err_from_is_err_and c.from_residual-in_err-run.result c.from_residual-in_err-run.ensures.1 in
    rw (p.1, p.2) (run_refused c.args.limit c.args.bytes.now (plan_of c.in_ok-script.script) c.in_err-run.field-0.0 (plan_read c.args.bytes.now (plan_of c.in_ok-script.script) c.requires c.in_ok-script.ensures) c.in_err-run.ensures.err)

pub returns-clause-ok : goal.returns-clause-ok
returns-clause-ok g c = record {
  read = plan_read c.args.bytes.now (plan_of c.in_ok-script.script) c.requires c.in_ok-script.ensures;
  runs = c.in_ok-run.ensures.ok;
  runnable = script_runs c.args.bytes.now (plan_of c.in_ok-script.script) c.in_ok-script.ensures;
}
