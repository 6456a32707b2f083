use Rattle.std.proofs.lemmas.Result.{err_from_is_err_and}
use Rattle.ns_replay.proofs.Outcomes.{plan_read, run_refused, script_refused}
use Rattle.ns_replay.proofs.Plans.{script_runs}
use Rattle.ns_replay.specs.Condition.{script_truths}
use Rattle.ns_replay.specs.Script.{plan_of}
use Rattle.ns_world.specs.Whole.{whole_of}
use Rattle.ns_timeline.proofs.drawing.picture_for.Goals as goal

pub returns-in_err-script-clause-err : goal.returns-in_err-script-clause-err
returns-in_err-script-clause-err c =
    let p = err_from_is_err_and c.from_residual.result c.from_residual.ensures.1 in
    rw (p.1, p.2) (script_refused c.args.limit c.args.bytes.now c.in_err-script.field-0.0 c.requires c.in_err-script.ensures)

pub columns_for-requires : goal.columns_for-requires
columns_for-requires c = script_runs c.args.bytes.now (plan_of c.in_ok-script.script) c.in_ok-script.ensures

pub returns-in_err-shown-clause-err : goal.returns-in_err-shown-clause-err
returns-in_err-shown-clause-err c =
    let p = err_from_is_err_and c.from_residual-in_err-shown.result c.from_residual-in_err-shown.ensures.1 in
    rw (p.1, p.2) (run_refused c.args.limit c.args.bytes.now (plan_of c.in_ok-script.script) c.in_err-shown.field-0.0 (plan_read c.args.bytes.now (plan_of c.in_ok-script.script) c.requires c.in_ok-script.ensures) c.in_err-shown.ensures)

pub run_script-requires : goal.run_script-requires
run_script-requires c = script_runs c.args.bytes.now (plan_of c.in_ok-script.script) c.in_ok-script.ensures

pub returns-in_err-run_script-clause-err : goal.returns-in_err-run_script-clause-err
returns-in_err-run_script-clause-err c =
    let p = err_from_is_err_and c.from_residual-in_err-run_script.result c.from_residual-in_err-run_script.ensures.1 in
    rw (p.1, p.2) (run_refused c.args.limit c.args.bytes.now (plan_of c.in_ok-script.script) c.in_err-run_script.field-0.0 (plan_read c.args.bytes.now (plan_of c.in_ok-script.script) c.requires c.in_ok-script.ensures) c.in_err-run_script.ensures.err)

pub returns-clause-ok : goal.returns-clause-ok
returns-clause-ok c = record {
  plan = plan_of c.in_ok-script.script;
  world = whole_of script_truths c.in_ok-run_script.field-0.world;
  lines = c.in_ok-run_script.field-0.lines.items;
  has_run = record {
    read = plan_read c.args.bytes.now (plan_of c.in_ok-script.script) c.requires c.in_ok-script.ensures;
    runs = c.in_ok-run_script.ensures.ok;
    runnable = script_runs c.args.bytes.now (plan_of c.in_ok-script.script) c.in_ok-script.ensures;
  };
}
