use Rattle.ns_outcomes.proofs.Prelude.{err_from_is_err_and, plan_of}
use Rattle.ns_outcomes.proofs.Written.{refused, uncounted}
use Rattle.ns_outcomes.proofs.report.report_for.Goals as goal

pub returns-in_err-script-clause-err : goal.returns-in_err-script-clause-err
returns-in_err-script-clause-err g c =
    let p = err_from_is_err_and c.from_residual.result c.from_residual.ensures.1 in
    rw (p.1, p.2) (refused c.args.seeds (g.P.Watch.last c.args.watch.now) c.args.bytes.now c.in_err-script.field-0.0 c.in_err-script.ensures.err)

pub returns-in_err-counted-clause-err : goal.returns-in_err-counted-clause-err
returns-in_err-counted-clause-err g c =
    let p = err_from_is_err_and c.from_residual-in_err-counted.result c.from_residual-in_err-counted.ensures.1 in
    rw (p.1, p.2)
    (uncounted c.args.seeds (g.P.Watch.last c.args.watch.now) (g.P.Watch.last c.count_outcomes.new.watch) c.args.bytes.now (plan_of c.in_ok-script.script) c.in_err-counted.field-0.0 c.in_ok-script.ensures.ok.read c.in_err-counted.ensures.err)

pub returns-clause-ok : goal.returns-clause-ok
returns-clause-ok g c = record {
  plan = plan_of c.in_ok-script.script;
  read = c.in_ok-script.ensures.ok.read;
  found = c.in_ok-counted.counted.found.items;
  turns = c.in_ok-counted.counted.turns;
  made = c.in_ok-counted.ensures.ok;
  is = c.in_ok-report.ensures;
}
