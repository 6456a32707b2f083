use Rattle.std.proofs.Common.{length, rules, ◌≡◌}
use Rattle.ns_replay.proofs.Prelude.{err_from_is_err_and, script_truths, whole_of}
use Rattle.ns_replay.proofs.Runs.{idle_world, lists_fit, world_is, script_fails, script_runs, script_told}
use Rattle.ns_replay.proofs.running.run_script.Goals as goal

pub run_observed-requires : goal.run_observed-requires
run_observed-requires g c =
    (search rules, ((λ seat. idle_world _ seat _ _ _ c.in_ok-world.ensures.made.0), rw c.deref-2.ensures.value (lists_fit c.args.script.now.threads.items c.requires.short)))

pub returns-clause-ok : goal.returns-clause-ok
returns-clause-ok g c =
    let count : c.len.result ≡ length c.args.script.now.threads.items = search rules in
    let first = world_is c.args.script.now c.len.result (whole_of script_truths c.in_ok-world.world) count (rw c.deref.ensures.value at c.in_ok-world.ensures.made.0) in
    script_runs c.args.limit c.args.script.now (whole_of script_truths c.in_ok-world.world) (whole_of script_truths c.run_observed.new.self) c.in_ok-lines.lines.items first (rw (c.deref-2.ensures.value, c.deref-3.ensures.value) at c.in_ok-lines.ensures.ran)

pub returns-in_err-lines-clause-err : goal.returns-in_err-lines-clause-err
returns-in_err-lines-clause-err g c =
    let p = err_from_is_err_and c.from_residual-in_err-lines.result c.from_residual-in_err-lines.ensures.1 in
    let count : c.len.result ≡ length c.args.script.now.threads.items = search rules in
    let first = world_is c.args.script.now c.len.result (whole_of script_truths c.in_ok-world.world) count (rw c.deref.ensures.value at c.in_ok-world.ensures.made.0) in
    rw (p.1, p.2) (script_fails g.O.Observer.can_refuse c.args.limit c.args.script.now (whole_of script_truths c.in_ok-world.world) (whole_of script_truths c.run_observed.new.self) c.in_err-lines.field-0.0 c.requires first (rw (c.deref-2.ensures.value, c.deref-3.ensures.value) at c.in_err-lines.ensures.ran))

pub returns-clause-told : goal.returns-clause-told
returns-clause-told g c =
    let count : c.len.result ≡ length c.args.script.now.threads.items = search rules in
    let first = world_is c.args.script.now c.len.result (whole_of script_truths c.in_ok-world.world) count (rw c.deref.ensures.value at c.in_ok-world.ensures.made.0) in
    script_told g.O.Observer.sees c.args.limit c.args.script.now c.in_ok-world.world c.run_observed.new.self c.args.observer.now c.run_observed.new.observer first (rw (c.deref-2.ensures.value, c.deref-3.ensures.value) at c.in_ok-lines.ensures.told)
