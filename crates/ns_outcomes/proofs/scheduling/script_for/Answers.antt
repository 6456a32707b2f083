use Rattle.std.proofs.Common.{ap, arith, inr, length, string_bytes, subst, ◌++◌, ◌<◌, ◌∙◌, ◌≤◌}
use Rattle.ns_outcomes.proofs.Prelude.{err_from_is_err_and, plan_of}
use Rattle.ns_outcomes.proofs.Texts.{has_run, has_text}
use Rattle.ns_outcomes.proofs.Written.{no_run, unscheduled}
use Rattle.ns_outcomes.proofs.scheduling.script_for.Goals as goal

pub returns-in_err-script-clause-err : goal.returns-in_err-script-clause-err
returns-in_err-script-clause-err c =
    let p = err_from_is_err_and c.from_residual.result c.from_residual.ensures.1 in
    rw (p.1, p.2) (unscheduled c.args.limit c.args.seed c.args.bytes.now c.in_err-script.field-0.0 c.in_err-script.ensures.err)

pub returns-in_err-run-clause-err : goal.returns-in_err-run-clause-err
returns-in_err-run-clause-err c =
    let p = err_from_is_err_and c.from_residual-in_err-run.result c.from_residual-in_err-run.ensures.1 in
    rw (p.1, p.2) (no_run c.args.limit c.args.seed c.args.bytes.now (plan_of c.in_ok-script.script) c.in_err-run.field-0.0 c.in_ok-script.ensures.ok.read c.in_err-run.ensures.err)

pub returns-then-len-gt-MAX_WORDS-clause-err : goal.returns-then-len-gt-MAX_WORDS-clause-err
returns-then-len-gt-MAX_WORDS-clause-err c =
    let script = c.in_ok-script.script in
    let run = has_run c.args.limit c.args.seed c.args.bytes.now script c.in_ok-run.run' c.in_ok-script.ensures.ok.read c.in_ok-run.ensures.ok in
    let words = c.in_ok-schedule.ensures ∙ ap (λ ws. script.schedule.items ++ ws) c.deref.ensures.value in
    inr (record { run = run; many = subst (λ ws. 4096 < length ws) words (omega (arith, c.if-len-gt-MAX_WORDS.true, c.len.ensures)) })

pub returns-then-len-gt-MAX_BYTES-clause-err : goal.returns-then-len-gt-MAX_BYTES-clause-err
returns-then-len-gt-MAX_BYTES-clause-err c =
    let script = c.in_ok-script.script in
    let words = c.deref-2.ensures.value ∙ c.in_ok-schedule.ensures ∙ ap (λ ws. script.schedule.items ++ ws) c.deref.ensures.value in
    let has = has_text c.args.limit c.args.seed c.args.bytes.now script c.in_ok-run.run' _ (string_bytes c.in_ok-text.text) c.in_ok-script.ensures.ok.read c.in_ok-run.ensures.ok words c.in_ok-text.ensures in
    let few = subst (λ ws. length ws ≤ 4096) (c.in_ok-schedule.ensures ∙ ap (λ ws. script.schedule.items ++ ws) c.deref.ensures.value) (omega (arith, c.if-len-gt-MAX_WORDS.false, c.len.ensures)) in
    inr (record { text = string_bytes c.in_ok-text.text; has = has; few = few; long = omega (arith, c.if-len-gt-MAX_BYTES.true, c.len-2.ensures) })

pub returns-then-not-branch-clause-err : goal.returns-then-not-branch-clause-err
returns-then-not-branch-clause-err c =
    let script = c.in_ok-script.script in
    let words = c.deref-2.ensures.value ∙ c.in_ok-schedule.ensures ∙ ap (λ ws. script.schedule.items ++ ws) c.deref.ensures.value in
    let has = has_text c.args.limit c.args.seed c.args.bytes.now script c.in_ok-run.run' _ (string_bytes c.in_ok-text.text) c.in_ok-script.ensures.ok.read c.in_ok-run.ensures.ok words c.in_ok-text.ensures in
    let few = subst (λ ws. length ws ≤ 4096) (c.in_ok-schedule.ensures ∙ ap (λ ws. script.schedule.items ++ ws) c.deref.ensures.value) (omega (arith, c.if-len-gt-MAX_WORDS.false, c.len.ensures)) in
    let other = rw (c.deref-3.ensures, c.deref-4.ensures, c.in_ok-schedule.ensures, c.deref.ensures.value) at (c.in_ok-comes_to.ensures.other c.if-not-branch.true) in
    inr (record { text = string_bytes c.in_ok-text.text; has = has; few = few; short = omega (arith, c.if-len-gt-MAX_BYTES.false, c.len-2.ensures); other = other })

pub returns-clause-ok : goal.returns-clause-ok
returns-clause-ok c =
    let script = c.in_ok-script.script in
    let words = c.deref-2.ensures.value ∙ c.in_ok-schedule.ensures ∙ ap (λ ws. script.schedule.items ++ ws) c.deref.ensures.value in
    let has = has_text c.args.limit c.args.seed c.args.bytes.now script c.in_ok-run.run' _ (string_bytes c.in_ok-text.text) c.in_ok-script.ensures.ok.read c.in_ok-run.ensures.ok words c.in_ok-text.ensures in
    record { has = has; again = rw (c.deref-3.ensures, c.deref-4.ensures, c.in_ok-schedule.ensures, c.deref.ensures.value) at (c.in_ok-comes_to.ensures.comes c.if-not-branch.false) }
