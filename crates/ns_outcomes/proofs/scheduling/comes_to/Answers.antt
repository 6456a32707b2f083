use Rattle.std.proofs.Common.{false, inr, length, refl, rules, string_bytes, sym, true, ◌∙◌, ◌≡◌}
use Rattle.ns_outcomes.proofs.Prelude.{bytes_decides, plan_of, same_text, script_truths, whole_of}
use Rattle.ns_outcomes.proofs.Runs.{comes, ends_otherwise}
use Rattle.ns_outcomes.proofs.scheduling.comes_to.Goals as goal

pub returns-clause-comes : goal.returns-clause-comes
returns-clause-comes c =
    let count : c.len-threads.result ≡ length c.in-Ok.ran.0.threads.items = search rules in
    λ same. comes c.args.limit c.args.text.now c.as_bytes.result.now c.in-Ok.ran.0 (whole_of script_truths c.in-Ok.ran.1.world) c.in-Ok.ran.1.lines.items (plan_of c.args.wanted.now) (string_bytes c.in_ok-made.made) c.args.outcome.now c.len-threads.result
    c.as_bytes.ensures.value c.in-Ok.ensures.ok (c.if-not-are_alike.ensures.same refl) count (rw c.deref.ensures.value at c.in_ok-made.ensures) (sym c.as_str.ensures.value ∙ same_text _ _ (sym same ∙ c.eq.ensures))

pub returns-clause-other : goal.returns-clause-other
returns-clause-other c =
    let count : c.len-threads.result ≡ length c.in-Ok.ran.0.threads.items = search rules in
    λ other.
    inr (ends_otherwise c.args.limit c.args.text.now c.as_bytes.result.now c.in-Ok.ran.0 (whole_of script_truths c.in-Ok.ran.1.world) c.in-Ok.ran.1.lines.items (plan_of c.args.wanted.now) (string_bytes c.in_ok-made.made) c.args.outcome.now c.len-threads.result
    c.as_bytes.ensures.value c.in-Ok.ensures.ok count (rw c.deref.ensures.value at c.in_ok-made.ensures) (λ like same. let never : false ≡ true = sym other ∙ c.eq.ensures ∙ (bytes_decides _ _).1 (c.as_str.ensures.value ∙ same) in absurd cc))
