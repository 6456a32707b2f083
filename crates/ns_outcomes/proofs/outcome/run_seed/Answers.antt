use Rattle.std.proofs.Common.{length, refl, rules, string_bytes, ◌≡◌}
use Rattle.ns_outcomes.proofs.Prelude.{script_truths, stage_of, whole_of}
use Rattle.ns_outcomes.proofs.Begun.{seed_run}
use Rattle.ns_outcomes.proofs.outcome.run_seed.Goals as goal

pub returns-clause-ok : goal.returns-clause-ok
returns-clause-ok c =
    let count : c.len-threads.result ≡ length c.args.script.now.threads.items = search rules in
    let drawing = c.in_ok-drawing.drawing in
    seed_run c.args.limit c.args.script.now c.args.seed drawing.words.items (stage_of drawing) drawing.tally.turns (whole_of script_truths drawing.world) drawing.tally.lines.items (string_bytes c.in_ok-text.text) c.len-threads.result
    c.in_ok-drawing.ensures.ok refl refl count (rw c.deref.ensures.value at c.in_ok-text.ensures)
