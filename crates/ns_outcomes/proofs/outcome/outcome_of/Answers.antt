use Rattle.ns_outcomes.proofs.Prelude.{flat_map, is_in, outcome_text, range_with_len, row_text, script_truths, string_bytes, thread_text, whole_busy, whole_of}
use Rattle.ns_outcomes.proofs.Runs.{threads_same, two_parts}
use Rattle.ns_outcomes.proofs.outcome.outcome_of.Goals as goal

pub returns : goal.returns
unfolding outcome_text
returns c =
    let world = whole_of script_truths c.args.world.now in
    let lines = c.args.lines.now in
    two_parts (string_bytes c.new-out.result) (string_bytes c.push_threads.new.out) (string_bytes c.push_row.new.out) (flat_map (thread_text (whole_busy world) lines) (range_with_len 0 c.args.threads)) (row_text world.row)
    c.new-out.ensures.bytes
    (rw (threads_same (is_in c.state-state.result.busy) (whole_busy world) lines c.args.threads c.state-state.ensures.busy) at c.in_ok-push_threads.ensures)
    (rw c.state-state.ensures.row at c.in_ok-push_row.ensures)
