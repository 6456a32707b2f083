use Rattle.ns_replay.proofs.Prelude.{history_text, is_in, lefts_text, length, length-map, lines_text, lists_shown, map, plan_of, row_text, script_truths, shown_of, state_text, string_bytes, text_of, wakes_owed, whole_busy, whole_of}
use Rattle.ns_replay.proofs.Texts.{five_parts, lefts_text-same}
use Rattle.ns_replay.proofs.running.run_text.Goals as goal

pub returns : goal.returns
unfolding text_of
returns c =
    let world = whole_of script_truths c.args.run.now.world in
    let lines = c.args.run.now.lines.items in
    let threads = (plan_of c.args.script.now).threads in
    let options = c.args.options in
    let lefts = lefts_text-same (is_in c.state-state.result.busy) (whole_busy world) lines (length c.as_slice-threads.result.now) c.state-state.ensures.busy in
    five_parts (string_bytes c.push_lines.new.out) (string_bytes c.push_lefts.new.out) (string_bytes c.push_row.new.out) (string_bytes c.push_history.new.out) (string_bytes c.push_state.new.out)
    (lines_text options.tests threads lines) (lefts_text (whole_busy world) lines (length threads)) (row_text world.row) (history_text options.history world.history)
    (state_text options.state c.args.script.now.cvs world.word (map shown_of (lists_shown world).lock) (map (map shown_of) (lists_shown world).cvs)
    (wakes_owed world.seats))
    (rw (c.as_slice-threads.ensures.value, c.deref.ensures.value, c.new-out.ensures.bytes) at c.in_ok-push_lines.ensures)
    (rw (c.deref-2.ensures.value, lefts, c.as_slice-threads.ensures.value, ← length-map c.args.script.now.threads.items (λ calls. calls.items)) at c.in_ok-push_lefts.ensures)
    (rw c.state-state.ensures.row at c.in_ok-push_row.ensures)
    (rw c.history.ensures.all at c.in_ok-push_history.ensures)
    (rw (c.state-state.ensures.word, c.state-state.ensures.lock, c.state-state.ensures.variables, c.state-state.ensures.owed) at c.in_ok-push_state.ensures)
