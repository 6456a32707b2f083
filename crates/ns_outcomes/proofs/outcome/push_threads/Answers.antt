use Rattle.ns_outcomes.proofs.Prelude.{flat_map, flat_map-range, grows, is_in, range_with_len, string_bytes, thread_text}
use Rattle.ns_outcomes.proofs.outcome.push_threads.Goals as goal

pub loop-thread-preserved : goal.loop-thread-preserved
loop-thread-preserved c =
    let thread = c.loop-thread.thread in
    let lines = thread_text (is_in c.args.busy) c.args.lines.now in
    rw (flat_map-range lines thread)
    (grows (string_bytes c.args.out.now) (string_bytes c.loop-thread.out) (string_bytes c.push_thread.new.out) (flat_map lines (range_with_len 0 thread)) (lines thread)
    c.loop-thread.invariant c.in_ok-push_thread.ensures)
