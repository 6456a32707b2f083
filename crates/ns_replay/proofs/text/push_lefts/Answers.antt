use Rattle.ns_replay.proofs.Prelude.{flat_map, is_in, left_text, range_with_len, string_bytes}
use Rattle.ns_replay.proofs.Texts.{grows, flat_map-range}
use Rattle.ns_replay.proofs.text.push_lefts.Goals as goal

pub loop-thread-preserved : goal.loop-thread-preserved
loop-thread-preserved c =
    let thread = c.loop-thread.thread in
    let left = left_text (is_in c.args.busy) c.args.lines.now in
    rw (flat_map-range left thread)
    (grows (string_bytes c.args.out.now) (string_bytes c.loop-thread.out) (string_bytes c.push_left.new.out) (flat_map left (range_with_len 0 thread)) (left thread)
    c.loop-thread.invariant c.in_ok-push_left.ensures)
