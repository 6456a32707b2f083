use Rattle.std.proofs.Common.{map, ◌∙◌}
use Rattle.ns_outcomes.proofs.Prelude.{progress, script_truths, whole_of}
use Rattle.ns_outcomes.proofs.Begun.{first_is, one_standing}
use Rattle.ns_outcomes.proofs.drawing.first_standings.Goals as goal

pub loop-thread-preserved : goal.loop-thread-preserved
loop-thread-preserved c =
    let p = progress (whole_of script_truths c.args.world.now) c.args.tally.now.over c.args.tally.now.lines.items in
    let lists = map (λ calls. calls.items) c.args.threads.now in
    one_standing lists p c.loop-thread.thread c.loop-thread.standings.items c.push.new.self.items c.first_standing.result c.loop-thread.invariant
    (first_is lists p c.loop-thread.thread c.contains.result c.is_some.result c.first_standing.result c.next_call-next.result c.first_standing.ensures (c.contains.ensures ∙ c.state.ensures.busy c.loop-thread.thread) c.is_some.ensures c.next_call-next.ensures)
    c.in_ok-push.ensures.items
