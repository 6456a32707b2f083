use Rattle.std.proofs.Common.{string_bytes, take, ◌+◌}
use Rattle.ns_outcomes.proofs.Prelude.{block_text, blocks_text}
use Rattle.ns_outcomes.proofs.Tallies.{blocks_step, grows}
use Rattle.ns_outcomes.proofs.report.push_blocks.Goals as goal

pub loop-before-preserved : goal.loop-before-preserved
loop-before-preserved c =
    let all = c.args.seeds.count in
    let i = c.loop-before.before in
    let found = c.args.found.now in
    let one = c.index-found-before.result in
    rw (blocks_step all i found one c.loop-before-test.true c.index-found-before.is)
    (grows (string_bytes c.args.out.now) (string_bytes c.loop-before.out) (string_bytes c.push_block.new.out) (blocks_text all 1 (take i found)) (block_text all (i + 1) one)
    c.loop-before.invariant c.in_ok-push_block.ensures)
