use Rattle.std.proofs.Common.{append-nil, arith, ◌≡◌}
use Rattle.ns_world.proofs.Prelude.{err_from_is_err_and, number}
use Rattle.ns_world.proofs.Sizes.{world_fits}
use Rattle.ns_world.proofs.Schedules.{advance_again, advance_none, stops_again, unseen}
use Rattle.ns_world.proofs.world.World.schedule_word.Goals as goal

pub loop-init : goal.loop-init
loop-init g c =
    record {
      advances = advance_none c.requires.turns;
      counted = c.requires.counted;
    }

pub item-requires : goal.item-requires
item-requires g c = (world_fits g.row.C (number g.row.N) g.met.C.Condition.has_room g.C.Condition, (c.requires.lists, (c.loop.invariant.counted, c.loop.invariant.advances.within)))

pub returns-in_err-item-clause-err : goal.returns-in_err-item-clause-err
returns-in_err-item-clause-err g c =
    let p = err_from_is_err_and c.from_residual.result c.from_residual.ensures.1 in
    rw (p.1, p.2) (stops_again c.loop.counter c.args.word.now.times c.loop-test.true (unseen c.loop.invariant.advances) c.in_err-item.ensures.err)

pub loop-preserved : goal.loop-preserved
loop-preserved g c =
    record {
      advances = advance_again c.loop.counter c.loop.invariant.advances c.in_ok-item.ensures.ok;
      counted = c.in_ok-item.ensures.counted;
    }

pub returns-clause-ok : goal.returns-clause-ok
returns-clause-ok g c =
    let all : c.loop.counter ≡ c.args.word.now.times = omega arith in
    rw (append-nil _, ← all) c.loop.invariant.advances
