use Rattle.std.proofs.Common.{arith, length, ◌≡◌}
use Rattle.ns_world.proofs.Prelude.{err_from_is_err_and, number, take-length}
use Rattle.ns_world.proofs.Sizes.{less_left, world_fits}
use Rattle.ns_world.proofs.Schedules.{advance_none, advance_word, stops_word, unseen}
use Rattle.ns_world.proofs.world.World.follow.Goals as goal

pub loop-word-init : goal.loop-word-init
loop-word-init g c =
    record {
      advances = advance_none c.requires.turns;
      counted = c.requires.counted;
    }

pub schedule_word-requires : goal.schedule_word-requires
schedule_word-requires g c = (world_fits g.row.C (number g.row.N) g.met.C.Condition.has_room g.C.Condition, (c.requires.lists, (c.loop-word.invariant.counted, c.loop-word.invariant.advances.within)))

pub returns-in_err-schedule_word : goal.returns-in_err-schedule_word
returns-in_err-schedule_word g c = record {
  err = let p = err_from_is_err_and c.from_residual.result c.from_residual.ensures.1 in
      rw (p.1, p.2) (stops_word c.loop-word.word-index c.args.schedule.now _ c.loop-word-test.true (unseen c.loop-word.invariant.advances) c.in_err-schedule_word.ensures.err);
  counted = let p = err_from_is_err_and c.from_residual.result c.from_residual.ensures.1 in rw p.1 tt;
  told = let p = err_from_is_err_and c.from_residual.result c.from_residual.ensures.1 in rw p.1 tt;
  ok = let p = err_from_is_err_and c.from_residual.result c.from_residual.ensures.1 in rw p.1 tt;
}

pub loop-word-preserved : goal.loop-word-preserved
loop-word-preserved g c =
    record {
      advances = advance_word c.loop-word.word-index c.args.schedule.now _ c.loop-word-test.true c.loop-word.invariant.advances c.in_ok-schedule_word.ensures.ok;
      counted = c.in_ok-schedule_word.ensures.counted;
    }

pub returns : goal.returns
returns g c =
    let all : c.loop-word.word-index ≡ length c.args.schedule.now = omega arith in
    let told = rw (all, take-length c.args.schedule.now) at c.loop-word.invariant.advances in
    record { ok = unseen told; told = told; counted = c.loop-word.invariant.counted; err = tt }

pub bounds-schedule-word-index : goal.bounds-schedule-word-index
bounds-schedule-word-index g c = c.loop-word-test.true

pub loop-word-smaller : goal.loop-word-smaller
loop-word-smaller g c = less_left c.loop-word-test.true
