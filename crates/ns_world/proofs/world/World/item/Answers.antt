use Rattle.std.proofs.Common.{sym, ◌∙◌}
use Rattle.ns_world.proofs.Prelude.{err_from_is_err_and, number}
use Rattle.ns_world.proofs.Sizes.{world_fits}
use Rattle.ns_world.proofs.Schedules.{advance_item, advance_none, stops_behind, unseen}
use Rattle.ns_world.proofs.world.World.item.Goals as goal

pub loop-step-init : goal.loop-step-init
loop-step-init g c =
    record {
      advances = advance_none c.requires.turns;
      counted = c.requires.counted;
    }

pub returns-in_err-step : goal.returns-in_err-step
returns-in_err-step g c = record {
  err = let p = err_from_is_err_and c.from_residual.result c.from_residual.ensures.1 in
      rw (p.1, p.2) (stops_behind (unseen c.loop-step.invariant.advances) (c.in_err-step.ensures.err c.args.word.now.whole));
  counted = let p = err_from_is_err_and c.from_residual.result c.from_residual.ensures.1 in rw p.1 tt;
  ok = let p = err_from_is_err_and c.from_residual.result c.from_residual.ensures.1 in rw p.1 tt;
}

pub returns-then-is_end : goal.returns-then-is_end
returns-then-is_end g c = record { ok = advance_item c.in_ok-step.step c.loop-step.invariant.advances (record { turn = c.in_ok-step.ensures.ok.turn; one = c.in_ok-step.ensures.ok.turns.0; told = c.in_ok-step.ensures.told }) (sym c.if-is_end.true ∙ c.is_end.ensures) c.in_ok-step.ensures.ok.turns; counted = c.in_ok-step.ensures.ok.counted; err = tt }

pub loop-step-preserved : goal.loop-step-preserved
loop-step-preserved g c =
    record {
      advances = advance_item c.in_ok-step.step c.loop-step.invariant.advances (record { turn = c.in_ok-step.ensures.ok.turn; one = c.in_ok-step.ensures.ok.turns.0; told = c.in_ok-step.ensures.told }) (sym c.if-is_end.false ∙ c.is_end.ensures) c.in_ok-step.ensures.ok.turns;
      counted = c.in_ok-step.ensures.ok.counted;
    }

pub counted_turn-requires : goal.counted_turn-requires
counted_turn-requires g c = (world_fits g.row.C (number g.row.N) g.met.C.Condition.has_room g.C.Condition, (c.requires.lists, (c.loop-step.invariant.counted, c.loop-step.invariant.advances.within)))

pub is_end-requires : goal.is_end-requires
is_end-requires g c = tt
