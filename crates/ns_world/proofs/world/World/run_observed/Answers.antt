use Rattle.ns_world.proofs.Prelude.{arith, err_from_is_err_and, number, refl, so_far, watched, whole_of}
use Rattle.ns_world.proofs.Sizes.{world_fits}
use Rattle.ns_world.proofs.Counted.{start_counted}
use Rattle.ns_world.proofs.world.World.run_observed.Goals as goal

pub follow-requires : goal.follow-requires
follow-requires g c = (world_fits g.row.C (number g.row.N) g.met.C.Condition.has_room g.C.Condition, (c.requires.lists, (rw c.new-tally.ensures.over (start_counted (whole_of g.C.Condition.means c.args.self.now) c.requires.idle), omega arith)))

pub returns-in_err-follow : goal.returns-in_err-follow
returns-in_err-follow g c = record {
  ran = let p = err_from_is_err_and c.from_residual.result c.from_residual.ensures.1 in
      rw (p.1, p.2) (record {
        leaves = so_far g.C.Condition.means c.follow.new.self c.follow.new.tally;
        after = c.follow.new.tally.turns;
        stops = rw (c.new-tally.ensures.over, c.new-tally.ensures.lines, c.new-tally.ensures.turns) at c.in_err-follow.ensures.err;
        here = refl;
      });
  told = let p = err_from_is_err_and c.from_residual.result c.from_residual.ensures.1 in rw p.1 tt;
}

pub returns : goal.returns
returns g c = record {
  ran = record {
    end = so_far g.C.Condition.means c.follow.new.self c.follow.new.tally;
    after = c.follow.new.tally.turns;
    advances = rw (c.new-tally.ensures.over, c.new-tally.ensures.lines, c.new-tally.ensures.turns) at c.in_ok-follow.ensures.ok;
    here = refl;
    tells = refl;
  };
  told = record {
    end = watched c.follow.new.self c.follow.new.tally c.follow.new.observer;
    advances = rw (c.new-tally.ensures.over, c.new-tally.ensures.lines, c.new-tally.ensures.turns) at c.in_ok-follow.ensures.told;
    here = refl;
    observer = refl;
  };
}
