use Rattle.ns_monitor.proofs.Prelude.{refl, rules}
use Rattle.ns_monitor.proofs.Looks.{has_looked}
use Rattle.ns_monitor.proofs.watching.LookerWatch.look.Goals as goal

pub returns : goal.returns
returns c = record {
  since = (refl, refl, has_looked c.args.self.now.seat.now c.look_for.new.seat c.look_for.ensures.grows c.look_for.ensures.mine);
  shown = search rules;
}
