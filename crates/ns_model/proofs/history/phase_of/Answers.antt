use Rattle.ns_model.proofs.Prelude.{arith, common_steps, first_standing}
use Rattle.ns_model.proofs.Histories.{phases_fold}
use Rattle.ns_model.proofs.history.phase_of.Goals as goal

pub returns : goal.returns
returns g c = let whole = phases_fold (first_standing g.row.N) c.args.history.now c.args.seat in grind (arith, common_steps)
