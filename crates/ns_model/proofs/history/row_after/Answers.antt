use Rattle.ns_model.proofs.Prelude.{arith, common_steps, first_standing}
use Rattle.ns_model.proofs.Histories.{row_fold}
use Rattle.ns_model.proofs.history.row_after.Goals as goal

pub returns : goal.returns
returns g c = let whole = row_fold {C = g.row.C.Denot} (first_standing g.row.N) c.args.history.now in grind (arith, common_steps)
