use Rattle.ns_word.proofs.Falls.{counted_falls}
use Rattle.ns_word.proofs.progress_law.each_counted_step_leaves_fewer.Goals as goal

pub returns : goal.returns
returns g c = λ seats history old new view found commits few lawful step counts.
    let cells = g.met.C.Condition.has_cells in
    counted_falls g.C.Condition.means cells.0 cells.1 seats history old new view found commits few lawful step counts
