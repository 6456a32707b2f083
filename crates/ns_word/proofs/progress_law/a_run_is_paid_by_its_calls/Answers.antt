use Rattle.ns_word.proofs.Turns.{run_pays}
use Rattle.ns_word.proofs.progress_law.a_run_is_paid_by_its_calls.Goals as goal

pub returns : goal.returns
returns g c = λ seats history old new turns few lawful run.
    let cells = g.met.C.Condition.has_cells in
    run_pays g.C.Condition.means cells.0 cells.1 g.met.C.Condition.quiet_keeps seats few turns history old new lawful run
