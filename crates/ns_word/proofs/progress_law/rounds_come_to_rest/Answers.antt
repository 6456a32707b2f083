use Rattle.ns_word.proofs.Rounds.{rounds_rest}
use Rattle.ns_word.proofs.progress_law.rounds_come_to_rest.Goals as goal

pub returns : goal.returns
returns g c = λ seats history old new rounds few lawful made long.
    let cells = g.met.C.Condition.has_cells in
    rounds_rest g.C.Condition.means cells.0 cells.1 g.met.C.Condition.quiet_keeps seats few history old rounds new lawful made long
