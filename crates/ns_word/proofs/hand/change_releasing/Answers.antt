use Rattle.ns_word.proofs.Prelude.{number, queues_fit, row_small}
use Rattle.ns_word.proofs.hand.change_releasing.Goals as goal

pub scan-requires : goal.scan-requires
scan-requires g c = (queues_fit g.row.C (number g.row.N) g.met.C.Condition.has_room g.C.Condition, row_small g.met.C.Condition.has_cells.1)
