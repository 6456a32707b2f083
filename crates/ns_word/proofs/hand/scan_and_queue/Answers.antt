use Rattle.ns_word.proofs.Prelude.{number, queues_fit, row_small}
use Rattle.ns_word.proofs.Hands.{free_scanned}
use Rattle.ns_word.proofs.hand.scan_and_queue.Goals as goal

pub enter-requires : goal.enter-requires
enter-requires g c = (queues_fit g.row.C (number g.row.N) g.met.C.Condition.has_room g.C.Condition, (c.requires.list, (c.requires.below, free_scanned c.args.seat (λ x. g.C.Condition.means.holds x c.args.row.now) c.args.queues.now c.scan-scan.new.self c.scan-scan.ensures.left c.requires.free)))

pub scan-scan-requires : goal.scan-scan-requires
scan-scan-requires g c = (queues_fit g.row.C (number g.row.N) g.met.C.Condition.has_room g.C.Condition, row_small g.met.C.Condition.has_cells.1)
