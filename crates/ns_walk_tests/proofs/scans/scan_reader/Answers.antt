use Rattle.std.proofs.Common.{◌∙◌}
use Rattle.ns_walk_tests.proofs.Scanning.{one_seat, one_via, reader_scanned}
use Rattle.ns_walk_tests.proofs.scans.scan_reader.Goals as goal

pub returns-clause-made : goal.returns-clause-made
returns-clause-made g c = let scan = c.scan_from_in_hand-scan in let e = scan.ensures in
    reader_scanned g.C.Condition.means c.args._releasing c.args._last c.args.row.now c.args.seat.now.me scan.new.self.me e.worked.by c.requires.row e.lists _ _ c.called_one.result _ scan.result.0.tests
    (one_seat _ c.if-woken-ne1.false ∙ (c.as_slice-woken.ensures.value ∙ e.woken)) (one_via _ c.if-vias-ne1.false ∙ (c.as_slice-vias.ensures.value ∙ e.vias)) c.called_one.ensures e.tests e.bits
