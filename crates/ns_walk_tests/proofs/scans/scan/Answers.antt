use Rattle.std.proofs.Common.{rules, sym, ◌∙◌}
use Rattle.ns_walk_tests.proofs.Scanning.{writer_scanned}
use Rattle.ns_walk_tests.proofs.scans.scan.Goals as goal

pub returns-else-all-clause-made : goal.returns-else-all-clause-made
returns-else-all-clause-made g c = let show = c.show_in_hand in let look = c.scan_writer_in_hand in
    writer_scanned g.C.Condition.means c.args.releasing c.args.last c.args.row.now show.new.self.me look.new.self.me look.ensures.worked.by (search rules) c.in-Ok.ensures.lists
    c.in-Ok.owed c.in-Ok.turned c.is_some.result (sym look.ensures.told ∙ c.in-Ok.is) (search rules) c.is_some.ensures
