use Rattle.std.proofs.Common.{rules, sym, ◌∙◌}
use Rattle.ns_monitor.proofs.Prelude.{TableId}
use Rattle.ns_monitor.proofs.Meetings.{learned}
use Rattle.ns_monitor.proofs.monitor.Monitor.meet_as.Goals as goal

pub returns : goal.returns
returns g c = record {
  share = search rules;
  learned = let t = g.C.Condition.means in let m = c.meet-one in let one = c.first.inside.seat in let other = c.second.inside.seat in (
    learned t c.args.first one.table_id m.result.0.table_id one.me m.result.0.me c.first.view_is (◌∙◌ {A = TableId} m.ensures.seats.0 (◌∙◌ {A = TableId} c.self.view_is (sym c.requires.0))) m.ensures.seats.1 m.ensures.met.first,
    learned t c.args.second other.table_id m.result.1.table_id other.me m.result.1.me c.second.view_is (◌∙◌ {A = TableId} m.ensures.seats.2 (◌∙◌ {A = TableId} c.self.view_is (sym c.requires.1))) m.ensures.seats.3 m.ensures.met.second,
  );
  before = search rules;
  after = search rules;
}
