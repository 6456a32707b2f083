use Rattle.ns_gate.proofs.Prelude.{arith, each_shown, queues_fit}
use Rattle.ns_gate.proofs.showing.shown_lists.Goals as goal

pub returns : goal.returns
returns g c = record {
  lock = c.shown.ensures.shown;
  variables = each_shown c.args.queues.now.cvs _ _ _ _ c.shown.ensures.orderly.four c.shown-2.ensures.shown c.shown-3.ensures.shown c.shown-4.ensures.shown c.shown-5.ensures.shown;
}

pub shown-requires : goal.shown-requires
shown-requires g c = (queues_fit g.row.C g.row.N g.met.C.Condition.has_room g.C.Condition, tt)

pub shown-requires-2 : goal.shown-requires-2
shown-requires-2 g c = (queues_fit g.row.C g.row.N g.met.C.Condition.has_room g.C.Condition, omega arith)

pub shown-requires-3 : goal.shown-requires-3
shown-requires-3 g c = (queues_fit g.row.C g.row.N g.met.C.Condition.has_room g.C.Condition, omega arith)

pub shown-requires-4 : goal.shown-requires-4
shown-requires-4 g c = (queues_fit g.row.C g.row.N g.met.C.Condition.has_room g.C.Condition, omega arith)

pub shown-requires-5 : goal.shown-requires-5
shown-requires-5 g c = (queues_fit g.row.C g.row.N g.met.C.Condition.has_room g.C.Condition, omega arith)
