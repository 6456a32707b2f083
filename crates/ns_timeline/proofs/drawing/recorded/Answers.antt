use Rattle.std.proofs.Common.{ap, refl, ◌∙◌}
use Rattle.ns_timeline.specs.declared.record.Record.{Record}
use Rattle.ns_timeline.proofs.drawing.recorded.Goals as goal

pub returns-clause-told : goal.returns-clause-told
returns-clause-told c = record {
  first = c.new-drawing.result;
  last = c.run_bytes.new.observer;
  told = c.in_ok-script.ensures.told;
  empty = ap (λ (r : Record). r.changes.items) c.new-drawing.ensures ∙ c.new.ensures;
  is = refl;
}
