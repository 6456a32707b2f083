use Rattle.std.proofs.Common.{ap, refl, sym, ◌∙◌}
use Rattle.ns_queue.proofs.Prelude.{cvs_without, sole_of, taken_set}
use Rattle.ns_queue.proofs.Taken.{set_sole, sole_low}
use Rattle.ns_queue.proofs.queues.Queues.take_sole.Goals as goal

pub with-requires : goal.with-requires
with-requires g c = sole_low c.variable.result.now c.in-Some.sole c.variable.ensures.below (sym c.sole_in.ensures ∙ c.in-Some.is)

pub returns-in-Some : goal.returns-in-Some
returns-in-Some g c =
    let set = set_sole c.variable.result.now c.in-Some.sole c.none.result c.with.result (sym c.sole_in.ensures ∙ c.in-Some.is) c.none.ensures c.with.ensures in
    record {
      sole = sym c.in-Some.is ∙ c.sole_in.ensures ∙ ap sole_of c.variable.ensures.list;
      left = c.drop_from_variables.ensures ∙ ap (λ s. cvs_without s c.args.self.now) (set ∙ ap taken_set c.variable.ensures.list);
      same = tt;
      orderly = c.variable.ensures.orderly;
    }

pub returns-in-None : goal.returns-in-None
returns-in-None g c = record { sole = sym c.in-None.is ∙ c.sole_in.ensures ∙ ap sole_of c.variable.ensures.list; left = tt; same = refl; orderly = c.variable.ensures.orderly }
