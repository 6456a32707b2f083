use Rattle.std.proofs.Common.{ap, rules, subst, sym}
use Rattle.ns_gate.proofs.Prelude.{Bounded, Performed, SeatOf}
use Rattle.ns_gate.proofs.gate.Gate.perform.Goals as goal

pub returns-clause-did : goal.returns-clause-did
returns-clause-did g c = let bound = ap (λ (b : Bounded g.row.C.Denot g.row.N). b.me) c.new-bound.ensures in
    subst (λ (m : SeatOf g.row.C.Denot g.row.N). Performed g.C.Condition.means c.args.begins c.args.act c.perform-found.result c.args.seat.now.me m) (search rules)
    (subst (λ (m : SeatOf g.row.C.Denot g.row.N × SeatOf g.row.C.Denot g.row.N). Performed g.C.Condition.means c.args.begins c.args.act c.perform-found.result m.0 m.1) (λ i. (bound i, sym c.end.ensures.me i)) c.perform-found.ensures.by)
