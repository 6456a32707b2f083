use Rattle.ns_model.proofs.Prelude.{IsLegal, take}
use Rattle.ns_model.proofs.history.legal.Given as goal

abbrev pub invariant-loop-i : goal.invariant-loop-i
invariant-loop-i g l = IsLegal g.C.Condition.means.holds (take l.i l.history)
