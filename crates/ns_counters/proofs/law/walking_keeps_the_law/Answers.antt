use Rattle.std.proofs.Common.{subst, sym, ◌++◌}
use Rattle.ns_counters.proofs.Prelude.{IsLawfulObjects, ObjectState}
use Rattle.ns_counters.proofs.WalkLaw.{operates_keeps}
use Rattle.ns_counters.proofs.law.walking_keeps_the_law.Goals as goal

pub returns : goal.returns
returns c = λ history more happened env old new seat walk found meets led walks step.
    let kept = operates_keeps old env happened meets history led seat walk walks found step.words more step.effect in
    (subst (λ (state : ObjectState). IsLawfulObjects (history ++ more) state env.notes) (sym step.becomes) kept.0, kept.1)
