use Rattle.std.proofs.Common.{ap, arith, rules, suc, ◌+◌, ◌∙◌, ◌≡◌}
use Rattle.ns_counters.proofs.Prelude.{from_place}
use Rattle.ns_counters.proofs.round.Round.by_chain.Goals.{in_default-via-in-Done+in-Over+in-Is+else-next, in_default-via-in-Done+in-Over+in_default, in_default-via-in-Done+in_default, in_default-via-in-On+in_default, in_default-via-in_default}
use Rattle.ns_counters.proofs.round.Round.by_chain.Goals as goal

pub returns-in_default : goal.returns-in_default
returns-in_default c =
    let on : c.args.at + 1 ≡ suc c.args.at = omega arith in
    c.from_place.ensures ∙ ap (from_place c.args.self.now c.args.clock) on ∙ elim c.in_default.branch [
      | in_default-via-in-On+in_default w ↦ search rules
      | in_default-via-in-Done+in-Over+in-Is+else-next w ↦ search rules
      | in_default-via-in-Done+in-Over+in_default w ↦ search rules
      | in_default-via-in-Done+in_default w ↦ search rules
      | in_default-via-in_default w ↦ search rules
    ]
