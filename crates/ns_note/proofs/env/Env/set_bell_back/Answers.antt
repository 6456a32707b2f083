use Rattle.std.proofs.Common.{arith, rules, ◌∙◌}
use Rattle.ns_note.proofs.Allowed.{sets_back}
use Rattle.ns_note.proofs.env.Env.set_bell_back.Goals as goal

pub swap-requires : goal.swap-requires
swap-requires c = let number = c.seat.invariant.1 in (search rules, search rules, sets_back _ _ _ _ _ c.from-own.result (c.from-own.ensures ∙ number.0) (omega (arith, number)))
