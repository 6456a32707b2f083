use Rattle.ns_note.proofs.Prelude.{arith, rules}
use Rattle.ns_note.proofs.Allowed.{rings}
use Rattle.ns_note.proofs.env.Env.ring_one.Goals as goal

pub swap-requires : goal.swap-requires
swap-requires c = (search rules, search rules, rings _ _ _ _ _ c.from-bell.result (omega arith))
