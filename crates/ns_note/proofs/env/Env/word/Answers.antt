use Rattle.std.proofs.Common.{arith, refl, rules, ◌+◌, ◌-◌, ◌∙◌}
use Rattle.ns_note.proofs.Prelude.{LoadNote}
use Rattle.ns_note.proofs.Rests.{rests, grew, quiet_adds}
use Rattle.ns_note.proofs.Allowed.{loads_note}
use Rattle.ns_note.proofs.env.Env.word.Goals as goal

pub load-word-requires : goal.load-word-requires
load-word-requires c = (search rules, search rules, loads_note _ _ _ _ _ c.from.result c.seat.invariant.0.one (omega arith))

pub invariant_of-seat : goal.invariant_of-seat
invariant_of-seat c = let t = c.load-word.ensures.2 in rests _ _ _ c.seat.inside.seat.me _ c.seat.invariant.0.empty c.seat.invariant.1 t.0 t.1 (t.2.acted.making ∙ c.seat.invariant.0.idle) (quiet_adds (LoadNote ((c.from.result + 2) - 2)) _ _ _ t.2 refl)

pub returns-clause-grows : goal.returns-clause-grows
returns-clause-grows c = grew _ _ _ _ _ _ c.seat.view_is c.load-word.ensures.0 (quiet_adds (LoadNote ((c.from.result + 2) - 2)) _ _ _ c.load-word.ensures.2.2 refl)
