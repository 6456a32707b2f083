use Rattle.ns_note.proofs.Prelude.{arith, rules}
use Rattle.ns_note.proofs.Rests.{next_left, has_taken, found_full}
use Rattle.ns_note.proofs.Allowed.{loads_next, adds_one}
use Rattle.ns_note.proofs.env.Env.take_number.Goals as goal

pub load-requires : goal.load-requires
load-requires c = (search rules, search rules, loads_next _ _ _ _ c.args.seat.now.me c.requires.one c.requires.idle)

pub fetch_add-number-requires : goal.fetch_add-number-requires
fetch_add-number-requires c = (search rules, search rules, adds_one _ _ _ _ c.load.new.seat.me c.load.ensures.2.0 (next_left _ _ _ c.load.ensures.2.2 (omega arith)))

pub returns-then-number-lt64-clause-taken : goal.returns-then-number-lt64-clause-taken
returns-then-number-lt64-clause-taken c = has_taken _ c.fetch_add-number.result _ _ _ c.load.ensures.2.2 (omega arith) c.fetch_add-number.ensures.2.2

pub returns-else-number-lt64-clause-full : goal.returns-else-number-lt64-clause-full
returns-else-number-lt64-clause-full c = found_full _ c.fetch_add-number.result _ _ _ c.load.ensures.2.2 (omega arith) c.fetch_add-number.ensures.2.2
