use Rattle.ns_objects.proofs.Prelude.{arith, to_z-of_z}
use Rattle.ns_objects.proofs.Allowed.{loads_to_change}
use Rattle.ns_objects.proofs.Rests.{has_judged}
use Rattle.ns_objects.proofs.objects.Objects.load_to_change.Goals as goal

pub load_saying-requires-clause-allows : goal.load_saying-requires-clause-allows
load_saying-requires-clause-allows c = let there = c.requires.counter in loads_to_change _ _ _ _ _ c.from-word.result _ c.requires.one (omega (arith, there)) c.requires.free

pub returns-clause-judged : goal.returns-clause-judged
returns-clause-judged c = has_judged c.args.counter c.from-word.result c.args.delta _ c.load_saying.result c.args.seat.now.me c.load_saying.new.seat.me c.from-word.ensures (to_z-of_z c.ranges.delta) c.load_saying.ensures.2
