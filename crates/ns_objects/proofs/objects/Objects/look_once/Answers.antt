use Rattle.ns_objects.proofs.Prelude.{arith, rules}
use Rattle.ns_objects.proofs.Allowed.{looks_at_once}
use Rattle.ns_objects.proofs.objects.Objects.look_once.Goals as goal

pub load-requires : goal.load-requires
load-requires c = let there = c.requires.once in let few = c.requires.room.1 in (search rules, omega (arith, few, there), looks_at_once _ _ _ _ _ c.from-word.result c.requires.one (omega (arith, there)))
