use Rattle.ns_objects.proofs.Prelude.{arith, rules}
use Rattle.ns_objects.proofs.Allowed.{begins_once}
use Rattle.ns_objects.proofs.objects.Objects.begin_once.Goals as goal

pub compare_exchange-requires : goal.compare_exchange-requires
compare_exchange-requires c = let there = c.requires.once in let few = c.requires.room.1 in
    (search rules, omega (arith, few, there), begins_once _ _ _ _ _ c.from-word.result _ _ c.requires.one (omega (arith, there)) c.requires.free c.encode_once-unused.ensures c.encode_once-running.ensures)
