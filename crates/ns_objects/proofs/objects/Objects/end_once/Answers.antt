use Rattle.std.proofs.Common.{ap, arith, rules, sym, ◌∙◌}
use Rattle.ns_objects.proofs.Prelude.{Running}
use Rattle.ns_objects.proofs.Allowed.{ends_once}
use Rattle.ns_objects.proofs.objects.Objects.end_once.Goals as goal

pub store-requires : goal.store-requires
store-requires c = let there = c.requires.once in let few = c.requires.room.1 in
    (search rules, omega (arith, few, there), ends_once _ _ _ _ _ c.from-word.result _ c.requires.one (c.requires.runs ∙ ap Running (sym c.from-word.ensures)) c.encode_once.ensures)
