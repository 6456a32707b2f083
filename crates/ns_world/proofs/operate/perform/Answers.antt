use Rattle.std.proofs.Common.{[], ap, refl, slice_set, sym, ◌∙◌}
use Rattle.ns_world.proofs.Prelude.{left_is, word_at}
use Rattle.ns_counters.specs.Steps.{outcome}
use Rattle.ns_world.proofs.operate.perform.Goals as goal

pub returns-in-OnWord-clause-effect : goal.returns-in-OnWord-clause-effect
returns-in-OnWord-clause-effect c = rw c.in-OnWord.is (λ seat place.
    ((outcome seat c.in-OnWord.act place c.make.result).events, (c.make.ensures.found, ap (λ o. o.words) c.make.ensures.left ∙ ap (slice_set c.args.objects.now.words (word_at c.in-OnWord.act)) (sym (left_is seat c.in-OnWord.act place c.make.result)), refl)))

pub returns-in-OnEnv-clause-effect : goal.returns-in-OnEnv-clause-effect
returns-in-OnEnv-clause-effect c = rw c.in-OnEnv.is (λ seat place. ([], (c.load.ensures seat, refl, refl)))
