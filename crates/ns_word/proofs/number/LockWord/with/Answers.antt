use Rattle.std.proofs.Common.{ap, rules, ◌*◌, ◌<◌, ◌^◌, ◌≤◌}
use Rattle.ns_word.proofs.Prelude.{bit, is_set, word_with, ◌∙◌}
use Rattle.ns_word.proofs.Puts.{Puts, put}
use Rattle.ns_word.proofs.number.LockWord.with.Goals as goal

made : (c : goal.After-valued) → (c.valued-old.result ≤ c.self.inside.number) × Puts (word_with c.args.bit c.args.set c.args.self) c.self.inside.number c.valued-old.result c.valued.result
made c =
    let low : c.self.inside.number < 2 ^ 64 = search rules in
    let value = c.value-value.ensures in
    let was = c.is_set.ensures ∙ ap (is_set c.self.inside.number) value in
    put c.args.bit c.args.set c.args.self c.self.inside.number c.valued-old.result c.valued.result c.self.view_is low (c.valued-old.ensures.is ∙ (λ i. value i * bit (was i))) (c.valued.ensures.is ∙ ap (λ v. v * bit c.args.set) value)

pub returns : goal.returns
returns c = (made c).1.is
