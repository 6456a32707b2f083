use Rattle.std.proofs.Common.{Ok, ap, false, subst, sym, true, ◌/◌, ◌≡◌, ◌≤◌, ◌⊎◌}
use Rattle.ns_word.proofs.Prelude.{Word, word_of, ◌∙◌}
use Rattle.ns_word.proofs.Codes.{decoded, read_back}
use Rattle.ns_word.proofs.codec.decode.Goals as goal

pub returns-clause-undoes : goal.returns-clause-undoes
returns-clause-undoes c = λ word p e. ap Ok (c.taken_apart.ensures ∙ (ap word_of e ∙ decoded word))

pub returns-clause-gives : goal.returns-clause-gives
unfolding word_of
returns-clause-gives c = let bits = c.args.bits in
    let same = c.is_set-write.ensures ∙ sym (ap (λ (w : Word). w.write) c.taken_apart.ensures) in
    read_back bits c.taken_apart.result c.taken_apart.ensures c.if-readers-gt-MOST_READERS.false (subst (λ b. ((b ≡ true) × (bits / 256 ≤ 0)) ⊎ (b ≡ false)) same c.if-readers-gt0.either)
