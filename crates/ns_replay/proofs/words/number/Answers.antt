use Rattle.std.proofs.Common.{arith, get_or, inl, inr, length, ◌∙◌, ◌≡◌, ◌≢◌, ◌⊎◌}
use Rattle.ns_replay.proofs.Numbers.{number_from_parse}
use Rattle.ns_replay.proofs.words.number.Goals.{then-bytes-eq48, else-bytes-eq48}
use Rattle.ns_replay.proofs.words.number.Goals as goal

pub returns : goal.returns
returns c =
    let plus : get_or c.args.word.now 0 0 ≢ 43 = grind arith in
    let zero : (length c.args.word.now ≡ 1) ⊎ (get_or c.args.word.now 0 0 ≢ 48) = elim c.if-bytes-eq48.branch [ then-bytes-eq48 w ↦ inl (grind arith) | else-bytes-eq48 w ↦ inr (grind arith) ] in
    c.ok.ensures.value ∙ number_from_parse c.args.word.now c.parse.result c.parse.ensures.value.0 plus zero
