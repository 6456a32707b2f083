use Rattle.std.proofs.Common.{◌∙◌, map, string_bytes}
use Rattle.std.proofs.lemmas.Result.{err_from_is_err_and}
use Rattle.ns_command.proofs.Heeded.{kind_of_refusal, no_kinds, asked_entered}
use Rattle.ns_command.proofs.command.asked.Goals as goal

pub returns-in_err-matches-clause-err : goal.returns-in_err-matches-clause-err
returns-in_err-matches-clause-err c =
    let p = err_from_is_err_and c.from_residual-in_err-matches.result c.from_residual-in_err-matches.ensures.1 in
    rw (p.1, p.2) (kind_of_refusal _ (map string_bytes c.args.words.now) c.in_ok-command.ensures c.in_err-matches.field-0.0 c.in_err-matches.ensures.kinds)

pub returns-in-Some-clause-ok : goal.returns-in-Some-clause-ok
returns-in-Some-clause-ok c =
    let words = map string_bytes c.args.words.now in (
      no_kinds _ words c.in_ok-command.ensures c.in_ok-matches.ensures.kinds,
      c.wanted.ensures ∙ asked_entered _ words c.in_ok-command.ensures c.in_ok-matches.matches _ _ c.in_ok-matches.ensures.matches c.in-Some.ensures.name c.in-Some.ensures.rows,
    )
