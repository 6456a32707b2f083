use Rattle.ns_replay.proofs.Prelude.{IsText, err_from_is_err_and}
use Rattle.ns_replay.proofs.Outcomes.{unended, unread}
use Rattle.ns_replay.proofs.replaying.replay.Goals as goal

pub returns-in_err-bytes-clause-answers : goal.returns-in_err-bytes-clause-answers
returns-in_err-bytes-clause-answers g c =
    let p = err_from_is_err_and c.from_residual.result c.from_residual.ensures.1 in
    rw (p.1, p.2) (unread _ _ (g.W.Sink.taken c.args.sink.now) _ (IsText c.args.options) c.args.options.limit c.in_err-bytes.field-0.0 c.in_err-bytes.ensures.bytes)

pub returns-in_err-bytes-clause-ended : goal.returns-in_err-bytes-clause-ended
returns-in_err-bytes-clause-ended g c =
    let p = err_from_is_err_and c.from_residual.result c.from_residual.ensures.1 in
    rw (p.1, p.2) (unended _ _ _ _ _ c.in_err-bytes.field-0.0 c.in_err-bytes.ensures.bytes c.in_err-bytes.ensures.ended)
