use Rattle.std.proofs.Common.{◌∙◌, subst, sym}
use Rattle.std.proofs.lemmas.Result.{err_from_is_err_and}
use Rattle.ns_replay.proofs.Outcomes.{unread}
use Rattle.ns_timeline.specs.Pictures.{IsDrawing}
use Rattle.ns_timeline.proofs.Written.{only_write, read_all, written}
use Rattle.ns_timeline.proofs.drawing.svg.Goals as goal

pub returns-in_err-bytes-clause-answers : goal.returns-in_err-bytes-clause-answers
returns-in_err-bytes-clause-answers g c =
    let p = err_from_is_err_and c.from_residual.result c.from_residual.ensures.1 in
    rw (p.1, p.2) (unread _ _ (g.W.Sink.taken c.args.sink.now) _ (IsDrawing c.args.limit) c.args.limit c.in_err-bytes.field-0.0 c.in_err-bytes.ensures.bytes)

pub returns-clause-answers : goal.returns-clause-answers
returns-clause-answers g c =
    let (bytes, consumed, (enough, (items, few, end))) = c.in_ok-bytes.ensures.bytes in
    let only = only_write _ c.write_all.result c.write_all.ensures.fault in
    let runs = subst (λ b. IsDrawing c.args.limit b c.in_ok-document.document.items) (c.deref.ensures.value ∙ items) c.in_ok-document.ensures.ok in
    let drawn = subst (λ d. IsDrawing c.args.limit bytes d) (sym c.deref-2.ensures.value) runs in (
      bytes,
      consumed,
      (
        enough,
        read_all bytes _ c.write_all.result end only,
        written (g.W.Sink.taken c.args.sink.now) (g.W.Sink.taken c.write_all.new.sink) (IsDrawing c.args.limit) c.args.limit bytes c.deref-2.result.now c.write_all.result drawn c.write_all.ensures.ok c.write_all.ensures.err only,
      ),
    )
