use Rattle.std.proofs.Common.{string_bytes, subst, sym, ◌∙◌}
use Rattle.ns_outcomes.proofs.Prelude.{IsReport, IsUndrawn, err_from_is_err_and, unread}
use Rattle.ns_outcomes.proofs.Written.{only_write, read_all, refused, unread_by, written}
use Rattle.ns_outcomes.proofs.report.outcomes.Goals as goal

pub returns-in_err-bytes-clause-answers : goal.returns-in_err-bytes-clause-answers
returns-in_err-bytes-clause-answers g c =
    let p = err_from_is_err_and c.from_residual.result c.from_residual.ensures.1 in
    let limit = c.args.seeds.limit in
    let told = g.P.Watch.last c.args.watch.now in
    let such = IsReport c.args.seeds in
    rw (p.1, p.2)
    (unread_by _ _ (g.W.Sink.taken c.args.sink.now) _ such (IsUndrawn c.args.seeds told told) limit c.in_err-bytes.field-0.0 (λ bytes fault h. refused c.args.seeds told bytes fault h)
    (unread _ _ (g.W.Sink.taken c.args.sink.now) _ such limit c.in_err-bytes.field-0.0 c.in_err-bytes.ensures.bytes))

pub returns-clause-answers : goal.returns-clause-answers
returns-clause-answers g c =
    let (bytes, consumed, (enough, (items, few, end))) = c.in_ok-bytes.ensures.bytes in
    let only = only_write _ c.write_all.result c.write_all.ensures.fault in
    let such = subst (λ b. IsReport c.args.seeds b (string_bytes c.in_ok-text.text)) (c.deref.ensures.value ∙ items) c.in_ok-text.ensures.ok in
    let same = subst (λ t. IsReport c.args.seeds bytes t) (sym c.as_bytes.ensures.value) such in
    let why = IsUndrawn c.args.seeds (g.P.Watch.last c.args.watch.now) (g.P.Watch.last c.report_for.new.watch) in (
      bytes,
      consumed,
      (
        enough,
        read_all bytes _ c.write_all.result end only,
        written (g.W.Sink.taken c.args.sink.now) (g.W.Sink.taken c.write_all.new.sink) (IsReport c.args.seeds) why bytes c.as_bytes.result.now c.write_all.result same c.write_all.ensures.ok c.write_all.ensures.err only,
      ),
    )
