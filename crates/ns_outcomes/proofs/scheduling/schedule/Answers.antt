use Rattle.std.proofs.Common.{string_bytes, subst, sym, ◌∙◌}
use Rattle.ns_outcomes.proofs.Prelude.{IsScheduled, IsUnscheduled, err_from_is_err_and, unread}
use Rattle.ns_outcomes.proofs.Written.{only_write, read_all, unread_by, unscheduled, written}
use Rattle.ns_outcomes.proofs.scheduling.schedule.Goals as goal

pub returns-in_err-bytes-clause-answers : goal.returns-in_err-bytes-clause-answers
returns-in_err-bytes-clause-answers g c =
    let p = err_from_is_err_and c.from_residual.result c.from_residual.ensures.1 in
    let limit = c.args.limit in
    let such = IsScheduled c.args.limit c.args.seed in
    rw (p.1, p.2)
    (unread_by _ _ (g.W.Sink.taken c.args.sink.now) _ such (IsUnscheduled limit c.args.seed) limit c.in_err-bytes.field-0.0 (λ bytes fault h. unscheduled limit c.args.seed bytes fault h)
    (unread _ _ (g.W.Sink.taken c.args.sink.now) _ such limit c.in_err-bytes.field-0.0 c.in_err-bytes.ensures.bytes))

pub returns-clause-answers : goal.returns-clause-answers
returns-clause-answers g c =
    let (bytes, consumed, (enough, (items, few, end))) = c.in_ok-bytes.ensures.bytes in
    let only = only_write _ c.write_all.result c.write_all.ensures.fault in
    let such = subst (λ b. IsScheduled c.args.limit c.args.seed b (string_bytes c.in_ok-text.text)) (c.deref.ensures.value ∙ items) c.in_ok-text.ensures.ok in
    let same = subst (λ t. IsScheduled c.args.limit c.args.seed bytes t) (sym c.as_bytes.ensures.value) such in (
      bytes,
      consumed,
      (
        enough,
        read_all bytes _ c.write_all.result end only,
        written (g.W.Sink.taken c.args.sink.now) (g.W.Sink.taken c.write_all.new.sink) (IsScheduled c.args.limit c.args.seed) (IsUnscheduled c.args.limit c.args.seed) bytes c.as_bytes.result.now c.write_all.result same c.write_all.ensures.ok c.write_all.ensures.err only,
      ),
    )
