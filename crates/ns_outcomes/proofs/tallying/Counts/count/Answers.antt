use Rattle.std.proofs.Common.{ap, string_bytes, ◌∙◌, ◌≡◌}
use Rattle.ns_outcomes.proofs.Prelude.{btree_map_updates_text, get_by_text, once_more}
use Rattle.ns_outcomes.proofs.tallying.Counts.count.Goals as goal
use Rattle.ns_outcomes.proofs.tallying.Counts.count.Goals.{in-Some, in-None}

pub returns : goal.returns
returns c = λ other.
    let got = rw c.as_str.ensures.value at c.get.ensures.value in
    let counted : c.match-copied.counted ≡ once_more (get_by_text c.args.self.now.by_text (string_bytes c.args.text)) c.args.seed =
    elim c.match-copied.branch [
      | in-Some w ↦ w.counted-is ∙ ap (λ o. once_more o c.args.seed) (w.in-Some.ensures ∙ got)
      | in-None w ↦ w.counted-is ∙ ap (λ o. once_more o c.args.seed) (w.in-None.ensures ∙ got)
    ] in
    rw (← counted) (btree_map_updates_text (string_bytes c.args.text) c.args.self.now.by_text c.insert.new.self _ c.in_ok-insert.ensures.updates other)
