use Rattle.ns_outcomes.proofs.Prelude.{view}
use Rattle.ns_outcomes.proofs.Texts.{all_members}
use Rattle.ns_outcomes.proofs.scheduling.push_members.Goals as goal

pub returns : goal.returns
returns c = all_members (view c.args.value.now) _ _ _ _ _ _ c.push_member-5.result c.in_ok-push_member.ensures c.in_ok-push_member-2.ensures c.in_ok-push_member-3.ensures c.in_ok-push_member-4.ensures c.push_member-5.ensures
