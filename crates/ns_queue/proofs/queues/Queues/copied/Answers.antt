use Rattle.std.proofs.Common.{[], ap, subst, sym, ◌∙◌, ◌∷◌, ◌≡◌}
use Rattle.ns_queue.proofs.Prelude.{IsOrderly, Lists}
use Rattle.ns_queue.proofs.Inside.{again, shape}
use Rattle.ns_queue.proofs.queues.Queues.copied.Given.{Over}
use Rattle.ns_queue.proofs.queues.Queues.copied.Goals.{After-copied_list-4}
use Rattle.ns_queue.proofs.queues.Queues.copied.Goals as goal

-- the copies are the lists
same : (g : Over) (c : After-copied_list-4 g) → shape c.copied.result (c.copied_list.result ∷ c.copied_list-2.result ∷ c.copied_list-3.result ∷ c.copied_list-4.result ∷ []) ≡ c.args.self.now
same g c =
    again c.args.self.now _ _ _ _ _ c.copied_list.ensures.orderly.four (c.copied.ensures ∙ ap (λ (lists : Lists _). lists.lock) c.self.view_is) c.copied_list.ensures.list c.copied_list-2.ensures.list c.copied_list-3.ensures.list c.copied_list-4.ensures.list

pub invariant_of-result : goal.invariant_of-result
invariant_of-result g c = subst IsOrderly (sym (same g (goal.at.invariant_of-result g c).After-copied_list-4)) c.copied_list.ensures.orderly

pub returns : goal.returns
returns g c = same g (goal.at.returns g c).After-copied_list-4
