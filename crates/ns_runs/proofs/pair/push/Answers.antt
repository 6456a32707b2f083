use Rattle.std.proofs.Common.{◌∙◌, ap, rules}
use Rattle.ns_queue.specs.Queues.{times}
use Rattle.ns_runs.proofs.pair.push.Goals as goal

pub push_front-requires : goal.push_front-requires
push_front-requires g c = (search rules, (search rules, ap (λ seat. times seat c.args.queues.now) c.waiter.ensures ∙ c.if-holds.ensures.nowhere))

pub push_back-requires : goal.push_back-requires
push_back-requires g c = (search rules, (tt, (search rules, ap (λ seat. times seat c.args.queues.now) c.waiter-else-front.ensures ∙ c.if-holds.ensures.nowhere)))
