use Rattle.std.proofs.Common.{rules}
use Rattle.ns_walk_tests.proofs.Nobody.{nobody_made}
use Rattle.ns_walk_tests.proofs.wakes.wake.Goals as goal

pub returns-in-Some-clause-made : goal.returns-in-Some-clause-made
returns-in-Some-clause-made g c = nobody_made g.C.Condition.means c.args.waking c.args.k c.args.last c.in-Some.turned c.wake_nobody_in_hand.new.self.me c.wake_nobody_in_hand.ensures.has (search rules)
