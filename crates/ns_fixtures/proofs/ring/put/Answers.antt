-- A ring with an item more behind the others.
use Rattle.ns_fixtures.proofs.RingLaws.{puts_last_in}
use Rattle.ns_fixtures.proofs.ring.put.Goals as goal

pub returns-clause-last : goal.returns-clause-last
returns-clause-last c = puts_last_in c.args.item c.args.held.now.held c.requires c.get-head.ensures.wide
