-- The item is that of the cell of the first.
use Rattle.std.proofs.Common.{rules}
use Rattle.ns_fixtures.proofs.RingLaws.{takes_first_in}
use Rattle.ns_fixtures.proofs.ring.take.Goals as goal

pub returns-clause-first : goal.returns-clause-first
returns-clause-first c = takes_first_in _ c.args.held.now.held c.requires c.get-head.ensures.wide (search rules)
