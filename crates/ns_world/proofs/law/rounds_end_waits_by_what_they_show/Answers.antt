use Rattle.ns_world.proofs.Direct.{nothing_shown, shown_ends}
use Rattle.ns_world.proofs.law.rounds_end_waits_by_what_they_show.Goals as goal

pub returns-clause-shown : goal.returns-clause-shown
returns-clause-shown g c = shown_ends

pub returns-clause-nothing : goal.returns-clause-nothing
returns-clause-nothing g c = nothing_shown
