-- The note is known.
use Rattle.ns_model.specs.Environments.{IsMade}
use Rattle.ns_live.proofs.consuming.consume.Given as goal

abbrev pub invariant-loop : goal.invariant-loop
invariant-loop g l = IsMade l.watcher.seen l.commons.note.index
