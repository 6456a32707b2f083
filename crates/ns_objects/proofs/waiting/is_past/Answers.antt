use Rattle.ns_objects.proofs.Rests.{env_grows_not}
use Rattle.ns_objects.proofs.waiting.is_past.Goals as goal

pub returns-in-None-clause-grows : goal.returns-in-None-clause-grows
returns-in-None-clause-grows c = env_grows_not c.args.watch.now c.requires.true_to
