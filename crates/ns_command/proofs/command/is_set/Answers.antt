use Rattle.std.proofs.Common.{◌∙◌}
use Rattle.clap.specs.Words.{found_of}
use Rattle.ns_command.proofs.Getters.{flag_is}
use Rattle.ns_command.proofs.command.is_set.Goals as goal

pub returns : goal.returns
returns c = c.unwrap_or.ensures ∙ flag_is _ (found_of c.args.matches.now) c.args.name.now c.get_one.result c.get_one.ensures.none c.get_one.ensures.value
