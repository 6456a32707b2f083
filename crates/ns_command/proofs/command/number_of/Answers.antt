use Rattle.std.proofs.Common.{◌∙◌}
use Rattle.std.specs.Str.Parse.{ExplainsUnsignedError, HasUnsignedDigitsIfOk, ParsesUnsigned}
use Rattle.clap.specs.Words.{found_of}
use Rattle.ns_command.proofs.Getters.{number_is}
use Rattle.ns_command.proofs.command.number_of.Goals as goal

pub returns : goal.returns
returns c = c.unwrap_or.ensures ∙ number_is _ (λ bs r. ParsesUnsigned 32 10 bs r × ExplainsUnsignedError 10 bs r × HasUnsignedDigitsIfOk bs r) (found_of c.args.matches.now) c.args.name.now c.args.other c.get_one.result (λ t o g. g.0) c.get_one.ensures.none c.get_one.ensures.value
