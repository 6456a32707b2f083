-- The command, as clap reads words by it, and what it makes of them.
use Rattle.std.specs.Prelude.{true, pos, codes, List, [], ◌∷◌, Some}
use Rattle.clap.specs.Words.{App, Kinds, Rule, Text, fault_of, new_app, new_rule, with_rule, with_subcommand}
use Rattle.clap.specs.declared.builder.ArgAction.TheVariants.{SetTrue}
use Rattle.clap.specs.declared.builder.value_parser.ValueParser.TheVariants.{Signed}

-- a word that is there or not
abbrev pub flag_rule : Text → Rule
flag_rule name = record (new_rule name) { long = Some name; action = Some SetTrue }

-- `--limit N`, with N from 1 to 10,000,000, and 1,000,000 if it isn't given
abbrev pub limit_rule : Rule
limit_rule = record (new_rule (codes "limit")) {
  long = Some (codes "limit");
  value_names = 1;
  parser = Some (Signed (pos 1) (pos 10000000));
  defaults = codes "1000000" ∷ [];
}

-- `replay [--history] [--tests] [--state] [--limit N]`
abbrev pub replay_app : App
replay_app = with_rule (with_rule (with_rule (with_rule (new_app (codes "replay"))
    (flag_rule (codes "history"))) (flag_rule (codes "tests"))) (flag_rule (codes "state"))) limit_rule

-- `timeline [--svg] [--limit N]`
abbrev pub timeline_app : App
timeline_app = with_rule (with_rule (new_app (codes "timeline")) (flag_rule (codes "svg"))) limit_rule

-- `--seeds N`, with N from 1 to 1,000,000, and 1,000 if it isn't given
abbrev pub seeds_rule : Rule
seeds_rule = record (new_rule (codes "seeds")) {
  long = Some (codes "seeds");
  value_names = 1;
  parser = Some (Signed (pos 1) (pos 1000000));
  defaults = codes "1000" ∷ [];
}

-- `--from S`, with S from 0 to 4,000,000,000, and 1 if it isn't given
abbrev pub from_rule : Rule
from_rule = record (new_rule (codes "from")) {
  long = Some (codes "from");
  value_names = 1;
  parser = Some (Signed (pos 0) (pos 4000000000));
  defaults = codes "1" ∷ [];
}

-- `--seed S`, with S from 0 to 4,294,967,295, which has to be given
abbrev pub seed_rule : Rule
seed_rule = record (new_rule (codes "seed")) {
  long = Some (codes "seed");
  value_names = 1;
  parser = Some (Signed (pos 0) (pos 4294967295));
  required = true;
}

-- `outcomes [--seeds N] [--from S] [--limit N]`
abbrev pub outcomes_app : App
outcomes_app = with_rule (with_rule (with_rule (new_app (codes "outcomes")) seeds_rule) from_rule) limit_rule

-- `schedule --seed S [--limit N]`
abbrev pub schedule_app : App
schedule_app = with_rule (with_rule (new_app (codes "schedule")) seed_rule) limit_rule

-- `--items N`, with N from 1 to 100,000, which has to be given
abbrev pub items_rule : Rule
items_rule = record (new_rule (codes "items")) {
  long = Some (codes "items");
  value_names = 1;
  parser = Some (Signed (pos 1) (pos 100000));
  required = true;
}

-- `live --items N`
abbrev pub live_app : App
live_app = with_rule (new_app (codes "live")) items_rule

-- the program, which has a version, and wants a subcommand
abbrev pub bare_app : App
bare_app = record (new_app (codes "ns_cli")) {
  top = record (new_app (codes "ns_cli")).top { has_version = true; subcommand_required = true };
}

-- the program, with what it makes of a script
abbrev pub script_app : App
script_app = with_subcommand (with_subcommand bare_app replay_app.top) timeline_app.top

-- the program, with what it draws of a script, too
abbrev pub drawn_app : App
drawn_app = with_subcommand (with_subcommand script_app outcomes_app.top) schedule_app.top

-- the command that the program reads its words by
abbrev pub application : App
application = with_subcommand drawn_app live_app.top

-- the kinds of what clap has to say of the words: none, where they ask for a replay, a picture, a drawing, outcomes, a schedule or live threads
unfoldable pub kinds_of : List Text → Kinds
kinds_of words = fault_of application words
