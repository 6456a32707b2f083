-- What right words ask for.
use Rattle.std.specs.Prelude.{ℕ, ◌^◌, ◌&&◌, Bool, false, codes, List, [], length, nat_lt, if◌then◌else◌}
use Rattle.std.specs.List.{list_all}
use Rattle.std.specs.Option.{option_map_or}
use Rattle.std.specs.Char.{digit_value}
use Rattle.std.specs.Str.{bytes_eq}
use Rattle.std.specs.Str.Parse.{digits_value, without_leading_plus}
use Rattle.clap.specs.Words.{Row, Text, one_of, subcommand_of}
use Rattle.ns_outcomes.specs.declared.seeds.Seeds.{Seeds}
use Rattle.ns_replay.specs.declared.options.Options.{Options}
use Rattle.ns_command.specs.declared.wanted.Wanted.{Wanted}
use Rattle.ns_command.specs.declared.wanted.Wanted.TheVariants.{Drawing, Live, Outcomes, Replay, Schedule, Timeline}
use Rattle.ns_command.specs.Words.{application}

-- the flag of this name was given
abbrev pub is_set : Text → List Row → Bool
is_set name rows = option_map_or (λ text. bytes_eq text (codes "true")) (one_of name rows) false

-- the number below 2^32 that digits write, and else this one
abbrev pub number_in : ℕ → Text → ℕ
number_in other text =
    let digits = without_leading_plus text in
    if nat_lt 0 (length digits) && list_all (λ digit. nat_lt (digit_value digit) 10) digits && nat_lt (digits_value 10 digits) (2 ^ 32)
    then digits_value 10 digits else other

-- the value of the option of this name, and else this one
abbrev pub number_at : Text → ℕ → List Row → ℕ
number_at name other rows = option_map_or (number_in other) (one_of name rows) other

-- the value of `--limit`
abbrev pub limit_in : List Row → ℕ
limit_in rows = option_map_or (number_in 1000000) (one_of (codes "limit") rows) 1000000

-- the value of `--items`, which is always there
abbrev pub items_in : List Row → ℕ
items_in rows = option_map_or (number_in 0) (one_of (codes "items") rows) 0

-- the options by the matches of `replay`
abbrev pub options_in : List Row → Options
options_in rows = record {
  history = is_set (codes "history") rows;
  tests = is_set (codes "tests") rows;
  state = is_set (codes "state") rows;
  limit = limit_in rows;
}

-- the picture by the matches of `timeline`: a drawing by its flag, and else text
abbrev pub picture_in : List Row → Wanted
picture_in rows = if is_set (codes "svg") rows then Drawing (limit_in rows) else Timeline (limit_in rows)

-- the seeds by the matches of `outcomes`
abbrev pub seeds_in : List Row → Seeds
seeds_in rows = record { count = number_at (codes "seeds") 1000 rows; from = number_at (codes "from") 1 rows; limit = limit_in rows }

-- what is asked for by the subcommand of this name with these matches
abbrev pub asked_in : Text × List Row → Wanted
asked_in entered =
    if bytes_eq entered.0 (codes "live") then Live (items_in entered.1)
    else if bytes_eq entered.0 (codes "timeline") then picture_in entered.1
    else if bytes_eq entered.0 (codes "outcomes") then Outcomes (seeds_in entered.1)
    else if bytes_eq entered.0 (codes "schedule") then Schedule (number_at (codes "seed") 1 entered.1) (limit_in entered.1)
    else Replay (options_in entered.1)

-- what the words ask for: a replay by their options, a picture or a drawing by their limit, outcomes by their seeds, a schedule by its seed and limit, or live threads with so many items
unfoldable pub asked_by : List Text → Wanted
asked_by words = option_map_or asked_in (subcommand_of application words) (Replay (options_in []))
