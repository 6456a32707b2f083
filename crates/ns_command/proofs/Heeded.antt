-- What clap makes of the words, by the command as it stands in specs/.
use Rattle.std.proofs.Common.{◌≡◌, ◌∙◌, Bool, true, false, List, [], ◌∷◌, Option, Some, None, refl, sym, ap, subst, option_map, ◌⊎◌, inl, inr, ◌||◌, true≢false}
use Rattle.std.specs.List.{list_any}
use Rattle.std.specs.Option.{option_map_or, unwrap_or}
use Rattle.std.specs.Prelude.{Box}
use Rattle.std.specs.Box.{box_value}
use Rattle.clap.specs.declared.parser.matches.SubCommand.{SubCommand}
use Rattle.clap.specs.Simple.{subcommand_rows}
use Rattle.clap.specs.Matches.{subcommand_name_of}
use Rattle.clap.specs.declared.parser.matches.ArgMatches.TheViews.{out-ArgMatches, out-SubCommand}
use Rattle.clap.specs.Words.{App, HasKind, HasMatchesOf, IsAmong, Kinds, Row, Text, fault_of, is_simple, is_simple_and_free, subcommand_of, subcommand_rows_of}
use Rattle.clap.specs.declared.error.Error.{Error}
use Rattle.clap.specs.declared.parser.matches.ArgMatches.{ArgMatches}
use Rattle.clap.specs.declared.error.kind.ErrorKind.{ErrorKind}
use Rattle.clap.specs.declared.error.kind.ErrorKind.TheVariants as kind
use Rattle.ns_replay.specs.declared.fault.Fault.TheVariants.{OutOfMemory, NotJson, BadScript, TooMany, StepLimit, Read, Write}
use Rattle.ns_command.specs.declared.ending.Ending.{Ending}
use Rattle.ns_command.specs.declared.ending.Ending.TheVariants.{Failed, HelpShown, Misused}
use Rattle.ns_command.specs.Printing.{is_mistake, is_request}
use Rattle.ns_command.specs.Endings.{EndsForOneOf, EndsFor}
use Rattle.ns_command.specs.Words.{application, kinds_of}
use Rattle.ns_command.specs.Asked.{asked_by, asked_in, options_in}
use Rattle.ns_command.specs.declared.wanted.Wanted.TheVariants.{Replay}

application_is_simple : is_simple application ≡ true
application_is_simple = refl

application_is_free : is_simple_and_free application ≡ true
application_is_free = refl

-- the name of a subcommand that was entered
name_of_entered : {Z : Type 0} (o : Option (Box SubCommand Z)) → option_map (λ b. (out-SubCommand (box_value b)).name.now) o ≡ option_map (λ p. p.0) (subcommand_rows o)
name_of_entered None = refl
name_of_entered (Some b) = refl

name_of_rows : (m : ArgMatches) → subcommand_name_of m ≡ option_map (λ p. p.0) (subcommand_rows_of m)
name_of_rows m = name_of_entered (out-ArgMatches m).subcommand

some_is : {A : Type 0} {x y : A} → Some x ≡ Some y → x ≡ y
some_is {x = x} e = ap (λ o. unwrap_or o x) e

module _ (app : App) (words : List Text) (is : app ≡ application) where
  pub kind_of_refusal : (e : Error) → (is_simple_and_free app ≡ true → HasKind (fault_of app words) e) → HasKind (kinds_of words) e
  unfolding kinds_of
  kind_of_refusal e h = subst (λ a. HasKind (fault_of a words) e) is (h (ap is_simple_and_free is ∙ application_is_free))

  pub no_kinds : (is_simple_and_free app ≡ true → fault_of app words ≡ []) → kinds_of words ≡ []
  unfolding kinds_of
  no_kinds h = subst (λ a. fault_of a words ≡ []) is (h (ap is_simple_and_free is ∙ application_is_free))

  pub asked_entered : (m : ArgMatches) (name : Text) (rows : List Row) → HasMatchesOf app words m → Some name ≡ subcommand_name_of m → Some rows ≡ option_map (λ p. p.1) (subcommand_rows_of m) → asked_in (name, rows) ≡ asked_by words
  unfolding asked_by
  asked_entered m name rows matches named entered =
      let same : subcommand_rows_of m ≡ subcommand_of application words = subst (λ a. subcommand_rows_of m ≡ subcommand_of a words) is ((matches (ap is_simple is ∙ application_is_simple)).1) in
      go (subcommand_of application words) (subst (λ o. Some name ≡ option_map (λ p. p.0) o) same (named ∙ name_of_rows m)) (subst (λ o. Some rows ≡ option_map (λ p. p.1) o) same entered)
    where
      go : (o : Option (Text × List Row)) → Some name ≡ option_map (λ p. p.0) o → Some rows ≡ option_map (λ p. p.1) o → asked_in (name, rows) ≡ option_map_or asked_in o (Replay (options_in []))
      go None n e = absurd cc
      go (Some p) n e = rw (some_is n, some_is e) refl

-- ---- what is said of words that ask for no replay

or_true : (b : Bool) → (b || true) ≡ true
or_true true = refl
or_true false = refl

any_among : (test : ErrorKind → Bool) (kinds : Kinds) (what : ErrorKind) → IsAmong what kinds → test what ≡ true → list_any test kinds ≡ true
any_among test [] what h passes = absurd h
any_among test (k ∷ ks) what (inl is) passes = rw (ap test (sym is) ∙ passes) refl
any_among test (k ∷ ks) what (inr h) passes = rw (any_among test ks what h passes) (or_true (test k))

-- what clap says is among what it may say, if the test rules out want of memory
may_say : (test : ErrorKind → Bool) (kinds : Kinds) (what : ErrorKind) → test kind.OutOfMemory ≡ false → (what ≡ kind.OutOfMemory) ⊎ IsAmong what kinds → test what ≡ true → list_any test kinds ≡ true
may_say test kinds what rules_out (inl is) passes = absurd (true≢false (sym passes ∙ ap test is ∙ rules_out))
may_say test kinds what rules_out (inr h) passes = any_among test kinds what h passes

pub heeds : (kinds : Kinds) (what : ErrorKind) (ending : Ending) → (what ≡ kind.OutOfMemory) ⊎ IsAmong what kinds → EndsFor what ending → EndsForOneOf kinds ending
heeds kinds what (Failed OutOfMemory) h told = tt
heeds kinds what (Failed NotJson) h told = absurd told
heeds kinds what (Failed (BadScript path)) h told = absurd told
heeds kinds what (Failed (TooMany path)) h told = absurd told
heeds kinds what (Failed StepLimit) h told = absurd told
heeds kinds what (Failed Read) h told = absurd told
heeds kinds what (Failed Write) h told = inr (may_say is_request kinds what refl h told)
heeds kinds what HelpShown h told = may_say is_request kinds what refl h told
heeds kinds what Misused h told = may_say is_mistake kinds what refl h told
heeds kinds what other h told = absurd told
