-- The script that bytes give, or their first refusal.
use Rattle.std.specs.Prelude.{Bool, Err, List, None, Ok, Option, Result, Some, [], bytes_eq, codes, if◌then◌else◌, length, map, nat_le, option_and_then, option_map, true, ℕ, ◌&&◌, ◌==◌, ◌||◌, ◌∷◌}
use Rattle.std.specs.Str.{is_utf8}
use Rattle.ns_replay.specs.Names.{BadScript, Call, Data, Declared, Fault, Members, NotJson, Script, ScriptCondition, ScriptPath, TooMany, Turn, as_array, as_number, as_object, as_str, as_u64, get, item, member, no_members, read}
use Rattle.serde_json.specs.Data.{Items, no_items}
use Rattle.ns_replay.specs.Faults.{◌>>=◌, need, each_from}
use Rattle.ns_replay.specs.Words.{parts}
use Rattle.ns_replay.specs.Calls.{call_of, turn_of}
use Rattle.ns_replay.specs.declared.path.ScriptPath.TheVariants as at

-- what to run: what each counter begins with, how many once cells and condition variables there are, the calls of each thread, and whose turn it is
pub record Plan : Type 0 where
  pub counters : List ℕ
  pub onces : ℕ
  pub cvs : ℕ
  pub threads : List (List (Call ScriptCondition))
  pub schedule : List Turn

-- what a script that was read runs
abbrev pub plan_of : Script → Plan
plan_of script = record { counters = script.counters.items; onces = script.onces; cvs = script.cvs; threads = map (λ v. v.items) script.threads.items; schedule = script.schedule.items }

-- the values of an array, in order
abbrev pub list_of : Items → List Data
list_of no_items = []
list_of (item d ds) = d ∷ list_of ds

-- a list, if it has at most so many elements, and else too much at the path
abbrev pub at_most : {A : Type 0} → ℕ → ScriptPath → List A → Result (List A) Fault
at_most most path xs = if nat_le (length xs) most then Ok xs else Err (TooMany path)

-- a list of at most so many values
unfoldable pub list_in : ℕ → ScriptPath → Option Data → Result (List Data) Fault
list_in most path d = need path (option_map list_of (option_and_then as_array d)) >>= at_most most path

-- a call, where so many counters, once cells and condition variables are declared: a text of words parted by one space
unfoldable pub call_at : Declared → ℕ → ℕ → Data → Result (Call ScriptCondition) Fault
call_at declared thread number d = do
  text ← need (at.Call thread number) (as_str d)
  need (at.Call thread number) (call_of declared (parts 32 text))

-- a thread: at most 256 calls
unfoldable pub calls_at : Declared → ℕ → Data → Result (List (Call ScriptCondition)) Fault
calls_at declared thread d = do
  list ← list_in 256 (at.Thread thread) (Some d)
  each_from (call_at declared thread) 0 list

-- `threads`: at most 64 of them
unfoldable pub threads_of : Declared → Data → Result (List (List (Call ScriptCondition))) Fault
threads_of declared d = do
  list ← list_in 64 at.Threads (get (codes "threads") d)
  each_from (calls_at declared) 0 list

-- words parted by one space; the empty text has none
abbrev pub words_of : List ℕ → List (List ℕ)
words_of text = if length text == 0 then [] else parts 32 text

-- a word of the schedule: a turn of one of so many threads
unfoldable pub turn_at : ℕ → ℕ → List ℕ → Result Turn Fault
turn_at threads number word = need (at.Word number) (turn_of threads (parts 42 word))

-- `schedule`: a text of at most 4096 words
unfoldable pub schedule_of : ℕ → Data → Result (List Turn) Fault
schedule_of threads d = do
  text ← need at.Schedule (option_and_then as_str (get (codes "schedule") d))
  words ← at_most 4096 at.Schedule (words_of text)
  each_from (turn_at threads) 0 words

-- a script has a member of this name
abbrev pub is_known : List ℕ → Bool
is_known name = bytes_eq name (codes "version") || bytes_eq name (codes "counters") || bytes_eq name (codes "onces") || bytes_eq name (codes "cvs") || bytes_eq name (codes "threads") || bytes_eq name (codes "schedule")

-- a script has each of these members
abbrev pub are_known : Members → Bool
are_known no_members = true
are_known (member name d ms) = is_known name && are_known ms

-- an object with no other member
unfoldable pub members_of : Data → Result Members Fault
members_of d = need at.Root (as_object d) >>= λ ms. if are_known ms then Ok ms else Err (BadScript at.Root)

-- `version`: the number 1 or 2
unfoldable pub version_of : Data → Result ℕ Fault
version_of d = need at.Version (option_and_then (λ n. if n == 1 || n == 2 then Some n else None) (option_and_then as_u64 (option_and_then as_number (get (codes "version") d))))

-- one of `counters`: a whole number of 32 bits
unfoldable pub counter_at : ℕ → Data → Result ℕ Fault
counter_at number d = need (at.Counter number) (option_and_then (λ n. if nat_le n 4294967295 then Some n else None) (option_and_then as_u64 (as_number d)))

-- what the counters begin with, of which there are at most 16: there are none, where it isn't said
unfoldable pub counters_of : Option Data → Result (List ℕ) Fault
counters_of None = Ok []
counters_of (Some d) = list_in 16 at.Counters (Some d) >>= each_from counter_at 0

-- `onces`: a whole number, of at most 16
abbrev pub onces_in : Data → Result ℕ Fault
onces_in d = need at.Onces (option_and_then as_u64 (as_number d)) >>= λ n. if nat_le n 16 then Ok n else Err (TooMany at.Onces)

-- how many once cells there are: none, where it isn't said
unfoldable pub onces_of : Option Data → Result ℕ Fault
onces_of None = Ok 0
onces_of (Some d) = onces_in d

-- `cvs`: a whole number, of at most 4
abbrev pub variables_in : Data → Result ℕ Fault
variables_in d = need at.Variables (option_and_then as_u64 (as_number d)) >>= λ n. if nat_le n 4 then Ok n else Err (TooMany at.Variables)

-- how many condition variables there are: none, where it isn't said
unfoldable pub variables_of : Option Data → Result ℕ Fault
variables_of None = Ok 0
variables_of (Some d) = variables_in d

-- how many condition variables a wait for any of several objects may name: all of so many in version 2, and none in version 1
abbrev pub any_variables : ℕ → ℕ → ℕ
any_variables version cvs = if version == 2 then cvs else 0

-- the members in order
unfoldable pub plan_in : Data → Result Plan Fault
plan_in d = do
  members ← members_of d
  version ← version_of d
  counters ← counters_of (get (codes "counters") d)
  onces ← onces_of (get (codes "onces") d)
  cvs ← variables_of (get (codes "cvs") d)
  threads ← threads_of (record { counters = length counters; onces = onces; cvs = cvs; any_cvs = any_variables version cvs }) d
  schedule ← schedule_of (length threads) d
  Ok (record { counters = counters; onces = onces; cvs = cvs; threads = threads; schedule = schedule })

-- the value that a JSON text gives, if it is one
abbrev pub json_read : Option Data → Result Data Fault
json_read None = Err NotJson
json_read (Some d) = Ok d

-- the value that bytes give, if they are a JSON text in UTF-8
unfoldable pub json_of : List ℕ → Result Data Fault
json_of bytes = if is_utf8 bytes then json_read (read bytes) else Err NotJson

-- The script that bytes give, or their first refusal.
unfoldable pub script_of : List ℕ → Result Plan Fault
script_of bytes = json_of bytes >>= plan_in
