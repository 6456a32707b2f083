-- The words that a table keeps of counters and of once cells.
use Rattle.std.specs.Prelude.{if◌then◌else◌, ℕ, ◌%◌, ◌+◌, ◌/◌, ◌==◌, ◌^◌}
use Rattle.ns_counters.specs.Names.{CounterState, OnceState, Stage, Unused}
use Rattle.ns_counters.specs.declared.word.Stage.TheVariants.{Done, Running}
use Rattle.ns_model.specs.declared.once.OnceState.TheVariants as TheOnce

-- A counter's word: the value in its low 32 bits, and above them a bit for the beginning of a wait for 0.
abbrev pub counter_word : CounterState → ℕ
counter_word counter = counter.value + (if counter.waited then 2 ^ 32 else 0)

-- the counter that a word tells of
abbrev pub counter_of : ℕ → CounterState
counter_of word = record { value = word % 2 ^ 32; waited = ((word / 2 ^ 32) % 2) == 1 }

-- A once cell's word: 0, then 1, then 2.
abbrev pub stage_word : Stage → ℕ
stage_word Unused = 0
stage_word Running = 1
stage_word Done = 2

-- how far a cell with this word has come
abbrev pub stage_of : ℕ → Stage
stage_of word = if word == 0 then Unused else (if word == 1 then Running else Done)

-- how far a cell has come
abbrev pub stage : OnceState → Stage
stage TheOnce.Unused = Unused
stage (TheOnce.Running who) = Running
stage TheOnce.Done = Done
