-- What histories of counters and once cells mean, without the words that they are defined by.
use Rattle.std.specs.Prelude.{◌≡◌, ◌⊎◌, ℕ, ◌≤◌, ℤ, pos, ◌+ℤ◌, ◌<ℤ◌, ◌≤ℤ◌, Bool, true, false, List, [], ◌∷◌, Result, Ok, Err}
use Rattle.ns_model.specs.declared.counter.CounterFault.{CounterFault}
use Rattle.ns_model.specs.declared.counter.CounterFault.TheVariants.{Under, Over, AfterWait}
use Rattle.ns_model.specs.declared.counter.CounterEvent.{CounterEvent}
use Rattle.ns_model.specs.declared.counter.CounterEvent.TheVariants.{Add, Begun}
use Rattle.ns_model.specs.declared.counter.CounterState.{CounterState}
use Rattle.ns_model.specs.declared.once.OnceEvent.{OnceEvent}
use Rattle.ns_model.specs.declared.once.OnceEvent.TheVariants.{Began, Ran}

-- What each answer to a change means, in numbers: of the four just one is so.
abbrev pub AnswersRightly : CounterState → ℤ → Result ℕ CounterFault → Type 0
AnswersRightly now delta (Ok value) = (pos value ≡ pos now.value +ℤ delta) × (value ≤ 4294967295) × (now.value ≡ 0 → pos 0 <ℤ delta → now.waited ≡ false)
AnswersRightly now delta (Err Under) = (pos now.value +ℤ delta) <ℤ pos 0
AnswersRightly now delta (Err Over) = pos 4294967295 <ℤ (pos now.value +ℤ delta)
AnswersRightly now delta (Err AfterWait) = (now.value ≡ 0) × (pos 0 <ℤ delta) × (delta ≤ℤ pos 4294967295) × (now.waited ≡ true)

-- what an event adds: its change, where that was answered with a value
abbrev pub added : CounterEvent → ℤ
added (Add who delta (Ok value)) = delta
added (Add who delta (Err fault)) = pos 0
added (Begun who) = pos 0

-- what the events add together
abbrev pub added_by : List CounterEvent → ℤ
added_by [] = pos 0
added_by (event ∷ events) = added event +ℤ added_by events

-- whether a wait begins by the event
abbrev pub is_begun : CounterEvent → Bool
is_begun (Add who delta reply) = false
is_begun (Begun who) = true

-- whether the function has run by the event
abbrev pub is_ran : OnceEvent → Bool
is_ran (Began who) = false
is_ran (Ran who) = true

-- What may happen to a once cell at all: nothing; or that one caller began; or that it began and then has run.
abbrev pub IsCourseOfOnce : List OnceEvent → Type 0
IsCourseOfOnce history = (history ≡ []) ⊎ ((who : ℕ) × ((history ≡ Began who ∷ []) ⊎ (history ≡ Began who ∷ Ran who ∷ [])))
