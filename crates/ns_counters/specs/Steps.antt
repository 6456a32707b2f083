-- What one step of a call leaves, by the word that it finds.
use Rattle.std.specs.Prelude.{Err, List, Ok, Result, [], bit_or, if◌then◌else◌, ℕ, ℤ, ◌+◌, ◌<◌, ◌==◌, ◌^◌, ◌∷◌, ◌≡◌, ◌≤◌}
use Rattle.ns_counters.specs.Names.{Add, Adding, Began, BeginOnce, Begun, CounterFault, EndOnce, ExchangeToAdd, Free, LoadToAdd, LookCounter, LookOnce, MarkWait, ObjectAct, ObjectEvent, OnCounter, OnOnce, Place, Ran, Running, Setup, judged, most}
use Rattle.ns_counters.specs.Words.{counter_word, counter_of}

-- The words: first those of 16 counters, by number, and then those of 16 once cells.
abbrev pub word_of_once : ℕ → ℕ
word_of_once once = 16 + once

-- the word that a step is on
abbrev pub word_at : ObjectAct → ℕ
word_at (LookCounter counter) = counter
word_at (LoadToAdd counter delta) = counter
word_at (ExchangeToAdd counter delta seen value) = counter
word_at (MarkWait counter) = counter
word_at (LookOnce once) = word_of_once once
word_at (BeginOnce once) = word_of_once once
word_at (EndOnce once) = word_of_once once

-- What a step leaves: the word, the caller's place, and what has happened by it.
pub record Outcome : Type 0 where
  pub word : ℕ
  pub events : List ObjectEvent
  pub place : Place

-- a step that only looks
abbrev pub looked : Place → ℕ → Outcome
looked place found = record { word = found; events = []; place = place }

-- A change that was judged by the counter found: where it is refused, the refusal has happened by that, and else the caller goes on to make it.
abbrev pub tried : ℕ → ℕ → ℤ → ℕ → Result ℕ CounterFault → Outcome
tried who counter delta found (Ok value) = looked (Adding counter delta) found
tried who counter delta found (Err fault) = record { word = found; events = OnCounter counter (Add who delta (Err fault)) ∷ []; place = Free }

-- What a step of this caller, who stands at this place, leaves where it finds this word.
abbrev pub outcome : ℕ → ObjectAct → Place → ℕ → Outcome
outcome who (LookCounter counter) place found = looked place found
outcome who (LoadToAdd counter delta) place found = tried who counter delta found (judged (counter_of found) delta)
outcome who (ExchangeToAdd counter delta seen value) place found =
    if found == counter_word seen then record { word = counter_word (record { value = value; waited = seen.waited }); events = OnCounter counter (Add who delta (Ok value)) ∷ []; place = Free }
    else tried who counter delta found (judged (counter_of found) delta)
outcome who (MarkWait counter) place found = record { word = bit_or found (2 ^ 32); events = OnCounter counter (Begun who) ∷ []; place = place }
outcome who (LookOnce once) place found = looked place found
outcome who (BeginOnce once) place found = if found == 0 then record { word = 1; events = OnOnce once (Began who) ∷ []; place = Running once } else looked place found
outcome who (EndOnce once) place found = record { word = 2; events = OnOnce once (Ran who) ∷ []; place = Free }

-- Which step a caller may make, where it stands at this place. Only who has begun to run a function may say that it has run.
abbrev pub CanAct : Setup → Place → ObjectAct → Type 0
CanAct setup place (LookCounter counter) = counter < setup.counters
CanAct setup place (LoadToAdd counter delta) = (counter < setup.counters) × (place ≡ Free)
CanAct setup place (ExchangeToAdd counter delta seen value) = (counter < setup.counters) × (place ≡ Adding counter delta) × (judged seen delta ≡ Ok value) × (seen.value ≤ most)
CanAct setup place (MarkWait counter) = (counter < setup.counters) × (place ≡ Free)
CanAct setup place (LookOnce once) = once < setup.cells
CanAct setup place (BeginOnce once) = (once < setup.cells) × (place ≡ Free)
CanAct setup place (EndOnce once) = place ≡ Running once
