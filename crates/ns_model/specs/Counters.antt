-- Which histories of a counter are legal, and what they leave.
use Rattle.std.specs.Prelude.{◌≡◌, ℕ, ℤ, pos, ◌+ℤ◌, int_lt, unsigned_abs, Bool, true, false, ◌&&◌, ◌==◌, if◌then◌else◌, List, Result, Ok, Err}
use Rattle.std.specs.List.{fold}
use Rattle.ns_model.specs.declared.counter.CounterFault.{CounterFault}
use Rattle.ns_model.specs.declared.counter.CounterFault.TheVariants.{Under, Over, AfterWait}
use Rattle.ns_model.specs.declared.counter.CounterEvent.{CounterEvent}
use Rattle.ns_model.specs.declared.counter.CounterEvent.TheVariants.{Add, Begun}
use Rattle.ns_model.specs.declared.counter.CounterState.{CounterState}
use Rattle.ns_model.specs.Courses.{IsLegalFrom}

-- a counter counts in 32 bits
abbrev pub most : ℕ
most = 4294967295

-- The value with a change, as a whole number: it may be below 0, and above all that the counter holds.
abbrev pub sum_of : CounterState → ℤ → ℤ
sum_of now delta = pos now.value +ℤ delta

-- a rise from 0 that comes after the beginning of a wait for 0
abbrev pub rises_after_wait : CounterState → ℤ → Bool
rises_after_wait now delta = (now.value == 0) && (int_lt (pos 0) delta && now.waited)

-- What a change comes to: one that would end below 0, one that would end above what 32 bits hold, and a rise from 0 after the beginning of a wait are refused, in this order; any other is answered the new value.
abbrev pub judged : CounterState → ℤ → Result ℕ CounterFault
judged now delta =
    if int_lt (sum_of now delta) (pos 0) then Err Under else (
    if int_lt (pos most) (sum_of now delta) then Err Over else (
    if rises_after_wait now delta then Err AfterWait else
    Ok (unsigned_abs (sum_of now delta))))

-- An event is legal where a change is answered just what it comes to. A wait may begin at any time.
abbrev pub IsLegalCounterEvent : CounterState → CounterEvent → Type 0
IsLegalCounterEvent now (Add who delta reply) = reply ≡ judged now delta
IsLegalCounterEvent now (Begun who) = Unit {0}

-- a new value stands, and a refusal leaves the counter as it was
abbrev pub counter_answered : CounterState → Result ℕ CounterFault → CounterState
counter_answered now (Ok value) = record { value = value; waited = now.waited }
counter_answered now (Err fault) = now

-- what an event leaves
abbrev pub counter_next : CounterState → CounterEvent → CounterState
counter_next now (Add who delta reply) = counter_answered now reply
counter_next now (Begun who) = record { value = now.value; waited = true }

-- a counter that nothing has happened to
abbrev pub first_counter : ℕ → CounterState
first_counter start = record { value = start; waited = false }

-- what a history leaves of a counter that began with this value
abbrev pub counter_after : ℕ → List CounterEvent → CounterState
counter_after start history = fold counter_next (first_counter start) history

-- A legal history of a counter that began with this value.
abbrev pub IsLegalCounter : ℕ → List CounterEvent → Type 0
IsLegalCounter start history = IsLegalFrom IsLegalCounterEvent counter_next (first_counter start) history

-- A counter is ready where its value is 0.
abbrev pub is_ready : CounterState → Bool
is_ready now = now.value == 0
