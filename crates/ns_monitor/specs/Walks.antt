-- The first place of each call of a monitor, by which a caller's calls are told.
use Rattle.std.specs.Prelude.{Option, false, option_map, ℕ}
use Rattle.ns_monitor.specs.Names.{AcquireLoad, AsFresh, ForLock, GetLoad, InAcquire, InCells, InQueuing, InRelease, InShow, InSignal, InTry, InWait, Limits, Load, Mode, Note, OnCondition, OnVariables, Only, ReleaseLoad, Releasing, SetLoad, ShowLoad, SignalLoad, ToTell, TryLoad, Wait, Waking, Walk}
use Rattle.ns_monitor.specs.Names.{quiet_first, wait_first}

-- a try for this mode
abbrev pub trying : {C : Type 0} → Mode → Walk C
trying mode = InTry mode TryLoad

-- a call that locks in this mode
abbrev pub locking : {C : Type 0} → Mode → Walk C
locking mode = InAcquire (ForLock mode) (AcquireLoad AsFresh)

-- a release of a section in this way
abbrev pub releasing_by : {C : Type 0} → Releasing → Walk C
releasing_by releasing = InRelease releasing ReleaseLoad

-- a read of this cell
abbrev pub getting : {C : Type 0} → ℕ → Walk C
getting i = InCells (GetLoad i)

-- a write of this value into this cell
abbrev pub setting : {C : Type 0} → ℕ → ℕ → Walk C
setting i value = InCells (SetLoad i value)

-- a question whether a section of N cells is quiet
abbrev pub judging : {C : Type 0} → ℕ → Walk C
judging N = quiet_first N ToTell

-- what may end a wait early that is given this deadline and this note
abbrev pub limits_of : Option ℕ → Option Note → Limits
limits_of deadline note = record { deadline = deadline; note = option_map (λ n. n.index) note }

-- what a wait in this mode is for this condition, with these limits
abbrev pub waits_by : {C : Type 0} → Mode → C → Limits → Wait C
waits_by mode c limits = record { mode = mode; on = OnCondition c; limits = limits }

-- such a wait with this deadline and this note, over a row of N cells
abbrev pub waiting : {C : Type 0} → ℕ → Mode → C → Option ℕ → Option Note → Walk C
waiting N mode c deadline note = wait_first N (waits_by mode c (limits_of deadline note))

-- what a wait in this mode is for this variable, with these limits
abbrev pub waits_for_variable : {C : Type 0} → Mode → ℕ → Limits → Wait C
waits_for_variable mode k limits = record { mode = mode; on = OnVariables (Only k); limits = limits }

-- such a wait with this deadline and this note, over a row of N cells
abbrev pub variable_waiting : {C : Type 0} → ℕ → Mode → ℕ → Option ℕ → Option Note → Walk C
variable_waiting N mode k deadline note = wait_first N (waits_for_variable mode k (limits_of deadline note))

-- a wait that queues first, as one for variables does
abbrev pub queuing_first : {C : Type 0} → Wait C → Walk C
queuing_first wait = InWait wait (InQueuing false Load)

-- a signal or a broadcast of this variable
abbrev pub waking_by : {C : Type 0} → Waking → ℕ → Walk C
waking_by waking k = InSignal waking k SignalLoad

-- a call that shows how the monitor stands
abbrev pub showing : {C : Type 0} → Walk C
showing = InShow ShowLoad
