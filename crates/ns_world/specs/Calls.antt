-- Where a call begins, and the section that it needs.
use Rattle.std.specs.List.{list_all}
use Rattle.std.specs.Prelude.{Bool, IfSome, IsSome, None, Option, Some, is_some, length, nat_lt, not, true, ℕ, ◌&&◌, ◌<◌, ◌^◌, ◌||◌, ◌≡◌, ◌≤◌}
use Rattle.ns_world.specs.Names.{AcquireLoad, Add, AddLoad, Advance, Advancing, AreThere, AsFresh, Broadcast, Broadcasting, Call, ClockLoad, CounterWait, CvWait, Doing, Done, DoneLoad, Expiry, ExpiryLoad, FirstClock, ForIsNotified, ForLock, ForNoteWait, Get, GetLoad, Held, IfMade}
use Rattle.ns_world.specs.Names.{InAcquire, InCells, InRelease, InRound, InSignal, InTry, IsNotified, Lock, Mode, NewNote, NextLoad, NoteStanding, NoteWait, Notify, Notifying, ObjectWalk, OnCondition, OnLock, OnNotes, OnObjects, OnVariables, Once, OnceLoad, Only, RLock, RUnlock, Read}
use Rattle.ns_world.specs.Names.{Reader, ReleaseLoad, Set, SetLoad, Setup, Signal, SignalLoad, Signaling, ToRelease, TryLoad, TryLock, TryRLock, Unlock, UnlockQuiet, Value, ValueLoad, Wait, WaitAny, WaitMark, Write, Writer, have_variable, is_among, is_there, items_of, quiet_first}
use Rattle.ns_world.specs.Names.{wait_first}

-- the mode of the section that a wait leaves
abbrev pub mode_waited : Option Mode → Mode
mode_waited None = Write
mode_waited (Some mode) = mode

-- of the objects that a call names there are as many as it says
abbrev pub NamesAll : {C : Type 0} → Call C → Type 0
NamesAll (WaitAny items deadline) = length (items_of items) ≡ items.count
NamesAll call = Unit {0}

-- the first place of the call's walk, over a row of N cells, with a section in hand of this mode, or with none
abbrev pub start_of : {C : Type 0} → ℕ → Option Mode → Call C → Doing C
start_of N mode Lock = OnLock (InAcquire (ForLock Write) (AcquireLoad AsFresh)) None
start_of N mode RLock = OnLock (InAcquire (ForLock Read) (AcquireLoad AsFresh)) None
start_of N mode TryLock = OnLock (InTry Write TryLoad) None
start_of N mode TryRLock = OnLock (InTry Read TryLoad) None
start_of N mode Unlock = OnLock (InRelease Writer ReleaseLoad) None
start_of N mode RUnlock = OnLock (InRelease Reader ReleaseLoad) None
start_of N mode UnlockQuiet = OnLock (quiet_first N ToRelease) None
start_of N mode (Get i) = OnLock (InCells (GetLoad i)) None
start_of N mode (Set i v) = OnLock (InCells (SetLoad i v)) None
start_of N mode (Wait c limits) = OnLock (wait_first N (record { mode = mode_waited mode; on = OnCondition c; limits = limits })) None
start_of N mode (CvWait k limits) = OnLock (wait_first N (record { mode = mode_waited mode; on = OnVariables (Only k); limits = limits })) None
start_of N mode (Signal k) = OnLock (InSignal Signaling k SignalLoad) None
start_of N mode (Broadcast k) = OnLock (InSignal Broadcasting k SignalLoad) None
start_of N mode (NewNote parent deadline) = OnNotes (NextLoad parent deadline)
start_of N mode (Notify note) = OnNotes (Notifying note)
start_of N mode (Advance moment) = OnNotes (Advancing moment)
start_of N mode (IsNotified note) = OnNotes (ClockLoad (ForIsNotified note))
start_of N mode (Expiry note) = OnNotes (ExpiryLoad note note None)
start_of N mode (NoteWait note deadline) = OnNotes (ClockLoad (ForNoteWait note deadline))
start_of N mode (Add counter delta) = OnObjects (AddLoad counter delta)
start_of N mode (Value counter) = OnObjects (ValueLoad counter)
start_of N mode (CounterWait counter deadline) = OnObjects (WaitMark counter deadline)
start_of N mode (Once once) = OnObjects (OnceLoad once)
start_of N mode (Done once) = OnObjects (DoneLoad once)
start_of N mode (WaitAny items deadline) = OnObjects (InRound (record { items = items; deadline = deadline }) FirstClock)

-- the same place, of a call on counters and once cells
abbrev pub object_start : {C : Type 0} → Call C → Option ObjectWalk
object_start (Add counter delta) = Some (AddLoad counter delta)
object_start (Value counter) = Some (ValueLoad counter)
object_start (CounterWait counter deadline) = Some (WaitMark counter deadline)
object_start (Once once) = Some (OnceLoad once)
object_start (Done once) = Some (DoneLoad once)
object_start (WaitAny items deadline) = Some (InRound (record { items = items; deadline = deadline }) FirstClock)
object_start call = None

-- whether there are the objects that a call on counters and once cells names, and a section in hand where it names condition variables
abbrev pub finds : {C : Type 0} → Setup → (ℕ → NoteStanding) → Option Mode → Call C → Bool
finds setup notes mode (Add counter delta) = nat_lt counter setup.counters
finds setup notes mode (Value counter) = nat_lt counter setup.counters
finds setup notes mode (CounterWait counter deadline) = nat_lt counter setup.counters
finds setup notes mode (Once once) = nat_lt once setup.cells
finds setup notes mode (Done once) = nat_lt once setup.cells
finds setup notes mode (WaitAny items deadline) = list_all (is_there setup notes) (items_of items) && (is_some mode || not (have_variable items))
finds setup notes mode call = true

-- A call on the lock, whose need is met by a section of this mode, or by none. One that wakes needs nothing.
abbrev pub SectionFits : {C : Type 0} → Call C → Option Mode → Type 0
SectionFits Lock mode = mode ≡ None
SectionFits RLock mode = mode ≡ None
SectionFits TryLock mode = mode ≡ None
SectionFits TryRLock mode = mode ≡ None
SectionFits Unlock mode = mode ≡ Some Write
SectionFits RUnlock mode = mode ≡ Some Read
SectionFits UnlockQuiet mode = mode ≡ Some Write
SectionFits (Get i) mode = IsSome mode
SectionFits (Set i v) mode = mode ≡ Some Write
SectionFits (Signal k) mode = Unit {0}
SectionFits (Broadcast k) mode = Unit {0}
SectionFits call mode = ⊥

-- The call's need is met: on the lock by the section in hand, on the clock and the notes by notes that are made, whatever is in hand, of a wait by both, and on counters and once cells by those that there are, and by a section in hand where condition variables are among them.
abbrev pub CallFits : {C : Type 0} → Setup → (ℕ → NoteStanding) → Call C → Option Mode → Type 0
CallFits setup notes (NewNote parent deadline) mode = IfMade notes parent
CallFits setup notes (Notify note) mode = (notes note).made ≡ true
CallFits setup notes (Advance moment) mode = Unit {0}
CallFits setup notes (IsNotified note) mode = (notes note).made ≡ true
CallFits setup notes (Expiry note) mode = (notes note).made ≡ true
CallFits setup notes (NoteWait note deadline) mode = (notes note).made ≡ true
CallFits setup notes (Wait c limits) mode = IsSome mode × IfMade notes limits.note
CallFits setup notes (CvWait k limits) mode = IsSome mode × IfMade notes limits.note
CallFits setup notes (Add counter delta) mode = counter < setup.counters
CallFits setup notes (Value counter) mode = counter < setup.counters
CallFits setup notes (CounterWait counter deadline) mode = counter < setup.counters
CallFits setup notes (Once once) mode = once < setup.cells
CallFits setup notes (Done once) mode = once < setup.cells
CallFits setup notes (WaitAny items deadline) mode = AreThere setup notes items × ((k : ℕ) → is_among k (items_of items) ≡ true → IsSome mode)
CallFits setup notes call mode = SectionFits call mode

-- the mode of the section in hand, if there is one
abbrev pub mode_of : {C : Type 0} {N : ℕ} → Option (Held C N) → Option Mode
mode_of None = None
mode_of (Some held) = Some held.mode

-- a number that a note may have
abbrev pub IsNoteNumber : ℕ → Type 0
IsNoteNumber note = note < 64

-- a number that a condition variable has
abbrev pub IsVariable : ℕ → Type 0
IsVariable k = k < 4

-- a moment that the clock may come to
abbrev pub IsMoment : ℕ → Type 0
IsMoment moment = moment < 2 ^ 54

-- The call's cell, if it names one, is one of n, its variable one of 4, its notes are of 64, its moments are below 2^54, and of several objects there are at most 16. Those that name none of these are `Lock`, `RLock`, `TryLock`, `TryRLock`, `Unlock`, `RUnlock`, `UnlockQuiet`, `Add`,
-- `Value`, `Once` and `Done`.
abbrev pub CallInRange : {C : Type 0} → ℕ → Call C → Type 0
CallInRange n (Get i) = i < n
CallInRange n (Set i v) = i < n
CallInRange n (Wait c limits) = IfSome limits.note IsNoteNumber × IfSome limits.deadline IsMoment
CallInRange n (CvWait k limits) = IsVariable k × IfSome limits.note IsNoteNumber × IfSome limits.deadline IsMoment
CallInRange n (Signal k) = IsVariable k
CallInRange n (Broadcast k) = IsVariable k
CallInRange n (NewNote parent deadline) = IfSome parent IsNoteNumber × IfSome deadline IsMoment
CallInRange n (Notify note) = IsNoteNumber note
CallInRange n (Advance moment) = IsMoment moment
CallInRange n (IsNotified note) = IsNoteNumber note
CallInRange n (Expiry note) = IsNoteNumber note
CallInRange n (NoteWait note deadline) = IsNoteNumber note × IfSome deadline IsMoment
CallInRange n (CounterWait counter deadline) = IfSome deadline IsMoment
CallInRange n (WaitAny items deadline) = (items.count ≤ 16) × IfSome deadline IsMoment
CallInRange n call = Unit {0}
