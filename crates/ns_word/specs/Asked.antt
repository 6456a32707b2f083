-- What a call was asked to do, by its place.
use Rattle.ns_word.specs.Names.{Aim, Await, CellPlace, ForLock, ForWait, Get, GetLoad, InAcquire, InCells, InRelease, InShow, InSignal, InTry, InWait, IsQuiet, Judging, QuietCells, QuietLast, QuietWriter, Request, Set, SetLoad, SetStore, Show, ToRelease, ToTell, TryLock, Wake, Walk}
use Rattle.ns_word.specs.declared.request.Request.TheVariants.{Lock, Release}

-- what a call was asked that judges the section
abbrev pub asked_to_judge : {C : Type 0} → Judging → Request C
asked_to_judge ToTell = IsQuiet
asked_to_judge ToRelease = Release QuietWriter

-- what a call on the row was asked; a quiet release judges the section first
abbrev pub asked_in_cells : {C : Type 0} → CellPlace → Request C
asked_in_cells (GetLoad i) = Get i
asked_in_cells (SetLoad i v) = Set i v
asked_in_cells (SetStore i v) = Set i v
asked_in_cells (QuietCells judging i) = asked_to_judge judging
asked_in_cells (QuietLast judging i) = asked_to_judge judging

-- what a call was asked that acquires: it is one that locks, or a wait that comes back
abbrev pub request_for : {C : Type 0} → Aim C → Request C
request_for (ForLock mode) = Lock mode
request_for (ForWait wait outcome) = Await wait

-- what a call was asked that stands at this place
abbrev pub asked_of : {C : Type 0} → Walk C → Request C
asked_of (InTry mode place) = TryLock mode
asked_of (InAcquire aim place) = request_for aim
asked_of (InRelease releasing place) = Release releasing
asked_of (InCells place) = asked_in_cells place
asked_of (InWait wait place) = Await wait
asked_of (InSignal waking k place) = Wake waking k
asked_of (InShow place) = Show
