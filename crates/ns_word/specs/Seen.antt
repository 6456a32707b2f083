-- The word that a seat has last seen, as its place in a call keeps it.
use Rattle.ns_word.specs.Names.{AcquireExchange, AcquirePlace, Arm, ArmToWait, InAcquire, InLeaving, InQueuing, InRelease, InShow, InSignal, InTry, InWait, Leave, LeavePlace, LoadToScan, None, Option, Queue, QueuePlace, QueueToWait, ReleaseExchange, ReleasePlace, ReturnShown, ScanAndRelease}
use Rattle.ns_word.specs.Names.{ScanCells, ShowPlace, SignalPlace, Some, Take, TakeToLeave, TakeToQueue, TakeToScan, TakeToShow, TakeToWake, TryAcquire, TryPlace, WaitPlace, WakeAndReturn, Walk, Word}
use Rattle.ns_word.specs.Codec.{IsPackable}

abbrev pub try_seen : TryPlace → Option Word
try_seen (TryAcquire last) = Some last
try_seen place = None

abbrev pub acquire_seen : AcquirePlace → Option Word
acquire_seen (AcquireExchange arrival last) = Some last
acquire_seen (TakeToQueue arrival last) = Some last
acquire_seen (Arm arrival last) = Some last
acquire_seen (Queue arrival last) = Some last
acquire_seen place = None

abbrev pub release_seen : ReleasePlace → Option Word
release_seen (ReleaseExchange last) = Some last
release_seen (TakeToScan last) = Some last
release_seen (ScanCells last i) = Some last
release_seen (ScanAndRelease last) = Some last
release_seen place = None

abbrev pub queue_seen : QueuePlace → Option Word
queue_seen (Take last) = Some last
queue_seen (ArmToWait last) = Some last
queue_seen (LoadToScan last i) = Some last
queue_seen (QueueToWait last) = Some last
queue_seen place = None

abbrev pub leave_seen : LeavePlace → Option Word
leave_seen (TakeToLeave last) = Some last
leave_seen (Leave last) = Some last
leave_seen place = None

abbrev pub wait_seen : WaitPlace → Option Word
wait_seen (InQueuing again place) = queue_seen place
wait_seen (InLeaving cause place) = leave_seen place
wait_seen place = None

abbrev pub signal_seen : SignalPlace → Option Word
signal_seen (TakeToWake last) = Some last
signal_seen (WakeAndReturn last) = Some last
signal_seen place = None

abbrev pub show_seen : ShowPlace → Option Word
show_seen (TakeToShow last) = Some last
show_seen (ReturnShown last) = Some last
show_seen place = None

-- the word that the place keeps, if it keeps one
abbrev pub word_seen : {C : Type 0} → Option (Walk C) → Option Word
word_seen (Some (InTry mode place)) = try_seen place
word_seen (Some (InAcquire aim place)) = acquire_seen place
word_seen (Some (InRelease releasing place)) = release_seen place
word_seen (Some (InWait wait place)) = wait_seen place
word_seen (Some (InSignal waking k place)) = signal_seen place
word_seen (Some (InShow place)) = show_seen place
word_seen walk = None

-- a word that is kept has a number, so an exchange can compare it with the lock's
abbrev pub HasNumber : Option Word → Type 0
HasNumber None = Unit {0}
HasNumber (Some word) = IsPackable word
