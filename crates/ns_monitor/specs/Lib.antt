pub mod Begun
pub mod Known
pub mod Limits
pub mod Looks
pub mod Names
pub mod Polls
pub mod Prelude
pub mod Room
pub mod Saved
pub mod Scans
pub mod Several
pub mod Sizes
pub mod Shows
pub mod Standing
pub mod Tests
pub mod Variables
pub mod Waits
pub mod Wakes
pub mod Walks
-- what a user's contract names
pub use Rattle.ns_gate.specs.Law.{RefusesGate}
pub use Rattle.ns_model.specs.Truths.{Truths, truths}
pub use Rattle.ns_model.specs.declared.event.Mode.{Mode}
pub use Rattle.ns_model.specs.declared.event.Mode.TheVariants.{Read, Write}
pub use Rattle.ns_monitor.specs.Known.{AreNew, AreOfOneHistory, EndsAs, Grows, HasLearned, HasLocked, HasSeenMore, new_seat}
pub use Rattle.ns_monitor.specs.Polls.{IfStill, IfWoken}
pub use Rattle.ns_monitor.specs.Several.{AreSome, HasBegunToWait, HasComeBackFromAny, HasStoodUnwoken, WaitsOn, WaitsStill, any_waiting, waits_for_any}
pub use Rattle.ns_monitor.specs.Shows.{HasStood, ShowsState}
pub use Rattle.ns_monitor.specs.Variables.{HasComeBackFrom, HasWaitedForVariable, HasWoken, wake_event}
pub use Rattle.ns_monitor.specs.Waits.{EndedBy, HadLooked, HasComeBack, HasStayed, HasWaitedFor}
pub use Rattle.ns_monitor.specs.Walks.{getting, judging, locking, releasing_by, setting, showing, trying, variable_waiting, waiting, waking_by}
pub use Rattle.ns_word.specs.Meanings.{InHand}
pub use Rattle.ns_word.specs.Places.{HasMode}
pub use Rattle.ns_word.specs.Steps.{section_of}
pub use Rattle.ns_word.specs.declared.word.Releasing.TheVariants.{QuietWriter, Reader, Writer}
