-- The names of crates below and of this crate's own types, passed on from one place. Declares nothing.
pub use Rattle.ns_counters.specs.Items.{AreAmong}
pub use Rattle.ns_counters.specs.Names.{Add, Began, Begun, CounterFault, CounterState, Ran as HasRun, is_done, is_in, judged}
pub use Rattle.ns_counters.specs.Prelude.{AnswersByRounds, AreObjectsBySeats, CanAct, EnvEvent, Every, HasActed, HasShownNone, HasWords, HaveShownNothing, InTurn, IsLater, IsLawful, IsLegalObjects, IsLow, IsReady, IsWordOf, ObjectStanding, Outcome, Past, RoundShows, ViewFits, acted, counter_of}
pub use Rattle.ns_counters.specs.Prelude.{counter_word, events_of, first_words, is_among, is_due, is_this, looked, most, objects_after, objects_own, outcome, padded, place_in, setup_of, stage, tried, word_at}
pub use Rattle.ns_counters.specs.declared.act.ObjectAct.{ObjectAct}
pub use Rattle.ns_counters.specs.declared.act.ObjectAct.TheVariants.{BeginOnce, EndOnce, ExchangeToAdd, LoadToAdd, LookCounter, LookOnce, MarkWait}
pub use Rattle.ns_counters.specs.declared.items.Item.{Item as PlainItem}
pub use Rattle.ns_counters.specs.declared.items.Item.TheVariants.{OnCounter as OnCounterItem, OnNote, OnVariable}
pub use Rattle.ns_counters.specs.declared.object.ObjectEvent.{ObjectEvent}
pub use Rattle.ns_counters.specs.declared.object.ObjectEvent.TheVariants.{OnCounter, OnOnce}
pub use Rattle.ns_counters.specs.declared.object.ObjectView.{ObjectView}
pub use Rattle.ns_counters.specs.declared.object.Place.{Place}
pub use Rattle.ns_counters.specs.declared.object.Place.TheVariants.{Adding, Free, Running}
pub use Rattle.ns_counters.specs.declared.object.Setup.{Setup}
pub use Rattle.ns_model.specs.Room.{room_enough}
pub use Rattle.ns_monitor.specs.Names.{room}
pub use Rattle.ns_monitor.specs.Prelude.{AnyWait, AreSome, Cvs, EnvKnown, Grows, HasBegunToWait, HasComeBackFromAny, Held, InHand, IsByOneOf, Known, Mode, Note as NoteOf, SaysWoken, Truths, WaitKnown, WaitsOn, any_waiting, leave_any_told, row_after, section_of}
pub use Rattle.ns_monitor.specs.Several.{KnowsTruly}
pub use Rattle.ns_note.specs.Names.{Allows, AreNewBy, AreOfOneHistoryBy, ArePair, BeginsWith, HasSight, HaveLearnedBy, HoldsBy, IsBetween, IsBySums, IsMade, IsOne, Me, Sight, TableId, TableState, ViewsOf, clock_of, first_of, is_numbered, keeps, numbered, one_if, rest_of, tally, the_or, total}
pub use Rattle.ns_note.specs.Prelude.{Grows as EnvGrows, IsTrueToHistory as EnvTrue}
pub use Rattle.ns_objects.specs.declared.any.AnyItem.{AnyItem}
pub use Rattle.ns_objects.specs.declared.any.AnyItem.TheVariants.{Counter, Cv, Note}
pub use Rattle.ns_objects.specs.declared.any.Item.{Item}
pub use Rattle.ns_objects.specs.declared.running.Once.{Once}
pub use Rattle.ns_objects.specs.declared.running.Once.TheVariants.{Already}
