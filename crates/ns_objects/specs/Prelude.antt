-- The names that contracts, proofs and the crates above cite, passed on from one place. Declares nothing.
unfoldable pub use Rattle.ns_model.specs.Environments.{is_notified}
pub use Rattle.ns_objects.specs.Any.{AnyAnswers, BothKnown, IsKnown, IsNamed, RoundAnswers, WasReady, WasReadyIn, any_of, item_of, past_of}
pub use Rattle.ns_objects.specs.Held.{HasWaitedForAny, HeldAnswers, PlaceBy, WaitAnswers}
pub use Rattle.ns_objects.specs.Known.{AreNew, AreOfOneHistory, Grows, IsAtRest, IsTrueToHistory, ObjectsKnown, known, known_of, no_setup, sight_of, standing_in, standing_of, the}
pub use Rattle.ns_objects.specs.Law.{Holds, IsRuled, Views, fresh, fresh_seat, is_seat}
pub use Rattle.ns_objects.specs.Names.{Add, Adding, Allows, AnyItem, AnyWait, AreAmong, AreObjectsBySeats, ArePair, AreSome, Began, BeginOnce, CanAct, Counter, CounterFault, CounterState, Cv, Cvs, EndOnce, EnvEvent, EnvGrows, EnvKnown, EnvTrue, Every, ExchangeToAdd, Free, HasActed, HasBegunToWait}
pub use Rattle.ns_objects.specs.Names.{HasComeBackFromAny, HasRun as Ran, HasShownNone, HasSight, HasWords, HaveShownNothing, Held, InHand, InTurn, IsBetween, IsByOneOf, IsBySums, IsLater, IsLawful, IsLegalObjects, IsLow, IsOne, Known, KnowsTruly, LoadToAdd, LookCounter, LookOnce, MarkWait, Me}
pub use Rattle.ns_objects.specs.Names.{Mode, Note, NoteOf, ObjectAct, ObjectEvent, ObjectView, OnCounter, OnOnce, Outcome, Past, Place, PlainItem, Running, Setup, TableId, Truths, ViewFits, WaitKnown, WaitsOn, acted, clock_of, counter_of, counter_word, events_of, first_of, first_words, is_among}
pub use Rattle.ns_objects.specs.Names.{is_done, is_due, is_in, is_this, judged, keeps, leave_any_told, looked, most, objects_after, objects_own, one_if, outcome, padded, place_in, rest_of, room, room_enough, section_of, setup_of, stage, total, tried, word_at}
pub use Rattle.ns_objects.specs.Running.{MayRunOnceBegun, OnceAnswers}
pub use Rattle.ns_objects.specs.Told.{HasCome, HasJudged, HaveMet, IsCounterWord, Learned, OneActs, OneComes, OneEnds, change_in_hand, change_said, judging, once_at, value_of, word_seen}
pub use Rattle.ns_objects.specs.Waiting.{WaitHasBegun}
