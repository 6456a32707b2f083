-- The names that proofs cite, of specs and of what stands below, passed on from one place. Declares nothing.
pub use Rattle.ns_counters.proofs.Acts.{acted_fits, acted_lawful, has_acted, others_fit}
pub use Rattle.ns_counters.proofs.Listed.{low_if_among}
pub use Rattle.ns_counters.proofs.NewObjects.{new_lawful}
pub use Rattle.ns_counters.proofs.Objects.{own-append}
pub use Rattle.ns_counters.proofs.Prelude.{accepted, every_map}
pub use Rattle.ns_counters.proofs.Rounds.{later_itself, turn_more, turn_until}
pub use Rattle.ns_counters.proofs.Words.{counter_of-counter_word}
pub use Rattle.ns_monitor.proofs.Prelude.{made_grows}
pub use Rattle.ns_note.proofs.Prelude.{Others, all_new, begins_itself, begins_through, cuts, every_at, every_put, glues, joined_learn, meets, new_more, none_twice, numbered_count, numbered_first, numbered_rest, one_history, others_both, others_map, others_none, others_of, pair_of, total_none}
pub use Rattle.ns_note.proofs.Prelude.{total_set}
pub use Rattle.ns_objects.specs.Prelude.{Add, Adding, Allows, AnyItem, AnyWait, AreAmong, AreNew, AreObjectsBySeats, AreOfOneHistory, ArePair, AreSome, Began, BeginOnce, BothKnown, CanAct, Counter, CounterFault, CounterState, Cv, Cvs, EndOnce, EnvEvent, EnvGrows, EnvKnown, EnvTrue, Every}
pub use Rattle.ns_objects.specs.Prelude.{ExchangeToAdd, Free, Grows, HasActed, HasBegunToWait, HasCome, HasComeBackFromAny, HasJudged, HasShownNone, HasSight, HasWaitedForAny, HasWords, HaveMet, HaveShownNothing, Held, Holds, InHand, InTurn, IsAtRest, IsBetween, IsByOneOf, IsBySums, IsCounterWord}
pub use Rattle.ns_objects.specs.Prelude.{IsLater, IsLawful, IsLegalObjects, IsLow, IsNamed, IsOne, IsRuled, IsTrueToHistory, Known, KnowsTruly, Learned, LoadToAdd, LookCounter, LookOnce, MarkWait, Me, Mode, Note, NoteOf, ObjectAct, ObjectEvent, ObjectView, ObjectsKnown, OnCounter, OnOnce, OneActs}
pub use Rattle.ns_objects.specs.Prelude.{OneComes, OneEnds, Outcome, Past, Place, PlaceBy, PlainItem, Ran, RoundAnswers, Running, Setup, TableId, Truths, ViewFits, Views, WaitAnswers, WaitHasBegun, WaitKnown, WaitsOn, WasReady, WasReadyIn, acted, any_of, change_in_hand, clock_of, counter_of}
pub use Rattle.ns_objects.specs.Prelude.{counter_word, events_of, first_of, first_words, fresh, fresh_seat, is_among, is_due, is_in, is_seat, is_this, item_of, judged, judging, keeps, known, known_of, leave_any_told, looked, most, no_setup, objects_after, objects_own, one_if, outcome, padded}
pub use Rattle.ns_objects.specs.Prelude.{past_of, place_in, rest_of, room, room_enough, section_of, setup_of, sight_of, stage, standing_in, standing_of, the, total, tried, value_of, word_at}
pub use Rattle.ns_word.proofs.Enters.{are_some}
pub use Rattle.std.proofs.Common.{arith, eqb, false, rules, subst, sym, to_z-of_z}
pub use Rattle.std.proofs.lemmas.Bool.{false≢true, lt-leb}
pub use Rattle.std.proofs.lemmas.List.{take_more}
pub use Rattle.std.proofs.lemmas.Option.{slice_get-get_or}
pub use denote.Param.{layout}
pub use lib.ListN.{get_elem?}
pub use mathlib.Core.Option.{some}
pub use mir.Syntax.{Ty}
pub use prog.Atomic.{either}
pub use prog.Memory.{align, size, up}
unfoldable pub use Rattle.ns_objects.specs.Prelude.{is_notified}
