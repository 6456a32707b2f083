-- The names that proofs cite, of specs and of what stands below, passed on from one place. Declares nothing.
pub use Rattle.ns_counters.specs.Names.{AddExchange, AddLoad, Adding, AtCounter, AtNote, Began, BeginOnce, Begun, Clock, CounterFault, CounterState, Done, DoneLoad, EndOnce, Env, EnvEnd, EnvFound, EnvWalk, ExchangeToAdd, FirstClock, ForIsNotified, Free, Idle, InRound, Is, IsSo, Item, Items}
pub use Rattle.ns_counters.specs.Names.{LoadToAdd, LookCounter, LookOnce, MarkWait, Next, Note, NoteLoad, NoteWord, Number, ObjectAct, ObjectEvent, ObjectFound, ObjectView, ObjectWalk, ObjectWant, On, OnCounterItem, OnEnv, OnNote, OnOnce, OnVariable, OnWord, OnceBegin, OnceEnd, OnceEvent, OnceLoad}
pub use Rattle.ns_counters.specs.Names.{OnceState, Over, Place, Ran, Round, RoundGo, RoundNext, RoundOver, RoundPlace, Running, Setup, Stage, Unused, ValueLoad, WaitClock, WaitLoad, WaitMark, Word, is_in, is_ready}
pub use Rattle.ns_counters.specs.Prelude.{AnswersByRounds, AnyAnswers, AreAsAsked, AreObjectsBySeats, AreThere, AreWordsOf, AtSomeMoment, AtSomePoint, CanAct, EnvPlain, EnvState, HadValue, HasActed, HasLookedUpTo, HasShownNone, HasShownOne, HasWords, HaveShownNothing, InTurn, IsFoundAt, IsInBounds, IsLater}
pub use Rattle.ns_counters.specs.Prelude.{IsLawful, IsLawfulEnv, IsLawfulObjects, IsLegalObjectEvent, IsLegalObjects, IsLow, IsReady, IsWordOf, NoteStanding, ObjectEffect, ObjectGoes, ObjectSoFar, ObjectStanding, ObjectState, Outcome, Past, PlaceFits, RoundFits, RoundShows, RoundSoFar, StepFits}
pub use Rattle.ns_counters.specs.Prelude.{ViewFits, WalkFits, WantFits, WereThere, acted, by_answer, by_begun, by_chain, by_deadline, by_judging, by_round, by_stage, chain_from, counter_of, counter_word, env_after, env_got_of, first_objects, first_words, from_items, from_place, has_run, is_among}
pub use Rattle.ns_counters.specs.Prelude.{is_due, is_there, is_this, is_variable, item_at, items_of, looked, most, object_asked, object_got, object_next, object_place, object_want, object_who, objects_after, objects_from, objects_own, of_counter, of_once, outcome, padded, past_and, place_after}
pub use Rattle.ns_counters.specs.Prelude.{place_in, round_got, round_want, setup_of, stage, stage_of, stage_word, standing_of, state_of, tried, waited_next, walk_in, word_at, word_left, word_of_once}
pub use Rattle.ns_counters.specs.declared.items.Item.TheVariants.{OnCounter}
pub use Rattle.ns_counters.specs.declared.reply.ObjectReply.{ObjectReply}
pub use Rattle.ns_counters.specs.declared.reply.ObjectReply.TheVariants.{Already, Refused}
pub use Rattle.ns_env.proofs.Asks.{set_each}
pub use Rattle.ns_env.proofs.Chains.{chain_answers}
pub use Rattle.ns_env.proofs.Looks.{chain_up}
pub use Rattle.ns_env.proofs.Ways.{both, by_test, either}
pub use Rattle.ns_env.specs.Prelude.{ChainFits, EnvEvent, IsBetween, Meets}
pub use Rattle.ns_model.proofs.Beginnings.{begins_itself, begins_through}
pub use Rattle.ns_model.proofs.Counters.{accepted}
pub use Rattle.ns_model.proofs.Courses.{legal_append}
pub use Rattle.ns_model.proofs.Environments.{but-here, but_cases, legal_begins, made_begins, made_below}
pub use Rattle.ns_model.proofs.Lines.{line_starts}
pub use Rattle.ns_model.proofs.Prelude.{BeginsWith, Every, IsLegalCounterEvent, IsLegalEnv, IsLegalFrom, IsLegalOnceEvent, but_at, clock_of, counter_next, is_done, judged, once_next}
pub use Rattle.ns_model.proofs.Tallies.{every-append, every_map}
pub use Rattle.std.proofs.Math.ListN.{get_or-append}
pub use Rattle.std.proofs.Math.Seq.{drop-cons, take-suc}
pub use Rattle.std.proofs.lemmas.Bool.{or_cases}
pub use Rattle.std.proofs.lemmas.List.{length-replicate}
pub use Rattle.std.proofs.lemmas.List.Elements.{filter-append}
pub use Rattle.std.proofs.lemmas.List.Sums.{fold-append}
pub use Rattle.std.proofs.lemmas.Nat.{and_le_r, or_block, or_disjoint}
pub use Rattle.std.proofs.lemmas.Option.{IfSome_then, get_or_from_slice_get, slice_get_past, slice_get_within}
pub use Rattle.std.specs.List.{list_all, list_any}
pub use lib.Seq.{set-get_or}
