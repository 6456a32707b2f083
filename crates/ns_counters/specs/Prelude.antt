-- The names that contracts, proofs and the crates above cite, passed on from one place. Declares nothing.
pub use Rattle.ns_counters.specs.Acted.{HasActed, IsFoundAt, acted, events_of}
pub use Rattle.ns_counters.specs.Asks.{AreThere, IsLawfulObjects, ObjectEffect, ObjectState, ObjectStep, RoundFits, StepFits, WalkFits, WantFits, is_there, walk_in, word_left}
pub use Rattle.ns_counters.specs.Items.{IsLow, is_among, is_this, is_variable, item_at, items_of, place_in}
pub use Rattle.ns_counters.specs.Lawful.{AreWordsOf, HasWords, IsLawful, IsWordOf, PlaceFits, ViewFits}
pub use Rattle.ns_counters.specs.Made.{AreAsAsked, first_words, padded, setup_of}
pub use Rattle.ns_counters.specs.Meanings.{AnyAnswers, AtSomeMoment, HadValue, HasLookedUpTo, IsReady, ObjectGoes, ObjectSoFar, RoundSoFar, WereThere, object_asked, past_and}
pub use Rattle.ns_counters.specs.Names.{AtSomePoint, EnvEvent, EnvPlain, EnvState, Every, IsLawfulEnv, Meets, NoteStanding, ObjectAct, ObjectEvent, ObjectFound, ObjectView, ObjectWalk, OnCounter, Setup, env_after, env_got_of, is_due, most, place_after, standing_of, state_of}
pub use Rattle.ns_counters.specs.Objects.{AreObjectsBySeats, IsLegalObjectEvent, IsLegalObjects, ObjectStanding, first_objects, object_next, object_who, objects_after, objects_from, objects_own, of_counter, of_once}
pub use Rattle.ns_counters.specs.RoundWalks.{by_chain, chain_from, from_items, from_place, round_got, round_want}
pub use Rattle.ns_counters.specs.Rounds.{AnswersByRounds, HasShownNone, HasShownOne, HaveShownNothing, InTurn, IsLater, Past, RoundShows}
pub use Rattle.ns_counters.specs.Steps.{CanAct, Outcome, looked, outcome, tried, word_at, word_of_once}
pub use Rattle.ns_counters.specs.Walks.{IsInBounds, by_answer, by_begun, by_deadline, by_judging, by_round, by_stage, has_run, object_got, object_place, object_want, waited_next}
pub use Rattle.ns_counters.specs.Words.{counter_of, counter_word, stage, stage_of, stage_word}
pub use Rattle.ns_model.specs.Counters.{IsLegalCounter, counter_after}
pub use Rattle.ns_model.specs.Onces.{IsLegalOnce, once_after}
