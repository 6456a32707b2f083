-- The names of crates below and of this crate's own types, passed on from one place. Declares nothing.
pub use Rattle.ns_counters.specs.declared.act.ObjectAct.{ObjectAct}
pub use Rattle.ns_counters.specs.declared.act.ObjectAct.TheVariants.{BeginOnce, EndOnce, ExchangeToAdd, LoadToAdd, LookCounter, LookOnce, MarkWait}
pub use Rattle.ns_counters.specs.declared.items.Item.{Item}
pub use Rattle.ns_counters.specs.declared.items.Item.TheVariants.{OnCounter as OnCounterItem, OnNote, OnVariable}
pub use Rattle.ns_counters.specs.declared.items.Items.{Items}
pub use Rattle.ns_counters.specs.declared.object.ObjectEvent.{ObjectEvent}
pub use Rattle.ns_counters.specs.declared.object.ObjectEvent.TheVariants.{OnCounter, OnOnce}
pub use Rattle.ns_counters.specs.declared.object.ObjectView.{ObjectView}
pub use Rattle.ns_counters.specs.declared.object.Place.{Place}
pub use Rattle.ns_counters.specs.declared.object.Place.TheVariants.{Adding, Free, Running}
pub use Rattle.ns_counters.specs.declared.object.Setup.{Setup}
pub use Rattle.ns_counters.specs.declared.reply.ObjectReply.{ObjectReply}
pub use Rattle.ns_counters.specs.declared.reply.ObjectReply.TheVariants.{Already, Number, Refused}
pub use Rattle.ns_counters.specs.declared.round.ObjectFound.{ObjectFound}
pub use Rattle.ns_counters.specs.declared.round.ObjectFound.TheVariants.{Env, Word}
pub use Rattle.ns_counters.specs.declared.round.ObjectWant.{ObjectWant}
pub use Rattle.ns_counters.specs.declared.round.ObjectWant.TheVariants.{OnEnv, OnWord}
pub use Rattle.ns_counters.specs.declared.round.Round.{Round}
pub use Rattle.ns_counters.specs.declared.round.RoundNext.{RoundNext}
pub use Rattle.ns_counters.specs.declared.round.RoundNext.TheVariants.{RoundGo, RoundOver}
pub use Rattle.ns_counters.specs.declared.round.RoundPlace.{RoundPlace}
pub use Rattle.ns_counters.specs.declared.round.RoundPlace.TheVariants.{AtCounter, AtNote, FirstClock}
pub use Rattle.ns_counters.specs.declared.walk.ObjectWalk.{ObjectWalk}
pub use Rattle.ns_counters.specs.declared.walk.ObjectWalk.TheVariants.{AddExchange, AddLoad, DoneLoad, InRound, OnceBegin, OnceEnd, OnceLoad, ValueLoad, WaitClock, WaitLoad, WaitMark}
pub use Rattle.ns_counters.specs.declared.word.Stage.{Stage}
pub use Rattle.ns_counters.specs.declared.word.Stage.TheVariants.{Unused}
pub use Rattle.ns_env.specs.Prelude.{AtSomePoint, BeginsWith, EnvActFits, EnvEffect, EnvEvent, EnvPlain, EnvState, Every, IsBetween, IsLawfulEnv, IsLeftAt, Meets, NextIs, NoteStanding, but_at, clock_of, env_after, env_got_of, is_due, place_after, standing_of, state_of}
pub use Rattle.ns_env.specs.declared.act.EnvAct.{EnvAct}
pub use Rattle.ns_env.specs.declared.act.EnvAct.TheVariants.{LoadClock, LoadNote}
pub use Rattle.ns_env.specs.declared.act.EnvFound.{EnvFound}
pub use Rattle.ns_env.specs.declared.act.EnvFound.TheVariants.{Clock, Note}
pub use Rattle.ns_env.specs.declared.next.Next.{Next}
pub use Rattle.ns_env.specs.declared.next.Next.TheVariants.{Done, Idle, On}
pub use Rattle.ns_env.specs.declared.note.NoteWord.{NoteWord}
pub use Rattle.ns_env.specs.declared.reply.EnvReply.TheVariants.{Is, Is as IsSo}
pub use Rattle.ns_env.specs.declared.walk.Chain.TheVariants.{ForIsNotified}
pub use Rattle.ns_env.specs.declared.walk.EnvEnd.{EnvEnd}
pub use Rattle.ns_env.specs.declared.walk.EnvEnd.TheVariants.{Over}
pub use Rattle.ns_env.specs.declared.walk.EnvWalk.{EnvWalk}
pub use Rattle.ns_env.specs.declared.walk.EnvWalk.TheVariants.{NoteLoad}
pub use Rattle.ns_model.specs.Counters.{IsLegalCounterEvent, counter_next, first_counter, is_ready, judged, most}
pub use Rattle.ns_model.specs.Courses.{IsLegalFrom}
pub use Rattle.ns_model.specs.Cvs.{is_in}
pub use Rattle.ns_model.specs.Onces.{IsLegalOnceEvent, is_done, once_next}
pub use Rattle.ns_model.specs.declared.counter.CounterEvent.{CounterEvent}
pub use Rattle.ns_model.specs.declared.counter.CounterEvent.TheVariants.{Add, Begun}
pub use Rattle.ns_model.specs.declared.counter.CounterFault.{CounterFault}
pub use Rattle.ns_model.specs.declared.counter.CounterState.{CounterState}
pub use Rattle.ns_model.specs.declared.cvs.Cvs.{Cvs}
pub use Rattle.ns_model.specs.declared.once.OnceEvent.{OnceEvent}
pub use Rattle.ns_model.specs.declared.once.OnceEvent.TheVariants.{Began, Ran}
pub use Rattle.ns_model.specs.declared.once.OnceState.{OnceState}
unfoldable pub use Rattle.ns_model.specs.Environments.{is_notified}
