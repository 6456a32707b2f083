-- The names of crates below and of this crate's own types, passed on from one place. Declares nothing.
pub use Rattle.ns_env.specs.declared.act.EnvAct.{EnvAct}
pub use Rattle.ns_env.specs.declared.act.EnvAct.TheVariants.{LoadClock, LoadNext, LoadNote, MoveClock, NotifyNote, StoreNote, TakeNext}
pub use Rattle.ns_env.specs.declared.act.EnvFound.{EnvFound}
pub use Rattle.ns_env.specs.declared.act.EnvFound.TheVariants.{Clock, NextNumber, Note, Stored, Taken}
pub use Rattle.ns_env.specs.declared.limits.Cause.{Cause}
pub use Rattle.ns_env.specs.declared.limits.Cause.TheVariants.{Expired, Notified}
pub use Rattle.ns_env.specs.declared.limits.Limits.{Limits}
pub use Rattle.ns_env.specs.declared.next.Next.{Next}
pub use Rattle.ns_env.specs.declared.next.Next.TheVariants.{Done, Idle, On}
pub use Rattle.ns_env.specs.declared.note.NoteWord.{NoteWord}
pub use Rattle.ns_env.specs.declared.reply.EnvReply.{EnvReply}
pub use Rattle.ns_env.specs.declared.reply.EnvReply.TheVariants.{Expiry, Is, NotesFull, Number, Succeeded}
pub use Rattle.ns_env.specs.declared.request.EnvRequest.{EnvRequest}
pub use Rattle.ns_env.specs.declared.view.EnvView.{EnvView}
pub use Rattle.ns_env.specs.declared.view.Making.{Making}
pub use Rattle.ns_env.specs.declared.view.Making.TheVariants.{Adding, Nothing}
pub use Rattle.ns_env.specs.declared.walk.Chain.{Chain}
pub use Rattle.ns_env.specs.declared.walk.Chain.TheVariants.{ForIsNotified, ForLook, ForNoteWait}
pub use Rattle.ns_env.specs.declared.walk.EnvEnd.{EnvEnd}
pub use Rattle.ns_env.specs.declared.walk.EnvEnd.TheVariants.{LookOver, Over}
pub use Rattle.ns_env.specs.declared.walk.EnvWalk.{EnvWalk}
pub use Rattle.ns_env.specs.declared.walk.EnvWalk.TheVariants.{Advancing, ClockLoad, ExpiryLoad, MakeNote, NextLoad, NoteLoad, Notifying, TakeNumber}
pub use Rattle.ns_model.specs.Beginnings.{BeginsWith, IsBetween}
pub use Rattle.ns_model.specs.Environments.{EnvStanding, IsEnvBySeats, IsLegalEnv, IsLegalEnvEvent, IsLegalEnvFrom, IsMade, IsNotified, NoteStanding, ParentFits, but_at, clock_of, earlier, env_after, env_from, env_next, env_own, env_who, first_env, is_due, is_over, made_note, no_note, notified_in}
pub use Rattle.ns_model.specs.Environments.{notified_note, takes_in}
pub use Rattle.ns_model.specs.Lines.{IsLeftAt}
pub use Rattle.ns_model.specs.Tallies.{Every, total}
pub use Rattle.ns_model.specs.declared.environment.EnvEvent.{EnvEvent}
pub use Rattle.ns_model.specs.declared.environment.EnvEvent.TheVariants.{Advance, New, Notify, Take}
unfoldable pub use Rattle.ns_model.specs.Environments.{expiry_of, is_notified}
