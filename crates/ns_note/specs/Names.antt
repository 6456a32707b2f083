-- The names of crates below and of this crate's own types, passed on from one place. Declares nothing.
pub use Rattle.atomic_table.specs.Seated.{TableId}
pub use Rattle.atomic_table.specs.Table.{Allows, Me, State as TableState, keeps}
pub use Rattle.ns_env.specs.Chains.{HasWaited}
pub use Rattle.ns_env.specs.Names.{total}
pub use Rattle.ns_env.specs.Prelude.{AtSomePoint, BeginsWith, CanAct, EnvEvent, EnvPlain, EnvStanding, Every, HasActed, HasLooked, IsBetween, IsEnvBySeats, IsLawful, IsLeftAt, IsLegalEnv, IsMade, IsNotified, IsUnnotified, New, NoteStanding, ParentFits, Take, ViewFits, acted, adds, but_at, clock_of}
pub use Rattle.ns_env.specs.Prelude.{earlier, env_after, env_own, events_of, fresh_plain, is_due, is_over, made_note, notified_note, outcome, standing_of, state_of, takes_in}
pub use Rattle.ns_env.specs.declared.act.EnvAct.{EnvAct}
pub use Rattle.ns_env.specs.declared.act.EnvAct.TheVariants.{LoadClock, LoadNext, LoadNote, MoveClock, NotifyNote, StoreNote, TakeNext}
pub use Rattle.ns_env.specs.declared.limits.Cause.TheVariants.{Expired, Notified}
pub use Rattle.ns_env.specs.declared.limits.Limits.{Limits}
pub use Rattle.ns_env.specs.declared.note.NoteWord.{NoteWord}
pub use Rattle.ns_env.specs.declared.view.EnvView.{EnvView}
pub use Rattle.ns_env.specs.declared.view.Making.{Making}
pub use Rattle.ns_env.specs.declared.view.Making.TheVariants.{Adding, Nothing, Taken}
pub use Rattle.ns_model.specs.Tallies.{one_if}
pub use Rattle.ns_model.specs.declared.event.Answer.{Answer}
pub use Rattle.ns_model.specs.declared.event.Answer.TheVariants.{Canceled, Met, TimedOut}
pub use Rattle.ns_seats.specs.Meetings.{HaveLearned as HaveLearnedBy, Holds as HoldsBy, IsBySums}
pub use Rattle.ns_seats.specs.Sights.{AreOfOneHistory as AreOfOneHistoryBy, HasSight, Sight}
pub use Rattle.ns_seats.specs.Views.{AreNew as AreNewBy, ArePair, IsOne, Views as ViewsOf, first_of, is_numbered, numbered, rest_of, tally, the_or}
