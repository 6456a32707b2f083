-- The names that contracts, proofs and the crates above cite, passed on from one place. Declares nothing.
pub use Rattle.ns_env.specs.Acted.{HasActed, acted, events_of}
pub use Rattle.ns_env.specs.Asks.{AskFits, EnvActFits, EnvBegins, EnvEffect, EnvState, EnvStep, IfMade, IsFirstAsk, IsLawfulEnv, adders, fresh_asks, looked, making_at, making_of, up_by}
pub use Rattle.ns_env.specs.Chains.{ChainFits, HasLooked, IsUnnotified}
pub use Rattle.ns_env.specs.Lawful.{IsLawful, MakingFits, Meets, ViewFits, adds}
pub use Rattle.ns_env.specs.Meanings.{AtSomePoint, EnvCourse, EnvGoes, EnvHasDone, EnvSoFar, Shows, asked_by, env_asked_of, env_course_after, env_course_at}
pub use Rattle.ns_env.specs.Names.{Adding, Advance, Advancing, BeginsWith, Cause, Chain, Clock, ClockLoad, Done, EnvAct, EnvEnd, EnvEvent, EnvFound, EnvRequest, EnvStanding, EnvView, EnvWalk, Every, Expired, Expiry, ExpiryLoad, ForIsNotified, ForLook, ForNoteWait, Idle, Is, IsBetween, IsEnvBySeats}
pub use Rattle.ns_env.specs.Names.{IsLeftAt, IsLegalEnv, IsLegalEnvEvent, IsLegalEnvFrom, IsMade, IsNotified, Limits, LoadClock, LoadNext, LoadNote, LookOver, MakeNote, Making, MoveClock, New, Next, NextLoad, NextNumber, Note, NoteLoad, NoteStanding, NoteWord, NotesFull, Nothing, Notified, Notify}
pub use Rattle.ns_env.specs.Names.{NotifyNote, Notifying, On, Over, ParentFits, StoreNote, Stored, Take, TakeNext, TakeNumber, Taken, but_at, clock_of, earlier, env_after, env_from, env_next, env_own, env_who, first_env, is_due, is_over, made_note, notified_in, notified_note, takes_in}
pub use Rattle.ns_env.specs.Nexts.{NextIs, place_after}
pub use Rattle.ns_env.specs.Notes.{standing_of, state_of}
pub use Rattle.ns_env.specs.Steps.{CanAct, EnvPlain, Outcome, fresh_plain, loaded, making_after, outcome}
pub use Rattle.ns_env.specs.Walks.{chain_note, env_got_of, env_want_of, lowered_to, passed, stopped, up_to}
unfoldable pub use Rattle.ns_model.specs.Environments.{expiry_of, is_notified}
