-- The names that contracts, proofs and the crates above cite, passed on from one place. Declares nothing.
unfoldable pub use Rattle.ns_model.specs.Environments.{is_notified}
pub use Rattle.ns_model.specs.Environments.{expiry_of, is_made}
pub use Rattle.ns_note.specs.Answers.{LookAnswers, WaitAnswers}
pub use Rattle.ns_note.specs.Known.{AreNew, AreOfOneHistory, EnvKnown, Grows, IsAtRest, IsNumberOf, IsTrueToHistory, known, known_of, sight_of, the}
pub use Rattle.ns_note.specs.Law.{AreWordsOf, Holds, IsClockWord, IsNoteWord, IsRuled, IsWordAt, Views, fresh, fresh_seat, is_adding, is_seat, word_at}
pub use Rattle.ns_note.specs.Names.{Adding, Allows, Answer, ArePair, BeginsWith, CanAct, Canceled, EnvAct, EnvEvent, EnvPlain, EnvStanding, EnvView, Every, HasLooked, HasSight, IsBetween, IsBySums, IsEnvBySeats, IsLawful, IsLeftAt, IsLegalEnv, IsMade, IsNotified, IsOne, IsUnnotified, LoadClock}
pub use Rattle.ns_note.specs.Names.{LoadNext, LoadNote, Making, Me, MoveClock, New, NoteStanding, NoteWord, Nothing, NotifyNote, ParentFits, StoreNote, TableId, Take, TakeNext, Taken, TimedOut, ViewFits, acted, adds, but_at, clock_of, earlier, env_after, env_own, events_of, first_of, fresh_plain}
pub use Rattle.ns_note.specs.Names.{is_due, is_over, keeps, made_note, notified_note, one_if, outcome, rest_of, standing_of, state_of, takes_in, tally, total}
pub use Rattle.ns_note.specs.Told.{Adds, FoundFull, FoundWord, HasTakenNumber, HaveLearned, Learned, OneActs, OneMakes, note_stored}
pub use Rattle.ns_note.specs.Words.{WordFits, deadline_at, deadline_code, flag, note_of, parent_at, parent_code, word_of}
pub use Rattle.ns_note.specs.declared.note.Note.{Note}
pub use Rattle.ns_note.specs.declared.table_words.TheConstants.{BELLS, NOTES}
