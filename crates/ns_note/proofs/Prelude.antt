-- The names that proofs cite, of specs and of what stands below, passed on from one place. Declares nothing.
pub use Rattle.atomic_table.proofs.Lists.{set_again}
pub use Rattle.ns_env.proofs.Acts.{acted_fits, acted_lawful, has_acted, others_fit}
pub use Rattle.ns_env.proofs.Begins.{new_lawful}
pub use Rattle.ns_env.proofs.Chains.{due_is, not_due_is}
pub use Rattle.ns_env.proofs.Keeps.{adds_most, after_one}
pub use Rattle.ns_env.specs.Prelude.{HasLooked}
pub use Rattle.ns_model.proofs.Beginnings.{begins_itself, begins_through}
pub use Rattle.ns_model.proofs.Environments.{but-here, but-there, env_own-append, expiry_begins, grown_begins, legal_begins, made_begins, made_below, sound_after}
pub use Rattle.ns_model.proofs.Lines.{IsExpiryAt, expiry_goes_on, expiry_starts, height, line_falls, line_goes_on, line_stops, nearer}
pub use Rattle.ns_model.proofs.Tallies.{Others, every_at, every_put, others_both, others_map, others_none, others_of, total_most, total_none, total_set}
pub use Rattle.ns_note.specs.Names.{Expired, Limits}
pub use Rattle.ns_note.specs.Prelude.{Adding, Adds, Allows, Answer, AreNew, AreOfOneHistory, ArePair, AreWordsOf, BeginsWith, CanAct, Canceled, EnvAct, EnvEvent, EnvKnown, EnvPlain, EnvStanding, EnvView, Every, FoundFull, FoundWord, Grows, HasSight, HasTakenNumber, HaveLearned, Holds, IsAtRest}
pub use Rattle.ns_note.specs.Prelude.{IsBetween, IsBySums, IsClockWord, IsEnvBySeats, IsLawful, IsLeftAt, IsLegalEnv, IsMade, IsNoteWord, IsNotified, IsNumberOf, IsOne, IsRuled, IsUnnotified, IsWordAt, Learned, LoadClock, LoadNext, LoadNote, LookAnswers, Making, Me, MoveClock, New, Note}
pub use Rattle.ns_note.specs.Prelude.{NoteStanding, NoteWord, Nothing, NotifyNote, OneActs, OneMakes, ParentFits, StoreNote, TableId, Take, TakeNext, Taken, TimedOut, ViewFits, Views, WaitAnswers, WordFits, acted, adds, but_at, clock_of, deadline_at, deadline_code, earlier, env_after, env_own}
pub use Rattle.ns_note.specs.Prelude.{events_of, first_of, flag, fresh, fresh_plain, fresh_seat, is_adding, is_due, is_over, is_seat, keeps, known, known_of, made_note, note_of, note_stored, notified_note, one_if, outcome, parent_at, parent_code, rest_of, sight_of, standing_of, state_of, takes_in}
pub use Rattle.ns_note.specs.Prelude.{tally, the, total, word_at, word_of}
pub use Rattle.ns_seats.proofs.Meetings.{cuts, glues, learns as joined_learn, meets}
pub use Rattle.ns_seats.proofs.Numbered.{all_new, new_more, none_twice, numbered_count, numbered_first, numbered_rest}
pub use Rattle.ns_seats.proofs.Sights.{one_history}
pub use Rattle.ns_seats.proofs.Views.{pair_of}
pub use Rattle.std.proofs.Common.{arith, rules, subst}
pub use Rattle.std.proofs.lemmas.Bool.{cases_eq}
pub use Rattle.std.proofs.lemmas.Bool.Decides.{nat_tests}
pub use Rattle.std.proofs.lemmas.List.{length-replicate}
pub use Rattle.std.proofs.lemmas.Nat.{and_mask}
pub use Rattle.std.specs.Int.Bits.{or_add_and}
pub use lib.ListN.{get_elem?}
pub use mathlib.Core.Option.{some}
unfoldable pub use Rattle.ns_note.specs.Prelude.{is_notified}
