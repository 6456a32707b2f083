-- The names that proofs cite, of specs and of what stands below, passed on from one place. Declares nothing.
pub use Rattle.ns_model.specs.Beginnings.{BeginsWith}
pub use Rattle.ns_model.specs.Counted.{is_counted}
pub use Rattle.ns_model.specs.Counters.{IsLegalCounter, IsLegalCounterEvent, counter_after, counter_next, first_counter, judged, most, rises_after_wait, sum_of}
pub use Rattle.ns_model.specs.Courses.{IsLegalFrom}
pub use Rattle.ns_model.specs.Environments.{EnvStanding, IsEnvBySeats, IsLegalEnv, IsLegalEnvEvent, IsLegalEnvFrom, IsMade, IsNotified, NoteStanding, ParentFits, but_at, clock_of, earlier, earliest, env_after, env_from, env_next, env_own, env_who, expiry_in, first_env, from_parent, is_due, is_made}
pub use Rattle.ns_model.specs.Environments.{is_over, line, line_of, made_note, notified_in, notified_note, takes_in}
pub use Rattle.ns_model.specs.Histories.{IsLegal, IsLegalEvent, Standing, first_standing, phase_next, row_next, standing_after, standing_from, standing_next}
pub use Rattle.ns_model.specs.Lines.{IsLeftAt}
pub use Rattle.ns_model.specs.Meanings.{AnswersRightly, IsCourseOfOnce, added, added_by, is_begun, is_ran}
pub use Rattle.ns_model.specs.Onces.{IsLegalOnce, IsLegalOnceEvent, is_done, once_after, once_next}
pub use Rattle.ns_model.specs.Phases.{count_seats}
pub use Rattle.ns_model.specs.Room.{HasRoom, room, small_by}
pub use Rattle.ns_model.specs.Seats.{is_in, seats_in}
pub use Rattle.ns_model.specs.Sections.{EntryFits}
pub use Rattle.ns_model.specs.Tallies.{Every, one_if, total}
pub use Rattle.ns_model.specs.contracts.event.Event.{the_row as event_row}
pub use Rattle.ns_model.specs.declared.counter.CounterEvent.{CounterEvent}
pub use Rattle.ns_model.specs.declared.counter.CounterEvent.TheVariants.{Add, Begun}
pub use Rattle.ns_model.specs.declared.counter.CounterFault.{CounterFault}
pub use Rattle.ns_model.specs.declared.counter.CounterFault.TheVariants.{AfterWait, Over, Under}
pub use Rattle.ns_model.specs.declared.counter.CounterState.{CounterState}
pub use Rattle.ns_model.specs.declared.cvs.Variables.{Variables}
pub use Rattle.ns_model.specs.declared.environment.EnvEvent.{EnvEvent}
pub use Rattle.ns_model.specs.declared.environment.EnvEvent.TheVariants.{Advance, New, Notify, Take}
pub use Rattle.ns_model.specs.declared.event.Answer.{Answer}
pub use Rattle.ns_model.specs.declared.event.Entry.TheVariants.{AfterCv, Plain, Waited}
pub use Rattle.ns_model.specs.declared.event.Event.{Event}
pub use Rattle.ns_model.specs.declared.event.Mode.{Mode}
pub use Rattle.ns_model.specs.declared.once.OnceEvent.{OnceEvent}
pub use Rattle.ns_model.specs.declared.once.OnceEvent.TheVariants.{Began, Ran}
pub use Rattle.ns_model.specs.declared.once.OnceState.{OnceState}
pub use Rattle.ns_model.specs.declared.once.OnceState.TheVariants.{Done, Running, Unused}
pub use Rattle.ns_model.specs.declared.phase.Phase.{Phase}
pub use Rattle.ns_model.specs.declared.phase.Phase.TheVariants.{Cond, Idle, Left, Woken}
pub use Rattle.ns_model.specs.declared.seats.Seats.{Seats}
pub use Rattle.std.proofs.Common.{arith, inl, inr, le-ltb, lt-ltb, ne_eqb, refl, sym, take, w64, w8}
pub use Rattle.std.proofs.Math.Bool.{or-false, or-true}
pub use Rattle.std.proofs.lemmas.Bool.{cases_eq, cases_lt, false≢true, or_cases, or_left, or_right}
pub use Rattle.std.proofs.lemmas.Grind.{common_steps}
pub use Rattle.std.proofs.lemmas.Int.{ints}
pub use Rattle.std.proofs.lemmas.List.{take_more}
pub use Rattle.std.proofs.lemmas.List.Elements.{filter-append}
pub use Rattle.std.proofs.lemmas.List.Sums.{fold_more}
pub use Rattle.std.proofs.lemmas.Nat.Bits.{bit_at-lt, bit_at-pow_other, bit_at-pow_same, bit_at-zero, bit_at_or, bit_at_set_other, bit_at_set_same, same_from_bits}
pub use Rattle.std.specs.Int.{Width, bit_at}
pub use Rattle.std.specs.List.{list_any}
pub use Rattle.std.specs.Mem.{FitsInMemory}
pub use denote.Param.{copied, layout, number, param}
pub use denote.RattleType.{RattleType}
pub use lib.ListN.{get_elem?}
pub use mathlib.Core.Logic.{dite}
pub use mathlib.Core.Option.{some, some-injective, some-ne-none}
pub use mir.Val.{bits}
pub use native.Mathlib.Decide.{ℕ_discrete}
unfoldable pub use Rattle.ns_model.specs.Environments.{expiry_of, is_notified}
unfoldable pub use Rattle.ns_model.specs.Phases.{count_below}
