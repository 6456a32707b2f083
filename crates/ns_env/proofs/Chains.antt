-- A chain answers rightly, whatever others do between its loads.
use Rattle.std.proofs.Common.{IfSome, IsSomeAnd, List, None, Option, Some, cond, false, leb-false, leb-true, refl, slice_get, subst, sym, true, ℕ, ◌<◌, ◌∙◌, ◌≡◌, ◌≤◌}
use Rattle.ns_env.specs.Prelude.{AtSomePoint, BeginsWith, Cause, Chain, ChainFits, Clock, ClockLoad, EnvEvent, EnvState, Expired, ForIsNotified, ForLook, ForNoteWait, HasLooked, IfMade, IsLawfulEnv, IsLeftAt, IsLegalEnv, IsNotified, IsUnnotified, Limits, Note, NoteLoad, NoteStanding, NoteWord}
use Rattle.ns_env.specs.Prelude.{Notified, On, Shows, chain_note, clock_of, env_after, env_got_of, is_due, is_over, passed, standing_of, stopped, up_to}
use Rattle.ns_model.proofs.Beginnings.{begins_itself, begins_through}
use Rattle.ns_model.proofs.Lines.{line_goes_on, line_starts, line_stops}
use Rattle.ns_env.proofs.Looks.{note_is}
use Rattle.ns_env.proofs.Ways.{by_test}

-- a deadline that has come, and one that hasn't
pub due_is : (clock : ℕ) (deadline : Option ℕ) → is_due clock deadline ≡ true → IsSomeAnd deadline (λ d. d ≤ clock)
due_is clock None e = absurd (cc)
due_is clock (Some d) e = leb-true d clock e

pub not_due_is : (clock : ℕ) (deadline : Option ℕ) → is_due clock deadline ≡ false → IfSome deadline (λ d. clock < d)
not_due_is clock None e = tt
not_due_is clock (Some d) e = leb-false d clock e

-- who is given
given_is : (given : Option ℕ) (P : ℕ → Type 0) → IsSomeAnd given P → (asked : ℕ) × (given ≡ Some asked) × P asked
given_is None P p = absurd p
given_is (Some asked) P p = (asked, refl, p)

module _ (point now : List EnvEvent) where
  -- at a note that is over, the chain's note is notified
  stopped_fits : (chain : Chain) (asked : ℕ) → chain_note chain ≡ Some asked → IsNotified now asked → ChainFits point now chain (stopped chain)
  stopped_fits (ForLook limits) asked is e = subst (λ (given : Option ℕ). IsSomeAnd given (IsNotified now)) (sym is) e
  stopped_fits (ForIsNotified note) asked is e = let same : asked ≡ note = cc in subst (IsNotified now) same e
  stopped_fits (ForNoteWait note deadline) asked is e = let same : asked ≡ note = cc in subst (IsNotified now) same e

  -- past the root the chain's note, if it has one, wasn't notified, and the deadline decides
  passed_fits : (chain : Chain) → IsUnnotified point (chain_note chain) → ChainFits point now chain (passed chain (clock_of point))
  passed_fits (ForLook limits) waited =
      by_test (ChainFits point now (ForLook limits)) (is_due (clock_of point) limits.deadline) (λ due. (waited, due_is (clock_of point) limits.deadline due)) (λ early. (waited, not_due_is (clock_of point) limits.deadline early))
  passed_fits (ForIsNotified note) waited = waited
  passed_fits (ForNoteWait note deadline) waited =
      by_test (ChainFits point now (ForNoteWait note deadline)) (is_due (clock_of point) deadline) (λ due. (waited, due_is (clock_of point) deadline due)) (λ early. (refl, waited, not_due_is (clock_of point) deadline early))

  -- it stands at a note, and what that tells
  on_fits : (chain : Chain) (at : ℕ) → IsSomeAnd (chain_note chain) (λ asked. IsLeftAt point asked (Some at)) → ChainFits point now chain (On (NoteLoad chain (clock_of point) at))
  on_fits (ForLook limits) at left = (refl, refl, left)
  on_fits other at left = (refl, refl, left)

  fits_on : (chain : Chain) (clock at : ℕ) → ChainFits point now chain (On (NoteLoad chain clock at)) → (clock ≡ clock_of point) × IsSomeAnd (chain_note chain) (λ asked. IsLeftAt point asked (Some at))
  fits_on (ForLook limits) clock at fits = (fits.1, fits.2)
  fits_on other clock at fits = (fits.1, fits.2)

  -- it goes on to what is above, or passes the root
  up_fits : (chain : Chain) (asked : ℕ) (above : Option ℕ) → chain_note chain ≡ Some asked → IsLeftAt point asked above → ChainFits point now chain (up_to chain (clock_of point) above)
  up_fits chain asked None named left = passed_fits chain (subst (IsUnnotified point) (sym named) left)
  up_fits chain asked (Some at) named left = on_fits chain at (subst (λ (given : Option ℕ). IsSomeAnd given (λ n. IsLeftAt point n (Some at))) (sym named) left)

  -- with the clock loaded, it goes to the chain's note, or has none
  begins_fits : (chain : Chain) (given : Option ℕ) → chain_note chain ≡ given → IfMade (env_after point).notes given → ChainFits point now chain (up_to chain (clock_of point) given)
  begins_fits chain None named made = passed_fits chain (subst (IsUnnotified point) (sym named) tt)
  begins_fits chain (Some note) named made = up_fits chain note (Some note) named (line_starts point note made)

  -- with a note of the line loaded, it stops or goes on
  note_fits : IsLegalEnv now → BeginsWith now point → (chain : Chain) (asked at : ℕ) → chain_note chain ≡ Some asked → IsLeftAt point asked (Some at) →
      ChainFits point now chain (cond (is_over (clock_of point) ((env_after now).notes at)) (stopped chain) (up_to chain (clock_of point) ((env_after now).notes at).parent))
  note_fits legal begins chain asked at named left = by_test (ChainFits point now chain) (is_over (clock_of point) ((env_after now).notes at))
      (λ over. stopped_fits chain asked named (line_stops point now legal begins asked at left over))
      (λ on. up_fits chain asked ((env_after now).notes at).parent named (line_goes_on point now legal begins asked at left on))

-- A chain begins at the clock that it loads.
pub chain_begins : (now : List EnvEvent) (state : EnvState) (seat : ℕ) (chain : Chain) → IsLawfulEnv now state → slice_get state.askings seat ≡ Some (Some (ClockLoad chain)) → ChainFits now now chain (env_got_of (ClockLoad chain) (Clock state.plain.clock))
chain_begins now state seat chain lawful walks =
    subst (λ clock. ChainFits now now chain (up_to chain clock (chain_note chain))) (sym lawful.lawful.meets.clock) (begins_fits now now chain (chain_note chain) refl (lawful.each seat (ClockLoad chain) walks))

-- And it answers of the events before that, or of all until now.
pub chain_answers : (point now : List EnvEvent) (state : EnvState) (chain : Chain) (clock at : ℕ) (note : NoteWord) → IsLawfulEnv now state → BeginsWith now point →
    ChainFits point now chain (On (NoteLoad chain clock at)) → standing_of note ≡ state.plain.notes at → ChainFits point now chain (env_got_of (NoteLoad chain clock at) (Note note))
chain_answers point now state chain clock at note lawful begins fits is =
    let on = fits_on point now chain clock at fits in
    let asked = given_is (chain_note chain) (λ asked. IsLeftAt point asked (Some at)) on.1 in
    let same : standing_of note ≡ (env_after now).notes at = is ∙ note_is now state.plain lawful.lawful.meets at in
    subst (λ (z : ℕ × NoteStanding). ChainFits point now chain (cond (is_over z.0 z.1) (stopped chain) (up_to chain z.0 z.1.parent))) (λ i. (sym on.0 i, sym same i))
    (note_fits point now lawful.lawful.meets.legal begins chain asked.0 at asked.1 asked.2)

-- What a look has found, it shows of some point within it.
pub looked_shows : (limits : Limits) (cause : Option Cause) (before now : List EnvEvent) → HasLooked limits cause before now → AtSomePoint before now (Shows limits cause)
looked_shows limits (Some Notified) before now looked = (now, (begins_through now looked.0 before looked.1.1 looked.1.0, begins_itself now), looked.2)
looked_shows limits (Some Expired) before now looked = looked
looked_shows limits None before now looked = looked
