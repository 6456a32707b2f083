-- A call on the clock and the notes stays what it was asked, a step takes it on, and what others do leaves it where it is.
use Rattle.std.proofs.Common.{Bool, IfSome, List, None, Option, Some, [], ap, append-nil, arith, cond, false, min, nat_lt, refl, slice_get, subst, sym, true, ℕ, ◌++◌, ◌∷◌, ◌≡◌, ◌≤◌}
use Rattle.std.proofs.lemmas.Bool.Decides.{nat_tests}
use Rattle.ns_env.specs.Prelude.{Advance, Advancing, BeginsWith, Chain, ChainFits, Clock, ClockLoad, Done, EnvCourse, EnvEnd, EnvEvent, EnvFound, EnvGoes, EnvHasDone, EnvPlain, EnvRequest, EnvSoFar, EnvState, EnvStep, EnvWalk, Expiry, ExpiryLoad, ForIsNotified, ForLook, ForNoteWait, Idle, Is}
use Rattle.ns_env.specs.Prelude.{IsBetween, IsFirstAsk, IsLawfulEnv, LookOver, MakeNote, New, Next, NextLoad, NextNumber, Note, NoteLoad, NoteStanding, NotesFull, Notify, Notifying, On, Over, Stored, Take, TakeNumber, Taken, asked_by, chain_note, earlier, env_asked_of, env_course_after}
use Rattle.ns_env.specs.Prelude.{env_course_at, env_got_of, env_want_of, expiry_of, is_over, lowered_to, outcome, place_after, standing_of, state_of, takes_in, up_to}
use Rattle.ns_model.proofs.Beginnings.{begins_itself, begins_through}
use Rattle.ns_env.proofs.Chains.{chain_answers, chain_begins}
use Rattle.ns_env.proofs.Looks.{expiry_is}
use Rattle.ns_env.proofs.Ways.{at_next, at_stop, either}
use Rattle.ns_env.specs.declared.request.EnvRequest.TheVariants as TheRequest

-- ---- what a call was asked to do stays

-- it goes on as it was asked, if it goes on
abbrev GoesAsAsked : EnvRequest → Next EnvWalk EnvEnd → Type 0
GoesAsAsked request next = IfSome (place_after next) (λ walk. env_asked_of walk ≡ request)

-- a chain goes on to the next note as the same chain
up_asks : (chain : Chain) (clock : ℕ) (note : Option ℕ) → GoesAsAsked (asked_by chain) (up_to chain clock note)
up_asks chain clock note = at_next (GoesAsAsked (asked_by chain)) (λ _. tt) (λ _. tt) chain clock note refl (λ _ _. refl)

-- an expiry goes on to the next note as the expiry of the note that was asked
lowered_asks : (asked : ℕ) (note least : Option ℕ) → GoesAsAsked (TheRequest.Expiry asked) (lowered_to asked note least)
lowered_asks asked None least = tt
lowered_asks asked (Some note) least = refl

-- whatever its step found, a call goes on as it was asked
asks_on : (walk : EnvWalk) (found : EnvFound) → GoesAsAsked (env_asked_of walk) (env_got_of walk found)
asks_on (NextLoad parent deadline) (NextNumber next) = either (GoesAsAsked (TheRequest.NewNote parent deadline)) (nat_lt next 64) refl tt
asks_on (TakeNumber parent deadline) (Taken number) = either (GoesAsAsked (TheRequest.NewNote parent deadline)) (nat_lt number 64) refl tt
asks_on (MakeNote note parent deadline) Stored = tt
asks_on (Notifying note) Stored = tt
asks_on (Advancing moment) Stored = tt
asks_on (ClockLoad chain) (Clock clock) = up_asks chain clock (chain_note chain)
asks_on (NoteLoad chain clock at) (Note note) = either (GoesAsAsked (asked_by chain)) (is_over clock (standing_of note)) (at_stop (GoesAsAsked (asked_by chain)) (λ _. tt) (λ _. tt) chain) (up_asks chain clock note.parent)
asks_on (ExpiryLoad asked at least) (Note note) = lowered_asks asked note.parent (earlier least note.deadline)
asks_on walk found = refl

-- No step of a call changes what it was asked to do.
pub env_asked_stays : (walk next : EnvWalk) (found : EnvFound) → place_after (env_got_of walk found) ≡ Some next → env_asked_of next ≡ env_asked_of walk
env_asked_stays walk next found e = subst (λ (goes : Option EnvWalk). IfSome goes (λ place. env_asked_of place ≡ env_asked_of walk)) e (asks_on walk found)

-- ---- a call begins, and others go on

-- A call has done nothing as it begins.
pub begins_course : (events : List EnvEvent) (notes : ℕ → NoteStanding) (seat : ℕ) (walk : EnvWalk) → IsFirstAsk notes walk → EnvSoFar events seat (env_course_at events) walk
begins_course events notes seat walk first = record { since = begins_itself events; done = nothing walk first } where
  nothing : (walk : EnvWalk) → IsFirstAsk notes walk → EnvHasDone events seat (env_course_at events) walk
  nothing (MakeNote note parent deadline) p = absurd p
  nothing (NoteLoad chain clock note) p = absurd p
  nothing other p = refl

-- what a history begins with, it begins with when it has grown
begins_on : (events more front : List EnvEvent) → BeginsWith events front → BeginsWith (events ++ more) front
begins_on events more front begins = begins_through (events ++ more) events front (more, refl) begins

-- where a chain stands at a note doesn't depend on what happens later
stands_on : (point now later : List EnvEvent) (chain : Chain) (clock note : ℕ) → ChainFits point now chain (On (NoteLoad chain clock note)) → ChainFits point later chain (On (NoteLoad chain clock note))
stands_on point now later (ForLook limits) clock note fits = fits
stands_on point now later other clock note fits = fits

-- it is the chain that it goes on as
same_chain : (point now : List EnvEvent) (next chain : Chain) (clock at : ℕ) → next ≡ chain → ChainFits point now chain (On (NoteLoad next clock at)) → ChainFits point now next (On (NoteLoad next clock at))
same_chain point now next chain clock at same fits = subst (λ c. ChainFits point now c (On (NoteLoad next clock at))) (sym same) fits

-- what a call has done at its place doesn't depend on what happens later
done_on : (events more : List EnvEvent) (seat : ℕ) (course : EnvCourse) (walk : EnvWalk) → EnvHasDone events seat course walk → EnvHasDone (events ++ more) seat course walk
done_on events more seat course (NoteLoad chain clock note) done =
    let so = done.1 in
    (done.0, (so.0, (so.1.0, begins_on events more so.0 so.1.1), stands_on so.0 events (events ++ more) chain clock note so.2))
done_on events more seat course other done = done

-- What others do leaves a call where it is.
pub others_leave_course : (events more : List EnvEvent) (seat : ℕ) (course : EnvCourse) (walk : EnvWalk) → EnvSoFar events seat course walk → EnvSoFar (events ++ more) seat course walk
others_leave_course events more seat course walk so_far = record { since = begins_on events more course.before so_far.since; done = done_on events more seat course walk so_far.done }

-- ---- where a load leads a call that has done nothing yet

module _ (now : List EnvEvent) (seat : ℕ) (course : EnvCourse) (since : BeginsWith now course.before) (none : course.events ≡ []) where
  -- a call goes on to a place that is one of what it was asked, and that tells what it has done
  goes_to : (request : EnvRequest) (walk : EnvWalk) → env_asked_of walk ≡ request → EnvHasDone now seat course walk → EnvGoes now seat request course (On walk)
  goes_to request walk asked done = record { asked = asked; so_far = record { since = since; done = done } }

  -- with a number left it goes on to take one; else all 64 are taken
  left_goes : (next : ℕ) (parent deadline : Option ℕ) (b : Bool) → nat_lt next 64 ≡ b → takes_in now ≡ min next 64 →
      EnvGoes now seat (TheRequest.NewNote parent deadline) course (cond b (On (TakeNumber parent deadline)) (Done (Over NotesFull)))
  left_goes next parent deadline true low takes = goes_to (TheRequest.NewNote parent deadline) (TakeNumber parent deadline) refl none
  left_goes next parent deadline false high takes = (none, (let most : 64 ≤ next = grind (arith, nat_tests) in omega (arith, most, takes)))

  module _ (point : List EnvEvent) (between : IsBetween course.before point now) where
    -- what a chain has come to is what its answer means: that its note is notified by now; or that it wasn't at the point at which the clock was loaded; or it goes on
    chain_goes : (chain : Chain) (next : Next EnvWalk EnvEnd) → ChainFits point now chain next → EnvGoes now seat (asked_by chain) course next
    chain_goes (ForLook limits) (Done (LookOver cause)) fits = (none, (point, between, fits))
    chain_goes (ForIsNotified note) (Done (Over (Is true))) fits = (none, (now, (since, begins_itself now), fits))
    chain_goes (ForIsNotified note) (Done (Over (Is false))) fits = (none, (point, between, fits))
    chain_goes (ForNoteWait note deadline) (Done (Over (Is true))) fits = (none, (now, (since, begins_itself now), fits))
    chain_goes (ForNoteWait note deadline) (Done (Over (Is false))) fits = (none, (point, between, fits))
    chain_goes (ForNoteWait note deadline) (Idle (ClockLoad chain)) fits = goes_to (TheRequest.NoteWait note deadline) (ClockLoad chain) (ap asked_by fits.0) none
    chain_goes chain (On (NoteLoad chain' clock at)) fits = goes_to (asked_by chain) (NoteLoad chain' clock at) (ap asked_by fits.0) (none, (point, between, same_chain point now chain' chain clock at fits.0 fits))
    chain_goes chain next fits = absurd fits

  -- an expiry goes on to what is above, or answers what is the expiry
  lowered_goes : (asked : ℕ) (above least : Option ℕ) → ((answer : Option ℕ) → lowered_to asked above least ≡ Done (Over (Expiry answer)) → answer ≡ expiry_of now asked) →
      EnvGoes now seat (TheRequest.Expiry asked) course (lowered_to asked above least)
  lowered_goes asked None least answers = (none, answers least refl)
  lowered_goes asked (Some note) least answers = goes_to (TheRequest.Expiry asked) (ExpiryLoad asked note least) refl none

-- ---- the step

-- a step by which nothing happens leaves the history and the course as they are
goes_quiet : (events : List EnvEvent) (seat : ℕ) (request : EnvRequest) (course : EnvCourse) (next : Next EnvWalk EnvEnd) → EnvGoes events seat request course next → EnvGoes (events ++ []) seat request (env_course_after [] course) next
goes_quiet events seat request course next goes =
    subst (λ (z : List EnvEvent × List EnvEvent). EnvGoes z.0 seat request (record { before = course.before; events = z.1 }) next) (λ i. (sym (append-nil events) i, sym (append-nil course.events) i)) goes

module _ (events : List EnvEvent) (plain : EnvPlain) (askings : List (Option EnvWalk)) (seat : ℕ) (course : EnvCourse) (lawful : IsLawfulEnv events (record { plain = plain; askings = askings })) where
  -- a number that was taken is to get its note; past the last there is none
  taken_goes : (parent deadline : Option ℕ) (b : Bool) → nat_lt plain.next 64 ≡ b → EnvSoFar events seat course (TakeNumber parent deadline) →
      EnvGoes (events ++ cond b (Take seat plain.next ∷ []) []) seat (TheRequest.NewNote parent deadline) (env_course_after (cond b (Take seat plain.next ∷ []) []) course) (cond b (On (MakeNote plain.next parent deadline)) (Done (Over NotesFull)))
  taken_goes parent deadline true low so_far = record {
    asked = refl;
    so_far = record { since = begins_on events (Take seat plain.next ∷ []) course.before so_far.since; done = ap (λ es. es ++ Take seat plain.next ∷ []) so_far.done };
  }
  taken_goes parent deadline false high so_far =
      goes_quiet events seat (TheRequest.NewNote parent deadline) course (Done (Over NotesFull)) (left_goes events seat course so_far.since so_far.done plain.next parent deadline false high lawful.lawful.meets.takes)

  -- each place, with what its step finds
  takes_on : (walk : EnvWalk) → slice_get askings seat ≡ Some (Some walk) → EnvSoFar events seat course walk →
      EnvGoes (events ++ (outcome seat (env_want_of walk) plain).events) seat (env_asked_of walk) (env_course_after (outcome seat (env_want_of walk) plain).events course) (env_got_of walk (outcome seat (env_want_of walk) plain).found)
  takes_on (NextLoad parent deadline) walks so_far =
      goes_quiet events seat (TheRequest.NewNote parent deadline) course _ (left_goes events seat course so_far.since so_far.done plain.next parent deadline (nat_lt plain.next 64) refl lawful.lawful.meets.takes)
  takes_on (TakeNumber parent deadline) walks so_far = taken_goes parent deadline (nat_lt plain.next 64) refl so_far
  takes_on (MakeNote note parent deadline) walks so_far = ap (λ es. es ++ New seat note parent deadline ∷ []) so_far.done
  takes_on (Notifying note) walks so_far = ap (λ es. es ++ Notify seat note ∷ []) so_far.done
  takes_on (Advancing moment) walks so_far = ap (λ es. es ++ Advance seat moment ∷ []) so_far.done
  takes_on (ClockLoad chain) walks so_far =
      goes_quiet events seat (asked_by chain) course _
      (chain_goes events seat course so_far.since so_far.done events (so_far.since, begins_itself events) chain _ (chain_begins events (record { plain = plain; askings = askings }) seat chain lawful walks))
  takes_on (NoteLoad chain clock at) walks so_far =
      let so = so_far.done.1 in
      goes_quiet events seat (asked_by chain) course _
      (chain_goes events seat course so_far.since so_far.done.0 so.0 so.1 chain _
      (chain_answers so.0 events (record { plain = plain; askings = askings }) chain clock at (state_of (plain.notes at)) lawful so.1.1 so.2 refl))
  takes_on (ExpiryLoad asked at least) walks so_far =
      goes_quiet events seat (TheRequest.Expiry asked) course _
      (lowered_goes events seat course so_far.since so_far.done asked (plain.notes at).parent (earlier least (plain.notes at).deadline)
      (λ answer over. expiry_is events (record { plain = plain; askings = askings }) seat asked at least answer (state_of (plain.notes at)) lawful walks refl over))

-- A step takes its call on, or its answer means what it says.
pub step_takes_on : (events more : List EnvEvent) (old new : EnvState) (seat : ℕ) (found : EnvFound) (course : EnvCourse) (step : EnvStep old seat found new more) → IsLawfulEnv events old → EnvSoFar events seat course step.walk →
    EnvGoes (events ++ more) seat (env_asked_of step.walk) (env_course_after more course) (env_got_of step.walk found)
step_takes_on events more old new seat found course step lawful so_far =
    let e = step.effect in
    subst (λ (z : List EnvEvent × EnvFound). EnvGoes (events ++ z.0) seat (env_asked_of step.walk) (env_course_after z.0 course) (env_got_of step.walk z.1)) (λ i. (sym e.events_are i, sym e.found_is i))
    (takes_on events old.plain old.askings seat course lawful step.walk step.walks so_far)
