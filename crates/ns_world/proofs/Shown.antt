-- What the looks of a wait have shown, over plain data.
use Rattle.std.proofs.Common.{List, None, Option, Some, ap, refl, subst, sym, ℕ, ◌++◌, ◌∙◌, ◌≡◌}
use Rattle.ns_world.proofs.Prelude.{Any, AtSomePoint, BeginsWith, Cause, ClockLoad, EnvCourse, EnvEvent, EnvRequest, EnvSoFar, EnvWalk, ForLook, IsFirstAsk, Limits, LookFits, LookMeans, NoteLoad, NoteStanding, OnVariables, Request, Shows, Subject, Walk, WasShown, asked_of, begins}
use Rattle.ns_world.proofs.Prelude.{begins_course, begins_through, env_asked_of, env_course_at, limits_for, limits_of, looked_shows, looks_at, others_leave_course, want_of}
use Rattle.ns_world.proofs.Looking.{looks_asked}
use Rattle.ns_env.specs.declared.request.EnvRequest.TheVariants as TheEnvRequest

-- what a history begins with, it begins with when it has grown
pub begins_on : {A : Type 0} (front now more : List A) → BeginsWith now front → BeginsWith (now ++ more) front
begins_on front now more begins = begins_through (now ++ more) now front (more, refl) begins

-- what was so at some point was so at some point when more has happened
some_point_on : (earlier now more : List EnvEvent) (P : List EnvEvent → Type 0) → AtSomePoint earlier now P → AtSomePoint earlier (now ++ more) P
some_point_on earlier now more P so = (so.0, (so.1.0, begins_on so.0 now more so.1.1), so.2)

pub shown_on : (earlier now more : List EnvEvent) (limits : Option Limits) (looked : Option (Option Cause)) → WasShown earlier now limits looked → WasShown earlier (now ++ more) limits looked
shown_on earlier now more limits None shown = tt
shown_on earlier now more None (Some cause) shown = tt
shown_on earlier now more (Some limits) (Some cause) shown = some_point_on earlier now more (Shows limits cause) shown

-- the limits of what was asked, if it has any by which it looks itself, are these
abbrev pub Says : Option Limits → Limits → Type 0
Says None limits = Unit {0}
Says (Some by) limits = by ≡ limits

says_for : {C : Type 0} (on : Subject C) (by limits : Limits) → by ≡ limits → Says (limits_for on by) limits
says_for (OnVariables (Any cvs)) by limits e = tt
says_for other by limits e = e

pub shown_so : (earlier now : List EnvEvent) (o : Option Limits) (limits : Limits) (cause : Option Cause) → Says o limits → AtSomePoint earlier now (Shows limits cause) → WasShown earlier now o (Some cause)
shown_so earlier now None limits cause says so = tt
shown_so earlier now (Some by) limits cause says so = subst (λ l. AtSomePoint earlier now (Shows l cause)) (sym says) so

-- what a look of a wait has come to that is under way, and began after the wait
abbrev pub LookSoFar : List EnvEvent → ℕ → List EnvEvent → EnvWalk → Type 0
LookSoFar earlier seat events place = (course : EnvCourse) × BeginsWith course.before earlier × EnvSoFar events seat course place

pub look_on : (earlier : List EnvEvent) (seat : ℕ) (events more : List EnvEvent) (place : EnvWalk) → LookSoFar earlier seat events place → LookSoFar earlier seat (events ++ more) place
look_on earlier seat events more place so = (so.0, so.1, others_leave_course events more seat so.0 place so.2)

-- a look that begins now
pub look_begins : (earlier : List EnvEvent) (seat : ℕ) (events : List EnvEvent) (notes : ℕ → NoteStanding) (place : EnvWalk) → BeginsWith events earlier → IsFirstAsk notes place → LookSoFar earlier seat events place
look_begins earlier seat events notes place since first = (env_course_at events, since, begins_course events notes seat place first)

-- ---- a look

-- what a look goes by is what may end the wait that was asked
pub limits_are : {C : Type 0} (walk : Walk C) (request : Request C) (limits : Limits) → asked_of walk ≡ request → looks_at (want_of walk) ≡ Some limits → Says (limits_of request) limits
limits_are walk request limits asked e =
    let found = looks_asked walk limits e in
    subst (λ r. Says (limits_of r) limits) (sym (sym asked ∙ found.1)) (says_for found.0.on found.0.limits limits found.2)

pub place_asks : (limits : Limits) (place : EnvWalk) → LookFits limits place → env_asked_of place ≡ TheEnvRequest.Look limits
place_asks limits (ClockLoad (ForLook by)) fits = ap TheEnvRequest.Look fits
place_asks limits (NoteLoad (ForLook by) clock note) fits = ap TheEnvRequest.Look fits.0
place_asks limits place fits = absurd fits

-- a look that began after the wait shows what was so at some point of the wait
pub look_means : (earlier events : List EnvEvent) (course : EnvCourse) (limits : Limits) (asked : EnvRequest) (cause : Option Cause) → asked ≡ TheEnvRequest.Look limits → BeginsWith course.before earlier → LookMeans events asked course cause → AtSomePoint earlier events (Shows limits cause)
look_means earlier events course limits asked cause is since means =
    let looked = subst (λ r. LookMeans events r course cause) is means in
    let so = looked_shows limits cause course.before events looked.1 in
    (so.0, (begins_through so.0 course.before earlier so.1.0 since, so.1.1), so.2)
