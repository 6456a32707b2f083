-- What the answer of a call on the clock and the notes means, and how far such a call has come at each of its places.
use Rattle.std.specs.Prelude.{List, Option, [], ℕ, ◌++◌, ◌∷◌, ◌≡◌}
use Rattle.ns_env.specs.Names.{Advance, Advancing, BeginsWith, Cause, Chain, ClockLoad, EnvEnd, EnvEvent, EnvReply, EnvRequest, EnvWalk, Expiry, ExpiryLoad, ForIsNotified, ForLook, ForNoteWait, Is, IsBetween, Limits, LookOver, MakeNote, New, Next, NextLoad, NoteLoad, NotesFull, Notify, Notifying}
use Rattle.ns_env.specs.Names.{Number, On, Over, Succeeded, Take, TakeNumber, expiry_of, is_notified, takes_in}
use Rattle.ns_env.specs.Chains.{ChainFits, HasFound, HasLooked, HasWaited}
use Rattle.ns_env.specs.Nexts.{NextIs}
use Rattle.ns_env.specs.declared.request.EnvRequest.TheVariants as TheRequest

-- ---- what was asked

-- what the call of a chain was asked to do
abbrev pub asked_by : Chain → EnvRequest
asked_by (ForLook limits) = TheRequest.Look limits
asked_by (ForIsNotified note) = TheRequest.IsNotified note
asked_by (ForNoteWait note deadline) = TheRequest.NoteWait note deadline

-- what a call was asked to do, by its place
abbrev pub env_asked_of : EnvWalk → EnvRequest
env_asked_of (NextLoad parent deadline) = TheRequest.NewNote parent deadline
env_asked_of (TakeNumber parent deadline) = TheRequest.NewNote parent deadline
env_asked_of (MakeNote note parent deadline) = TheRequest.NewNote parent deadline
env_asked_of (Notifying note) = TheRequest.Notify note
env_asked_of (Advancing moment) = TheRequest.Advance moment
env_asked_of (ClockLoad chain) = asked_by chain
env_asked_of (NoteLoad chain clock note) = asked_by chain
env_asked_of (ExpiryLoad asked note least) = TheRequest.Expiry asked

-- ---- what an answer means

-- The course of a call: what had happened to the clock and the notes as it began, and what it has done to them since.
pub record EnvCourse : Type 0 where
  pub before : List EnvEvent
  pub events : List EnvEvent

-- a call that has made no step yet
abbrev pub env_course_at : List EnvEvent → EnvCourse
env_course_at now = record { before = now; events = [] }

-- the course after a step of the call's own that is these events
abbrev pub env_course_after : List EnvEvent → EnvCourse → EnvCourse
env_course_after more course = record { before = course.before; events = course.events ++ more }

-- at some point between the beginning of the call and now
abbrev pub AtSomePoint : List EnvEvent → List EnvEvent → (List EnvEvent → Type 0) → Type 0
AtSomePoint before now P = (point : List EnvEvent) × IsBetween before point now × P point

-- what a look by these limits shows of one point: what it finds there
abbrev pub Shows : Limits → Option Cause → List EnvEvent → Type 0
Shows limits cause point = HasFound limits cause point point

-- What an answer means, of what has happened to the clock and the notes by now. A new note has the parent and the deadline that were asked, and the number that its caller took; where there is none,
-- all 64 are taken. Who notifies or advances does just that. What is asked of a note was so at some point of the call; and its expiry is as it stands.
abbrev pub EnvMeans : List EnvEvent → ℕ → EnvRequest → EnvCourse → EnvReply → Type 0
EnvMeans now seat (TheRequest.NewNote parent deadline) course (Number note) = course.events ≡ Take seat note ∷ New seat note parent deadline ∷ []
EnvMeans now seat (TheRequest.NewNote parent deadline) course NotesFull = (course.events ≡ []) × (takes_in now ≡ 64)
EnvMeans now seat (TheRequest.Notify note) course Succeeded = course.events ≡ Notify seat note ∷ []
EnvMeans now seat (TheRequest.Advance moment) course Succeeded = course.events ≡ Advance seat moment ∷ []
EnvMeans now seat (TheRequest.IsNotified note) course (Is answer) = (course.events ≡ []) × AtSomePoint course.before now (λ point. is_notified point note ≡ answer)
EnvMeans now seat (TheRequest.NoteWait note deadline) course (Is answer) = (course.events ≡ []) × AtSomePoint course.before now (HasWaited note deadline answer)
EnvMeans now seat (TheRequest.Expiry note) course (Expiry answer) = (course.events ≡ []) × (answer ≡ expiry_of now note)
EnvMeans now seat request course reply = ⊥

-- what a look shows means: it has found that
abbrev pub LookMeans : List EnvEvent → EnvRequest → EnvCourse → Option Cause → Type 0
LookMeans now (TheRequest.Look limits) course cause = (course.events ≡ []) × HasLooked limits cause course.before now
LookMeans now request course cause = ⊥

-- What a call or a look ends with means what it says.
abbrev pub EndMeans : List EnvEvent → ℕ → EnvRequest → EnvCourse → EnvEnd → Type 0
EndMeans now seat request course (Over reply) = EnvMeans now seat request course reply
EndMeans now seat request course (LookOver cause) = LookMeans now request course cause

-- ---- how far a call has come

-- what a call has done at this place: one that is to store its note has taken the number; no other has done anything yet. A chain that is under way stands where what it has loaded leads, of what had happened as it loaded the clock.
abbrev pub EnvHasDone : List EnvEvent → ℕ → EnvCourse → EnvWalk → Type 0
EnvHasDone now seat course (MakeNote note parent deadline) = course.events ≡ Take seat note ∷ []
EnvHasDone now seat course (NoteLoad chain clock note) = (course.events ≡ []) × AtSomePoint course.before now (λ point. ChainFits point now chain (On (NoteLoad chain clock note)))
EnvHasDone now seat course walk = course.events ≡ []

-- A call has come so far: it began with what had happened then, and has done what its place tells.
pub record EnvSoFar (now : List EnvEvent) (seat : ℕ) (course : EnvCourse) (walk : EnvWalk) : Type 0 where
  pub since : BeginsWith now course.before
  pub done : EnvHasDone now seat course walk

-- a call that goes on is still the one that was asked
pub record EnvGoesOn (now : List EnvEvent) (seat : ℕ) (request : EnvRequest) (course : EnvCourse) (walk : EnvWalk) : Type 0 where
  pub asked : env_asked_of walk ≡ request
  pub so_far : EnvSoFar now seat course walk

-- where a step leads a call that was asked to do this: it goes on, or its answer means what it says
abbrev pub EnvGoes : List EnvEvent → ℕ → EnvRequest → EnvCourse → Next EnvWalk EnvEnd → Type 0
EnvGoes now seat request course = NextIs (EnvGoesOn now seat request course) (EndMeans now seat request course)
