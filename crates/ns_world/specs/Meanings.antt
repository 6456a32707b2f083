-- What the answer of a call in a world means, whatever others do while it is in progress.
use Rattle.std.proofs.Common.{inl, inr}
use Rattle.std.specs.Option.{option_map_or}
use Rattle.std.specs.Prelude.{IsSome, List, None, Option, Some, [], slice_get, slice_index, suc, true, zero, ℕ, ◌++◌, ◌<◌, ◌≡◌, ◌⊎◌}
use Rattle.ns_world.specs.Names.{Add, AddLoad, Advance, Any, AnyAnswers, AreAmong, Asked, AtSomePoint, Broadcast, Broadcasting, Call, Cause, CounterWait, Course, CvWait, Cvs, Done, DoneLoad, EnvCourse, EnvEvent, EnvMeans, EnvReply, EnvRequest, Expiry, Finished, FirstClock, Get, HasMode, Held, InRound}
use Rattle.ns_world.specs.Names.{IsLater, IsNotified, IsReady, Limits, Lock, Means, Mode, NewNote, NoteWait, Notify, Number, ObjectEvent, ObjectMeans, ObjectReply, ObjectWalk, OfLock, OfNotes, OfObjects, OnCondition, OnVariable, OnVariables, Once, OnceLoad, Only, Past, QuietWriter, RLock, RUnlock}
use Rattle.ns_world.specs.Names.{Read, Reader, Reply, Request, Round, RoundShows, Set, Setup, Shows, Signal, Signaling, Started, Step, Subject, TryLock, TryRLock, Unlock, UnlockQuiet, Value, ValueLoad, Wait, WaitAny, WaitMark, WalkReply, WokenBy, Write, Writer, env_own, is_among, item_at, items_of}
use Rattle.ns_world.specs.Names.{Answer, Answered, AnyWait, Await, InHand, Looked, OnObjects, Releasing, RoundPlace, Seat, WaitFor, WaitMeans, got_of, held_after, objects_own, own, past_and, row_after, want_of}
use Rattle.ns_world.specs.Calls.{mode_of, mode_waited}
use Rattle.ns_world.specs.Among.{waits_for_any}
use Rattle.ns_world.specs.Replies.{told, env_told, object_told}
use Rattle.ns_world.specs.Looks.{came_back, doing_after}
use Rattle.ns_world.specs.Moves.{AreEnvBy, AreObjectsBy, GoesRound, ObjectsSteps, WholeBegins, WholeStep, notes_by, objects_by}
use Rattle.ns_world.specs.Performs.{step_of}
use Rattle.ns_world.specs.Whole.{HasLedTo, IsLawfulWhole, Whole}
use Rattle.ns_env.specs.declared.request.EnvRequest.TheVariants as TheEnvRequest
use Rattle.ns_word.specs.declared.request.Request.TheVariants as TheRequest
use Rattle.ns_world.specs.declared.reply.Reply.TheVariants.{Busy, Noisy, Succeeded}

-- ---- what was asked

-- what each call asks, with a section in hand of this mode or with none: of the lock, of the clock and the notes, or of the counters and once cells, told by its first place
abbrev pub asks_of : {C : Type 0} → Option Mode → Call C → Asked C
asks_of mode Lock = OfLock (TheRequest.Lock Write)
asks_of mode RLock = OfLock (TheRequest.Lock Read)
asks_of mode TryLock = OfLock (TheRequest.TryLock Write)
asks_of mode TryRLock = OfLock (TheRequest.TryLock Read)
asks_of mode Unlock = OfLock (TheRequest.Release Writer)
asks_of mode RUnlock = OfLock (TheRequest.Release Reader)
asks_of mode UnlockQuiet = OfLock (TheRequest.Release QuietWriter)
asks_of mode (Get i) = OfLock (TheRequest.Get i)
asks_of mode (Set i value) = OfLock (TheRequest.Set i value)
asks_of mode (Wait c limits) = OfLock (TheRequest.Await (record { mode = mode_waited mode; on = OnCondition c; limits = limits }))
asks_of mode (CvWait k limits) = OfLock (TheRequest.Await (record { mode = mode_waited mode; on = OnVariables (Only k); limits = limits }))
asks_of mode (Signal k) = OfLock (TheRequest.Wake Signaling k)
asks_of mode (Broadcast k) = OfLock (TheRequest.Wake Broadcasting k)
asks_of mode (NewNote parent deadline) = OfNotes (TheEnvRequest.NewNote parent deadline)
asks_of mode (Notify note) = OfNotes (TheEnvRequest.Notify note)
asks_of mode (Advance moment) = OfNotes (TheEnvRequest.Advance moment)
asks_of mode (IsNotified note) = OfNotes (TheEnvRequest.IsNotified note)
asks_of mode (Expiry note) = OfNotes (TheEnvRequest.Expiry note)
asks_of mode (NoteWait note deadline) = OfNotes (TheEnvRequest.NoteWait note deadline)
asks_of mode (Add counter delta) = OfObjects (AddLoad counter delta)
asks_of mode (Value counter) = OfObjects (ValueLoad counter)
asks_of mode (CounterWait counter deadline) = OfObjects (WaitMark counter deadline)
asks_of mode (Once once) = OfObjects (OnceLoad once)
asks_of mode (Done once) = OfObjects (DoneLoad once)
asks_of mode (WaitAny items deadline) = OfObjects (InRound (record { items = items; deadline = deadline }) FirstClock)

-- what may end a wait for this early, by a look of its own at the clock and the notes
abbrev pub limits_for : {C : Type 0} → Subject C → Limits → Option Limits
limits_for (OnVariables (Any cvs)) limits = None
limits_for on limits = Some limits

-- the same of what was asked; there is nothing of the kind where a wait is for any of a set of variables, which looks at objects, or where it is no wait
abbrev pub limits_of : {C : Type 0} → Request C → Option Limits
limits_of (TheRequest.Await wait) = limits_for wait.on wait.limits
limits_of request = None

-- ---- what is answered

-- the section that a seat of a world has in hand, if it has one
abbrev pub held_at : {C : Type 0} {N : ℕ} → Whole C N → ℕ → Option (Held C N)
held_at world seat = option_map_or (λ s. s.held) (slice_get world.seats seat) None

-- what the last look of a call has shown, by these limits, was so at some point between these
abbrev pub WasShown : List EnvEvent → List EnvEvent → Option Limits → Option (Option Cause) → Type 0
WasShown earlier now limits None = Unit {0}
WasShown earlier now None (Some shown) = Unit {0}
WasShown earlier now (Some limits) (Some shown) = AtSomePoint earlier now (Shows limits shown)

-- A call on the lock has this answer: it means what it says, where the call began with the section that the seat had in hand before; what the call has committed is just what the seat has added to the history; and what its looks have shown of the clock and the notes
-- was so meanwhile, to which the seat has done nothing itself.
pub record AnswersOfLock {C : Type 0} {N : ℕ} (before : Whole C N) (earlier : List EnvEvent) (seat : ℕ) (request : Request C) (reply : Reply) (after : Whole C N) (later : List EnvEvent) : Type 0 where
  pub course : Course C N
  pub began : course.began ≡ held_at before seat
  pub added : own after.history seat ≡ own before.history seat ++ course.committed
  pub shown : WasShown earlier later (limits_of request) course.looked
  pub still : env_own later seat ≡ env_own earlier seat
  pub answer : WalkReply
  pub tells : reply ≡ told answer
  pub means : Means after.truths seat (row_after after.history) request course answer (held_at after seat)

-- What a try says, with the section in hand before it and after it: where it has succeeded, one in its mode is in hand; where it was busy, what was.
abbrev pub SaysOfTry : {C : Type 0} {N : ℕ} → Mode → Reply → Option (Held C N) → Option (Held C N) → Type 0
SaysOfTry mode Succeeded was held = HasMode mode held
SaysOfTry mode Busy was held = held ≡ was
SaysOfTry mode reply was held = ⊥

-- What a release says, likewise: where it has succeeded, nothing is in hand; where one that was to be quiet was noisy, what was.
abbrev pub SaysOfRelease : {C : Type 0} {N : ℕ} → Releasing → Reply → Option (Held C N) → Option (Held C N) → Type 0
SaysOfRelease releasing Succeeded was held = (held ≡ None) × IsSome was
SaysOfRelease QuietWriter Noisy was held = (held ≡ was) × IsSome was
SaysOfRelease releasing reply was held = ⊥

-- What a read says, with the section in hand after it: a number, which is the section's cell.
abbrev pub SaysOfRead : {C : Type 0} {N : ℕ} → ℕ → Reply → Option (Held C N) → Type 0
SaysOfRead i reply held = (value : ℕ) × (reply ≡ Number value) × InHand held (λ section. value ≡ slice_index section.row i)

-- What a wait for a condition or for one variable says, which has gone so: an answer, which means what it says of the section that is back in hand.
abbrev pub SaysOfWait : {C : Type 0} {N : ℕ} → ℕ → WaitFor C → Course C N → Reply → Whole C N → Type 0
SaysOfWait seat wait course reply after = (answer : Answer) × (reply ≡ Answered answer) × InHand (held_at after seat) (λ back. WaitMeans after.truths seat (row_after after.history) wait.mode wait.on wait.limits course answer back)

-- A call on the clock and the notes has this answer: it means what it says of what happened to them since the call began; what the call has done to them is just what the seat has; and the section in hand and the history of the row are as they were.
pub record AnswersOfNotes {C : Type 0} {N : ℕ} (before : Whole C N) (earlier : List EnvEvent) (seat : ℕ) (request : EnvRequest) (reply : Reply) (after : Whole C N) (later : List EnvEvent) : Type 0 where
  pub course : EnvCourse
  pub began : course.before ≡ earlier
  pub added : env_own later seat ≡ env_own earlier seat ++ course.events
  pub answer : EnvReply
  pub tells : reply ≡ env_told answer
  pub means : EnvMeans later seat request course answer
  pub same : held_at after seat ≡ held_at before seat
  pub silent : own after.history seat ≡ own before.history seat

-- A call on counters and once cells has this answer: it means what it says; what the call has done to them is just what the seat has; and the clock and the notes, the section in hand and the history of the row are as they were, but for what others did.
pub record AnswersOfObjects {C : Type 0} {N : ℕ} (before : Whole C N) (earlier : Past) (seat : ℕ) (asked : ObjectWalk) (reply : Reply) (after : Whole C N) (later : Past) : Type 0 where
  pub events : List ObjectEvent
  pub added : objects_own later.objects seat ≡ objects_own earlier.objects seat ++ events
  pub answer : ObjectReply
  pub tells : reply ≡ object_told answer
  pub means : ObjectMeans before.objects.setup earlier later seat asked events answer
  pub still : env_own later.notes seat ≡ env_own earlier.notes seat
  pub same : held_at after seat ≡ held_at before seat
  pub silent : own after.history seat ≡ own before.history seat

-- The place that is answered, where a round has shown nothing up to the first of these, and the section was left: where a variable has woken the call, one at which this variable stands, and before which it stands nowhere; else what rounds of looks at the notes and
-- counters answer from then on. It isn't said by `place_in`, by which the program is proved, so a wrong place isn't believed because its definition is wrong in the same way.
abbrev pub PlaceBy : Setup → Past → Past → Round → Option ℕ → ℕ → Type 0
PlaceBy setup mid now round (Some k) place = (item_at round.items place ≡ Some (OnVariable k)) × ((i : ℕ) → i < place → item_at round.items i ≡ Some (OnVariable k) → ⊥)
PlaceBy setup mid now round None place = AnyAnswers setup mid now round.items round.deadline place

-- A wait for condition variables among notes and counters has this answer, and has left its section: there is one among its items. Up to a point since the call began a round has shown nothing; the section was left to wait for just the variables, as the set whose
-- number is below 16, and another has come back, as a wait on the lock for these means it; where no variable has woken the call, rounds from that point on have shown the place; and the call has done nothing to the counters and once cells.
pub record AnswersOfWaiting {C : Type 0} {N : ℕ} (before : Whole C N) (earlier : Past) (seat : ℕ) (asked : ObjectWalk) (reply : Reply) (after : Whole C N) (later : Past) : Type 0 where
  pub round : Round
  pub is : asked ≡ InRound round FirstClock
  pub mid : Past
  pub first : RoundShows (IsReady before.objects.setup) (items_of round.items) round.deadline earlier mid None
  pub until : IsLater mid later
  pub some : (k : ℕ) × (is_among k (items_of round.items) ≡ true)
  pub cvs : Cvs
  pub low : cvs.0 < 16
  pub among : AreAmong cvs (items_of round.items)
  pub by : Option ℕ
  pub waited : AnswersOfLock before earlier.notes seat (TheRequest.Await (waits_for_any (mode_waited (mode_of (held_at before seat))) cvs)) (told (WokenBy by)) after later.notes
  pub woken : waited.answer ≡ WokenBy by
  pub place : ℕ
  pub placed : PlaceBy before.objects.setup mid later round by place
  pub tells : reply ≡ Number place
  pub untouched : objects_own later.objects seat ≡ objects_own earlier.objects seat

-- The call that asks this has the answer. One of the lock, the clock and the notes has done nothing to the counters and once cells; and one on these has left the section in hand as it was, or it was a wait for condition variables among notes and counters.
abbrev pub AnswersTo : {C : Type 0} {N : ℕ} → Whole C N → Past → ℕ → Asked C → Reply → Whole C N → Past → Type 0
AnswersTo before earlier seat (OfLock request) reply after later = AnswersOfLock before earlier.notes seat request reply after later.notes × (objects_own later.objects seat ≡ objects_own earlier.objects seat)
AnswersTo before earlier seat (OfNotes request) reply after later = AnswersOfNotes before earlier.notes seat request reply after later.notes × (objects_own later.objects seat ≡ objects_own earlier.objects seat)
AnswersTo before earlier seat (OfObjects asked) reply after later = AnswersOfObjects before earlier seat asked reply after later ⊎ AnswersOfWaiting before earlier seat asked reply after later

-- A call that the seat began in the world `before`, to which this had led, has this answer in the world `after`.
abbrev pub AnswersCall : {C : Type 0} {N : ℕ} → Whole C N → Past → ℕ → Call C → Reply → Whole C N → Past → Type 0
AnswersCall before earlier seat call reply after later = AnswersTo before earlier seat (asks_of (mode_of (held_at before seat)) call) reply after later

-- ---- while a call is in progress

-- nothing at all
abbrev pub nothing_done : Past
nothing_done = record { notes = []; objects = [] }

-- what a seat's step is to the clock and the notes, and to the counters and once cells
abbrev pub done_in : {C : Type 0} {N : ℕ} (old new : Whole C N) (seat : ℕ) (step : Step) → WholeStep old new seat step → Past
done_in old new seat step (inl rests) = nothing_done
done_in old new seat step (inr moves) = record { notes = notes_by seat moves.makes; objects = objects_by moves.makes }

-- What the seat's step is to these is the seat's; and with it behind what has led to the old world, all that has led to the new one.
abbrev pub LeadsOn : {C : Type 0} {N : ℕ} → Past → (old new : Whole C N) (seat : ℕ) (step : Step) → WholeStep old new seat step → Type 0
LeadsOn past old new seat step made = AreEnvBy seat (done_in old new seat step made).notes × AreObjectsBy seat (done_in old new seat step made).objects × HasLedTo (past_and past (done_in old new seat step made)) new

-- Nothing has happened to the world's row and its variables, its clock and notes, its counters and once cells.
abbrev pub IsUntouched : {C : Type 0} {N : ℕ} → Whole C N → Type 0
IsUntouched world = (world.history ≡ []) × HasLedTo nothing_done world

-- the step finished no call
abbrev pub IsUnfinished : Step → Type 0
IsUnfinished (Finished reply) = ⊥
IsUnfinished step = Unit {0}

-- One thing happens in a world while a call of the seat is in progress: a seat begins a call, or makes a step; and no step finishes the seat's call. Like every world, the one after it is lawful.
pub record Happens {C : Type 0} {N : ℕ} (seat : ℕ) (old new : Whole C N) : Type 0 where
  pub lawful : IsLawfulWhole new
  pub who : ℕ
  pub what : ((call : Call C) × WholeBegins old new who call Started) ⊎ ((step : Step) × WholeStep old new who step × (who ≡ seat → IsUnfinished step))

-- what has happened then
abbrev pub done_by : {C : Type 0} {N : ℕ} (seat who : ℕ) (old new : Whole C N) → ((call : Call C) × WholeBegins old new who call Started) ⊎ ((step : Step) × WholeStep old new who step × (who ≡ seat → IsUnfinished step)) → Past
done_by seat who old new (inl begun) = nothing_done
done_by seat who old new (inr stepped) = done_in old new who stepped.0 stepped.1

-- so many such things happen, one after another
abbrev pub Meanwhile : {C : Type 0} {N : ℕ} → ℕ → ℕ → Whole C N → Whole C N → Type 0
Meanwhile seat zero old new = new ≡ old
Meanwhile {C} {N} seat (suc n) old new = (next : Whole C N) × Happens seat old next × Meanwhile seat n next new

-- what has happened by them, in that order
abbrev pub happened : {C : Type 0} {N : ℕ} (seat n : ℕ) (old new : Whole C N) → Meanwhile seat n old new → Past
happened seat zero old new same = nothing_done
happened seat (suc n) old new meanwhile = past_and (done_by seat meanwhile.1.who old meanwhile.0 meanwhile.1.what) (happened seat n meanwhile.0 new meanwhile.2)

-- A call that the seat begins in a lawful world, to which this has led; so many things that happen while it is in progress; and the step that finishes it with this answer.
pub record RunsCall {C : Type 0} {N : ℕ} (n seat : ℕ) (before begun last after : Whole C N) (earlier : Past) (call : Call C) (reply : Reply) : Type 0 where
  pub lawful : IsLawfulWhole before
  pub led : HasLedTo earlier before
  pub begins : WholeBegins before begun seat call Started
  pub begun_lawful : IsLawfulWhole begun
  pub meanwhile : Meanwhile seat n begun last
  pub finish : WholeStep last after seat (Finished reply)

-- what has led to the world after it: what had led to the one before, what has happened meanwhile, and what its last step is
abbrev pub led_by : {C : Type 0} {N n seat : ℕ} {before begun last after : Whole C N} {earlier : Past} {call : Call C} {reply : Reply} → RunsCall n seat before begun last after earlier call reply → Past
led_by {n = n} {seat = seat} {begun = begun} {last = last} {after = after} {earlier = earlier} {reply = reply} run =
    past_and earlier (past_and (happened seat n begun last run.meanwhile) (done_in last after seat (Finished reply) run.finish))

-- ---- rounds

-- The step is one at this place of a round, and its call goes on at that place of that round.
abbrev pub GoesOnInRound : {C : Type 0} {N : ℕ} {old new : Whole C N} {here next : Seat C N} {step : Step} → ObjectsSteps old new here next step → Round → RoundPlace → Round → RoundPlace → Type 0
GoesOnInRound {next = next} steps round place again behind = (steps.walk ≡ InRound round place) × (next.doing ≡ OnObjects (InRound again behind))

-- The wait keeps what its round has shown, and goes on as one whose look has shown this.
abbrev pub GoesOnBy : {C : Type 0} {N : ℕ} {old new : Whole C N} {here next : Seat C N} {step : Step} → GoesRound old new here next step → Option ℕ → Option Cause → Type 0
GoesOnBy {N = N} {here = here} {next = next} {step = step} round shown cause =
    let after : Option AnyWait = Some (record { round = round.wait.round; shown = shown }) in
    (next.doing ≡ doing_after after (got_of N round.walk (Looked cause))) × (next.held ≡ held_after (came_back (want_of round.walk)) cause here.held) × (step ≡ step_of after (got_of N round.walk (Looked cause)))
