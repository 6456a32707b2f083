-- How far a call has come that is under way: what its seat's place says, with what has happened since it began.
use Rattle.std.proofs.Common.{List, None, Option, Some, [], ap, append-nil, slice_get, true, ℕ, ◌++◌, ◌<◌, ◌∙◌, ◌≡◌}
use Rattle.ns_world.proofs.Prelude.{AnswersOfLock, AnswersTo, AnyAnswers, AnyWait, AreAmong, Asked, BeginsWith, Cause, Course, Cvs, Doing, EnvCourse, EnvEvent, EnvRequest, EnvSoFar, EnvWalk, Event, Finished, FirstClock, HasLedTo, HaveShownNothing, Held, InRound, IsLater, IsReady, IsUnfinished}
use Rattle.ns_world.proofs.Prelude.{LooksByLimits, LooksByRound, Next, ObjectEvent, ObjectSoFar, ObjectWalk, OfLock, OfNotes, OfObjects, OnLock, OnNotes, OnObjects, Past, Reply, Request, Round, RoundShows, RoundSoFar, Seat, SoFar, Step, Walk, WalkReply, WasShown, WereThere, Whole, any_on}
use Rattle.ns_world.proofs.Prelude.{asked_of, cause_of, env_asked_of, env_own, held_at, is_among, items_of, later_and, later_through, limits_of, mode_of, mode_waited, nothing_on, object_asked, objects_own, others_leave_course, own, past_and, reply_of_lock as told, round_on, so_far_on, waits_for_any}
use Rattle.ns_world.proofs.Shown.{LookSoFar, look_on, shown_on}
use Rattle.ns_env.specs.Prelude.{NextIs}
use Rattle.ns_word.specs.declared.request.Request.TheVariants as TheRequest

-- what the last look has shown to the lock of a call that waits there, its last round has shown
abbrev pub AsShown : Option ℕ → Option (Option Cause) → Type 0
AsShown shown None = Unit {0}
AsShown shown (Some cause) = cause ≡ cause_of shown

-- what a step leads to that has finished a call with an answer, and another one
abbrev pub StepLeads : (Reply → Type 0) → Type 0 → Step → Type 0
StepLeads Ends Goes (Finished reply) = Ends reply
StepLeads Ends Goes step = Goes

-- what isn't finished has come so far
pub unfinished : (Ends : Reply → Type 0) (Goes : Type 0) (step : Step) → IsUnfinished step → StepLeads Ends Goes step → Goes
unfinished Ends Goes (Finished reply) goes o = absurd goes
unfinished Ends Goes other goes o = o

module _ {C : Type 0} {N : ℕ} (before : Whole C N) (earlier : Past) (seat : ℕ) where
  -- ---- how far a call has come

  -- one on the lock has come so far, at this place
  pub record LockUnderway (request : Request C) (events : List EnvEvent) (history : List (Event C N)) (walk : Walk C) (held : Option (Held C N)) : Type 0 where
    pub asked : asked_of walk ≡ request
    pub course : Course C N
    pub began : course.began ≡ held_at before seat
    pub added : own history seat ≡ own before.history seat ++ course.committed
    pub so_far : SoFar before.truths seat course walk held
    pub shown : WasShown earlier.notes events (limits_of request) course.looked
    pub still : env_own events seat ≡ env_own earlier.notes seat

  -- nothing has been done to counters and once cells
  abbrev pub Untouched : Past → Type 0
  Untouched past = objects_own past.objects seat ≡ objects_own earlier.objects seat

  -- one on the clock and the notes has come so far
  pub record NotesUnderway (request : EnvRequest) (events : List EnvEvent) (history : List (Event C N)) (held : Option (Held C N)) (walk : EnvWalk) : Type 0 where
    pub asked : env_asked_of walk ≡ request
    pub course : EnvCourse
    pub began : course.before ≡ earlier.notes
    pub added : env_own events seat ≡ env_own earlier.notes seat ++ course.events
    pub so_far : EnvSoFar events seat course walk
    pub same : held ≡ held_at before seat
    pub silent : own history seat ≡ own before.history seat

  -- one on counters and once cells has come so far; its seat does nothing else
  pub record ObjectsUnderway (asked : ObjectWalk) (past : Past) (history : List (Event C N)) (held : Option (Held C N)) (walk : ObjectWalk) : Type 0 where
    pub same : held ≡ held_at before seat
    pub silent : own history seat ≡ own before.history seat
    pub still : env_own past.notes seat ≡ env_own earlier.notes seat
    pub is_asked : object_asked walk ≡ asked
    pub events : List ObjectEvent
    pub added : objects_own past.objects seat ≡ objects_own earlier.objects seat ++ events
    pub so_far : ObjectSoFar before.objects.setup earlier past seat events walk

  -- the wait on the lock that a call goes on to, for these variables
  abbrev pub wait_for : Cvs → Request C
  wait_for cvs = TheRequest.Await (waits_for_any (mode_waited (mode_of (held_at before seat))) cvs)

  -- a round has come so far since this point, by which a wait looks
  abbrev pub RoundOn : Round → Past → Past → Option ObjectWalk → Type 0
  RoundOn round mid past None = Unit {0}
  RoundOn round mid past (Some (InRound by place)) = (by ≡ round) × RoundSoFar before.objects.setup mid past round place
  RoundOn round mid past (Some walk) = ⊥

  -- what rounds have shown since this point is so
  abbrev pub ShownOn : Round → Past → Past → Option ℕ → Type 0
  ShownOn round mid past None = (rounds : ℕ) × HaveShownNothing (IsReady before.objects.setup) (items_of round.items) round.deadline rounds mid past
  ShownOn round mid past (Some place) = AnyAnswers before.objects.setup mid past round.items round.deadline place

  -- what a call had come to that left its section to wait on the lock: by this round, for these variables
  pub record LeftSection (round : Round) (cvs : Cvs) : Type 0 where
    pub some : (k : ℕ) × (is_among k (items_of round.items) ≡ true)
    pub low : cvs.0 < 16
    pub among : AreAmong cvs (items_of round.items)
    pub mid : Past
    pub first : RoundShows (IsReady before.objects.setup) (items_of round.items) round.deadline earlier mid None
    pub were_there : WereThere before.objects.setup mid round.items

  -- a call on counters and once cells has gone on to wait on the lock, and has come so far: its last round has shown what the wait says
  pub record Awaiting (asked : ObjectWalk) (past : Past) (history : List (Event C N)) (held : Option (Held C N)) (walk : Walk C) (wait : AnyWait) (round : Option ObjectWalk) : Type 0 where
    pub cvs : Cvs
    pub is : InRound wait.round FirstClock ≡ asked
    pub left : LeftSection wait.round cvs
    pub lock : LockUnderway (wait_for cvs) past.notes history walk held
    pub looked : AsShown wait.shown lock.course.looked
    pub until : IsLater left.mid past
    pub was_shown : ShownOn wait.round left.mid past wait.shown
    pub looks : RoundOn wait.round left.mid past round
    pub untouched : Untouched past

  -- any call has come so far, whose seat is doing this
  abbrev pub HasCome : Asked C → Past → List (Event C N) → Option (Held C N) → Doing C → Type 0
  HasCome (OfLock request) past history held (OnLock walk None) = LockUnderway request past.notes history walk held × Untouched past
  HasCome (OfLock request) past history held (LooksByLimits walk place) = LockUnderway request past.notes history walk held × Untouched past × LookSoFar earlier.notes seat past.notes place
  HasCome (OfNotes request) past history held (OnNotes walk) = NotesUnderway request past.notes history held walk × Untouched past
  HasCome (OfObjects asked) past history held (OnObjects walk) = ObjectsUnderway asked past history held walk
  HasCome (OfObjects asked) past history held (OnLock walk (Some wait)) = Awaiting asked past history held walk wait None
  HasCome (OfObjects asked) past history held (LooksByRound walk wait round) = Awaiting asked past history held walk wait (Some round)
  HasCome asked past history held doing = ⊥

  -- this has led to a world in which the call is under way
  pub record UnderwayIn (asked : Asked C) (past : Past) (world : Whole C N) : Type 0 where
    pub here : Seat C N
    pub at : slice_get world.seats seat ≡ Some here
    pub setup : world.objects.setup ≡ before.objects.setup
    pub means : world.truths ≡ before.truths
    pub since : BeginsWith past.objects earlier.objects
    pub since_notes : BeginsWith past.notes earlier.notes
    pub led : HasLedTo past world
    pub has : HasCome asked past world.history here.held here.doing

  -- ---- after a step of its own

  -- it has come so far, or has its answer
  abbrev pub Outcome : Asked C → Step → Past → Whole C N → Seat C N → Type 0
  Outcome asked step past world here = StepLeads (λ reply. AnswersTo before earlier seat asked reply world past) (HasCome asked past world.history here.held here.doing) step

  -- the same of the walk of one on the lock, whose last look has shown this
  abbrev pub LockLeads : Request C → List EnvEvent → Whole C N → Option (Held C N) → Option (Option Cause) → Next (Walk C) WalkReply → Type 0
  LockLeads request events world held looked next = NextIs (λ walk. (u : LockUnderway request events world.history walk held) × (u.course.looked ≡ looked))
      (λ reply. (answers : AnswersOfLock before earlier.notes seat request (told reply) world events) × (answers.course.looked ≡ looked)) next

  -- ---- what others do

  -- nothing that the seat has done is added
  pub record AddsNothing (past more : Past) (history later : List (Event C N)) : Type 0 where
    pub row : own later seat ≡ own history seat
    pub notes : env_own (past.notes ++ more.notes) seat ≡ env_own past.notes seat
    pub objects : objects_own (past.objects ++ more.objects) seat ≡ objects_own past.objects seat

  unfoldable pub lock_rests : (request : Request C) (events more : List EnvEvent) (history later : List (Event C N)) (walk : Walk C) (held : Option (Held C N)) → own later seat ≡ own history seat → env_own (events ++ more) seat ≡ env_own events seat →
      LockUnderway request events history walk held → LockUnderway request (events ++ more) later walk held
  lock_rests request events more history later walk held row own_same u = record {
    asked = u.asked;
    course = u.course;
    began = u.began;
    added = row ∙ u.added;
    so_far = u.so_far;
    shown = shown_on earlier.notes events more (limits_of request) u.course.looked u.shown;
    still = own_same ∙ u.still;
  }

  round_rests : (round : Round) (mid past more : Past) (walk : Option ObjectWalk) → RoundOn round mid past walk → RoundOn round mid (past_and past more) walk
  round_rests round mid past more None on = tt
  round_rests round mid past more (Some (InRound by place)) on = (on.0, round_on before.objects.setup mid past more round place on.1)
  round_rests round mid past more (Some walk) on = absurd on

  pub shown_rests : (round : Round) (mid past more : Past) (shown : Option ℕ) → ShownOn round mid past shown → ShownOn round mid (past_and past more) shown
  shown_rests round mid past more None on = (on.0, nothing_on before.objects.setup mid past more round on.0 on.1)
  shown_rests round mid past more (Some place) on = any_on before.objects.setup mid past more round.items round.deadline place on

  pub until_rests : (mid past more : Past) → IsLater mid past → IsLater mid (past_and past more)
  until_rests mid past more until = later_through mid past (past_and past more) until (later_and past more)

  -- where another has moved, a call that waits on the lock has come as far
  await_rests : (asked : ObjectWalk) (past more : Past) (history later : List (Event C N)) (held : Option (Held C N)) (walk : Walk C) (wait : AnyWait) (round : Option ObjectWalk) → AddsNothing past more history later → Awaiting asked past history held walk wait round →
      Awaiting asked (past_and past more) later held walk wait round
  unfolding lock_rests
  await_rests asked past more history later held walk wait round r o = record {
    cvs = o.cvs;
    is = o.is;
    left = o.left;
    lock = lock_rests (wait_for o.cvs) past.notes more.notes history later walk held r.row r.notes o.lock;
    looked = o.looked;
    until = until_rests o.left.mid past more o.until;
    was_shown = shown_rests wait.round o.left.mid past more wait.shown o.was_shown;
    looks = round_rests wait.round o.left.mid past more round o.looks;
    untouched = r.objects ∙ o.untouched;
  }

  -- so has any call
  pub has_rests : (asked : Asked C) (past more : Past) (history later : List (Event C N)) (held : Option (Held C N)) (doing : Doing C) → AddsNothing past more history later → HasCome asked past history held doing → HasCome asked (past_and past more) later held doing
  has_rests (OfLock request) past more history later held (OnLock walk None) r u = (lock_rests request past.notes more.notes history later walk held r.row r.notes u.0, r.objects ∙ u.1)
  has_rests (OfLock request) past more history later held (LooksByLimits walk place) r u = (lock_rests request past.notes more.notes history later walk held r.row r.notes u.0, r.objects ∙ u.1, look_on earlier.notes seat past.notes more.notes place u.2)
  has_rests (OfNotes request) past more history later held (OnNotes walk) r u = (
    record {
      asked = u.0.asked;
      course = u.0.course;
      began = u.0.began;
      added = r.notes ∙ u.0.added;
      so_far = others_leave_course past.notes more.notes seat u.0.course walk u.0.so_far;
      same = u.0.same;
      silent = r.row ∙ u.0.silent;
    },
    r.objects ∙ u.1,
  )
  has_rests (OfObjects asked) past more history later held (OnObjects walk) r u = record {
    same = u.same;
    silent = r.row ∙ u.silent;
    still = r.notes ∙ u.still;
    is_asked = u.is_asked;
    events = u.events;
    added = r.objects ∙ u.added;
    so_far = so_far_on before.objects.setup earlier seat past more u.events walk u.so_far;
  }
  has_rests (OfObjects asked) past more history later held (OnLock walk (Some wait)) r u = await_rests asked past more history later held walk wait None r u
  has_rests (OfObjects asked) past more history later held (LooksByRound walk wait round) r u = await_rests asked past more history later held walk wait (Some round) r u
  has_rests asked past more history later held doing r u = absurd u

  -- nothing more has been done there
  pub no_own_notes : (past : List EnvEvent) → env_own (past ++ []) seat ≡ env_own past seat
  no_own_notes past = ap (λ es. env_own es seat) (append-nil past)

  pub no_own : (past more : List ObjectEvent) → more ≡ [] → objects_own (past ++ more) seat ≡ objects_own past seat
  no_own past more none = ap (λ es. objects_own (past ++ es) seat) none ∙ ap (λ es. objects_own es seat) (append-nil past)
