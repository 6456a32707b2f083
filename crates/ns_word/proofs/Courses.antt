-- Each step takes its call on: it goes on as it was asked, or its answer means what it says.
use Rattle.std.proofs.Common.{Bool, IsSome, List, None, Option, Some, [], ap, append-nil, cond, eqb, false, inl, inr, ltb, not, refl, slice_index, subst, sym, true, ℕ, ◌&&◌, ◌++◌, ◌+◌, ◌-◌, ◌∷◌, ◌≡◌, ◌⊎◌}
use Rattle.ns_word.proofs.Prelude.{Acquire, AcquireExchange, AcquireLoad, AcquirePlace, AcquireSoFar, Aim, AimFits, Answer, Answered, Any, AnyWait, AnyWaitMeans, Arm, ArmToWait, Arrival, AsFresh, AtVariables, Await, AwaitWake, AwaitWakeInWait, AwaitWakeToLeave, Busy, CallGoes, CanLeave, CanWait}
use Rattle.ns_word.proofs.Prelude.{Cause, Cell, CellFits, CellPlace, ConditionWaitMeans, Course, Cv, CvWait, Cvs, Done, Effect, Ended, Event, Expired, Flag, ForLock, ForWait, Found, Get, GetLoad, HasLeft, HasLocked, HasLookedFor, HasReleased, HasWaited, HasWoken, Held, HeldFits, Idle, InAcquire}
use Rattle.ns_word.proofs.Prelude.{InCells, InHand, InLeaving, InQueuing, InRelease, InShow, InSignal, InTry, InWait, Is, IsBack, IsComing, IsFirst, IsForCondition, IsForVariables, IsLawful, IsLeft, IsQuiet, IsQuietSection, KeptFits, Leave, LeaveLoad, LeavePlace, LeaveSelf, Left, Limits, Load}
use Rattle.ns_word.proofs.Prelude.{LoadToScan, LockState, Look, LookIn, LookOut, Looked, Made, MayAnswer, MayEnd, MayShow, MayWait, Means, Met, Mode, Next, Noisy, Notified, Number, On, OnCondition, OnEntry, OnReturn, OnVariables, Only, Outcome, OutcomeFits, Paid, Part, Pay, PayInWait, PayTheWoken}
use Rattle.ns_word.proofs.Prelude.{PlaceFits, Queue, QueueFits, QueuePlace, QueueToWait, QueuesAfter, QueuesSoFar, Quiet, QuietCells, QuietLast, QuietWriter, Release, ReleaseExchange, ReleaseFits, ReleaseLoad, ReleasePlace, ReleaseSoFar, Releasing, Reply, Request, ReturnQueues, ReturnShown, Saw}
use Rattle.ns_word.proofs.Prelude.{ScanAndRelease, ScanCells, Scanned, SeatView, SectionFits, Set, SetLoad, SetStore, Show, ShowLoad, ShowPlace, SignalLoad, SignalPlace, SignalSoFar, SoFar, Step, Subject, Succeeded, Take, TakeToLeave, TakeToQueue, TakeToScan, TakeToShow, TakeToWake, TestCells}
use Rattle.ns_word.proofs.Prelude.{TestLast, Tested, Tests, TestsSoFar, ToChange, ToQueue, ToRelease, ToTell, Truths, TryAcquire, TryLoad, TryLock, TryPlace, Unchanged, VariableWaitMeans, Variables, ViewFits, Visit, Wait, WaitFits, WaitPlace, WaitReturning, WaitSoFar, Waited, Wake, WakeAndReturn}
use Rattle.ns_word.proofs.Prelude.{Waking, Walk, Woke, Woken, WokenBy, Word, acquire_by, acquired_for, answer_of, answer_of_wait, armed_place, arrival_of, asked_in_cells, asked_of, asked_to_judge, back_with, cause_by, cause_in, comes_back, course_after, course_from, entry_of, exit_for}
use Rattle.ns_word.proofs.Prelude.{got_acquiring, got_in_cells, got_leaving, got_of, got_queuing, got_releasing, got_showing, got_signaling, got_trying, got_waiting, has_some, held_after, home_of, is_held, is_limited, is_met, judge_of, leave_any_told, leave_by, leave_of, leave_told, left_by}
use Rattle.ns_word.proofs.Prelude.{load_place, look_or_queue, looked_after, may_acquire, mode_for, mode_released, needs_scan, new_section, newly_held, outcome_taken, part_of, pay_releasing, pay_waiting, pay_woken, place_cause_kept, queue_by, quiet_place, release_by, request_for, rest_or_look}
use Rattle.ns_word.proofs.Prelude.{row_after, scan_place, section_of, show_by, signal_by, standing_after, stands_at, taken_by, test_place, tries_of, unmet_by, variable_in, waiters_of, wake_of, want_acquiring, want_in_cells, want_leaving, want_of, want_queuing, want_releasing, want_showing}
use Rattle.ns_word.proofs.Prelude.{want_signaling, want_trying, want_waiting, woken_by, word_taken, ◌∙◌}
use Rattle.ns_word.proofs.Keeps.{acquired_holders}
use Rattle.ns_word.proofs.Answers.{AnswersOf, look_answers, met_answers, unmet_answers}
use Rattle.ns_word.proofs.Bases.{not_left, place_at, step_fits}
use Rattle.ns_word.proofs.Follows.{follows, next_asked}
use Rattle.ns_word.specs.declared.request.Request.TheVariants.{Release}
use Rattle.ns_model.specs.declared.event.Exit.TheVariants as TheExit

-- a wait by its parts, so that what it is for may be known
abbrev wait_for : {C : Type 0} → Mode → Subject C → Limits → Wait C
wait_for mode on limits = record { mode = mode; on = on; limits = limits }

module _ (C : Type 0) (N : ℕ) (truths : Truths C) (seat : ℕ) (row : List ℕ) where
  -- where a step leads, but for what was asked
  abbrev Comes : Request C → Course C N → Next (Walk C) Reply → Option (Held C N) → Type 0
  Comes request course (On walk) held = SoFar truths seat course walk held
  Comes request course (Idle walk) held = SoFar truths seat course walk held
  Comes request course (Done reply) held = Means truths seat row request course reply held

  -- with it, where the step leads
  goes_as_asked : (request : Request C) (course : Course C N) (next : Next (Walk C) Reply) (held : Option (Held C N)) → next_asked request next ≡ request → Comes request course next held → CallGoes truths seat row request course next held
  goes_as_asked request course (On walk) held asked so_far = record { asked = asked; so_far = so_far }
  goes_as_asked request course (Idle walk) held asked so_far = record { asked = asked; so_far = so_far }
  goes_as_asked request course (Done reply) held asked means = means

  -- of two ways
  either : {A : Type 0} (request : Request C) (course : Course C N) (held : Option (Held C N)) (go : A → Next (Walk C) Reply) (b : Bool) (one other : A) →
      (b ≡ true → Comes request course (go one) held) → (b ≡ false → Comes request course (go other) held) → Comes request course (go (cond b one other)) held
  either request course held go true one other p q = p refl
  either request course held go false one other p q = q refl

  -- ---- what stays

  -- a step that commits nothing and is no look leaves the course
  same_course : (found : Found) (commits : List (Event C N)) (course : Course C N) → looked_after found course.looked ≡ course.looked → commits ≡ [] → course_after found commits course ≡ course
  same_course found commits course looks silent =
      ap (λ cs. course_after found cs course) silent
      ∙ ap (λ cs. record { began = course.began; committed = cs; looked = looked_after found course.looked }) (append-nil course.committed)
      ∙ ap (λ l. record { began = course.began; committed = course.committed; looked = l }) looks

  -- one that has left has left so whatever ended it, if it has committed just its section and what goes with that end
  left_with : (wait : Wait C) (ended ended' : Option Cause) (course course' : Course C N) → course'.began ≡ course.began → (left : HasLeft truths seat wait ended course) →
      course'.committed ≡ section_of truths.holds seat left.was (exit_for wait.on) ∷ left_by seat wait.on ended' → HasLeft truths seat wait ended' course'
  left_with wait ended ended' course course' began left committed = record { was = left.was; began = began ∙ left.began; mode = left.mode; unmet = left.unmet; committed = committed }

  -- what it has committed as it left stays all of it
  still_left : (wait : Wait C) (ended : Option Cause) (found : Found) (commits : List (Event C N)) (course : Course C N) → commits ≡ [] → HasLeft truths seat wait ended course → HasLeft truths seat wait ended (course_after found commits course)
  still_left wait ended found commits course silent left = left_with wait ended ended course (course_after found commits course) refl left (ap (λ cs. course.committed ++ cs) silent ∙ append-nil course.committed ∙ left.committed)

  -- so does what hasn't changed
  still_unchanged : (found : Found) (commits : List (Event C N)) (course : Course C N) (old new : Option (Held C N)) → new ≡ old → commits ≡ [] → Unchanged course old → Unchanged (course_after found commits course) new
  still_unchanged found commits course old new same silent was = record {
    same = same ∙ was.same;
    silent = ap (λ cs. course.committed ++ cs) silent ∙ append-nil course.committed ∙ was.silent;
  }

  -- nothing was committed before, so all that the call has committed is this
  first_commits : (found : Found) (commits events : List (Event C N)) (course : Course C N) (held : Option (Held C N)) → Unchanged course held → commits ≡ events → (course_after found commits course).committed ≡ events
  first_commits found commits events course held was e = ap (λ cs. cs ++ commits) was.silent ∙ e

  -- ---- decisions

  -- of an acquire, by the word last seen
  acquire_comes : (request : Request C) (course : Course C N) (held : Option (Held C N)) (aim : Aim C) (arrival : Arrival) (word : Word) → AcquireSoFar truths seat aim course held → Comes request course (acquire_by aim arrival word) held
  acquire_comes request course held aim arrival word so_far =
      either request course held (λ n. n) (may_acquire (mode_for aim) arrival word) (On (InAcquire aim (AcquireExchange arrival word))) _ (λ b. so_far)
      (λ b. either request course held (λ n. n) word.spin (Idle (InAcquire aim (AcquireLoad arrival))) (On (InAcquire aim (TakeToQueue arrival word))) (λ b. so_far) (λ b. so_far))

  -- of a release
  release_comes : (request : Request C) (course : Course C N) (held : Option (Held C N)) (releasing : Releasing) (word : Word) → Unchanged course held → Comes request course (release_by releasing word) held
  release_comes request course held releasing word so_far =
      either request course held (λ n. n) (not (needs_scan releasing word)) (On (InRelease releasing (ReleaseExchange word))) _ (λ b. so_far)
      (λ b. either request course held (λ n. n) word.spin (Idle (InRelease releasing ReleaseLoad)) (On (InRelease releasing (TakeToScan word))) (λ b. so_far) (λ b. so_far))

  -- of a release that has loaded cells
  scan_comes : (course : Course C N) (held : Option (Held C N)) (releasing : Releasing) (last : Word) (loaded : ℕ) → Unchanged course held → SoFar truths seat course (InRelease releasing (scan_place N last loaded)) held
  scan_comes course held releasing last loaded so_far = either (Release releasing) course held (λ p. On (InRelease releasing p)) (ltb loaded N) (ScanCells last loaded) (ScanAndRelease last) (λ b. so_far) (λ b. so_far)

  -- of a wait that tests its condition
  test_so_far : (course : Course C N) (held : Option (Held C N)) (wait : Wait C) (visit : Visit) (loaded : ℕ) → TestsSoFar truths seat wait visit course held → SoFar truths seat course (test_place N wait visit loaded) held
  test_so_far course held wait visit loaded so_far = either (Await wait) course held On (ltb loaded (N - 1)) (InWait wait (TestCells visit loaded)) (InWait wait (TestLast visit (N - 1))) (λ b. so_far) (λ b. so_far)

  -- of one that has to go on waiting: it looks first where something may end it
  look_comes : (request : Request C) (course : Course C N) (held : Option (Held C N)) (wait : Wait C) (again : Bool) → QueuesSoFar truths seat wait again course held → Comes request course (look_or_queue wait again) held
  look_comes request course held wait again so_far =
      either request course held (λ n. n) (is_limited wait.limits) (On (InWait wait (InQueuing again LookIn))) (On (InWait wait (InQueuing again Load))) (λ b. (so_far, tt)) (λ b. (so_far, unlimited wait.on b))
    where
      unlimited : (on : Subject C) → is_limited wait.limits ≡ false → HasLookedFor on wait.limits course.looked
      unlimited (OnCondition c) b = λ limited. absurd (cc)
      unlimited (OnVariables variables) b = tt

  -- of one that is about to queue
  queue_comes : (course : Course C N) (held : Option (Held C N)) (wait : Wait C) (again : Bool) (word : Word) → QueuesSoFar truths seat wait again course held × HasLookedFor wait.on wait.limits course.looked → Comes (Await wait) course (queue_by wait again word) held
  queue_comes course held wait again word so_far = either (Await wait) course held (λ n. n) word.spin (Idle (InWait wait (InQueuing again Load))) (On (InWait wait (InQueuing again (Take word)))) (λ b. so_far) (λ b. so_far)

  -- of one that loads cells for its scan
  load_so_far : (course : Course C N) (held : Option (Held C N)) (wait : Wait C) (again : Bool) (last : Word) (loaded : ℕ) →
      QueuesSoFar truths seat wait again course held × HasLookedFor wait.on wait.limits course.looked → SoFar truths seat course (InWait wait (InQueuing again (load_place N last loaded))) held
  load_so_far course held wait again last loaded so_far = either (Await wait) course held (λ p. On (InWait wait (InQueuing again p))) (ltb loaded N) (LoadToScan last loaded) (QueueToWait last) (λ b. so_far) (λ b. so_far)

  armed_so_far : (course : Course C N) (held : Option (Held C N)) (wait : Wait C) (again : Bool) (on : Subject C) (last : Word) →
      QueuesSoFar truths seat wait again course held × HasLookedFor wait.on wait.limits course.looked → SoFar truths seat course (InWait wait (InQueuing again (armed_place N on last))) held
  armed_so_far course held wait again (OnCondition c) last so_far = so_far
  armed_so_far course held wait again (OnVariables variables) last so_far =
      either (Await wait) course held (λ p. On (InWait wait (InQueuing again p))) last.cond (load_place N last 0) (QueueToWait last) (λ b. load_so_far course held wait again last 0 so_far) (λ b. so_far)

  -- of one that leaves
  leave_comes : (course : Course C N) (held : Option (Held C N)) (wait : Wait C) (cause : Cause) (word : Word) → HasLeft truths seat wait None course × (course.looked ≡ Some (Some cause)) → Comes (Await wait) course (leave_by wait cause word) held
  leave_comes course held wait cause word so_far = either (Await wait) course held (λ n. n) word.spin (Idle (InWait wait (InLeaving cause LeaveLoad))) (On (InWait wait (InLeaving cause (TakeToLeave word)))) (λ b. so_far) (λ b. so_far)

  -- of a call that wakes
  signal_comes : (course : Course C N) (held : Option (Held C N)) (waking : Waking) (k : ℕ) (word : Word) → Unchanged course held → Comes (Wake waking k) course (signal_by waking k word) held
  signal_comes course held waking k word was = either (Wake waking k) course held (λ n. n) word.spin (Idle (InSignal waking k SignalLoad)) (On (InSignal waking k (TakeToWake word))) (λ b. was) (λ b. was)

  -- ---- what is new

  -- what a step needs of its seat's part: the row of a section in hand is the cells', and where the step commits nothing, a free lock's cells are the row after the history, and a section in hand began at it
  record Stands (part : Part C N) (commits : List (Event C N)) : Type 0 where
    free : commits ≡ [] → part.word.write ≡ false → part.row ≡ row
    cells : (held : Held C N) → part.held ≡ Some held → held.row ≡ part.row
    starts : commits ≡ [] → (held : Held C N) → part.held ≡ Some held → held.before ≡ row

  -- the lock was acquired by a call that locks
  has_locked : (mode : Mode) (course : Course C N) (old new : Option (Held C N)) (commits : List (Event C N)) (cells : List ℕ) → cells ≡ row → new ≡ Some (newly_held (ForLock mode) cells) → commits ≡ [] → Unchanged course old →
      HasLocked row mode (course_after Made commits course) new
  has_locked mode course old new commits cells same e silent was = record {
    section = e ∙ ap (λ cells. Some (new_section mode cells)) same;
    silent = first_commits Made commits [] course old was silent;
  }

  -- what a wait for a variable has told, by what it answers
  leave_is_told : (k : ℕ) (outcome : Outcome) → left_by {C = C} {N = N} seat (OnVariables (Only k)) (cause_in outcome) ≡ leave_told seat k (is_met (answer_of_wait outcome))
  leave_is_told k (Woken by) = refl
  leave_is_told k (Ended Expired) = refl
  leave_is_told k (Ended Notified) = refl

  -- a wait may answer what came of it
  may_answer : (limits : Limits) (looked : Option (Option Cause)) (outcome : Outcome) → MayShow limits (cause_in outcome) → KeptFits looked (cause_in outcome) → MayAnswer limits looked (answer_of_wait outcome)
  may_answer limits looked (Woken by) given shown = tt
  may_answer limits looked (Ended Expired) given shown = (given, shown)
  may_answer limits looked (Ended Notified) given shown = (given, shown)

  -- and what one for any of a set has told
  leave_any_is_told : (cvs : Cvs) (outcome : Outcome) → OutcomeFits {C = C} (OnVariables (Any cvs)) outcome → left_by {C = C} {N = N} seat (OnVariables (Any cvs)) (cause_in outcome) ≡ leave_any_told seat cvs (variable_in outcome)
  leave_any_is_told cvs (Woken None) so = absurd so
  leave_any_is_told cvs (Woken (Some k)) so = refl
  leave_any_is_told cvs (Ended cause) so = refl

  may_end : (cvs : Cvs) (limits : Limits) (looked : Option (Option Cause)) (outcome : Outcome) → MayShow limits (cause_in outcome) → KeptFits looked (cause_in outcome) → OutcomeFits {C = C} (OnVariables (Any cvs)) outcome → MayEnd cvs limits looked (variable_in outcome)
  may_end cvs limits looked (Woken None) given shown so = absurd so
  may_end cvs limits looked (Woken (Some k)) given shown so = so
  may_end cvs limits looked (Ended cause) given shown so = (cause, given, shown)

  -- a wait that came back has acquired
  came_back : (request : Request C) (course : Course C N) (mode : Mode) (on : Subject C) (limits : Limits) (outcome : Outcome) (held : Option (Held C N)) (cells : List ℕ) → let wait = wait_for mode on limits in
      request ≡ Await wait → cells ≡ row → held ≡ Some (newly_held (ForWait wait outcome) cells) → MayShow limits (cause_in outcome) → OutcomeFits on outcome → IsComing truths seat wait outcome course → Comes request course (back_with N on wait outcome) held
  came_back request course mode (OnCondition c) limits outcome held cells asked same e given so coming = test_so_far course held (wait_for mode (OnCondition c) limits) (OnReturn outcome) 0 coming
  came_back request course mode (OnVariables (Only k)) limits outcome held cells asked same e given so coming =
      subst (λ r. Means truths seat row r course (Answered (answer_of_wait outcome)) held) (sym asked) (subst (λ h. InHand h (λ back. VariableWaitMeans truths seat row mode k limits course (answer_of_wait outcome) back)) (sym e)
      (record {
        was = coming.left.was;
        began = coming.left.began;
        mode = coming.left.mode;
        committed = coming.left.committed ∙ ap (λ events. section_of truths.holds seat coming.left.was (CvWait k) ∷ events) (leave_is_told k outcome);
        may = may_answer limits course.looked outcome given coming.shown;
        begins = record { mode = refl; before = same; cells = same };
        entry = refl;
      }))
  came_back request course mode (OnVariables (Any cvs)) limits outcome held cells asked same e given so coming =
      subst (λ r. Means truths seat row r course (WokenBy (variable_in outcome)) held) (sym asked) (subst (λ h. InHand h (λ back. AnyWaitMeans truths seat row mode cvs limits course (variable_in outcome) back)) (sym e)
      (record {
        was = coming.left.was;
        began = coming.left.began;
        mode = coming.left.mode;
        committed = coming.left.committed ∙ ap (λ events. section_of truths.holds seat coming.left.was (AnyWait cvs) ∷ events) (leave_any_is_told cvs outcome so);
        may = may_end cvs limits course.looked outcome given coming.shown so;
        begins = record { mode = refl; before = same; cells = same };
        entry = refl;
      }))

  -- a section was released
  has_released : (releasing : Releasing) (found : Found) (course : Course C N) (old new : Option (Held C N)) (commits : List (Event C N)) (held : Held C N) → old ≡ Some held → held.mode ≡ mode_released releasing → IsLeft truths releasing held → new ≡ None →
      commits ≡ section_of truths.holds seat held TheExit.Plain ∷ [] → Unchanged course old → HasReleased truths seat releasing (course_after found commits course) new
  has_released releasing found course old new commits held e m left none said was = record {
    was = held;
    began = sym was.same ∙ e;
    mode = m;
    declared = left;
    left = none;
    committed = first_commits found commits (section_of truths.holds seat held TheExit.Plain ∷ []) course old was said;
  }

  -- ---- waits for a condition

  module _ (mode : Mode) (c : C) (limits : Limits) where
    abbrev asked : Wait C
    asked = wait_for mode (OnCondition c) limits

    -- how it has come to the section in hand: it has left none, or has left one and come back with another
    abbrev Been : Bool → Course C N → Option (Held C N) → Type 0
    Been false course held = Unchanged course held
    Been true course held = ((ended : Option Cause) × HasLeft truths seat asked ended course) × InHand held (λ back. IsBack row mode back)

    -- a wait answers
    answers : (back : Bool) (course : Course C N) (held : Option (Held C N)) (answer : Answer) → AnswersOf truths asked c back held answer → MayAnswer limits course.looked answer → Been back course held → Means truths seat row (Await asked) course (Answered answer) held
    answers back course held answer of may been =
        subst (λ h. InHand h (λ back. ConditionWaitMeans truths seat row mode c limits course answer back)) (sym of.1)
        (record { mode = of.2; met = of.3; may = may; how = go back of.4 (subst (Been back course) of.1 been) })
      where
        go : (b : Bool) → (b ≡ true → entry_of truths.holds of.0.before of.0.entry ≡ Waited c answer) → Been b course (Some of.0) → Unchanged course (Some of.0) ⊎ HasWaited truths seat row mode c course answer of.0
        go false says was = inl was
        go true says came = let left = came.0.1 in inr (record { was = left.was; began = left.began; mode = left.mode; unmet = left.unmet; committed = left.committed; begins = came.1; entry = says refl })

    -- where its condition was tested
    been_tested : (visit : Visit) (course : Course C N) (section : Held C N) → Tests truths asked visit (Some section) → section.before ≡ row → TestsSoFar truths seat asked visit course (Some section) → Been (comes_back visit) course (Some section)
    been_tested OnEntry course section tests starts so_far = so_far
    been_tested (OnReturn outcome) course section tests starts so_far = ((cause_in outcome, so_far.left), record { mode = tests.0; before = starts; cells = tests.1.cells ∙ starts })

    -- it is true, or false: the wait goes on, or was ended early and answers that
    tested_comes : (visit : Visit) (met : Bool) (course : Course C N) (section : Held C N) → truths.holds c section.row ≡ met → Tests truths asked visit (Some section) → MayShow limits (cause_by visit) → section.before ≡ row →
        TestsSoFar truths seat asked visit course (Some section) → Comes (Await asked) course (cond met (Done (Answered Met)) (unmet_by asked visit)) (Some section)
    tested_comes visit true course section is tests given starts so_far =
        answers (comes_back visit) course (Some section) Met (met_answers truths asked c visit section refl tests is) tt (been_tested visit course section tests starts so_far)
    tested_comes OnEntry false course section is tests given starts so_far = look_comes (Await asked) course (Some section) asked false so_far
    tested_comes (OnReturn (Woken by)) false course section is tests given starts so_far = look_comes (Await asked) course (Some section) asked true so_far.left
    tested_comes (OnReturn (Ended cause)) false course section is tests given starts so_far =
        answers true course (Some section) (answer_of cause) (unmet_answers truths asked c (OnReturn (Ended cause)) section (answer_of cause) refl tests is refl)
        (may_answer limits course.looked (Ended cause) given so_far.shown) (been_tested (OnReturn (Ended cause)) course section tests starts so_far)

    -- a look has shown what ends it, before it queued
    shown_comes : (again : Bool) (cause : Cause) (course : Course C N) (section : Held C N) → MayWait truths asked again section → MayShow limits (Some cause) → section.before ≡ row → course.looked ≡ Some (Some cause) →
        QueuesSoFar truths seat asked again course (Some section) → Means truths seat row (Await asked) course (Answered (answer_of cause)) (held_after again (Some cause) (Some section))
    shown_comes again cause course section may given starts shown so_far =
        answers again course (held_after again (Some cause) (Some section)) (answer_of cause) (look_answers truths asked c again cause section refl may) (may_answer limits course.looked (Ended cause) given shown) (been again may so_far)
      where
        been : (b : Bool) → MayWait truths asked b section → QueuesSoFar truths seat asked b course (Some section) → Been b course (held_after b (Some cause) (Some section))
        been false may was = was
        been true may left = ((None, left), record { mode = may.mode; before = starts; cells = (may.back refl).1.cells ∙ starts })

  -- ---- by group

  module _ (part next : Part C N) (commits : List (Event C N)) (course : Course C N) (stands : Stands part commits) where
    -- the section in hand after a step, of what the step leaves of its part
    held_in : (other : Part C N) → next ≡ other → next.held ≡ other.held
    held_in other e = ap (λ p. p.held) e

    -- a step that finds something and changes neither section nor history leads where its place does
    finds : (request : Request C) (found : Found) (to : Next (Walk C) Reply) → looked_after found course.looked ≡ course.looked → next.held ≡ part.held → commits ≡ [] → Comes request course to part.held → Comes request (course_after found commits course) to next.held
    finds request found to looks same silent so_far =
        subst (λ now. Comes request now to next.held) (sym (same_course found commits course looks silent)) (subst (λ held. Comes request course to held) (sym same) so_far)

    tries_on : (mode : Mode) (place : TryPlace) (found : Found) → Effect truths seat (want_trying mode place) part found next commits → Unchanged course part.held → Comes (TryLock mode) (course_after found commits course) (got_trying mode place found) next.held
    tries_on mode TryLoad (Saw word) e was = finds (TryLock mode) (Saw word) _ refl (held_in part e.1) e.2 (either (TryLock mode) course part.held (λ n. n) (may_acquire mode AsFresh word) (On (InTry mode (TryAcquire word))) (Done Busy) (λ b. was) (λ b. was))
    tries_on mode (TryAcquire last) (Saw word) e was = finds (TryLock mode) (Saw word) (Done Busy) refl (held_in part e.2) e.3 was
    tries_on mode (TryAcquire last) Made e was =
        has_locked mode course part.held next.held commits part.row (stands.free e.4 (acquired_holders mode AsFresh part.word (subst (λ word. may_acquire mode AsFresh word ≡ true) e.0 e.1)).0) (ap (λ p. p.held) e.3) e.4 was
    tries_on mode _ _ e was = absurd e

    -- an acquire was made
    acquired_on : (aim : Aim C) (arrival : Arrival) (last : Word) → Effect truths seat (Acquire aim arrival last) part Made next commits → AimFits aim → AcquireSoFar truths seat aim course part.held →
        Comes (request_for aim) (course_after Made commits course) (acquired_for N aim) next.held
    acquired_on (ForLock mode) arrival last e given so_far =
        has_locked mode course part.held next.held commits part.row (stands.free e.4 (acquired_holders mode arrival part.word (subst (λ word. may_acquire mode arrival word ≡ true) e.0 e.1)).0) (ap (λ p. p.held) e.3) e.4 so_far
    acquired_on (ForWait wait outcome) arrival last e given so_far =
        subst (λ now. Comes (Await wait) now (back_with N wait.on wait outcome) next.held) (sym (same_course Made commits course refl e.4))
        (came_back (Await wait) course wait.mode wait.on wait.limits outcome next.held part.row refl (stands.free e.4 (acquired_holders wait.mode arrival part.word (subst (λ word. may_acquire wait.mode arrival word ≡ true) e.0 e.1)).0) (ap (λ p. p.held) e.3) given.1 given.0 so_far)

    acquires_on : (aim : Aim C) (place : AcquirePlace) (found : Found) → Effect truths seat (want_acquiring aim place) part found next commits → AimFits aim → AcquireSoFar truths seat aim course part.held →
        Comes (asked_of (InAcquire aim place)) (course_after found commits course) (got_acquiring N aim place found) next.held
    acquires_on aim (AcquireLoad arrival) (Saw word) e given so_far = finds (request_for aim) (Saw word) (acquire_by aim arrival word) refl (held_in part e.1) e.2 (acquire_comes (request_for aim) course part.held aim arrival word so_far)
    acquires_on aim (AcquireExchange arrival last) (Saw word) e given so_far = finds (request_for aim) (Saw word)
        (acquire_by aim arrival word) refl (held_in part e.2) e.3 (acquire_comes (request_for aim) course part.held aim arrival word so_far)
    acquires_on aim (AcquireExchange arrival last) Made e given so_far = acquired_on aim arrival last e given so_far
    acquires_on aim (TakeToQueue arrival last) (Saw word) e given so_far = finds (request_for aim) (Saw word) (acquire_by aim arrival word) refl
        (held_in part e.2) e.3 (acquire_comes (request_for aim) course part.held aim arrival word so_far)
    acquires_on aim (TakeToQueue arrival last) Made e given so_far = finds (request_for aim) Made (On (InAcquire aim (Arm arrival (word_taken (ToQueue (mode_for aim) arrival) last)))) refl (ap (λ p. p.held) e.2) e.3 so_far
    acquires_on aim (Arm arrival last) Made e given so_far = finds (request_for aim) Made (On (InAcquire aim (Queue arrival last))) refl (ap (λ p. p.held) e.0) e.1 so_far
    acquires_on aim (Queue arrival last) (Saw word) e given so_far = finds (request_for aim) (Saw word) (On (InAcquire aim (Queue arrival word))) refl (held_in part e.2) e.3 so_far
    acquires_on aim (Queue arrival last) Made e given so_far = finds (request_for aim) Made (On (InAcquire aim (AwaitWake (tries_of arrival)))) refl (ap (λ p. p.held) e.2) e.3 so_far
    acquires_on aim (Queue arrival last) (Left stood) e given so_far = let other : Made ≡ Left stood = e.0 in absurd (cc)
    acquires_on aim (Queue arrival last) (Woke owes) e given so_far = let other : Made ≡ Woke owes = e.0 in absurd (cc)
    acquires_on aim (AwaitWake tries) (Flag v) e given so_far =
        finds _ (Flag v) _ refl (held_in part e.1) e.2 (either _ course part.held (λ n. n) (eqb v 1) (Idle (InAcquire aim (AwaitWake tries))) (On (InAcquire aim (AcquireLoad (arrival_of tries v)))) (λ b. so_far) (λ b. so_far))
    acquires_on aim _ _ e given so_far = absurd e

    releases_on : (releasing : Releasing) (place : ReleasePlace) (found : Found) → Effect truths seat (want_releasing releasing place) part found next commits → ReleaseFits truths releasing place part.held → ReleaseSoFar truths seat releasing place course part.held →
        Comes (Release releasing) (course_after found commits course) (got_releasing N releasing place found) next.held
    releases_on releasing ReleaseLoad (Saw word) e fits was = finds (Release releasing) (Saw word) (release_by releasing word) refl (held_in part e.1) e.2 (release_comes (Release releasing) course part.held releasing word was)
    releases_on releasing (ReleaseExchange last) (Saw word) e fits was = finds (Release releasing) (Saw word) (release_by releasing word) refl (held_in part e.2) e.3 (release_comes (Release releasing) course part.held releasing word was)
    releases_on releasing (ReleaseExchange last) Made e fits was =
        let can = subst (λ held. CanLeave truths releasing held) e.1 fits.0 in
        has_released releasing Made course part.held next.held commits e.0 e.1 e.2 can.1 (ap (λ p. p.held) e.4) e.5 was
    releases_on releasing (TakeToScan last) (Saw word) e fits was = finds (Release releasing) (Saw word) (release_by releasing word) refl (held_in part e.2) e.3 (release_comes (Release releasing) course part.held releasing word was)
    releases_on releasing (TakeToScan last) Made e fits was =
        let taken = word_taken ToChange last in
        finds (Release releasing) Made (On (InRelease releasing (cond last.cond (scan_place N taken 0) (ScanAndRelease taken)))) refl (ap (λ p. p.held) e.2) e.3
        (either (Release releasing) course part.held (λ p. On (InRelease releasing p)) last.cond (scan_place N taken 0) (ScanAndRelease taken) (λ b. scan_comes course part.held releasing taken 0 was) (λ b. was))
    releases_on releasing (ScanCells last i) (Cell v) e fits was = finds (Release releasing) (Cell v) (On (InRelease releasing (scan_place N last (i + 1)))) refl (held_in part e.1) e.2 (scan_comes course part.held releasing last (i + 1) was)
    releases_on releasing (ScanAndRelease last) (Saw word) e fits was = finds (Release releasing) (Saw word) (On (InRelease releasing (ScanAndRelease word))) refl (held_in part e.2) e.3 was
    releases_on releasing (ScanAndRelease last) (Scanned owes tests) e fits was =
        let can = subst (λ held. CanLeave truths releasing held) e.1 fits in
        let released = has_released releasing (Scanned owes tests) course part.held next.held commits e.0 e.1 e.2 can.1 (ap (λ p. p.held) e.4) e.7 was in
        either (Release releasing) _ next.held (λ n. n) owes (On (InRelease releasing Pay)) (Done Succeeded) (λ b. released) (λ b. released)
    releases_on releasing Pay (Paid owes) e fits was =
        finds (Release releasing) (Paid owes) (pay_releasing releasing owes) refl (ap (λ p. p.held) e.3) e.5 (either (Release releasing) course part.held (λ n. n) owes (On (InRelease releasing Pay)) (Done Succeeded) (λ b. was) (λ b. was))
    releases_on releasing _ _ e fits was = absurd e

    cells_on : (place : CellPlace) (found : Found) → Effect truths seat (want_in_cells place) part found next commits → CellFits place part.held → Unchanged course part.held →
        Comes (asked_in_cells place) (course_after found commits course) (got_in_cells N place found) next.held
    cells_on (GetLoad i) (Cell v) e fits was = finds (Get i) (Cell v) (Done (Number v)) refl (held_in part e.1) e.2 (was, of_cells part.held refl fits.0)
      where
        of_cells : (held : Option (Held C N)) → part.held ≡ held → IsSome held → InHand held (λ section. v ≡ slice_index section.row i)
        of_cells None is some = absurd (cc)
        of_cells (Some section) is some = e.0 ∙ ap (λ cells. slice_index cells i) (sym (stands.cells section is))
    cells_on (SetLoad i v) (Cell w) e fits was = finds (Set i v) (Cell w) (On (InCells (SetStore i v))) refl (held_in part e.1) e.2 was
    cells_on (SetStore i v) Made e fits was = record {
      was = e.0;
      began = sym was.same ∙ e.1;
      section = ap (λ p. p.held) e.3;
      silent = first_commits Made commits [] course part.held was e.4;
    }
    cells_on (QuietCells judging i) (Cell v) e fits was = finds (asked_to_judge judging) (Cell v) (On (InCells (quiet_place N judging (i + 1)))) refl (held_in part e.1) e.2 was
    cells_on (QuietLast ToTell i) (Quiet quiet) e fits was = finds IsQuiet (Quiet quiet) (Done (Is quiet)) refl (held_in part e.3) e.4 (was, subst (λ held. IsQuietSection truths quiet held) (sym e.1) e.2)
    cells_on (QuietLast ToRelease i) (Quiet quiet) e fits was =
        finds (Release QuietWriter) (Quiet quiet) _ refl (held_in part e.3) e.4 (either (Release QuietWriter) course part.held (λ n. n) quiet (On (InRelease QuietWriter ReleaseLoad)) (Done Noisy) (λ b. was)
        (λ b. (was, subst (λ held. IsQuietSection truths false held) (sym e.1) (sym b ∙ e.2))))
    cells_on _ _ e fits was = absurd e

    -- a wait tests its condition
    tested_on : (mode : Mode) (on : Subject C) (limits : Limits) (visit : Visit) (i : ℕ) (found : Found) → let wait = wait_for mode on limits in
        Effect truths seat (judge_of on i) part found next commits → WaitFits truths wait (TestLast visit i) part.held → MayShow limits (cause_by visit) → TestsSoFar truths seat wait visit course part.held →
        Comes (Await wait) (course_after found commits course) (got_waiting N wait (TestLast visit i) found) next.held
    tested_on mode (OnCondition c) limits visit i (Tested is_met) e fits given so_far =
        let wait = wait_for mode (OnCondition c) limits in
        finds (Await wait) (Tested is_met) _ refl (held_in part e.3) e.4 (subst (Comes (Await wait) course (cond is_met (Done (Answered Met)) (unmet_by wait visit))) (sym e.1)
        (tested_comes mode c limits visit is_met course e.0 (sym e.2) (subst (Tests truths wait visit) e.1 fits.0) given (stands.starts e.4 e.0 e.1) (subst (TestsSoFar truths seat wait visit course) e.1 so_far)))
    tested_on mode (OnCondition c) limits visit i _ e fits given so_far = absurd e
    tested_on mode (OnVariables variables) limits visit i found e fits given so_far = absurd fits.2

    looked_none : (on : Subject C) (limits : Limits) → HasLookedFor on limits (Some None)
    looked_none (OnCondition c) limits = λ limited. refl
    looked_none (OnVariables variables) limits = tt

    untold : (on : Subject C) → [] ≡ left_by {C = C} {N = N} seat on None
    untold (OnCondition c) = refl
    untold (OnVariables (Only k)) = refl
    untold (OnVariables (Any cvs)) = refl

    still_queues : (wait : Wait C) (again : Bool) (found : Found) → commits ≡ [] → QueuesSoFar truths seat wait again course part.held → QueuesSoFar truths seat wait again (course_after found commits course) part.held
    still_queues wait false found silent was = still_unchanged found commits course part.held part.held refl silent was
    still_queues wait true found silent left = still_left wait None found commits course silent left

    -- a wait looks before it queues
    looks_on : (mode : Mode) (on : Subject C) (limits : Limits) (again : Bool) (shown : Option Cause) → let wait = wait_for mode on limits in
        Effect truths seat (Look limits again) part (Looked shown) next commits → CanWait truths wait again part.held → IsForCondition on → QueuesSoFar truths seat wait again course part.held →
        Comes (Await wait) (course_after (Looked shown) commits course) (got_queuing N wait again LookIn (Looked shown)) next.held
    looks_on mode on limits again None e can for so_far =
        let wait = wait_for mode on limits in (subst (QueuesSoFar truths seat wait again (course_after (Looked None) commits course)) (sym (ap (λ p. p.held) e.1)) (still_queues wait again (Looked None) e.2 so_far), looked_none on limits)
    looks_on mode (OnVariables variables) limits again (Some cause) e can for so_far = absurd for
    looks_on mode (OnCondition c) limits again (Some cause) e can for so_far = go part.held refl can (still_queues (wait_for mode (OnCondition c) limits) again (Looked (Some cause)) e.2 so_far)
      where
        after : Course C N
        after = course_after (Looked (Some cause)) commits course

        go : (held : Option (Held C N)) → part.held ≡ held → CanWait truths (wait_for mode (OnCondition c) limits) again held → QueuesSoFar truths seat (wait_for mode (OnCondition c) limits) again after part.held →
            Means truths seat row (Await (wait_for mode (OnCondition c) limits)) after (Answered (answer_of cause)) next.held
        go None is may been = absurd may
        go (Some section) is may been =
            subst (Means truths seat row (Await (wait_for mode (OnCondition c) limits)) after (Answered (answer_of cause))) (sym (ap (λ p. p.held) e.1 ∙ ap (held_after again (Some cause)) is))
            (shown_comes mode c limits again cause after section may e.0 (stands.starts e.2 section is) refl (subst (QueuesSoFar truths seat (wait_for mode (OnCondition c) limits) again after) is been))

    -- a wait queues, and leaves its section; one that queues again says nothing of it
    queued_on : (mode : Mode) (on : Subject C) (limits : Limits) (again : Bool) (last : Word) (owes : Bool) (tests : ℕ) → let wait = wait_for mode on limits in
        Effect truths seat (WaitReturning wait again last) part (Scanned owes tests) next commits → CanWait truths wait again part.held → QueuesSoFar truths seat wait again course part.held →
        HasLeft truths seat wait None (course_after (Scanned owes tests) commits course)
    queued_on mode on limits true last owes tests e can so_far = still_left (wait_for mode on limits) None (Scanned owes tests) commits course e.7 so_far
    queued_on mode on limits false last owes tests e can so_far =
        let may : MayWait truths (wait_for mode on limits) false e.0 = subst (λ held. CanWait truths (wait_for mode on limits) false held) e.1 can in
        record {
          was = e.0;
          began = sym so_far.same ∙ e.1;
          mode = e.2;
          unmet = may.unmet;
          committed = first_commits (Scanned owes tests) commits (section_of truths.holds seat e.0 (exit_for on) ∷ []) course part.held so_far e.7 ∙ ap (λ events. section_of truths.holds seat e.0 (exit_for on) ∷ events) (untold on);
        }

    queues_on : (wait : Wait C) (again : Bool) (place : QueuePlace) (found : Found) → Effect truths seat (want_queuing wait again place) part found next commits → CanWait truths wait again part.held → QueueFits N wait.on place →
        QueuesSoFar truths seat wait again course part.held × QueuesAfter wait place course.looked → Comes (Await wait) (course_after found commits course) (got_queuing N wait again place found) next.held
    queues_on wait again LookIn (Looked shown) e can fits so_far = looks_on wait.mode wait.on wait.limits again shown e can fits so_far.0
    queues_on wait again Load (Saw word) e can fits so_far = finds (Await wait) (Saw word) (queue_by wait again word) refl (held_in part e.1) e.2 (queue_comes course part.held wait again word so_far)
    queues_on wait again (Take last) (Saw word) e can fits so_far = finds (Await wait) (Saw word) (queue_by wait again word) refl (held_in part e.2) e.3 (queue_comes course part.held wait again word so_far)
    queues_on wait again (Take last) Made e can fits so_far = finds (Await wait) Made (On (InWait wait (InQueuing again (ArmToWait (word_taken ToChange last))))) refl (ap (λ p. p.held) e.2) e.3 so_far
    queues_on wait again (ArmToWait last) Made e can fits so_far = finds (Await wait) Made (On (InWait wait (InQueuing again (armed_place N wait.on last)))) refl (ap (λ p. p.held) e.0) e.1 (armed_so_far course part.held wait again wait.on last so_far)
    queues_on wait again (LoadToScan last i) (Cell v) e can fits so_far = finds (Await wait) (Cell v) (On (InWait wait (InQueuing again (load_place N last (i + 1))))) refl (held_in part e.1) e.2 (load_so_far course part.held wait again last (i + 1) so_far)
    queues_on wait again (QueueToWait last) (Saw word) e can fits so_far = finds (Await wait) (Saw word) (On (InWait wait (InQueuing again (QueueToWait word)))) refl (held_in part e.2) e.3 so_far
    queues_on wait again (QueueToWait last) (Scanned owes tests) e can fits so_far =
        let left = queued_on wait.mode wait.on wait.limits again last owes tests e can so_far.0 in
        either (Await wait) _ next.held (λ n. n) owes (On (InWait wait PayInWait)) (On (InWait wait AwaitWakeInWait)) (λ b. left) (λ b. left)
    queues_on wait again _ _ e can fits so_far = absurd e

    -- a wait takes itself from its list, or was taken before
    withdrawn_on : (mode : Mode) (on : Subject C) (limits : Limits) (cause : Cause) (last : Word) (stood : Bool) → let wait = wait_for mode on limits in
        Effect truths seat (ReturnQueues (LeaveSelf (home_of on)) last) part (Left stood) next commits → HasLeft truths seat wait None course × (course.looked ≡ Some (Some cause)) →
        Comes (Await wait) (course_after (Left stood) commits course) (got_leaving wait cause (Leave last) (Left stood)) next.held
    withdrawn_on mode on limits cause last stood e so_far = go stood on (e.3 ∙ ap (leave_of seat (home_of on)) same) so_far.0
      where
        same : stands_at seat (home_of on) part.lists ≡ stood
        same = let found : Left (stands_at seat (home_of on) part.lists) ≡ Left stood = e.0 in cc

        left_of : (variables : Variables) → leave_of {C = C} {N = N} seat (AtVariables variables) true ≡ left_by seat (OnVariables variables) (Some cause)
        left_of (Only k) = refl
        left_of (Any cvs) = refl

        go : (stood : Bool) (on : Subject C) → commits ≡ leave_of seat (home_of on) stood → HasLeft truths seat (wait_for mode on limits) None course →
            Comes (Await (wait_for mode on limits)) (course_after (Left stood) commits course) (got_leaving (wait_for mode on limits) cause (Leave last) (Left stood)) next.held
        go true (OnCondition c) silent left =
            let wait = wait_for mode (OnCondition c) limits in
            record { left = still_left wait (Some cause) (Left true) commits course silent (left_with wait None (Some cause) course course refl left left.committed); shown = so_far.1 }
        go true (OnVariables variables) told left = record {
          left = left_with (wait_for mode (OnVariables variables) limits) None (Some cause) course (course_after (Left true) commits course) refl left
              (ap (λ events. course.committed ++ events) (told ∙ left_of variables) ∙ ap (λ events. events ++ left_by {C = C} {N = N} seat (OnVariables variables) (Some cause))
              (left.committed ∙ ap (λ events. section_of truths.holds seat left.was (exit_for {C = C} (OnVariables variables)) ∷ events) (sym (untold (OnVariables variables)))));
          shown = so_far.1;
        }
        go false (OnCondition c) silent left = (still_left (wait_for mode (OnCondition c) limits) None (Left false) commits course silent left, so_far.1)
        go false (OnVariables variables) silent left = (still_left (wait_for mode (OnVariables variables) limits) None (Left false) commits course (silent ∙ not_left C N seat (AtVariables variables)) left, so_far.1)

    -- one that was taken from its list before it could leave: a wait for a condition was ended all the same
    taken_comes : (mode : Mode) (on : Subject C) (limits : Limits) (cause : Cause) (flag : ℕ) → let wait = wait_for mode on limits in
        HasLeft truths seat wait None course × (course.looked ≡ Some (Some cause)) → IsComing truths seat wait (outcome_taken on cause flag) course
    taken_comes mode (OnCondition c) limits cause flag so_far = record { left = left_with (wait_for mode (OnCondition c) limits) None (Some cause) course course refl so_far.0 so_far.0.committed; shown = so_far.1 }
    taken_comes mode (OnVariables variables) limits cause flag so_far = record { left = so_far.0; shown = tt }

    leaves_on : (wait : Wait C) (cause : Cause) (place : LeavePlace) (found : Found) → Effect truths seat (want_leaving wait place) part found next commits → HasLeft truths seat wait None course × (course.looked ≡ Some (Some cause)) →
        Comes (Await wait) (course_after found commits course) (got_leaving wait cause place found) next.held
    leaves_on wait cause LeaveLoad (Saw word) e so_far = finds (Await wait) (Saw word) (leave_by wait cause word) refl (held_in part e.1) e.2 (leave_comes course part.held wait cause word so_far)
    leaves_on wait cause (TakeToLeave last) (Saw word) e so_far = finds (Await wait) (Saw word) (leave_by wait cause word) refl (held_in part e.2) e.3 (leave_comes course part.held wait cause word so_far)
    leaves_on wait cause (TakeToLeave last) Made e so_far = finds (Await wait) Made (On (InWait wait (InLeaving cause (Leave (word_taken ToChange last))))) refl (ap (λ p. p.held) e.2) e.3 so_far
    leaves_on wait cause (Leave last) (Saw word) e so_far = finds (Await wait) (Saw word) (On (InWait wait (InLeaving cause (Leave word)))) refl (held_in part e.2) e.3 so_far
    leaves_on wait cause (Leave last) (Left stood) e so_far = withdrawn_on wait.mode wait.on wait.limits cause last stood e so_far
    leaves_on wait cause (Leave last) Made e so_far = let other : Left (stands_at seat (home_of wait.on) part.lists) ≡ Made = e.0 in absurd (cc)
    leaves_on wait cause (Leave last) (Woke owes) e so_far = let other : Left (stands_at seat (home_of wait.on) part.lists) ≡ Woke owes = e.0 in absurd (cc)
    leaves_on wait cause AwaitWakeToLeave (Flag v) e so_far =
        finds (Await wait) (Flag v) _ refl (held_in part e.1) e.2 (either (Await wait) course part.held (λ n. n) (eqb v 1) (Idle (InWait wait (InLeaving cause AwaitWakeToLeave))) (On (InAcquire (ForWait wait (outcome_taken wait.on cause v)) (AcquireLoad (arrival_of 0 v))))
        (λ b. so_far) (λ b. taken_comes wait.mode wait.on wait.limits cause v so_far))
    leaves_on wait cause _ _ e so_far = absurd e

    waits_on : (wait : Wait C) (place : WaitPlace) (found : Found) → Effect truths seat (want_waiting wait place) part found next commits → WaitFits truths wait place part.held → MayShow wait.limits (place_cause_kept place) → WaitSoFar truths seat wait place course part.held →
        Comes (Await wait) (course_after found commits course) (got_waiting N wait place found) next.held
    waits_on wait (TestCells visit i) (Cell v) e fits given so_far = finds (Await wait) (Cell v) (On (test_place N wait visit (i + 1))) refl (held_in part e.1) e.2 (test_so_far course part.held wait visit (i + 1) so_far)
    waits_on wait (TestLast visit i) found e fits given so_far = tested_on wait.mode wait.on wait.limits visit i found e fits given so_far
    waits_on wait (InQueuing again place) found e fits given so_far = queues_on wait again place found e fits.0 fits.1 so_far
    waits_on wait PayInWait (Paid owes) e fits given so_far = finds (Await wait) (Paid owes) (pay_waiting wait owes) refl (ap (λ p. p.held) e.3) e.5 (either (Await wait) course part.held (λ n. n) owes (On (InWait wait PayInWait)) (On (InWait wait AwaitWakeInWait)) (λ b. so_far) (λ b. so_far))
    waits_on wait AwaitWakeInWait (Flag v) e fits given so_far =
        finds (Await wait) (Flag v) _ refl (held_in part e.1) e.2 (either (Await wait) course part.held (λ n. n) (eqb v 1) (rest_or_look wait) (On (InAcquire (ForWait wait (woken_by wait.on v)) (AcquireLoad (arrival_of 0 v))))
        (λ b. either (Await wait) course part.held (λ n. n) (is_limited wait.limits) (On (InWait wait LookOut)) (Idle (InWait wait AwaitWakeInWait)) (λ b. so_far) (λ b. so_far)) (λ b. record { left = so_far; shown = tt }))
    waits_on wait LookOut (Looked None) e fits given so_far = still_left wait None (Looked None) commits course e.2 so_far
    waits_on wait LookOut (Looked (Some cause)) e fits given so_far = (still_left wait None (Looked (Some cause)) commits course e.2 so_far, refl)
    waits_on wait (InLeaving cause place) found e fits given so_far = leaves_on wait cause place found e so_far
    waits_on wait _ _ e fits given so_far = absurd e

    signals_on : (waking : Waking) (k : ℕ) (place : SignalPlace) (found : Found) → Effect truths seat (want_signaling waking k place) part found next commits → SignalSoFar seat waking k place course part.held →
        Comes (Wake waking k) (course_after found commits course) (got_signaling waking k place found) next.held
    signals_on waking k SignalLoad (Saw word) e was = finds (Wake waking k) (Saw word) (signal_by waking k word) refl (held_in part e.1) e.2 (signal_comes course part.held waking k word was)
    signals_on waking k (TakeToWake last) (Saw word) e was = finds (Wake waking k) (Saw word) (signal_by waking k word) refl (held_in part e.2) e.3 (signal_comes course part.held waking k word was)
    signals_on waking k (TakeToWake last) Made e was = finds (Wake waking k) Made (On (InSignal waking k (WakeAndReturn (word_taken ToChange last)))) refl (ap (λ p. p.held) e.2) e.3 was
    signals_on waking k (WakeAndReturn last) (Saw word) e was = finds (Wake waking k) (Saw word) (On (InSignal waking k (WakeAndReturn word))) refl (held_in part e.2) e.3 was
    signals_on waking k (WakeAndReturn last) (Woke owes) e was =
        let taken = taken_by waking (waiters_of part.lists (Cv k)) in
        let woken : HasWoken seat waking k (course_after (Woke owes) commits course) next.held = record {
          same = ap (λ p. p.held) e.2 ∙ was.same;
          waiters = waiters_of part.lists (Cv k);
          committed = first_commits (Woke owes) commits (wake_of seat waking k taken ∷ []) course part.held was e.3;
        } in
        either (Wake waking k) _ next.held (λ n. n) owes (On (InSignal waking k PayTheWoken)) (Done Succeeded) (λ b. woken) (λ b. woken)
    signals_on waking k (WakeAndReturn last) Made e was = let other : Woke (not (is_held last) && has_some (taken_by waking (waiters_of part.lists (Cv k)))) ≡ Made = e.0 in absurd (cc)
    signals_on waking k (WakeAndReturn last) (Left stood) e was = let other : Woke (not (is_held last) && has_some (taken_by waking (waiters_of part.lists (Cv k)))) ≡ Left stood = e.0 in absurd (cc)
    signals_on waking k PayTheWoken (Paid owes) e was =
        finds (Wake waking k) (Paid owes) (pay_woken waking k owes) refl (ap (λ p. p.held) e.3) e.5 (either (Wake waking k) course part.held (λ n. n) owes (On (InSignal waking k PayTheWoken)) (Done Succeeded) (λ b. was) (λ b. was))
    signals_on waking k _ _ e was = absurd e

    shows_on : (place : ShowPlace) (found : Found) → Effect truths seat (want_showing place) part found next commits → Unchanged course part.held → Comes Show (course_after found commits course) (got_showing place found) next.held
    shows_on ShowLoad (Saw word) e was = finds Show (Saw word) (show_by word) refl (held_in part e.1) e.2 (either Show course part.held (λ n. n) word.spin (Idle (InShow ShowLoad)) (On (InShow (TakeToShow word))) (λ b. was) (λ b. was))
    shows_on (TakeToShow last) (Saw word) e was = finds Show (Saw word) (show_by word) refl (held_in part e.2) e.3 (either Show course part.held (λ n. n) word.spin (Idle (InShow ShowLoad)) (On (InShow (TakeToShow word))) (λ b. was) (λ b. was))
    shows_on (TakeToShow last) Made e was = finds Show Made (On (InShow (ReturnShown (word_taken ToChange last)))) refl (ap (λ p. p.held) e.2) e.3 was
    shows_on (ReturnShown last) (Saw word) e was = finds Show (Saw word) (On (InShow (ReturnShown word))) refl (held_in part e.2) e.3 was
    shows_on (ReturnShown last) Made e was = finds Show Made (Done Succeeded) refl (ap (λ p. p.held) e.2) e.3 was
    shows_on (ReturnShown last) (Left stood) e was = let other : Made ≡ Left stood = e.0 in absurd (cc)
    shows_on (ReturnShown last) (Woke owes) e was = let other : Made ≡ Woke owes = e.0 in absurd (cc)
    shows_on _ _ e was = absurd e

    -- every step leads its call on
    comes_on : (walk : Walk C) (found : Found) → Effect truths seat (want_of walk) part found next commits → PlaceFits truths (Some walk) part.held → SoFar truths seat course walk part.held →
        Comes (asked_of walk) (course_after found commits course) (got_of N walk found) next.held
    comes_on (InTry mode place) found e fits so_far = tries_on mode place found e so_far
    comes_on (InAcquire aim place) found e fits so_far = acquires_on aim place found e fits.2 so_far
    comes_on (InRelease releasing place) found e fits so_far = releases_on releasing place found e fits so_far
    comes_on (InCells place) found e fits so_far = cells_on place found e fits.0 so_far
    comes_on (InWait wait place) found e fits so_far = waits_on wait place found e fits.0 fits.1 so_far
    comes_on (InSignal waking k place) found e fits so_far = signals_on waking k place found e so_far
    comes_on (InShow place) found e fits so_far = shows_on place found e so_far

  -- what the law says of the seat's part of the state
  stands_by : (seats : ℕ) (h : List (Event C N)) (s : LockState C N) (view : SeatView C N) (commits : List (Event C N)) → (commits ≡ [] → row_after h ≡ row) → IsLawful truths seats h s → ViewFits truths seats (standing_after h) s.row view → Stands (part_of s view.held view.owed) commits
  stands_by seats h s view commits same lawful fits = record {
    free = λ silent free. lawful.one_history.free free ∙ same silent;
    cells = λ held is. (held_fits held is).cells;
    starts = λ silent held is. (held_fits held is).starts ∙ same silent;
  }
    where
      held_fits : (held : Held C N) → view.held ≡ Some held → HeldFits (standing_after h) s.row view.seat held
      held_fits held is = subst (λ x. SectionFits (standing_after h) s.row view.seat view.walk x) is fits.section

-- A step takes its call on.
pub takes_on : (C : Type 0) (N : ℕ) (truths : Truths C) (seats : ℕ) (history : List (Event C N)) (old new : LockState C N) (view : SeatView C N) (found : Found) (commits : List (Event C N)) (course : Course C N) →
    (step : Step truths old view found new commits) → IsLawful truths seats history old → SoFar truths view.seat course step.walk view.held →
    CallGoes truths view.seat (row_after (history ++ commits)) (asked_of step.walk) (course_after found commits course) (got_of N step.walk found) step.held
takes_on C N truths seats history old new view found commits course step lawful so_far =
    let row = row_after (history ++ commits) in
    let fits = step_fits step seats history lawful in
    let same : commits ≡ [] → row_after history ≡ row = λ silent. ap (λ es. row_after es) (sym (ap (λ cs. history ++ cs) silent ∙ append-nil history)) in
    let stands = stands_by C N truths view.seat row seats history old view commits same lawful fits in
    let place = place_at step seats history step.walk refl lawful in
    goes_as_asked C N truths view.seat row (asked_of step.walk) (course_after found commits course) (got_of N step.walk found) step.held (follows N step.walk found).asked
    (comes_on C N truths view.seat row (part_of old view.held view.owed) (part_of new step.held step.owed) commits course stands step.walk found step.effect place so_far)

-- A call that begins has changed nothing.
pub begins_unchanged : (C : Type 0) (N : ℕ) (truths : Truths C) (seat : ℕ) (held : Option (Held C N)) (walk : Walk C) → IsFirst N walk → SoFar truths seat (course_from held) walk held
begins_unchanged C N truths seat held walk first = go walk first where
  none_yet : Unchanged (course_from held) held
  none_yet = record { same = refl; silent = refl }

  go : (walk : Walk C) → IsFirst N walk → SoFar truths seat (course_from held) walk held
  go (InTry mode place) first = none_yet
  go (InAcquire (ForLock mode) place) first = none_yet
  go (InAcquire (ForWait wait outcome) place) first = absurd first
  go (InRelease releasing ReleaseLoad) first = none_yet
  go (InRelease releasing _) first = absurd first
  go (InCells place) first = none_yet
  go (InWait wait (TestCells OnEntry i)) first = none_yet
  go (InWait wait (TestLast OnEntry i)) first = none_yet
  go (InWait wait (InQueuing again Load)) first = queued wait again first.0 (variable wait.on first.1) where
    variable : (on : Subject C) → IsForVariables on → HasLookedFor on wait.limits None
    variable (OnCondition c) for = absurd for
    variable (OnVariables variables) for = tt

    queued : (wait : Wait C) (again : Bool) → again ≡ false → HasLookedFor wait.on wait.limits None → SoFar truths seat (course_from held) (InWait wait (InQueuing again Load)) held
    queued wait true e looked = absurd (cc)
    queued wait false e looked = (none_yet, looked)
  go (InSignal waking k SignalLoad) first = none_yet
  go (InShow ShowLoad) first = none_yet
  go walk first = absurd first
