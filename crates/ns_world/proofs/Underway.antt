-- From its beginning to its answer a call is under way, whatever others do, and its answer means what it says.
use Rattle.std.proofs.Common.{List, None, Option, Some, [], ap, append-nil, append_assoc, false, inl, inr, refl, slice_get, slice_set, subst, suc, sym, zero, ℕ, ◌++◌, ◌∙◌, ◌≡◌, ◌≢◌, ◌⊎◌}
use Rattle.ns_world.proofs.Prelude.{Add, AnswersCall, AnyWait, AreEnvBy, AreObjectsBy, AreThere, Asked, AtRest, Call, CallFits, CounterWait, Doing, Done, Event, Finished, Found, Happens, HasLedTo, IsLawfulWhole, IsUnfinished, Meanwhile, Mode, ObjectSoFar, OfLock, OfNotes, OfObjects, OnCondition}
use Rattle.ns_world.proofs.Prelude.{OnEntry, OnLock, OnNotes, OnObjects, Once, Past, Reply, Seat, SeatMakes, Started, Step, ToRelease, UnlockQuiet, Value, WaitAny, Walk, Whole, WholeBegins, WholeMoves, WholeStarts, WholeStep, asked_of, asks_of, begins_course, begins_itself, begins_unchanged}
use Rattle.ns_world.proofs.Prelude.{cases_eq, course_from, done_by, done_in, env_after, env_asked_of, env_course_at, env_own, env_own-append, env_own_none, happened, held_at, in_call, is_call, later_itself, mode_of, mode_waited, notes_by, nothing_done, object_asked, objects_by, objects_own}
use Rattle.ns_world.proofs.Prelude.{option_map_or, own, own-append, own_none, own_row_append, own_row_none, past_and, placed, quiet_asks, same_Some, set_here, set_there, slice_get_within, start_of, step_by, test_asks, view_of, walk_of}
use Rattle.ns_world.specs.Prelude.{Wait}
use Rattle.ns_world.proofs.HowFar.{AddsNothing, HasCome, Outcome, UnderwayIn, has_rests, no_own, no_own_notes, unfinished}
use Rattle.ns_world.proofs.Laws.{moves_led, no_more, starts_led, steps_led}
use Rattle.ns_world.proofs.OwnRounds.{objects_take_on}
use Rattle.ns_world.proofs.OwnSteps.{lock_takes_on, notes_take_on}
use Rattle.ns_world.proofs.Places.{IsFirstAt, first_at}
use Rattle.ns_world.proofs.SeatSet.{here_then, number_here, others_stay}
use Rattle.ns_world.proofs.Shown.{begins_on}
use Rattle.ns_world.proofs.Placing.{act_steps}
use Rattle.ns_world.proofs.Looking.{Acts, makes_means}

-- what another's step adds to the row's history is none of the seat's
module _ {C : Type 0} {N : ℕ} (old new : Whole C N) (lawful : IsLawfulWhole old) (other : ℕ) (here next : Seat C N) (at : slice_get old.seats other ≡ Some here) (seats : new.seats ≡ slice_set old.seats other next) (seat : ℕ) (ne : other ≢ seat) where
  acts_row : (step : Step) (walk : Walk C) (wait : Option AnyWait) (found : Found) → walk_of here.doing ≡ Some walk → Acts old new here next step walk wait found → own new.history seat ≡ own old.history seat
  acts_row step walk wait found walks p = ap (λ h. own h seat) p.grows ∙ own_row_append seat old.history p.commits
      ∙ ap (λ es. own old.history seat ++ es) (own_row_none here.number seat p.commits (λ e. ne (sym (number_here old lawful other here at) ∙ e)) (step_by old.truths _ (view_of here) found _ p.commits (act_steps old new other here next step walk wait found at seats walks p)))
      ∙ append-nil (own old.history seat)

  makes_row : (step : Step) → SeatMakes old new here next step → own new.history seat ≡ own old.history seat
  makes_row step (inl p) = acts_row step p.walk p.wait p.found (ap walk_of p.stands) p.performs
  makes_row step (inr (inl p)) = ap (λ (w : Whole C N). own w.history seat) p.same
  makes_row step (inr (inr (inl p))) = ap (λ (w : Whole C N). own w.history seat) p.same
  makes_row step (inr (inr (inr (inl p)))) = ap (λ (w : Whole C N). own w.history seat) p.same
  makes_row step (inr (inr (inr (inr p)))) = ap (λ (w : Whole C N). own w.history seat) p.same

-- what a step leaves of what the conditions mean, and of how the objects began
step_means : {C : Type 0} {N : ℕ} (old new : Whole C N) (seat : ℕ) (step : Step) → WholeStep old new seat step → (new.truths ≡ old.truths) × (new.objects.setup ≡ old.objects.setup)
step_means {C} {N} old new seat step (inl p) = (ap (λ (w : Whole C N). w.truths) p.1, ap (λ (w : Whole C N). w.objects.setup) p.1)
step_means old new seat step (inr p) = makes_means old new p.here p.next step p.makes

past_assoc : (past one two : Past) → past_and (past_and past one) two ≡ past_and past (past_and one two)
past_assoc past one two = λ i. record { notes = append_assoc past.notes one.notes two.notes i; objects = append_assoc past.objects one.objects two.objects i }

module _ (C : Type 0) (N : ℕ) (before : Whole C N) (earlier : Past) (seat : ℕ) where
  -- it is under way in the world after, where its seat has come so far there
  on_in : (asked : Asked C) (past more : Past) (old new : Whole C N) (here : Seat C N) → slice_get new.seats seat ≡ Some here → (new.truths ≡ old.truths) × (new.objects.setup ≡ old.objects.setup) → HasLedTo (past_and past more) new → UnderwayIn before earlier seat asked past old →
      HasCome before earlier seat asked (past_and past more) new.history here.held here.doing → UnderwayIn before earlier seat asked (past_and past more) new
  on_in asked past more old new here at same led u has = record {
    here = here;
    at = at;
    setup = same.1 ∙ u.setup;
    means = same.0 ∙ u.means;
    since = begins_on earlier.objects past.objects more.objects u.since;
    since_notes = begins_on earlier.notes past.notes more.notes u.since_notes;
    led = led;
    has = has;
  }

  -- so it is where its seat rests
  rests_in : (asked : Asked C) (past more : Past) (old new : Whole C N) → slice_get new.seats seat ≡ slice_get old.seats seat → (new.truths ≡ old.truths) × (new.objects.setup ≡ old.objects.setup) → HasLedTo (past_and past more) new →
      AddsNothing before earlier seat past more old.history new.history → UnderwayIn before earlier seat asked past old → UnderwayIn before earlier seat asked (past_and past more) new
  rests_in asked past more old new still same led r u = on_in asked past more old new u.here (still ∙ u.at) same led u (has_rests before earlier seat asked past more old.history new.history u.here.held u.here.doing r u.has)

  nothing_added : (past : Past) (old new : Whole C N) → own new.history seat ≡ own old.history seat → AddsNothing before earlier seat past nothing_done old.history new.history
  nothing_added past old new row = record { row = row; notes = no_own_notes before earlier seat past.notes; objects = no_own before earlier seat past.objects [] refl }

  -- a step of another, and the beginning of its call
  module _ (asked : Asked C) (past : Past) (old new : Whole C N) (other : ℕ) (ne : other ≢ seat) (lawful : IsLawfulWhole old) (u : UnderwayIn before earlier seat asked past old) where
    step_there : (step : Step) (p : WholeStep old new other step) → UnderwayIn before earlier seat asked (past_and past (done_in old new other step p)) new
    step_there step p = rests_in asked past more old new (still p) (step_means old new other step p) led.2 (record {
      row = row p;
      notes = env_own-append past.notes more.notes seat ∙ ap (λ es. env_own past.notes seat ++ es) (env_own_none other seat more.notes ne led.0) ∙ append-nil (env_own past.notes seat);
      objects = own-append past.objects more.objects seat ∙ ap (λ es. objects_own past.objects seat ++ es) (own_none more.objects other seat ne led.1) ∙ append-nil (objects_own past.objects seat);
    }) u where
      more : Past
      more = done_in old new other step p

      led : AreEnvBy other (done_in old new other step p).notes × AreObjectsBy other (done_in old new other step p).objects × HasLedTo (past_and past (done_in old new other step p)) new
      led = steps_led past old new other step lawful u.led p

      still : WholeStep old new other step → slice_get new.seats seat ≡ slice_get old.seats seat
      still (inl q) = ap (λ (w : Whole C N). slice_get w.seats seat) q.1
      still (inr q) = others_stay old new other q.here q.next q.at q.seats seat (λ e. ne (sym e))

      row : WholeStep old new other step → own new.history seat ≡ own old.history seat
      row (inl q) = ap (λ (w : Whole C N). own w.history seat) q.1
      row (inr q) = makes_row old new lawful other q.here q.next q.at q.seats seat ne step q.makes

    starts_there : (call : Call C) → WholeStarts old new other call → UnderwayIn before earlier seat asked (past_and past nothing_done) new
    starts_there call p =
        rests_in asked past nothing_done old new (ap (λ (w : Whole C N). slice_get w.seats seat) p.begins ∙ set_there old.seats other seat _ (λ e. ne (sym e))) (ap (λ (w : Whole C N). w.truths) p.begins, ap (λ (w : Whole C N). w.objects.setup) p.begins)
        (no_more past new (starts_led old new lawful other call p past u.led)) (nothing_added past old new (ap (λ (w : Whole C N). own w.history seat) p.begins)) u

  -- ---- how a call begins

  -- the first place of a call is one of what it was asked
  abbrev IsAskedAt : Asked C → Doing C → Type 0
  IsAskedAt (OfLock request) (OnLock walk None) = asked_of walk ≡ request
  IsAskedAt (OfNotes request) (OnNotes walk) = env_asked_of walk ≡ request
  IsAskedAt (OfObjects asked) (OnObjects walk) = walk ≡ asked
  IsAskedAt asked start = ⊥

  asked_at : (mode : Option Mode) (call : Call C) → IsAskedAt (asks_of mode call) (start_of N mode call)
  asked_at mode UnlockQuiet = quiet_asks C N ToRelease 0
  asked_at mode (Wait c limits) = test_asks C N (record { mode = mode_waited mode; on = OnCondition c; limits = limits }) OnEntry 0
  asked_at mode other = refl

  -- what a call on counters and once cells has come to as it begins
  abbrev IsBegunAt : Doing C → Type 0
  IsBegunAt (OnObjects walk) = (object_asked walk ≡ walk) × ObjectSoFar before.objects.setup earlier earlier seat [] walk
  IsBegunAt start = Unit {0}

  begun_on : (mode : Option Mode) (call : Call C) → before.env.notes ≡ (env_after earlier.notes).notes → CallFits before.objects.setup before.env.notes call mode → IsBegunAt (start_of N mode call)
  begun_on mode (Add counter delta) notes fits = (refl, refl)
  begun_on mode (Value counter) notes fits = (refl, refl)
  begun_on mode (CounterWait counter deadline) notes fits = (refl, refl)
  begun_on mode (Once once) notes fits = (refl, refl)
  begun_on mode (Done once) notes fits = (refl, refl)
  begun_on mode (WaitAny items deadline) notes fits = (refl, (refl, subst (λ now. AreThere before.objects.setup now items) notes fits.0, (0, later_itself earlier)))
  begun_on mode other notes fits = tt

  -- any call, as it begins
  module _ (here : Seat C N) (at : slice_get before.seats seat ≡ Some here) where
    held : here.held ≡ held_at before seat
    held = sym (ap (λ o. option_map_or (λ s. s.held) o None) at)

    starts_at : (asked : Asked C) (start : Doing C) → IsAskedAt asked start → IsFirstAt N before.env.notes start → IsBegunAt start → HasCome before earlier seat asked earlier before.history here.held start
    starts_at (OfLock request) (OnLock walk None) asked first begun = (
      record {
        asked = asked;
        course = course_from here.held;
        began = held;
        added = sym (append-nil (own before.history seat));
        so_far = begins_unchanged C N before.truths seat here.held walk first;
        shown = tt;
        still = refl;
      },
      refl,
    )
    starts_at (OfNotes request) (OnNotes walk) asked first begun = (
      record {
        asked = asked;
        course = env_course_at earlier.notes;
        began = refl;
        added = sym (append-nil (env_own earlier.notes seat));
        so_far = begins_course earlier.notes before.env.notes seat walk first;
        same = held;
        silent = refl;
      },
      refl,
    )
    starts_at (OfObjects place) (OnObjects walk) asked first begun = record {
      same = held;
      silent = refl;
      still = refl;
      is_asked = begun.0 ∙ asked;
      events = [];
      added = sym (append-nil (objects_own earlier.objects seat));
      so_far = begun.1;
    }
    starts_at other start asked first begun = absurd asked

  begins_in : (begun : Whole C N) (call : Call C) → IsLawfulWhole before → HasLedTo earlier before → WholeStarts before begun seat call → UnderwayIn before earlier seat (asks_of (mode_of (held_at before seat)) call) earlier begun
  begins_in begun call lawful led p =
      let mode = mode_of p.here.held in
      let start = start_of N mode call in
      let has = starts_at p.here p.at (asks_of mode call) start (asked_at mode call) (first_at N before.objects.setup before.env.notes mode call p.fits) (begun_on mode call led.0.lawful.meets.notes p.fits) in
      subst (λ held. UnderwayIn before earlier seat (asks_of (mode_of held) call) earlier begun) (held p.here p.at) (record {
        here = placed p.here start;
        at = ap (λ (w : Whole C N). slice_get w.seats seat) p.begins ∙ set_here before.seats seat (placed p.here start) (slice_get_within before.seats seat p.here p.at);
        setup = ap (λ (w : Whole C N). w.objects.setup) p.begins;
        means = ap (λ (w : Whole C N). w.truths) p.begins;
        since = begins_itself earlier.objects;
        since_notes = begins_itself earlier.notes;
        led = starts_led before begun lawful seat call p earlier led;
        has = subst (λ h. HasCome before earlier seat (asks_of mode call) earlier h p.here.held start) (sym (ap (λ (w : Whole C N). w.history) p.begins)) has;
      })

  -- ---- from the beginning to the answer

  -- a seat whose call is under way isn't idle
  busy_in : (asked : Asked C) (past : Past) (history : List (Event C N)) (held : _) (doing : Doing C) → HasCome before earlier seat asked past history held doing → is_call doing ≡ false → ⊥
  busy_in (OfLock request) past history held AtRest u idle = u
  busy_in (OfNotes request) past history held AtRest u idle = u
  busy_in (OfObjects asked) past history held AtRest u idle = u
  busy_in asked past history held doing u idle = absurd (cc)

  idle_not : (asked : Asked C) (past : Past) (world : Whole C N) (here : Seat C N) → UnderwayIn before earlier seat asked past world → slice_get world.seats seat ≡ Some here → in_call here ≡ false → ⊥
  idle_not asked past world here u at idle = busy_in asked past world.history u.here.held u.here.doing u.has (ap in_call (same_Some _ _ (sym u.at ∙ at)) ∙ idle)

  -- a step of the seat itself: its call has come so far, or has its answer
  abbrev StepsTo : Asked C → Step → Past → Whole C N → Type 0
  StepsTo asked step past new = HasLedTo past new × ((next : Seat C N) × (slice_get new.seats seat ≡ Some next) × Outcome before earlier seat asked step past new next)

  moves_here : (asked : Asked C) (past : Past) (old new : Whole C N) (step : Step) → IsLawfulWhole old → (p : WholeMoves old new seat step) → UnderwayIn before earlier seat asked past old →
      StepsTo asked step (past_and past (record { notes = notes_by seat p.makes; objects = objects_by p.makes })) new
  moves_here asked past old new step lawful p u = (led.2, (p.next, here_then old new seat p.here p.next p.at p.seats, by asked (subst (λ (s : Seat C N). HasCome before earlier seat asked past old.history s.held s.doing) (same_Some _ _ (sym u.at ∙ p.at)) u.has))) where
    led : AreEnvBy seat (notes_by seat p.makes) × AreObjectsBy seat (objects_by p.makes) × HasLedTo (past_and past (record { notes = notes_by seat p.makes; objects = objects_by p.makes })) new
    led = moves_led old new lawful seat step past u.led p

    by : (asked : Asked C) → HasCome before earlier seat asked past old.history p.here.held p.here.doing → Outcome before earlier seat asked step (past_and past (record { notes = notes_by seat p.makes; objects = objects_by p.makes })) new p.next
    by (OfLock request) has = lock_takes_on before earlier seat old new lawful u.means p.here p.next p.at p.seats step request past u.since_notes u.led.0 p.makes has
    by (OfNotes request) has = notes_take_on before earlier seat old new lawful u.means p.here p.next p.at p.seats step request past u.led.0 p.makes has
    by (OfObjects asked) has = objects_take_on before earlier seat past old new lawful u.setup u.means u.since u.since_notes u.led p.here p.next p.at p.seats step asked p.makes has led.1 led.2

  step_here : (asked : Asked C) (past : Past) (old new : Whole C N) (step : Step) → IsLawfulWhole old → (p : WholeStep old new seat step) → UnderwayIn before earlier seat asked past old → StepsTo asked step (past_and past (done_in old new seat step p)) new
  step_here asked past old new step lawful (inl p) u = absurd (idle_not asked past old p.2.0 u p.2.1 p.2.2)
  step_here asked past old new step lawful (inr p) u = moves_here asked past old new step lawful p u

  step_by_itself : (asked : Asked C) (past : Past) (old new : Whole C N) (who : ℕ) (step : Step) → who ≡ seat → IsLawfulWhole old → (p : WholeStep old new who step) → IsUnfinished step → UnderwayIn before earlier seat asked past old →
      UnderwayIn before earlier seat asked (past_and past (done_in old new who step p)) new
  step_by_itself asked past old new who step same lawful p goes u = subst (λ n. (q : WholeStep old new n step) → UnderwayIn before earlier seat asked (past_and past (done_in old new n step q)) new) (sym same) on p where
    on : (q : WholeStep old new seat step) → UnderwayIn before earlier seat asked (past_and past (done_in old new seat step q)) new
    on q =
        let made = step_here asked past old new step lawful q u in
        on_in asked past (done_in old new seat step q) old new made.1.0 made.1.1 (step_means old new seat step q) made.0 u (unfinished _ _ step goes made.1.2)

  happens_on : (asked : Asked C) (past : Past) (old new : Whole C N) → IsLawfulWhole old → (h : Happens seat old new) → UnderwayIn before earlier seat asked past old → UnderwayIn before earlier seat asked (past_and past (done_by seat h.who old new h.what)) new
  happens_on asked past old new lawful h u = by_whom h.who h.what (cases_eq h.who seat) where
    by_whom : (who : ℕ) (what : ((call : Call C) × WholeBegins old new who call Started) ⊎ ((step : Step) × WholeStep old new who step × (who ≡ seat → IsUnfinished step))) → (who ≡ seat) ⊎ (who ≢ seat) → UnderwayIn before earlier seat asked (past_and past (done_by seat who old new what)) new
    by_whom who (inl begun) (inl e) = absurd (idle_not asked past old begun.1.here u (ap (slice_get old.seats) (sym e) ∙ begun.1.at) begun.1.idle)
    by_whom who (inl begun) (inr ne) = starts_there asked past old new who ne lawful u begun.0 begun.1
    by_whom who (inr stepped) (inl e) = step_by_itself asked past old new who stepped.0 e lawful stepped.1 (stepped.2 e) u
    by_whom who (inr stepped) (inr ne) = step_there asked past old new who ne lawful u stepped.0 stepped.1

  -- a lawful world in which the call is under way
  meanwhile_on : (asked : Asked C) (n : ℕ) (past : Past) (old new : Whole C N) → IsLawfulWhole old → (meanwhile : Meanwhile seat n old new) → UnderwayIn before earlier seat asked past old →
      IsLawfulWhole new × UnderwayIn before earlier seat asked (past_and past (happened seat n old new meanwhile)) new
  meanwhile_on asked zero past old new lawful p u =
      let same = subst (UnderwayIn before earlier seat asked past) (sym p) u in
      (subst IsLawfulWhole (sym p) lawful, rests_in asked past nothing_done new new refl (refl, refl) (no_more past new same.led) (nothing_added past new new refl) same)
  meanwhile_on asked (suc n) past old new lawful p u =
      let done = done_by seat p.1.who old p.0 p.1.what in
      let on = meanwhile_on asked n (past_and past done) p.0 new p.1.lawful p.2 (happens_on asked past old p.0 lawful p.1 u) in
      (on.0, subst (λ es. UnderwayIn before earlier seat asked es new) (past_assoc past done (happened seat n p.0 new p.2)) on.1)

-- Whatever others do between the beginning of a call and the step that finishes it, its answer means what it says.
pub calls_mean : {C : Type 0} {N : ℕ} (n seat : ℕ) (before begun last after : Whole C N) (earlier : Past) (call : Call C) (reply : Reply) → IsLawfulWhole before → HasLedTo earlier before → WholeBegins before begun seat call Started → IsLawfulWhole begun →
    (meanwhile : Meanwhile seat n begun last) (finish : WholeStep last after seat (Finished reply)) → let later = past_and earlier (past_and (happened seat n begun last meanwhile) (done_in last after seat (Finished reply) finish)) in
    HasLedTo later after × AnswersCall before earlier seat call reply after later
calls_mean {C} {N} n seat before begun last after earlier call reply lawful led starts now_lawful meanwhile finish =
    let asked = asks_of (mode_of (held_at before seat)) call in
    let on = meanwhile_on C N before earlier seat asked n earlier begun last now_lawful meanwhile (begins_in C N before earlier seat begun call lawful led starts) in
    let past = past_and earlier (happened seat n begun last meanwhile) in
    let end = step_here C N before earlier seat asked past last after (Finished reply) on.0 finish on.1 in
    subst (λ es. HasLedTo es after × AnswersCall before earlier seat call reply after es) (past_assoc earlier (happened seat n begun last meanwhile) (done_in last after seat (Finished reply) finish)) (end.0, end.1.2)
