-- Where a step of its own leads a call on counters and once cells, which may have gone on to wait on the lock.
use Rattle.std.proofs.Common.{List, None, Option, Some, [], ap, append-nil, append_assoc, inl, inr, refl, slice_get, slice_set, subst, suc, sym, unwrap_or, ℕ, ◌++◌, ◌∙◌, ◌≡◌}
use Rattle.ns_world.proofs.Prelude.{Answer, AnswersOfLock, AnswersTo, Any, AnyAnswers, AnyMeans, AnyWait, AreObjectsBy, BeginsToWait, BeginsWith, Cause, Doing, DoingFits, FirstClock, Found, Free, GoesRound, HasLedTo, Held, InHand, InRound, IsLater, IsLawfulWhole, IsReady, LookBy, Looked}
use Rattle.ns_world.proofs.Prelude.{LooksByLimits, LooksByRound, MayEnd, Means, Next, Number, ObjectEffect, ObjectEvent, ObjectGoes, ObjectLeads, ObjectReply, ObjectSoFar, ObjectWalk, ObjectsSteps, OfObjects, On, OnLock, OnNotes, OnObjects, OnVariables, Operates, Past, PlaceBy, Reply, Request}
use Rattle.ns_world.proofs.Prelude.{Round, RoundGo, RoundGoes, RoundNext, RoundOver, RoundPlace, RoundSoFar, Seat, SeatMakes, Step, WaitMeans, Walk, WalkFits, WalkReply, WereThere, Whole, at_will, begins_unchanged, by_round, cause_of, course_from, doing_after, doing_by, env_after, env_own}
use Rattle.ns_world.proofs.Prelude.{first_place, got_of, held_at, items_of, last_nothing, later_itself, look_in, looks_at, made_begins, mode_of, mode_waited, notes_by, notes_of, nothing_done, object_asked, object_got, object_place, object_step_of, object_want, objects_after, objects_by, objects_own}
use Rattle.ns_world.proofs.Prelude.{objects_own_all, operates_on, operating_of, option_map_or, own, own-append, past_and, place_after, place_told, reply_of_lock, reply_told, round_by, round_got, round_makes_none, round_want, row_after, shown_by, some_among, step_of, there, there_more, wait_first}
use Rattle.ns_world.proofs.Prelude.{wait_is_first, waits_for_any, waits_then, walk_of, want_of, woken_by}
use Rattle.ns_world.specs.Prelude.{IsLawful}
use Rattle.ns_world.proofs.HowFar.{AsShown, Awaiting, HasCome, LockLeads, LockUnderway, ObjectsUnderway, Outcome, RoundOn, ShownOn, Untouched, lock_rests, no_own, no_own_notes, shown_rests, until_rests, wait_for}
use Rattle.ns_world.proofs.Looking.{Acts, round_goes, waits_is}
use Rattle.ns_world.proofs.Mapped.{got-map}
use Rattle.ns_world.proofs.OwnSteps.{lock_looked, lock_quietly}
use Rattle.ns_world.proofs.SeatSet.{here_then, number_here}
use Rattle.ns_world.proofs.Shown.{begins_on}
use Rattle.ns_world.proofs.Led.{fits_here}
use Rattle.ns_word.specs.declared.request.Request.TheVariants as TheRequest
use Rattle.ns_word.specs.declared.walk.Reply.TheVariants as TheWalk
use Rattle.ns_env.specs.declared.next.Next.TheVariants as TheNext

-- a wait on the lock for any of several tells which variable has woken it
woken_is : (by : Option ℕ) → woken_by (reply_of_lock (TheWalk.WokenBy by)) ≡ by
woken_is None = refl
woken_is (Some k) = refl

module _ {C : Type 0} {N : ℕ} (before : Whole C N) (earlier : Past) (seat : ℕ) (past : Past) (old new : Whole C N) (lawful : IsLawfulWhole old) (setup : old.objects.setup ≡ before.objects.setup) (means : old.truths ≡ before.truths) (since : BeginsWith past.objects earlier.objects)
    (since_notes : BeginsWith past.notes earlier.notes) (led : HasLedTo past old) (here next : Seat C N) (at : slice_get old.seats seat ≡ Some here) (seats : new.seats ≡ slice_set old.seats seat next) (step : Step) where
  -- with these events there
  abbrev with_events : List ObjectEvent → Past
  with_events events = past_and past (record { notes = []; objects = events })

  law : IsLawful before.objects.setup old.objects.words past.objects
  law = subst (λ s. IsLawful s old.objects.words past.objects) setup led.1.lawful

  fits_at : (doing : Doing C) → here.doing ≡ doing → (walk : ObjectWalk) → operating_of doing ≡ Some walk → WalkFits before.objects.setup (objects_after before.objects.setup past.objects) old.env.notes seat walk
  fits_at doing is walk stands = subst (λ s. WalkFits s (objects_after s past.objects) old.env.notes seat walk) setup (led.1.each seat walk (ap (λ o. unwrap_or o None) (got-map (λ s. operating_of s.doing) old.seats seat here at) ∙ ap operating_of is ∙ stands))

  effect_here : (walk : ObjectWalk) (leads : Next ObjectWalk ObjectReply) (p : Operates old.env old.objects here.number walk new.objects leads) → ObjectEffect seat (object_place (Some walk)) (object_want walk) old.objects.words old.env p.found new.objects.words p.events
  effect_here walk leads p = subst (λ n. ObjectEffect n (object_place (Some walk)) (object_want walk) old.objects.words old.env p.found new.objects.words p.events) (number_here old lawful seat here at) p.effect

  -- what a round's step shows is so, of rounds since this point
  round_shown : (from : Past) (round : Round) (place : RoundPlace) (walk : ObjectWalk) (leads : Next ObjectWalk ObjectReply) (p : Operates old.env old.objects here.number walk new.objects leads) → walk ≡ InRound round place → (doing : Doing C) → here.doing ≡ doing → operating_of doing ≡ Some walk →
      WereThere before.objects.setup from round.items → RoundSoFar before.objects.setup from past round place →
      (n : RoundNext) × (leads ≡ by_round round n) × RoundGoes before.objects.setup from (with_events p.events) round n × (p.events ≡ [])
  round_shown from round place walk leads p is doing does stands there so_far =
      let effect : ObjectEffect seat Free (round_want place) old.objects.words old.env p.found new.objects.words p.events = subst (λ w. ObjectEffect seat (object_place (Some w)) (object_want w) old.objects.words old.env p.found new.objects.words p.events) is (effect_here walk leads p) in (
        round_got round place p.found,
        p.leads ∙ ap (λ w. object_got w p.found) is,
        round_by before.objects.setup from seat past old.objects.words law (notes_of old) led.0 p.events round place p.found new.objects.words (fits_at doing does (InRound round place) (stands ∙ ap Some is)) there so_far effect,
        round_makes_none before.objects.setup from seat past old.objects.words law (notes_of old) led.0 p.events place p.found new.objects.words effect,
      )

  module _ (asked : ObjectWalk) where
    -- what a step of its own leads to
    abbrev LeadsTo : Step → Past → Type 0
    LeadsTo step past = Outcome before earlier seat (OfObjects asked) step past new next

    -- ---- one on the objects

    module _ (p : ObjectsSteps old new here next step) (o : ObjectsUnderway before earlier seat asked past old.history here.held p.walk) where
      abbrev on : Past
      on = with_events p.operates.events

      silent : own new.history seat ≡ own before.history seat
      silent = ap (λ (w : Whole C N). own w.history seat) p.same ∙ o.silent

      still : env_own (past.notes ++ []) seat ≡ env_own earlier.notes seat
      still = no_own_notes before earlier seat past.notes ∙ o.still

      -- it goes on, or is over
      operates_here : AreObjectsBy seat p.operates.events → ObjectLeads None p.leads here next step → LeadsTo step on
      operates_here by_seat g =
          let goes = operates_on before.objects.setup earlier seat past old.objects.words law (notes_of old) led.0 since_notes since o.events o.added p.operates.events p.walk p.operates.found new.objects.words
          (fits_at (OnObjects p.walk) p.stands p.walk refl) o.so_far (effect_here p.walk p.leads p.operates) in
          let goes_asked = subst (λ a. ObjectGoes before.objects.setup earlier on seat a (o.events ++ p.operates.events) (object_got p.walk p.operates.found)) o.is_asked goes in
          subst (λ s. LeadsTo s on) (sym g.1) (by p.leads (ap (λ (s : Seat C N). s.doing) g.0) (subst (ObjectGoes before.objects.setup earlier on seat asked (o.events ++ p.operates.events)) (sym p.operates.leads) goes_asked)) where
            held : next.held ≡ held_at before seat
            held = ap (λ (s : Seat C N). s.held) g.0 ∙ o.same

            added : objects_own (past.objects ++ p.operates.events) seat ≡ objects_own earlier.objects seat ++ (o.events ++ p.operates.events)
            added = own-append past.objects p.operates.events seat ∙ (λ i. o.added i ++ objects_own_all p.operates.events seat by_seat i) ∙ append_assoc (objects_own earlier.objects seat) o.events p.operates.events

            goes_on : (walk : ObjectWalk) → next.doing ≡ OnObjects walk → (object_asked walk ≡ asked) × ObjectSoFar before.objects.setup earlier on seat (o.events ++ p.operates.events) walk → HasCome before earlier seat (OfObjects asked) on new.history next.held next.doing
            goes_on walk is goes = subst (HasCome before earlier seat (OfObjects asked) on new.history next.held) (sym is) (record { same = held; silent = silent; still = still; is_asked = goes.0; events = o.events ++ p.operates.events; added = added; so_far = goes.1 })

            by : (n : Next ObjectWalk ObjectReply) → next.doing ≡ there OnObjects (place_after n) → ObjectGoes before.objects.setup earlier on seat asked (o.events ++ p.operates.events) n → LeadsTo (object_step_of n) on
            by (On walk) is goes = goes_on walk is goes
            by (TheNext.Idle walk) is goes = goes_on walk is goes
            by (TheNext.Done reply) is goes = inl (record {
              events = o.events ++ p.operates.events;
              added = added;
              answer = reply;
              tells = refl;
              means = goes;
              still = still;
              same = ap (λ q. option_map_or (λ (s : Seat C N). s.held) q None) (here_then old new seat here next at seats) ∙ held;
              silent = silent;
            })

      -- where a round has found nothing it goes on to wait
      begins_here : (round : Round) → waits_then p.walk p.leads ≡ Some round → BeginsToWait here round next step → HasLedTo on new → LeadsTo step on
      begins_here round waits g on_led =
          let round_is = waits_is p.walk p.leads round waits in
          let so_far : ObjectSoFar before.objects.setup earlier past seat o.events (InRound round round_is.0) = subst (λ w. ObjectSoFar before.objects.setup earlier past seat o.events w) round_is.2 o.so_far in
          let shows = round_shown earlier round round_is.0 p.walk p.leads p.operates round_is.2 (OnObjects p.walk) p.stands refl so_far.1 so_far.2 in
          let untouched = no_own before earlier seat past.objects p.operates.events shows.3 ∙ o.added ∙ ap (λ es. objects_own earlier.objects seat ++ es) so_far.0 ∙ append-nil (objects_own earlier.objects seat) in
          subst (λ s. LeadsTo s on) (sym g.answers) (subst (λ (s : Seat C N). HasCome before earlier seat (OfObjects asked) on new.history s.held s.doing) (sym g.goes)
          (by shows.0 (sym round_is.3 ∙ shows.1) shows.2 so_far.1 untouched (ap object_asked (sym round_is.2) ∙ o.is_asked))) where
            walk : Walk C
            walk = wait_first N (waits_for_any (mode_waited (mode_of here.held)) g.cvs)

            on_lock : (lock : LockUnderway before earlier seat (wait_for before earlier seat g.cvs) (past.notes ++ []) new.history (wait_first N (waits_for_any (mode_waited (mode_of here.held)) g.cvs)) here.held) × (lock.course.looked ≡ None)
            on_lock = (
              record {
                asked = ap (λ held. TheRequest.Await (waits_for_any {C = C} (mode_waited (mode_of held)) g.cvs)) o.same;
                course = course_from here.held;
                began = o.same;
                added = silent ∙ sym (append-nil (own before.history seat));
                so_far = begins_unchanged C N before.truths seat here.held (wait_first N (waits_for_any (mode_waited (mode_of here.held)) g.cvs)) (wait_is_first {C = C} N (waits_for_any (mode_waited (mode_of here.held)) g.cvs));
                shown = tt;
                still = still;
              },
              refl,
            )

            -- what was there as the call began is there still
            there_now : WereThere before.objects.setup earlier round.items → WereThere before.objects.setup on round.items
            there_now were = there_more before.objects.setup (env_after earlier.notes).notes (env_after on.notes).notes (λ note made. made_begins on.notes earlier.notes note on_led.0.lawful.meets.legal (begins_on earlier.notes past.notes [] since_notes) made) round.items were

            by : (n : RoundNext) → TheNext.Idle (waits_is p.walk p.leads round waits).1 ≡ by_round round n → RoundGoes before.objects.setup earlier on round n → WereThere before.objects.setup earlier round.items → Untouched before earlier seat on → InRound round FirstClock ≡ asked →
                Awaiting before earlier seat asked on new.history here.held (wait_first N (waits_for_any (mode_waited (mode_of here.held)) g.cvs)) (record { round = round; shown = None }) None
            by (RoundOver None) answers goes were untouched is = record {
              cvs = g.cvs;
              is = is;
              left = record {
                some = some_among (items_of round.items) (waits_is p.walk p.leads round waits).4;
                low = g.variables.1;
                among = g.among;
                mid = on;
                first = last_nothing (IsReady before.objects.setup) (items_of round.items) round.deadline goes.0 earlier on goes.1;
                were_there = there_now were;
              };
              lock = on_lock.0;
              looked = subst (AsShown None) (sym on_lock.1) tt;
              until = later_itself on;
              was_shown = (0, later_itself on);
              looks = tt;
              untouched = untouched;
            }
            by n answers goes were untouched is = absurd (cc)

    -- ---- one that waits on the lock

    module _ (walk : Walk C) (wait : AnyWait) (at_round : Option ObjectWalk) (o : Awaiting before earlier seat asked past old.history here.held walk wait at_round) where
      abbrev request : Request C
      request = wait_for before earlier seat o.cvs

      abbrev mid : Past
      mid = o.left.mid

      -- what a round has shown to the lock that ends the wait
      ended_by : (shown : Option ℕ) (looked : Option (Option Cause)) (cause : Cause) → AsShown shown looked → looked ≡ Some (Some cause) →
          (at : Past) → ShownOn before earlier seat wait.round mid at shown → AnyAnswers before.objects.setup mid at wait.round.items wait.round.deadline (unwrap_or shown 0)
      ended_by (Some place) looked cause so is at shows = shows
      ended_by None looked cause so is at shows = let no : Some cause ≡ None = subst (AsShown None) is so in absurd (cc)

      -- the rounds before a new one
      rounds_before : (shown : Option ℕ) (at : Past) → IsLater mid at → ShownOn before earlier seat wait.round mid at shown → ShownOn before earlier seat wait.round mid at None
      rounds_before None at until shows = shows
      rounds_before (Some place) at until shows = (0, until)

      -- a step on the lock leads it on, where its last round has shown this
      module _ (more : Past) (untouched : Untouched before earlier seat (past_and past more)) (shown : Option ℕ) (was_shown : ShownOn before earlier seat wait.round mid (past_and past more) shown) (looked : Option (Option Cause)) (as_shown : AsShown shown looked) where
        abbrev waiting : AnyWait
        waiting = record { round = wait.round; shown = shown }

        abbrev now : Past
        now = past_and past more

        until : IsLater mid (past_and past more)
        until = until_rests before earlier seat mid past more o.until

        -- where it goes on
        waits_at : (look : Option LookBy) (walk : Walk C) → (lock : LockUnderway before earlier seat request (past.notes ++ more.notes) new.history walk next.held) × (lock.course.looked ≡ looked) →
            HasCome before earlier seat (OfObjects asked) now new.history next.held (doing_by look (Some waiting) walk)
        waits_at look walk lock = by look where
          at_place : (round : Option ObjectWalk) → RoundOn before earlier seat wait.round mid now round → Awaiting before earlier seat asked now new.history next.held walk waiting round
          at_place round looks = record { cvs = o.cvs; is = o.is; left = o.left; lock = lock.0; looked = subst (AsShown shown) (sym lock.1) as_shown; until = until; was_shown = was_shown; looks = looks; untouched = untouched }

          by : (look : Option LookBy) → HasCome before earlier seat (OfObjects asked) now new.history next.held (doing_by look (Some waiting) walk)
          by None = at_place None tt
          by (Some look) = at_place (Some (InRound wait.round FirstClock)) (refl, rounds_before shown now until was_shown)

        -- what it answers
        module _ (reply : Reply) (a : AnswersOfLock before earlier.notes seat request reply new (past.notes ++ more.notes)) (looks : AsShown shown a.course.looked) where
          placed_at : (by : Option ℕ) → MayEnd o.cvs at_will a.course.looked by → PlaceBy before.objects.setup mid now wait.round by (place_told waiting by)
          placed_at (Some k) may = first_place wait.round.items k (sym (o.left.among k) ∙ may)
          placed_at None may = ended_by shown a.course.looked may.0 looks may.2 now was_shown

          may_end : (by : Option ℕ) (held : Option (Held C N)) → InHand held (λ back. AnyMeans new.truths seat (row_after new.history) (mode_waited (mode_of (held_at before seat))) (OnVariables (Any o.cvs)) at_will a.course by back) → MayEnd o.cvs at_will a.course.looked by
          may_end by None means = absurd means
          may_end by (Some back) means = means.may

          no_answer : (answer : Answer) (held : Option (Held C N)) → InHand held (λ back. WaitMeans new.truths seat (row_after new.history) (mode_waited (mode_of (held_at before seat))) (OnVariables (Any o.cvs)) at_will a.course answer back) → ⊥
          no_answer answer None means = means
          no_answer answer (Some back) means = means

          answered : (answer : WalkReply) → reply ≡ reply_of_lock answer → Means new.truths seat (row_after new.history) request a.course answer (held_at new seat) → AnswersTo before earlier seat (OfObjects asked) (reply_told waiting reply) new now
          answered (TheWalk.WokenBy by) tells means = inr (record {
            round = wait.round;
            is = sym o.is;
            mid = mid;
            first = o.left.first;
            until = until;
            some = o.left.some;
            cvs = o.cvs;
            low = o.left.low;
            among = o.left.among;
            by = by;
            waited = record { course = a.course; began = a.began; added = a.added; shown = a.shown; still = a.still; answer = TheWalk.WokenBy by; tells = refl; means = means };
            woken = refl;
            place = place_told waiting by;
            placed = placed_at by (may_end by (held_at new seat) means);
            tells = ap (λ r. reply_told waiting r) tells ∙ ap (λ woken. Number (place_told waiting woken)) (woken_is by);
            untouched = untouched;
          })
          answered (TheWalk.Answered answer) tells means = absurd (no_answer answer (held_at new seat) means)
          answered other tells means = absurd means

        waits_lead : (found : Found) → Acts old new here next step walk (Some (record { round = wait.round; shown = shown })) found → LockLeads before earlier seat request (past.notes ++ more.notes) new next.held looked (got_of N walk found) → LeadsTo step now
        waits_lead found p leads = subst (λ s. LeadsTo s now) (sym p.answers) (by (got_of N walk found) (ap (λ (s : Seat C N). s.doing) p.goes) leads) where
          by : (n : Next (Walk C) WalkReply) → next.doing ≡ doing_after (Some waiting) n → LockLeads before earlier seat request (past.notes ++ more.notes) new next.held looked n → LeadsTo (step_of (Some waiting) n) now
          by (On walk) is v = subst (HasCome before earlier seat (OfObjects asked) now new.history next.held) (sym is) (waits_at (look_in (want_of walk)) walk v)
          by (TheNext.Idle walk) is v = subst (HasCome before earlier seat (OfObjects asked) now new.history next.held) (sym is) (waits_at (look_in (want_of walk)) walk v)
          by (TheNext.Done reply) is a = answered (reply_of_lock reply) a.0 (subst (AsShown shown) (sym a.1) as_shown) a.0.answer a.0.tells a.0.means

      -- its own step on the lock
      steps_here : (same : new.truths ≡ old.truths) (found : Found) → walk_of here.doing ≡ Some walk → looks_at (want_of walk) ≡ None → Acts old new here next step walk (Some wait) found → LeadsTo step (past_and past nothing_done)
      steps_here same found walks none p = waits_lead nothing_done (no_own before earlier seat past.objects [] refl ∙ o.untouched) wait.shown (shown_rests before earlier seat wait.round mid past nothing_done wait.shown o.was_shown) o.lock.course.looked o.looked found p
          (lock_quietly before earlier seat old new lawful means here next at seats step walk (Some wait) found walks p request past same o.lock none)

    -- a step of the round by which it looks
    goes_round_here : (p : GoesRound old new here next step) → Awaiting before earlier seat asked past old.history here.held p.walk p.wait (Some p.round) → LeadsTo step (with_events p.operates.events)
    unfolding lock_rests
    goes_round_here p o =
        elim (round_goes old new here next step p fits.0 fits.2) [
          | inl g ↦ subst (λ s. LeadsTo s on) (sym g.3) (subst (λ (s : Seat C N). HasCome before earlier seat (OfObjects asked) on new.history s.held s.doing) (sym g.2) (record {
            cvs = o.cvs;
            is = o.is;
            left = o.left;
            lock = lock_rests before earlier seat request past.notes [] old.history new.history p.walk here.held (ap (λ (w : Whole C N). own w.history seat) p.same) (no_own_notes before earlier seat past.notes) o.lock;
            looked = o.looked;
            until = until_rests before earlier seat o.left.mid past more o.until;
            was_shown = shown_rests before earlier seat p.wait.round o.left.mid past more p.wait.shown o.was_shown;
            looks = round_on g.0 (shows.0) (sym g.1 ∙ shows.1) shows.2;
            untouched = untouched;
          }))
          | inr g ↦ waits_lead p.walk p.wait (Some p.round) o more untouched (shown_by p.leads) (subst (λ n. ShownOn before earlier seat p.wait.round o.left.mid on (shown_by n)) (sym shows.1) (shown shows.0 shows.2)) (Some (cause_of (shown_by p.leads))) refl (Looked (cause_of (shown_by p.leads))) g
              (lock_looked before earlier seat old new lawful means here next at seats step p.walk _ (Looked (cause_of (shown_by p.leads))) (ap walk_of p.stands) g request past (ap (λ (w : Whole C N). w.truths) p.same) o.lock tt)
        ] where
          request : Request C
          request = wait_for before earlier seat o.cvs

          more : Past
          more = record { notes = []; objects = p.operates.events }

          on : Past
          on = with_events p.operates.events

          fits : DoingFits old.objects.setup old.env.notes here.held (LooksByRound p.walk p.wait p.round)
          fits = fits_here old new lawful seat here next at seats (LooksByRound p.walk p.wait p.round) p.stands

          shows : (n : RoundNext) × (p.leads ≡ by_round p.wait.round n) × RoundGoes before.objects.setup o.left.mid (with_events p.operates.events) p.wait.round n × (p.operates.events ≡ [])
          shows = by p.round refl o.looks where
            by : (round : ObjectWalk) → p.round ≡ round → RoundOn before earlier seat p.wait.round o.left.mid past (Some round) →
                (n : RoundNext) × (p.leads ≡ by_round p.wait.round n) × RoundGoes before.objects.setup o.left.mid (with_events p.operates.events) p.wait.round n × (p.operates.events ≡ [])
            by (InRound round place) is goes = round_shown o.left.mid p.wait.round place p.round p.leads p.operates (is ∙ ap (λ r. InRound r place) goes.0) (LooksByRound p.walk p.wait p.round) p.stands refl o.left.were_there goes.1
            by walk is goes = absurd goes

          untouched : Untouched before earlier seat (with_events p.operates.events)
          untouched = no_own before earlier seat past.objects p.operates.events shows.3 ∙ o.untouched

          round_on : (walk : ObjectWalk) (n : RoundNext) → On walk ≡ by_round p.wait.round n → RoundGoes before.objects.setup o.left.mid on p.wait.round n → RoundOn before earlier seat p.wait.round o.left.mid on (Some walk)
          round_on walk (RoundGo place) is goes = let same : walk ≡ InRound p.wait.round place = cc in subst (λ w. RoundOn before earlier seat p.wait.round o.left.mid on (Some w)) (sym same) (refl, goes)
          round_on walk (RoundOver None) is goes = absurd (cc)
          round_on walk (RoundOver (Some place)) is goes = absurd (cc)

          shown : (n : RoundNext) → RoundGoes before.objects.setup o.left.mid on p.wait.round n → ShownOn before earlier seat p.wait.round o.left.mid on (shown_by (by_round p.wait.round n))
          shown (RoundGo place) goes = (0, until_rests before earlier seat o.left.mid past more o.until)
          shown (RoundOver None) goes = (suc goes.0, goes.1)
          shown (RoundOver (Some place)) goes = goes

    -- ---- whatever it is

    abbrev after : SeatMakes old new here next step → Past
    after makes = past_and past (record { notes = notes_by seat makes; objects = objects_by makes })

    pub objects_take_on : (makes : SeatMakes old new here next step) → HasCome before earlier seat (OfObjects asked) past old.history here.held here.doing → AreObjectsBy seat (objects_by makes) → HasLedTo (after makes) new → LeadsTo step (after makes)
    objects_take_on makes has by_seat on_led = by makes by_seat on_led where
      stood : (doing : Doing C) → here.doing ≡ doing → HasCome before earlier seat (OfObjects asked) past old.history here.held doing
      stood doing is = subst (HasCome before earlier seat (OfObjects asked) past old.history here.held) is has

      by : (makes : SeatMakes old new here next step) → AreObjectsBy seat (objects_by makes) → HasLedTo (after makes) new → LeadsTo step (after makes)
      by (inl p) by_seat on_led = waits p.wait p.performs p.stands where
        waits : (wait : Option AnyWait) → Acts old new here next step p.walk wait p.found → here.doing ≡ OnLock p.walk wait → LeadsTo step (past_and past nothing_done)
        waits None acts is = absurd (stood (OnLock p.walk None) is)
        waits (Some wait) acts is = steps_here p.walk wait None (stood (OnLock p.walk (Some wait)) is) (ap (λ (w : Whole C N). w.truths) p.same) p.found (ap walk_of is) p.is_no_look acts
      by (inr (inl p)) by_seat on_led = absurd (stood (LooksByLimits p.walk p.place) p.stands)
      by (inr (inr (inl p))) by_seat on_led = goes_round_here p (stood (LooksByRound p.walk p.wait p.round) p.stands)
      by (inr (inr (inr (inl p)))) by_seat on_led = absurd (stood (OnNotes p.walk) p.stands)
      by (inr (inr (inr (inr p)))) by_seat on_led = leads (waits_then p.walk p.leads) refl p.goes where
        leads : (round : Option Round) → waits_then p.walk p.leads ≡ round → ObjectLeads round p.leads here next step → LeadsTo step (with_events p.operates.events)
        leads (Some round) waits g = begins_here p (stood (OnObjects p.walk) p.stands) round waits g on_led
        leads None waits g = operates_here p (stood (OnObjects p.walk) p.stands) by_seat g
