-- Where a step of its own leads a call on the lock, or on the clock and the notes.
use Rattle.std.proofs.Common.{List, None, Option, Some, [], ap, append_assoc, inl, inr, length, map, refl, slice_get, slice_set, subst, sym, ℕ, ◌++◌, ◌∙◌, ◌≡◌}
use Rattle.ns_world.proofs.Prelude.{Act, AnyWait, AreBy, BeginsWith, CallGoes, Cause, Course, Doing, DoingFits, Effect, EnvCourse, EnvEffect, EnvEnd, EnvEvent, EnvGoes, EnvGoesOn, EnvRequest, EnvSays, EnvWalk, Event, Finished, Found, GoesOn, IsLawfulWhole, LedTo, Look, LookBy, LookOver, Looked, Looks, LooksByLimits}
use Rattle.ns_world.proofs.Prelude.{LooksByRound, Means, Next, NotesSteps, OfLock, OfNotes, On, OnLock, OnNotes, OnObjects, Over, Part, Past, Request, Seat, SeatMakes, SoFar, Step, Truths, WaitsFor, Walk, WalkReply, WasShown, Whole, asked_of, asking_of, course_after, doing_after, doing_by}
use Rattle.ns_world.proofs.Prelude.{Went, env_asked_of, env_course_after, env_got_of, env_own, env_own-append, env_own_all, env_state, env_told, env_want_of, got_of, held_at, limits_of, lock_of, look_in, looked_after, looks_at, notes_by, notes_of, nothing_done, objects_after, objects_by, option_map_or}
use Rattle.ns_world.proofs.Prelude.{outcome, own, own_all, own_append, part_in, past_and, place_after, row_after, step_by, step_of, step_takes_on, takes_on, there, view_of, walk_of, want_of}
use Rattle.ns_world.proofs.HowFar.{HasCome, LockLeads, LockUnderway, Outcome, Untouched, lock_rests, no_own, no_own_notes}
use Rattle.ns_world.proofs.Led.{events_by, fits_here}
use Rattle.ns_world.proofs.Looking.{Acts, FirstIf, look_goes}
use Rattle.ns_world.proofs.Mapped.{got-map}
use Rattle.ns_world.proofs.SeatSet.{here_then, number_here}
use Rattle.ns_world.proofs.Shown.{LookSoFar, begins_on, limits_are, look_begins, look_means, place_asks, shown_so}
use Rattle.ns_world.proofs.Placing.{act_steps, placed_after}
use Rattle.ns_env.specs.declared.next.Next.TheVariants as TheNext
use Rattle.ns_world.specs.declared.step.Step.TheVariants.{Idle}

-- a step that is no look shows nothing
shows_not : {C : Type 0} {N : ℕ} (truths : Truths C) (seat : ℕ) (act : Act C) (old : Part C N) (shown : Option Cause) (new : Part C N) (commits : List (Event C N)) → looks_at act ≡ None → Effect truths seat act old (Looked shown) new commits → ⊥
shows_not truths seat (Look limits again) old shown new commits none e = absurd (cc)
shows_not truths seat other old shown new commits none e = e

still_looked : {C : Type 0} {N : ℕ} (truths : Truths C) (seat : ℕ) (act : Act C) (old : Part C N) (found : Found) (new : Part C N) (commits : List (Event C N)) (looked : Option (Option Cause)) → looks_at act ≡ None → Effect truths seat act old found new commits → looked_after found looked ≡ looked
still_looked truths seat act old (Looked shown) new commits looked none e = absurd (shows_not truths seat act old shown new commits none e)
still_looked truths seat act old found new commits looked none e = refl

module _ {C : Type 0} {N : ℕ} (before : Whole C N) (earlier : Past) (seat : ℕ) (old new : Whole C N) (lawful : IsLawfulWhole old) (means : old.truths ≡ before.truths) (here next : Seat C N)
    (at : slice_get old.seats seat ≡ Some here) (seats : new.seats ≡ slice_set old.seats seat next) (step : Step) where
  held_then : held_at new seat ≡ next.held
  held_then = ap (λ o. option_map_or (λ s. s.held) o None) (here_then old new seat here next at seats)

  -- ---- on the lock

  module _ (walk : Walk C) (wait : Option AnyWait) (found : Found) (walks : walk_of here.doing ≡ Some walk) (p : Acts old new here next step walk wait found) where
    module _ (request : Request C) (events : List EnvEvent) (u : LockUnderway before earlier seat request events old.history walk here.held) where
      -- where it leads the call, by the next place
      settles : (n : Next (Walk C) WalkReply) (course : Course C N) → course.began ≡ held_at before seat → own new.history seat ≡ own before.history seat ++ course.committed → new.truths ≡ before.truths → CallGoes before.truths seat (row_after new.history) request course n next.held →
          WasShown earlier.notes events (limits_of request) course.looked → LockLeads before earlier seat request events new next.held course.looked n
      settles n course began added truths goes shown = by n goes where
        on : (walk : Walk C) → GoesOn before.truths seat request course walk next.held → (v : LockUnderway before earlier seat request events new.history walk next.held) × (v.course.looked ≡ course.looked)
        on walk goes = (record { asked = goes.asked; course = course; began = began; added = added; so_far = goes.so_far; shown = shown; still = u.still }, refl)

        by : (n : Next (Walk C) WalkReply) → CallGoes before.truths seat (row_after new.history) request course n next.held → LockLeads before earlier seat request events new next.held course.looked n
        by (On walk) goes = on walk goes
        by (TheNext.Idle walk) goes = on walk goes
        by (TheNext.Done reply) goes = (
          record {
            course = course;
            began = began;
            added = added;
            shown = shown;
            still = u.still;
            answer = reply;
            tells = refl;
            means = subst (λ (t : Truths C). Means t seat (row_after new.history) request course reply (held_at new seat)) (sym truths) (subst (λ h. Means before.truths seat (row_after new.history) request course reply h) (sym held_then) goes);
          },
          refl,
        )

      -- a step of the seat on the lock leads its call on
      pub lock_goes : new.truths ≡ old.truths → WasShown earlier.notes events (limits_of request) (looked_after found u.course.looked) → LockLeads before earlier seat request events new next.held (looked_after found u.course.looked) (got_of N walk found)
      lock_goes same shown =
          let number = number_here old lawful seat here at in
          let steps = act_steps old new seat here next step walk wait found at seats walks p in
          let so_far : SoFar old.truths here.number u.course walk here.held = subst (λ n. SoFar old.truths n u.course walk here.held) (sym number) (subst (λ (t : Truths C). SoFar t seat u.course walk here.held) (sym means) u.so_far) in
          let course = course_after found p.commits u.course in
          let place = got_of N walk found in
          let goes = takes_on C N old.truths (length old.seats) old.history (lock_of old) (lock_of new) (view_of here) found p.commits u.course steps lawful.lawful so_far in
          let goes_asked = subst (λ r. CallGoes old.truths here.number (row_after (old.history ++ p.commits)) r course place next.held) u.asked goes in
          let goes_row = subst (λ h. CallGoes old.truths here.number (row_after h) request course place next.held) (sym p.grows) goes_asked in
          let goes_here = subst (λ (t : Truths C). CallGoes t seat (row_after new.history) request course place next.held) means (subst (λ n. CallGoes old.truths n (row_after new.history) request course place next.held) number goes_row) in
          let by : AreBy seat p.commits = subst (λ n. AreBy n p.commits) number (step_by old.truths (lock_of old) (view_of here) found (lock_of new) p.commits steps) in
          let added : own new.history seat ≡ own before.history seat ++ (u.course.committed ++ p.commits) =
          ap (λ h. own h seat) p.grows ∙ own_append seat old.history p.commits ∙ ap (λ es. own old.history seat ++ es) (own_all seat p.commits by) ∙ ap (λ es. es ++ p.commits) u.added ∙ append_assoc (own before.history seat) u.course.committed p.commits in
          settles place course u.began added (same ∙ means) goes_here shown

    module _ (request : Request C) (past : Past) (same : new.truths ≡ old.truths) (u : LockUnderway before earlier seat request past.notes old.history walk here.held) where
      still : LockUnderway before earlier seat request (past.notes ++ []) old.history walk here.held
      still = lock_rests before earlier seat request past.notes [] old.history old.history walk here.held refl (no_own_notes before earlier seat past.notes) u

      -- where it is no look
      pub lock_quietly : looks_at (want_of walk) ≡ None → LockLeads before earlier seat request (past.notes ++ []) new next.held u.course.looked (got_of N walk found)
      unfolding still lock_rests
      lock_quietly none =
          let kept = still_looked old.truths here.number (want_of walk) (part_in old here) found (part_in new next) p.commits u.course.looked none p.effect in
          subst (λ l. LockLeads before earlier seat request (past.notes ++ []) new next.held l (got_of N walk found)) kept (lock_goes request (past.notes ++ []) still same (subst (WasShown earlier.notes (past.notes ++ []) (limits_of request)) (sym kept) still.shown))

      -- where what it has shown is so
      pub lock_looked : WasShown earlier.notes (past.notes ++ []) (limits_of request) (looked_after found u.course.looked) → LockLeads before earlier seat request (past.notes ++ []) new next.held (looked_after found u.course.looked) (got_of N walk found)
      unfolding still lock_rests
      lock_looked shown = lock_goes request (past.notes ++ []) still same shown

  -- any step of a call on the lock
  module _ (request : Request C) (past : Past) (since : BeginsWith past.notes earlier.notes) (led : LedTo past.notes old) where
    abbrev now : SeatMakes old new here next step → Past
    now makes = past_and past (record { notes = notes_by seat makes; objects = objects_by makes })

    -- where it leads
    lock_so : (walk : Walk C) (found : Found) → Acts old new here next step walk None found → WaitsFor old.objects.setup old.env.notes (asked_of walk) None → (looked : Option (Option Cause)) → Untouched before earlier seat past →
        LockLeads before earlier seat request (past.notes ++ []) new next.held looked (got_of N walk found) → Outcome before earlier seat (OfLock request) step (past_and past nothing_done) new next
    lock_so walk found p for looked untouched leads =
        subst (λ s. Outcome before earlier seat (OfLock request) s (past_and past nothing_done) new next) (sym p.answers)
        (by (got_of N walk found) (ap (λ (s : Seat C N). s.doing) p.goes) (placed_after old.objects.setup (objects_after old.objects.setup past.objects) old.env.notes seat next.held None walk found for).asks leads) where
          none : Untouched before earlier seat (past_and past nothing_done)
          none = no_own before earlier seat past.objects [] refl ∙ untouched

          on : (look : Option LookBy) (walk : Walk C) → FirstIf old.env.notes (asking_of (doing_by look None walk)) → LockUnderway before earlier seat request (past.notes ++ []) new.history walk next.held →
              HasCome before earlier seat (OfLock request) (past_and past nothing_done) new.history next.held (doing_by look None walk)
          on None walk first v = (v, none)
          on (Some look) walk first v = (v, none, look_begins earlier.notes seat (past.notes ++ []) old.env.notes _ (begins_on earlier.notes past.notes [] since) first)

          by : (n : Next (Walk C) WalkReply) → next.doing ≡ doing_after None n → FirstIf old.env.notes (asking_of (doing_after None n)) → LockLeads before earlier seat request (past.notes ++ []) new next.held looked n →
              Outcome before earlier seat (OfLock request) (step_of None n) (past_and past nothing_done) new next
          by (On walk) is first v = subst (HasCome before earlier seat (OfLock request) (past_and past nothing_done) new.history next.held) (sym is) (on (look_in (want_of walk)) walk first v.0)
          by (TheNext.Idle walk) is first v = subst (HasCome before earlier seat (OfLock request) (past_and past nothing_done) new.history next.held) (sym is) (on (look_in (want_of walk)) walk first v.0)
          by (TheNext.Done reply) is first a = (a.0, none)

    -- a step of its look
    look_takes_on : (p : Looks old new here next step) → HasCome before earlier seat (OfLock request) past old.history here.held (LooksByLimits p.walk p.place) → Outcome before earlier seat (OfLock request) step (past_and past nothing_done) new next
    look_takes_on p has = elim (look_goes old new here next step p fits.1) [
      | inl g ↦
          let goes = subst (EnvGoes (past.notes ++ []) seat (env_asked_of p.place) (env_course_after [] look.0)) g.1 leads in
          let rests = lock_rests before earlier seat request past.notes [] old.history new.history p.walk here.held (ap (λ (w : Whole C N). own w.history seat) p.same) (no_own_notes before earlier seat past.notes) has.0 in
          subst (λ s. Outcome before earlier seat (OfLock request) s (past_and past nothing_done) new next) (sym g.4) (subst (λ (s : Seat C N). HasCome before earlier seat (OfLock request) (past_and past nothing_done) new.history s.held s.doing) (sym g.3)
          (rests, no_own before earlier seat past.objects [] refl ∙ has.1, (env_course_after [] look.0, look.1, goes.so_far)))
      | inr g ↦
          let means_look = subst (EnvGoes (past.notes ++ []) seat (env_asked_of p.place) (env_course_after [] look.0)) g.1 leads in
          let so = shown_so earlier.notes (past.notes ++ []) (limits_of request) fits.1.0 g.0 (limits_are p.walk request fits.1.0 has.0.asked fits.1.1)
          (look_means earlier.notes (past.notes ++ []) (env_course_after [] look.0) fits.1.0 (env_asked_of p.place) g.0 (place_asks fits.1.0 p.place fits.1.2) look.1 means_look) in
          lock_so p.walk (Looked g.0) g.2 fits.0 (Some g.0) has.1 (lock_looked p.walk None (Looked g.0) (ap walk_of p.stands) g.2 request past (ap (λ (w : Whole C N). w.truths) p.same) has.0 so)
    ] where
      fits : DoingFits old.objects.setup old.env.notes here.held (LooksByLimits p.walk p.place)
      fits = fits_here old new lawful seat here next at seats (LooksByLimits p.walk p.place) p.stands

      look : LookSoFar earlier.notes seat past.notes p.place
      look = has.2

      leads : EnvGoes (past.notes ++ []) seat (env_asked_of p.place) (env_course_after [] look.0) (env_got_of p.place p.looks.found)
      leads = step_takes_on past.notes [] (notes_of old) (env_state old.env (slice_set (map (λ s. asking_of s.doing) old.seats) seat (place_after (env_got_of p.place p.looks.found)))) seat p.looks.found look.0
          (record {
            walk = p.place;
            walks = got-map (λ s. asking_of s.doing) old.seats seat here at ∙ ap (λ d. Some (asking_of d)) p.stands;
            effect = subst (λ n. EnvEffect n (env_want_of p.place) old.env p.looks.found old.env []) (number_here old lawful seat here at) p.looks.effect;
            becomes = refl;
          }) led look.2

    pub lock_takes_on : (makes : SeatMakes old new here next step) → HasCome before earlier seat (OfLock request) past old.history here.held here.doing → Outcome before earlier seat (OfLock request) step (now makes) new next
    lock_takes_on makes has = by makes where
      stood : (doing : Doing C) → here.doing ≡ doing → HasCome before earlier seat (OfLock request) past old.history here.held doing
      stood doing is = subst (HasCome before earlier seat (OfLock request) past old.history here.held) is has

      by : (makes : SeatMakes old new here next step) → Outcome before earlier seat (OfLock request) step (now makes) new next
      by (inl p) = waits p.wait p.performs p.stands (fits_here old new lawful seat here next at seats (OnLock p.walk p.wait) p.stands).0 where
        waits : (wait : Option AnyWait) → Acts old new here next step p.walk wait p.found → here.doing ≡ OnLock p.walk wait → WaitsFor old.objects.setup old.env.notes (asked_of p.walk) wait → Outcome before earlier seat (OfLock request) step (past_and past nothing_done) new next
        waits None acts is for =
            let u = stood (OnLock p.walk None) is in
            lock_so p.walk p.found acts for u.0.course.looked u.1 (lock_quietly p.walk None p.found (ap walk_of is) acts request past (ap (λ (w : Whole C N). w.truths) p.same) u.0 p.is_no_look)
        waits (Some wait) acts is for = absurd (stood (OnLock p.walk (Some wait)) is)
      by (inr (inl p)) = look_takes_on p (stood (LooksByLimits p.walk p.place) p.stands)
      by (inr (inr (inl p))) = absurd (stood (LooksByRound p.walk p.wait p.round) p.stands)
      by (inr (inr (inr (inl p)))) = absurd (stood (OnNotes p.walk) p.stands)
      by (inr (inr (inr (inr p)))) = absurd (stood (OnObjects p.walk) p.stands)

  -- ---- on the clock and the notes

  module _ (request : EnvRequest) (past : Past) (led : LedTo past.notes old) where
    abbrev after : SeatMakes old new here next step → Past
    after makes = past_and past (record { notes = notes_by seat makes; objects = objects_by makes })

    -- where its own step leads it
    asks_goes : (p : NotesSteps old new here next step) → HasCome before earlier seat (OfNotes request) past old.history here.held (OnNotes p.walk) →
        Outcome before earlier seat (OfNotes request) step (past_and past (record { notes = (outcome seat (env_want_of p.walk) old.env).events; objects = [] })) new next
    asks_goes p u =
        let n = env_got_of p.walk p.asks.found in
        let goes = subst (λ r. EnvGoes (past.notes ++ notes) seat r course n) u.0.asked
        (step_takes_on past.notes notes (notes_of old) (env_state new.env (slice_set (map (λ s. asking_of s.doing) old.seats) seat (place_after n))) seat p.asks.found u.0.course
        (record { walk = p.walk; walks = got-map (λ s. asking_of s.doing) old.seats seat here at ∙ ap (λ d. Some (asking_of d)) p.stands; effect = effect; becomes = refl }) led u.0.so_far) in
        settle n (ap (λ (s : Seat C N). s.doing) p.asks.goes) goes p.asks.answers where
          notes : List EnvEvent
          notes = (outcome seat (env_want_of p.walk) old.env).events

          then : Past
          then = past_and past (record { notes = (outcome seat (env_want_of p.walk) old.env).events; objects = [] })

          effect : EnvEffect seat (env_want_of p.walk) old.env p.asks.found new.env (outcome seat (env_want_of p.walk) old.env).events
          effect = subst (λ n. EnvEffect n (env_want_of p.walk) old.env p.asks.found new.env (outcome n (env_want_of p.walk) old.env).events) (number_here old lawful seat here at) p.asks.effect

          course : EnvCourse
          course = env_course_after (outcome seat (env_want_of p.walk) old.env).events u.0.course

          held : next.held ≡ held_at before seat
          held = ap (λ (s : Seat C N). s.held) p.asks.goes ∙ u.0.same

          silent : own new.history seat ≡ own before.history seat
          silent = ap (λ (w : Whole C N). own w.history seat) p.same ∙ u.0.silent

          untouched : Untouched before earlier seat (past_and past (record { notes = (outcome seat (env_want_of p.walk) old.env).events; objects = [] }))
          untouched = no_own before earlier seat past.objects [] refl ∙ u.1

          added : env_own (past.notes ++ notes) seat ≡ env_own earlier.notes seat ++ (u.0.course.events ++ notes)
          added = env_own-append past.notes notes seat ∙ ap (λ es. env_own past.notes seat ++ es) (env_own_all seat notes (events_by seat (env_want_of p.walk) old.env p.asks.found new.env notes effect)) ∙ ap (λ es. es ++ notes) u.0.added
              ∙ append_assoc (env_own earlier.notes seat) u.0.course.events notes

          on : (walk : EnvWalk) → next.doing ≡ OnNotes walk → EnvGoesOn (past.notes ++ notes) seat request course walk → HasCome before earlier seat (OfNotes request) then new.history next.held next.doing
          on walk is goes = subst (HasCome before earlier seat (OfNotes request) then new.history next.held) (sym is)
              (record { asked = goes.asked; course = course; began = u.0.began; added = added; so_far = goes.so_far; same = held; silent = silent }, untouched)

          made : (n : Step) → step ≡ n → Outcome before earlier seat (OfNotes request) n then new next → Outcome before earlier seat (OfNotes request) step then new next
          made n is goes = subst (λ s. Outcome before earlier seat (OfNotes request) s then new next) (sym is) goes

          settle : (n : Next EnvWalk EnvEnd) → next.doing ≡ there OnNotes (place_after n) → EnvGoes (past.notes ++ notes) seat request course n → EnvSays n step → Outcome before earlier seat (OfNotes request) step then new next
          settle (On walk) is goes says = made Went says (on walk is goes)
          settle (TheNext.Idle walk) is goes says = made Idle says (on walk is goes)
          settle (TheNext.Done (Over reply)) is goes says = made (Finished (env_told reply)) says (record { course = course; began = u.0.began; added = added; answer = reply; tells = refl; means = goes; same = held_then ∙ held; silent = silent }, untouched)
          settle (TheNext.Done (LookOver cause)) is goes says = absurd says

    pub notes_take_on : (makes : SeatMakes old new here next step) → HasCome before earlier seat (OfNotes request) past old.history here.held here.doing → Outcome before earlier seat (OfNotes request) step (after makes) new next
    notes_take_on makes has = by makes where
      stood : (doing : Doing C) → here.doing ≡ doing → HasCome before earlier seat (OfNotes request) past old.history here.held doing
      stood doing is = subst (HasCome before earlier seat (OfNotes request) past old.history here.held) is has

      by : (makes : SeatMakes old new here next step) → Outcome before earlier seat (OfNotes request) step (after makes) new next
      by (inl p) = absurd (stood (OnLock p.walk p.wait) p.stands)
      by (inr (inl p)) = absurd (stood (LooksByLimits p.walk p.place) p.stands)
      by (inr (inr (inl p))) = absurd (stood (LooksByRound p.walk p.wait p.round) p.stands)
      by (inr (inr (inr (inl p)))) = asks_goes p (stood (OnNotes p.walk) p.stands)
      by (inr (inr (inr (inr p)))) = absurd (stood (OnObjects p.walk) p.stands)
