-- Each kind of step, and a call that begins, keep the law: the machines' laws, and that the seat stands as it may.
use Rattle.std.proofs.Common.{None, Option, Some, ap, append-nil, false, inl, inr, length, map, refl, slice_get, slice_set, subst, sym, true, unwrap_or, ℕ, ◌<◌, ◌∙◌, ◌≡◌}
use Rattle.ns_world.proofs.Prelude.{AnyWait, AreEnvBy, AreObjectsBy, AtRest, Call, CallInRange, Doing, DoingFits, EnvEnd, EnvPlain, EnvWalk, Found, GoesInCall, HasLedTo, HaveLedTo, InRound, IsFirst, IsLawful, IsLawfulWhole, LedTo, Looked, LooksByLimits, LooksByRound, NeedsSection, Next, ObjectLeads, ObjectReply}
use Rattle.ns_world.proofs.Prelude.{ObjectWalk, On, OnLock, OnNotes, OnObjects, Past, PlaceFits, QuietKeeps, Round, Seat, SeatMakes, StaysAsked, Step, Truths, WaitsFor, Walk, Whole, WholeMoves, WholeStarts, WholeStep, asked_of, begin_at, begins, cause_of, done_in, env_got_of, keeps, lock_of}
use Rattle.ns_world.proofs.Prelude.{mode_of, mode_waited, notes_by, nothing_done, object_asked, objects_after, objects_by, operating_of, past_and, place_after, placed, shown_by, start_of, stays_asked, there, view_of, waits_then, walk_of}
use Rattle.ns_world.proofs.Led.{begun_led, first_if_at, fits_here, led_makes, makes_led}
use Rattle.ns_world.proofs.Looking.{Acts, LockStays, lock_stays, look_goes, makes_means, round_goes, waits_is}
use Rattle.ns_world.proofs.Mapped.{got-map}
use Rattle.ns_world.proofs.Places.{StartFits, begins_among, first_at, first_fits, section_fits, start_alone, start_fits}
use Rattle.ns_world.proofs.SeatSet.{lawful_set, reads, settled_here, stands_more, stays, view_at}
use Rattle.ns_world.proofs.Placing.{act_steps, at_rest, goes_in_call, placed_after}
use Rattle.ns_env.specs.declared.next.Next.TheVariants as TheNext

module _ {C : Type 0} {N : ℕ} (old new : Whole C N) (lawful : IsLawfulWhole old) (i : ℕ) (here next : Seat C N) (at : slice_get old.seats i ≡ Some here) (seats : new.seats ≡ slice_set old.seats i next) where
  -- ---- the lock

  -- it has stayed, and so has the seat's view
  stays_lawful : LockStays old new → view_of next ≡ view_of here → IsLawful new.truths (length old.seats) new.history (lock_of new)
  stays_lawful same view =
      let lock : lock_of new ≡ lock_of old = λ k. record (lock_of (same k)) { views = stays old new i here next at seats view_of view k } in
      subst (λ s. IsLawful new.truths (length old.seats) new.history s) (sym lock) (subst (λ h. IsLawful new.truths (length old.seats) h (lock_of old)) (sym (ap (λ (w : Whole C N). w.history) same))
      (subst (λ (t : Truths C). IsLawful t (length old.seats) old.history (lock_of old)) (sym (ap (λ (w : Whole C N). w.truths) same)) lawful.lawful))

  acts_lawful : 0 < N → QuietKeeps N old.truths → (step : Step) (walk : Walk C) (wait : Option AnyWait) (found : Found) → new.truths ≡ old.truths → walk_of here.doing ≡ Some walk → Acts old new here next step walk wait found → IsLawful new.truths (length old.seats) new.history (lock_of new)
  acts_lawful some quiet step walk wait found means walks p = subst (λ (t : Truths C). IsLawful t (length old.seats) new.history (lock_of new)) (sym means) (subst (λ h. IsLawful old.truths (length old.seats) h (lock_of new)) (sym p.grows)
      (keeps old.truths some quiet (length old.seats) old.history (lock_of old) (view_of here) found (lock_of new) p.commits lawful.few (act_steps old new i here next step walk wait found at seats walks p) lawful.lawful))

  begins_lawful : LockStays old new → (walk : Walk C) → view_of next ≡ record (view_of here) { walk = Some walk } → walk_of here.doing ≡ None → IsFirst N walk → PlaceFits old.truths (Some walk) here.held → IsLawful new.truths (length old.seats) new.history (lock_of new)
  begins_lawful same walk view over first fits =
      let lock : lock_of new ≡ record (lock_of old) { views = slice_set (map view_of old.seats) i (record (view_of here) { walk = Some walk }) } = λ k. record (lock_of (same k)) { views = reads old new i here next at seats view_of view k } in
      subst (λ h. IsLawful new.truths (length old.seats) h (lock_of new)) (sym (ap (λ (w : Whole C N). w.history) same)) (subst (λ (t : Truths C). IsLawful t (length old.seats) old.history (lock_of new)) (sym (ap (λ (w : Whole C N). w.truths) same))
      (begins old.truths (length old.seats) old.history (lock_of old) (view_of here) walk (lock_of new) (begin_at old.truths (lock_of old) i (view_of here) (view_at old lawful i here at) walk (lock_of new) over first fits lock) lawful.lawful))

  -- ---- a step

  -- what it leaves: of the seat its number; the seat stands as it may, and the lock keeps its law
  record Leaves : Type 0 where
    number : next.number ≡ here.number
    seat : DoingFits old.objects.setup old.env.notes next.held next.doing
    lock : IsLawful new.truths (length old.seats) new.history (lock_of new)

  -- where the lock stays, and the seat's section and its place there
  stays_so : LockStays old new → (doing : Doing C) → next ≡ record here { doing = doing } → walk_of doing ≡ walk_of here.doing → DoingFits old.objects.setup old.env.notes here.held doing → Leaves
  stays_so same doing goes walks fits = record {
    number = ap (λ (s : Seat C N). s.number) goes;
    seat = subst (λ (s : Seat C N). DoingFits old.objects.setup old.env.notes s.held s.doing) (sym goes) fits;
    lock = stays_lawful same (ap view_of goes ∙ (λ k. record (view_of here) { walk = walks k }));
  }

  may_next : (walk : ObjectWalk) → NeedsSection (object_asked walk) here.held → (n : Next ObjectWalk ObjectReply) → StaysAsked (object_asked walk) n → DoingFits old.objects.setup old.env.notes here.held (there OnObjects (place_after n))
  may_next walk may (On w) same = subst (λ asked. NeedsSection asked here.held) (sym same) may
  may_next walk may (TheNext.Idle w) same = subst (λ asked. NeedsSection asked here.held) (sym same) may
  may_next walk may (TheNext.Done reply) same = tt

  notes_next : (n : Next EnvWalk EnvEnd) → GoesInCall n → DoingFits old.objects.setup old.env.notes here.held (there OnNotes (place_after n)) × (walk_of {C = C} (there OnNotes (place_after n)) ≡ None)
  notes_next (On walk) goes = (goes, refl)
  notes_next (TheNext.Idle walk) goes = (goes, refl)
  notes_next (TheNext.Done end) goes = (tt, refl)

  objects_next : (walk : Option ObjectWalk) → walk_of {C = C} (there OnObjects walk) ≡ None
  objects_next None = refl
  objects_next (Some walk) = refl

  module _ (some : 0 < N) (quiet : QuietKeeps N old.truths) (step : Step) where
    acts_so : (walk : Walk C) (wait : Option AnyWait) (found : Found) → new.truths ≡ old.truths → walk_of here.doing ≡ Some walk → WaitsFor old.objects.setup old.env.notes (asked_of walk) wait → Acts old new here next step walk wait found → Leaves
    acts_so walk wait found means walks for p = record {
      number = ap (λ (s : Seat C N). s.number) p.goes;
      seat = subst (DoingFits old.objects.setup old.env.notes next.held) (sym (ap (λ (s : Seat C N). s.doing) p.goes)) (placed_after old.objects.setup (objects_after old.objects.setup lawful.past.objects) old.env.notes i next.held wait walk found for).fits;
      lock = acts_lawful some quiet step walk wait found means walks p;
    }

    leaves_of : SeatMakes old new here next step → Leaves
    leaves_of (inl p) = acts_so p.walk p.wait p.found (ap (λ (w : Whole C N). w.truths) p.same) (ap walk_of p.stands) (fits_here old new lawful i here next at seats (OnLock p.walk p.wait) p.stands).0 p.performs
    leaves_of (inr (inl p)) =
        let fits = fits_here old new lawful i here next at seats (LooksByLimits p.walk p.place) p.stands in
        elim (look_goes old new here next step p fits.1) [
          | inl g ↦ stays_so (lock_stays old new old.env old.objects p.same) (LooksByLimits p.walk g.0) g.3 (ap walk_of (sym p.stands)) (fits.0, (fits.1.0, fits.1.1, g.2))
          | inr g ↦ acts_so p.walk None (Looked g.0) (ap (λ (w : Whole C N). w.truths) p.same) (ap walk_of p.stands) fits.0 g.2
        ]
    leaves_of (inr (inr (inl p))) =
        let fits = fits_here old new lawful i here next at seats (LooksByRound p.walk p.wait p.round) p.stands in
        let stays = subst (StaysAsked (object_asked p.round)) (sym p.operates.leads) (stays_asked p.round p.operates.found) in
        elim (round_goes old new here next step p fits.0 fits.2) [
          | inl g ↦ stays_so (lock_stays old new old.env new.objects p.same) (LooksByRound p.walk p.wait g.0) g.2 (ap walk_of (sym p.stands)) (fits.0, subst (StaysAsked (object_asked p.round)) g.1 stays ∙ fits.1, fits.2)
          | inr g ↦ acts_so p.walk _ (Looked (cause_of (shown_by p.leads))) (ap (λ (w : Whole C N). w.truths) p.same) (ap walk_of p.stands) fits.0 g
        ]
    leaves_of (inr (inr (inr (inl p)))) =
        let call = fits_here old new lawful i here next at seats (OnNotes p.walk) p.stands in
        let on = notes_next (env_got_of p.walk p.asks.found) (goes_in_call p.walk p.asks.found call) in
        stays_so (lock_stays old new new.env old.objects p.same) _ p.asks.goes (on.1 ∙ ap walk_of (sym p.stands)) on.0
    leaves_of (inr (inr (inr (inr p)))) = by (waits_then p.walk p.leads) refl p.goes where
      may : NeedsSection (object_asked p.walk) here.held
      may = fits_here old new lawful i here next at seats (OnObjects p.walk) p.stands

      by : (round : Option Round) → waits_then p.walk p.leads ≡ round → ObjectLeads round p.leads here next step → Leaves
      by None waits g = stays_so (lock_stays old new old.env new.objects p.same) _ g.0 (objects_next (place_after p.leads) ∙ ap walk_of (sym p.stands)) (may_next p.walk may p.leads (subst (StaysAsked (object_asked p.walk)) (sym p.operates.leads) (stays_asked p.walk p.operates.found)))
      by (Some round) waits g =
          let is = waits_is p.walk p.leads round waits in
          let over = ap walk_of p.stands in
          let there = (lawful.led.1.each i (InRound round is.0) (ap (λ o. unwrap_or o None) (got-map (λ s. operating_of s.doing) old.seats i here at) ∙ ap operating_of p.stands ∙ ap Some is.2)).0 in
          let fits = section_fits old.truths g.cvs here.held (subst (λ w. NeedsSection (object_asked w) here.held) is.2 may is.4) g.variables (settled_here old lawful i here at over) in
          record {
            number = ap (λ (s : Seat C N). s.number) g.goes;
            seat = subst (λ (s : Seat C N). DoingFits old.objects.setup old.env.notes s.held s.doing) (sym g.goes) (record { mode = mode_waited (mode_of here.held); cvs = g.cvs; asked = refl; among = g.among; there = there }, refl);
            lock = begins_lawful (lock_stays old new old.env new.objects p.same) _ (ap view_of g.goes) over (refl, tt) fits;
          }

    pub makes_keep : SeatMakes old new here next step → IsLawfulWhole new
    makes_keep makes =
        let on = (makes_led old new lawful i here next at seats step lawful.past lawful.led makes).2 in
        let t = leaves_of makes in
        let more = led_makes lawful.past.notes (notes_by i makes) old new lawful.led.0 on.0 in
        lawful_set old new i here next lawful at seats t.number (makes_means old new here next step makes).1 more (stands_more old.objects.setup old.env.notes new.env.notes more next.held next.doing t.seat)
        t.lock (past_and lawful.past (record { notes = notes_by i makes; objects = objects_by makes })) on

  -- ---- a call begins

  module _ (start : Doing C) (is : next ≡ placed here start) (same : new ≡ record old { seats = new.seats }) (rests : here.doing ≡ AtRest) where
    begun_keeps : StartFits old.truths old.env.notes start here.held → begins_among start ≡ false → HasLedTo lawful.past new → IsLawfulWhole new
    begun_keeps fits alone led = by start is fits alone where
      over : walk_of here.doing ≡ None
      over = ap walk_of rests

      env : new.env ≡ old.env
      env = ap (λ (w : Whole C N). w.env) same

      lawful_if : (start : Doing C) → next ≡ placed here start → DoingFits old.objects.setup old.env.notes here.held start → IsLawful new.truths (length old.seats) new.history (lock_of new) → IsLawfulWhole new
      lawful_if start is fits lock = lawful_set old new i here next lawful at seats (ap (λ (s : Seat C N). s.number) is) (ap (λ (w : Whole C N). w.objects.setup) same) (λ n made. subst (λ (env : EnvPlain). (env.notes n).made ≡ true) (sym env) made)
          (subst (λ (env : EnvPlain). DoingFits old.objects.setup env.notes next.held next.doing) (sym env) (subst (λ (s : Seat C N). DoingFits old.objects.setup old.env.notes s.held s.doing) (sym is) fits)) lock lawful.past led

      stays_there : (start : Doing C) → next ≡ placed here start → walk_of start ≡ None → IsLawful new.truths (length old.seats) new.history (lock_of new)
      stays_there start is none = stays_lawful (lock_stays old new old.env old.objects same) (ap view_of is ∙ (λ k. record (view_of here) { walk = (none ∙ sym over) k }))

      by : (start : Doing C) → next ≡ placed here start → StartFits old.truths old.env.notes start here.held → begins_among start ≡ false → IsLawfulWhole new
      by (OnLock walk None) is fits alone = lawful_if (OnLock walk None) is ((alone, fits.2), fits.3) (begins_lawful (lock_stays old new old.env old.objects same) walk (ap view_of is) over fits.0 fits.1)
      by (OnNotes walk) is fits alone = lawful_if (OnNotes walk) is fits (stays_there (OnNotes walk) is refl)
      by (OnObjects walk) is fits alone = lawful_if (OnObjects walk) is fits (stays_there (OnObjects walk) is refl)
      by start is fits alone = absurd fits

-- ---- any step, and any call

module _ {C : Type 0} {N : ℕ} (old new : Whole C N) (lawful : IsLawfulWhole old) (i : ℕ) where
  -- what has led to the world, and the events of a step, which are its seat's, lead to the world after it
  pub moves_led : (step : Step) (past : Past) → HasLedTo past old → (p : WholeMoves old new i step) → AreEnvBy i (notes_by i p.makes) × AreObjectsBy i (objects_by p.makes) × HasLedTo (past_and past (record { notes = notes_by i p.makes; objects = objects_by p.makes })) new
  moves_led step past led p = makes_led old new lawful i p.here p.next p.at p.seats step past led p.makes

  pub step_keeps : 0 < N → QuietKeeps N old.truths → (step : Step) → WholeStep old new i step → IsLawfulWhole new
  step_keeps some quiet step (inl p) = subst IsLawfulWhole (sym p.1) lawful
  step_keeps some quiet step (inr p) = makes_keep old new lawful i p.here p.next p.at p.seats some quiet step p.makes

  module _ (call : Call C) (p : WholeStarts old new i call) where
    abbrev start : Doing C
    start = start_of N (mode_of p.here.held) call

    rests : p.here.doing ≡ AtRest
    rests = at_rest p.here.doing p.idle

    seats : new.seats ≡ slice_set old.seats i (placed p.here start)
    seats = ap (λ (w : Whole C N). w.seats) p.begins

    same : new ≡ record old { seats = new.seats }
    same = p.begins ∙ (λ k. record old { seats = sym seats k })

    pub starts_led : (past : Past) → HasLedTo past old → HasLedTo past new
    starts_led past led =
        let mode = mode_of p.here.held in
        begun_led old new lawful i p.here (placed p.here start) p.at seats start refl same rests past led (first_if_at N old.env.notes start (first_at N old.objects.setup old.env.notes mode call p.fits))
        (first_fits N old.objects.setup (objects_after old.objects.setup past.objects) old.env.notes mode i call p.fits)

    pub start_keeps : 0 < N → CallInRange N call → IsLawfulWhole new
    start_keeps some range =
        let fits = start_fits old.truths old.env.notes old.objects.setup call p.here.held some range p.fits (settled_here old lawful i p.here p.at (ap walk_of rests)) in
        begun_keeps old new lawful i p.here (placed p.here start) p.at seats start refl same rests fits (start_alone N (mode_of p.here.held) call) (starts_led lawful.past lawful.led)

pub no_more : {C : Type 0} {N : ℕ} (past : Past) (world : Whole C N) → HasLedTo past world → HasLedTo (past_and past nothing_done) world
no_more past world led = (subst (λ es. LedTo es world) (sym (append-nil past.notes)) led.0, subst (λ es. HaveLedTo es world) (sym (append-nil past.objects)) led.1)

-- also where none was made
pub steps_led : {C : Type 0} {N : ℕ} (past : Past) (old new : Whole C N) (seat : ℕ) (step : Step) → IsLawfulWhole old → HasLedTo past old → (p : WholeStep old new seat step) →
    AreEnvBy seat (done_in old new seat step p).notes × AreObjectsBy seat (done_in old new seat step p).objects × HasLedTo (past_and past (done_in old new seat step p)) new
steps_led past old new seat step lawful led (inl p) = (tt, tt, no_more past new (subst (HasLedTo past) (sym p.1) led))
steps_led past old new seat step lawful led (inr p) = moves_led old new lawful seat step past led p
