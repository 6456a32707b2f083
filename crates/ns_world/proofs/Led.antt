-- What has led to a world, and a step or a call that begins, lead to the world after it: each extends what has happened to the clock and the notes, and to counters and once cells.
use Rattle.std.proofs.Common.{List, None, Option, Some, [], ap, append-nil, arith, inl, inr, length, length-set, map, refl, slice_get, slice_set, subst, sym, true, unwrap_or, ℕ, ◌++◌, ◌<◌, ◌∙◌, ◌≡◌, ◌⊎◌}
use Rattle.ns_world.proofs.Prelude.{AnyWait, AreEnvBy, AreObjectsBy, AtRest, Doing, DoingFits, EnvAct, EnvEffect, EnvEnd, EnvEvent, EnvFound, EnvPlain, EnvWalk, Fit, Found, HasLedTo, IsLawfulEnv, IsLawfulObjects, IsLawfulWhole, LedTo, LookOver, Looked, LooksByLimits, LooksByRound, Next}
use Rattle.ns_world.proofs.Prelude.{NoteStanding, ObjectEffect, ObjectEvent, ObjectLeads, ObjectReply, ObjectStanding, ObjectWalk, On, OnLock, OnNotes, OnObjects, Operates, Past, Round, Seat, SeatMakes, Step, WaitsFor, Walk, Went, Whole, asked_of, asking_of, begins_env, cause_of, doing_after}
use Rattle.ns_world.proofs.Prelude.{env_got_of, env_state, env_want_of, got_of, keeps_env, led_more, length-map, made_begins, notes_by, notes_of, object_got, object_place, object_want, objects_after, objects_by, objects_of, operates_keeps, operating_of, outcome, outcome_by, past_and, place_after}
use Rattle.ns_world.proofs.Prelude.{placed, put_keeps, set_again, set_here, set_same, shown_by, there, waits_then, walk_in}
use Rattle.ns_world.proofs.Looking.{Acts, FirstIf, look_goes, round_goes}
use Rattle.ns_world.proofs.Mapped.{got-map}
use Rattle.ns_world.proofs.Places.{IsFirstAt}
use Rattle.ns_world.proofs.SeatSet.{number_here, reads, within}
use Rattle.ns_world.proofs.Placing.{IsPlace, placed_after}
use Rattle.ns_env.specs.declared.next.Next.TheVariants as TheNext

-- ---- what is done to the clock and the notes

-- a seat that stands nowhere there is put at the beginning of a look, if one is to begin
pub env_begins : (events : List EnvEvent) (plain : EnvPlain) (askings : List (Option EnvWalk)) (i : ℕ) (ask : Option EnvWalk) → slice_get askings i ≡ Some None → FirstIf plain.notes ask → IsLawfulEnv events (env_state plain askings) →
    IsLawfulEnv events (env_state plain (slice_set askings i ask))
env_begins events plain askings i None at first p = subst (λ xs. IsLawfulEnv events (env_state plain xs)) (sym (set_same askings i None at)) p
env_begins events plain askings i (Some walk) at first p = begins_env events (env_state plain askings) (env_state plain (slice_set askings i (Some walk))) i walk (record { over = at; first = first; becomes = refl }) p

-- what a step does to the clock and the notes is its seat's
pub events_by : (seat : ℕ) (act : EnvAct) (old : EnvPlain) (found : EnvFound) (new : EnvPlain) (events : List EnvEvent) → EnvEffect seat act old found new events → AreEnvBy seat events
events_by seat act old found new events e = subst (AreEnvBy seat) (sym e.events_are) (outcome_by seat act old)

pub first_if_at : {C : Type 0} (N : ℕ) (notes : ℕ → NoteStanding) (start : Doing C) → IsFirstAt N notes start → FirstIf notes (asking_of start)
first_if_at N notes (OnLock walk None) first = tt
first_if_at N notes (OnNotes walk) first = first
first_if_at N notes (OnObjects walk) first = tt
first_if_at N notes start first = absurd first

-- notes that are made stay made
pub led_makes : {C : Type 0} {N : ℕ} (events more : List EnvEvent) (old new : Whole C N) → LedTo events old → LedTo (events ++ more) new → (n : ℕ) → (old.env.notes n).made ≡ true → (new.env.notes n).made ≡ true
led_makes events more old new was now n made = subst (λ (notes : ℕ → NoteStanding). (notes n).made ≡ true) (sym now.lawful.meets.notes)
    (made_begins (events ++ more) events n now.lawful.meets.legal (more, refl) (subst (λ (notes : ℕ → NoteStanding). (notes n).made ≡ true) was.lawful.meets.notes made))

asking_there : (C : Type 0) (asking : Option EnvWalk) → asking_of {C = C} (there OnNotes asking) ≡ asking
asking_there C None = refl
asking_there C (Some walk) = refl

operating_on_notes : (C : Type 0) (asking : Option EnvWalk) → operating_of {C = C} (there OnNotes asking) ≡ None
operating_on_notes C None = refl
operating_on_notes C (Some walk) = refl

operating_there : (C : Type 0) (walk : Option ObjectWalk) → (operating_of {C = C} (there OnObjects walk) ≡ walk) × (asking_of {C = C} (there OnObjects walk) ≡ None)
operating_there C None = (refl, refl)
operating_there C (Some walk) = (refl, refl)

module _ {C : Type 0} {N : ℕ} (old new : Whole C N) (lawful : IsLawfulWhole old) (i : ℕ) (here next : Seat C N) (at : slice_get old.seats i ≡ Some here) (seats : new.seats ≡ slice_set old.seats i next) where
  abbrev askings : List (Option EnvWalk)
  askings = map (λ s. asking_of s.doing) old.seats

  abbrev walks : List (Option ObjectWalk)
  walks = map (λ s. operating_of s.doing) old.seats

  number : here.number ≡ i
  number = number_here old lawful i here at

  -- what the law says of the seat's place, where it is doing this
  pub fits_here : (doing : Doing C) → here.doing ≡ doing → DoingFits old.objects.setup old.env.notes here.held doing
  fits_here doing is = subst (DoingFits old.objects.setup old.env.notes here.held) is (lawful.stands i here at)

  ask_at : (doing : Doing C) → here.doing ≡ doing → slice_get askings i ≡ Some (asking_of doing)
  ask_at doing is = got-map (λ s. asking_of s.doing) old.seats i here at ∙ ap (λ d. Some (asking_of d)) is

  walk_at : (doing : Doing C) → here.doing ≡ doing → walk_in walks i ≡ operating_of doing
  walk_at doing is = ap (λ o. unwrap_or o None) (got-map (λ s. operating_of s.doing) old.seats i here at) ∙ ap operating_of is

  -- ---- the clock and the notes

  module _ (events : List EnvEvent) where
    notes_then : (env : EnvPlain) (asking : Option EnvWalk) → new.env ≡ env → asking_of next.doing ≡ asking → IsLawfulEnv events (env_state env (slice_set askings i asking)) → LedTo events new
    notes_then env asking env_is is p =
        subst (λ e. IsLawfulEnv events (env_state e (map (λ s. asking_of s.doing) new.seats))) (sym env_is) (subst (λ xs. IsLawfulEnv events (env_state env xs)) (sym (reads old new i here next at seats (λ s. asking_of s.doing) is)) p)

    -- they stay, and the seat is put from nowhere to a beginning, or nowhere
    notes_put : new.env ≡ old.env → slice_get askings i ≡ Some None → (doing : Doing C) → next.doing ≡ doing → FirstIf old.env.notes (asking_of doing) → LedTo events old → LedTo events new
    notes_put env none doing is first led = notes_then old.env (asking_of doing) env (ap asking_of is) (env_begins events old.env askings i (asking_of doing) none first led)

  module _ (step : Step) (past : Past) (led : HasLedTo past old) where
    none_done : LedTo past.notes new → AreEnvBy i [] × LedTo (past.notes ++ []) new
    none_done p = (tt, subst (λ es. LedTo es new) (sym (append-nil past.notes)) p)

    now : ObjectStanding
    now = objects_after old.objects.setup past.objects

    act_place : (walk : Walk C) (wait : Option AnyWait) (found : Found) → WaitsFor old.objects.setup old.env.notes (asked_of walk) wait → IsPlace old.objects.setup now old.env.notes i next.held (doing_after wait (got_of N walk found))
    act_place walk wait found for = placed_after old.objects.setup now old.env.notes i next.held wait walk found for

    doing_of : (walk : Walk C) (wait : Option AnyWait) (found : Found) → Acts old new here next step walk wait found → next.doing ≡ doing_after wait (got_of N walk found)
    doing_of walk wait found p = ap (λ (s : Seat C N). s.doing) p.goes

    notes_led : (makes : SeatMakes old new here next step) → AreEnvBy i (notes_by i makes) × LedTo (past.notes ++ notes_by i makes) new
    notes_led (inl p) =
        none_done (notes_put past.notes (ap (λ (w : Whole C N). w.env) p.same) (ask_at (OnLock p.walk p.wait) p.stands) _ (doing_of p.walk p.wait p.found p.performs) (act_place p.walk p.wait p.found (fits_here (OnLock p.walk p.wait) p.stands).0).asks led.0)
    notes_led (inr (inl p)) = none_done (elim (look_goes old new here next step p fits.1) [
      | inl g ↦ notes_then past.notes old.env (Some g.0) env (ap (λ (s : Seat C N). asking_of s.doing) g.3) (kept (On g.0) g.1)
      | inr g ↦
          let place = act_place p.walk None (Looked g.0) fits.0 in
          let after = doing_after None (got_of N p.walk (Looked g.0)) in
          let begun = env_begins past.notes old.env (slice_set askings i None) i (asking_of after) (set_here askings i None inside) place.asks (kept (TheNext.Done (LookOver g.0)) g.1) in
          notes_then past.notes old.env (asking_of after) env (ap asking_of (doing_of p.walk None (Looked g.0) g.2)) (subst (λ xs. IsLawfulEnv past.notes (env_state old.env xs)) (set_again askings i None (asking_of after)) begun)
    ]) where
      fits : DoingFits old.objects.setup old.env.notes here.held (LooksByLimits p.walk p.place)
      fits = fits_here (LooksByLimits p.walk p.place) p.stands

      env : new.env ≡ old.env
      env = ap (λ (w : Whole C N). w.env) p.same

      inside : i < length askings
      inside = let long = length-map old.seats (λ s. asking_of s.doing) in let low = within old new i here next at seats in omega (arith, long, low)

      kept : (n : Next EnvWalk EnvEnd) → env_got_of p.place p.looks.found ≡ n → IsLawfulEnv past.notes (env_state old.env (slice_set askings i (place_after n)))
      kept n is = subst (λ es. IsLawfulEnv es (env_state old.env (slice_set askings i (place_after n)))) (append-nil past.notes) (subst (λ m. IsLawfulEnv (past.notes ++ []) (env_state old.env (slice_set askings i (place_after m)))) is
          (keeps_env past.notes [] (notes_of old) (env_state old.env (slice_set askings i (place_after (env_got_of p.place p.looks.found)))) i p.looks.found
          (record { walk = p.place; walks = ask_at (LooksByLimits p.walk p.place) p.stands; effect = subst (λ n. EnvEffect n (env_want_of p.place) old.env p.looks.found old.env []) number p.looks.effect; becomes = refl }) led.0))
    notes_led (inr (inr (inl p))) = none_done (elim (round_goes old new here next step p fits.0 fits.2) [
      | inl g ↦ notes_put past.notes env none (LooksByRound p.walk p.wait g.0) (ap (λ (s : Seat C N). s.doing) g.2) tt led.0
      | inr g ↦ notes_put past.notes env none _ (doing_of p.walk _ _ g) (act_place p.walk (Some (record { round = p.wait.round; shown = shown_by p.leads })) (Looked (cause_of (shown_by p.leads))) fits.0).asks led.0
    ]) where
      fits : DoingFits old.objects.setup old.env.notes here.held (LooksByRound p.walk p.wait p.round)
      fits = fits_here (LooksByRound p.walk p.wait p.round) p.stands

      env : new.env ≡ old.env
      env = ap (λ (w : Whole C N). w.env) p.same

      none : slice_get askings i ≡ Some None
      none = ask_at (LooksByRound p.walk p.wait p.round) p.stands
    notes_led (inr (inr (inr (inl p)))) =
        let after = place_after (env_got_of p.walk p.asks.found) in
        let effect = subst (λ n. EnvEffect n (env_want_of p.walk) old.env p.asks.found new.env (outcome n (env_want_of p.walk) old.env).events) number p.asks.effect in
        let events = (outcome i (env_want_of p.walk) old.env).events in
        let kept = keeps_env past.notes events (notes_of old) (env_state new.env (slice_set askings i after)) i p.asks.found (record { walk = p.walk; walks = ask_at (OnNotes p.walk) p.stands; effect = effect; becomes = refl }) led.0 in
        (events_by i (env_want_of p.walk) old.env p.asks.found new.env events effect, notes_then (past.notes ++ events) new.env after refl (ap (λ (s : Seat C N). asking_of s.doing) p.asks.goes ∙ asking_there C after) kept)
    notes_led (inr (inr (inr (inr p)))) = none_done (by (waits_then p.walk p.leads) p.goes) where
      by : (round : Option Round) → ObjectLeads round p.leads here next step → LedTo past.notes new
      by (Some round) g = notes_put past.notes (ap (λ (w : Whole C N). w.env) p.same) (ask_at (OnObjects p.walk) p.stands) _ (ap (λ (s : Seat C N). s.doing) g.goes) tt led.0
      by None g = notes_put past.notes (ap (λ (w : Whole C N). w.env) p.same) (ask_at (OnObjects p.walk) p.stands) _ (ap (λ (s : Seat C N). s.doing) g.0) (subst (FirstIf old.env.notes) (sym (operating_there C (place_after p.leads)).1) tt) led.0

    -- ---- the counters and once cells, by the notes as they were

    abbrev ObjectsLed : List ObjectEvent → Type 0
    ObjectsLed events = AreObjectsBy i events × IsLawfulObjects (past.objects ++ events) (objects_of new) old.env.notes

    inside_walks : i < length walks
    inside_walks = let long = length-map old.seats (λ s. operating_of s.doing) in let low = within old new i here next at seats in omega (arith, long, low)

    low : i < old.objects.setup.seats
    low = let few = lawful.counted in let below = within old new i here next at seats in omega (arith, few, below)

    -- they stay, and the seat is put at a place that fits
    put_there : (doing : Doing C) → new.objects ≡ old.objects → next.doing ≡ doing → Fit old.objects.setup (objects_after old.objects.setup past.objects) old.env.notes i (operating_of doing) → IsLawfulObjects past.objects (objects_of new) old.env.notes
    put_there doing same is fits =
        subst (λ x. IsLawfulObjects past.objects x old.env.notes) (sym (λ k. record { setup = (same k).setup; words = (same k).words; walks = reads old new i here next at seats (λ s. operating_of s.doing) (ap operating_of is) k }))
        (put_keeps past.objects (objects_of old) old.env.notes i (operating_of doing) inside_walks low fits led.1)

    put_led : (doing : Doing C) → new.objects ≡ old.objects → next.doing ≡ doing → Fit old.objects.setup (objects_after old.objects.setup past.objects) old.env.notes i (operating_of doing) → ObjectsLed []
    put_led doing same is fits = (tt, subst (λ es. IsLawfulObjects es (objects_of new) old.env.notes) (sym (append-nil past.objects)) (put_there doing same is fits))

    -- a step was made on them, and the seat stands where that leads, or at another place that fits
    operated_led : (doing : Doing C) (walk : ObjectWalk) (leads : Next ObjectWalk ObjectReply) → here.doing ≡ doing → operating_of doing ≡ Some walk → (p : Operates old.env old.objects here.number walk new.objects leads) → (after : Option ObjectWalk) → operating_of next.doing ≡ after →
        (after ≡ place_after leads) ⊎ ((now : ObjectStanding) → Fit old.objects.setup now old.env.notes i after) → ObjectsLed p.events
    operated_led doing walk leads stands is p after becomes so =
        let effect = subst (λ n. ObjectEffect n (object_place (Some walk)) (object_want walk) old.objects.words old.env p.found new.objects.words p.events) number p.effect in
        let kept = operates_keeps (objects_of old) old.env past.notes led.0.lawful.meets past.objects led.1 i walk (walk_at doing stands ∙ is) p.found new.objects.words p.events effect in
        (kept.1, subst (λ x. IsLawfulObjects (past.objects ++ p.events) x old.env.notes) (sym (λ j. record { setup = (p.becomes j).setup; words = new.objects.words; walks = reads old new i here next at seats (λ s. operating_of s.doing) becomes j })) (by so kept.0)) where
          by : (after ≡ place_after leads) ⊎ ((now : ObjectStanding) → Fit old.objects.setup now old.env.notes i after) →
              IsLawfulObjects (past.objects ++ p.events) (record (objects_of old) { words = new.objects.words; walks = slice_set walks i (place_after (object_got walk p.found)) }) old.env.notes →
              IsLawfulObjects (past.objects ++ p.events) (record (objects_of old) { words = new.objects.words; walks = slice_set walks i after }) old.env.notes
          by (inl same) q = subst (λ o. IsLawfulObjects (past.objects ++ p.events) (record (objects_of old) { words = new.objects.words; walks = slice_set walks i o }) old.env.notes) (ap place_after (sym p.leads) ∙ sym same) q
          by (inr fits) q = subst (λ ws. IsLawfulObjects (past.objects ++ p.events) (record (objects_of old) { words = new.objects.words; walks = ws }) old.env.notes) (set_again walks i (place_after (object_got walk p.found)) after)
              (put_keeps (past.objects ++ p.events) (record (objects_of old) { words = new.objects.words; walks = slice_set walks i (place_after (object_got walk p.found)) }) old.env.notes i after
              (subst (λ n. i < n) (sym (length-set walks i (place_after (object_got walk p.found)))) inside_walks) low (fits (objects_after old.objects.setup (past.objects ++ p.events))) q)

    objects_led : (makes : SeatMakes old new here next step) → ObjectsLed (objects_by makes)
    objects_led (inl p) = put_led _ (ap (λ (w : Whole C N). w.objects) p.same) (doing_of p.walk p.wait p.found p.performs)
        (placed_after old.objects.setup (objects_after old.objects.setup past.objects) old.env.notes i next.held p.wait p.walk p.found (fits_here (OnLock p.walk p.wait) p.stands).0).operates
    objects_led (inr (inl p)) =
        let fits = fits_here (LooksByLimits p.walk p.place) p.stands in
        let same = ap (λ (w : Whole C N). w.objects) p.same in
        elim (look_goes old new here next step p fits.1) [
          | inl g ↦ put_led (LooksByLimits p.walk g.0) same (ap (λ (s : Seat C N). s.doing) g.3) tt
          | inr g ↦ put_led _ same (doing_of p.walk None (Looked g.0) g.2) (placed_after old.objects.setup (objects_after old.objects.setup past.objects) old.env.notes i next.held None p.walk (Looked g.0) fits.0).operates
        ]
    objects_led (inr (inr (inl p))) =
        let fits = fits_here (LooksByRound p.walk p.wait p.round) p.stands in
        elim (round_goes old new here next step p fits.0 fits.2) [
          | inl g ↦ operated_led (LooksByRound p.walk p.wait p.round) p.round p.leads p.stands refl p.operates (Some g.0) (ap (λ (s : Seat C N). operating_of s.doing) g.2) (inl (ap place_after (sym g.1)))
          | inr g ↦ operated_led (LooksByRound p.walk p.wait p.round) p.round p.leads p.stands refl p.operates
              (operating_of (doing_after (Some (record { round = p.wait.round; shown = shown_by p.leads })) (got_of N p.walk (Looked (cause_of (shown_by p.leads)))))) (ap operating_of (doing_of p.walk _ _ g))
              (inr (λ now. (placed_after old.objects.setup now old.env.notes i next.held (Some (record { round = p.wait.round; shown = shown_by p.leads })) p.walk (Looked (cause_of (shown_by p.leads))) fits.0).operates))
        ]
    objects_led (inr (inr (inr (inl p)))) =
        put_led _ (ap (λ (w : Whole C N). w.objects) p.same) (ap (λ (s : Seat C N). s.doing) p.asks.goes) (subst (Fit old.objects.setup (objects_after old.objects.setup past.objects) old.env.notes i) (sym (operating_on_notes C (place_after (env_got_of p.walk p.asks.found)))) tt)
    objects_led (inr (inr (inr (inr p)))) = by (waits_then p.walk p.leads) p.goes where
      by : (round : Option Round) → ObjectLeads round p.leads here next step → ObjectsLed p.operates.events
      by (Some round) g = operated_led (OnObjects p.walk) p.walk p.leads p.stands refl p.operates None (ap (λ (s : Seat C N). operating_of s.doing) g.goes) (inr (λ now. tt))
      by None g = operated_led (OnObjects p.walk) p.walk p.leads p.stands refl p.operates (place_after p.leads) (ap (λ (s : Seat C N). operating_of s.doing) g.0 ∙ (operating_there C (place_after p.leads)).0) (inl refl)

    pub makes_led : (makes : SeatMakes old new here next step) → AreEnvBy i (notes_by i makes) × AreObjectsBy i (objects_by makes) × HasLedTo (past_and past (record { notes = notes_by i makes; objects = objects_by makes })) new
    makes_led makes =
        let on_notes = notes_led makes in
        let on_objects = objects_led makes in
        let more = led_makes past.notes (notes_by i makes) old new led.0 on_notes.1 in
        (on_notes.0, on_objects.0, (on_notes.1, led_more (past.objects ++ objects_by makes) (objects_of new) old.env.notes new.env.notes more on_objects.1))

  -- ---- a call begins

  pub begun_led : (start : Doing C) → next ≡ placed here start → new ≡ record old { seats = new.seats } → here.doing ≡ AtRest → (past : Past) → HasLedTo past old → FirstIf old.env.notes (asking_of start) →
      Fit old.objects.setup (objects_after old.objects.setup past.objects) old.env.notes i (operating_of start) → HasLedTo past new
  begun_led start is same rests past led first there =
      let env = ap (λ (w : Whole C N). w.env) same in
      let doing = ap (λ (s : Seat C N). s.doing) is in (
        notes_put past.notes env (ask_at AtRest rests) start doing first led.0,
        subst (λ (env : EnvPlain). IsLawfulObjects past.objects (objects_of new) env.notes) (sym env) (put_there Went past led start (ap (λ (w : Whole C N). w.objects) same) doing there),
      )
