-- The looks of a wait, over plain data: where a wait goes that looks, and what it needs of the notes. A wait for any of a set of variables looks as it rests, and nowhere else; and while it does, its seat stands nowhere on the clock and the notes.
use Rattle.std.proofs.Common.{Bool, IsSome, List, None, Option, Some, [], ap, append-nil, cond, false, inl, inr, refl, subst, sym, true, ℕ, ◌∙◌, ◌≡◌, ◌⊎◌}
use Rattle.ns_world.proofs.Prelude.{Act, AnyWait, Await, Cause, ClockLoad, Cvs, Effect, EnvEffect, EnvEnd, EnvEvent, EnvFound, EnvPlain, EnvWalk, Expired, ForLook, Found, GoesRound, InRound, IsFirstAsk, IsLoad, Limits, Look, LookFits, LookOver, Looked, Looks, LooksAt, LooksByLimits, LooksByRound}
use Rattle.ns_world.proofs.Prelude.{MayShow, Mode, Next, NoteLoad, NoteStanding, ObjectReply, ObjectWalk, ObjectWords, On, Part, Performs, Round, RoundLeads, RoundPlace, Seat, SeatLooks, SeatMakes, Sees, Step, Truths, Wait, WaitsFor, Walk, Went, Whole, asked_of, at_will, came_back, cause_of}
use Rattle.ns_world.proofs.Prelude.{doing_after, env_got_of, env_want_of, got_of, have_variable, held_after, is_due, is_over, looks_at, looks_by_asked, outcome, part_in, passed, same_Some, shown_by, stopped, up_to, waits_for_any, waits_then, want_of}
use Rattle.ns_env.specs.declared.next.Next.TheVariants as TheNext

-- ---- where a look begins

-- the first place of a look that is to begin, if one is
abbrev pub FirstIf : (ℕ → NoteStanding) → Option EnvWalk → Type 0
FirstIf notes None = Unit {0}
FirstIf notes (Some place) = IsFirstAsk notes place

-- ---- a step of a look

-- which it is
which : {A : Type 0} (o : Option A) → IsSome o → (x : A) × (o ≡ Some x)
which (Some x) some = (x, refl)
which None some = absurd (cc)

-- it is a load
pub look_loads : (limits : Limits) (place : EnvWalk) → LookFits limits place → IsLoad (env_want_of place)
look_loads limits (ClockLoad (ForLook by)) fits = tt
look_loads limits (NoteLoad (ForLook by) clock note) fits = tt
look_loads limits place fits = absurd fits

-- it goes on, or shows what its limits may show
abbrev pub LookLeads : Limits → Next EnvWalk EnvEnd → Type 0
LookLeads limits (On next) = LookFits limits next
LookLeads limits (TheNext.Done (LookOver cause)) = MayShow limits cause
LookLeads limits next = ⊥

given : {A : Type 0} (o : Option A) (x : A) → o ≡ Some x → IsSome o
given o x e = subst (λ y. IsSome y) (sym e) refl

passed_at : (limits : Limits) (clock : ℕ) (deadline : Option ℕ) → limits.deadline ≡ deadline → LookLeads limits (cond (is_due clock deadline) (TheNext.Done (LookOver (Some Expired))) (TheNext.Done (LookOver None)))
passed_at limits clock None e = tt
passed_at limits clock (Some d) e = elim (is_due clock (Some d)) as (λ b. LookLeads limits (cond b (TheNext.Done (LookOver (Some Expired))) (TheNext.Done (LookOver None)))) [ true ↦ given limits.deadline d e | false ↦ tt ]

passed_leads : (by limits : Limits) (clock : ℕ) → by ≡ limits → LookLeads limits (passed (ForLook by) clock)
passed_leads by limits clock e = passed_at limits clock by.deadline (ap (λ (x : Limits). x.deadline) (sym e))

clock_leads : (by limits : Limits) (clock : ℕ) (note : Option ℕ) → by ≡ limits → by.note ≡ note → LookLeads limits (up_to (ForLook by) clock note)
clock_leads by limits clock None e f = passed_leads by limits clock e
clock_leads by limits clock (Some n) e f = (e, given limits.note n (ap (λ (x : Limits). x.note) (sym e) ∙ f))

over_leads : (by limits : Limits) (clock : ℕ) (b : Bool) (next : Option ℕ) → by ≡ limits → IsSome limits.note → LookLeads limits (cond b (stopped (ForLook by)) (up_to (ForLook by) clock next))
over_leads by limits clock true next e some = some
over_leads by limits clock false None e some = passed_leads by limits clock e
over_leads by limits clock false (Some n) e some = (e, some)

pub look_leads : (limits : Limits) (place : EnvWalk) → LookFits limits place → (seat : ℕ) (old new : EnvPlain) (found : EnvFound) (events : List EnvEvent) → EnvEffect seat (env_want_of place) old found new events → LookLeads limits (env_got_of place found)
look_leads limits place fits seat old new found events e = subst (λ (f : EnvFound). LookLeads limits (env_got_of place f)) (sym e.found_is) (finds place fits) where
  finds : (place : EnvWalk) → LookFits limits place → LookLeads limits (env_got_of place (outcome seat (env_want_of place) old).found)
  finds (ClockLoad (ForLook by)) fits = clock_leads by limits old.clock by.note fits refl
  finds (NoteLoad (ForLook by) clock note) fits = over_leads by limits clock (is_over clock (old.notes note)) (old.notes note).parent fits.0 fits.1
  finds place fits = absurd fits

-- what it shows is a step of the wait
pub shown_effect : {C : Type 0} {N : ℕ} (truths : Truths C) (seat : ℕ) (act : Act C) (limits : Limits) (cause : Option Cause) (part : Part C N) → looks_at act ≡ Some limits → MayShow limits cause →
    Effect truths seat act part (Looked cause) (record part { held = held_after (came_back act) cause part.held }) []
shown_effect truths seat (Look by again) limits cause part e may = let is : by ≡ limits = same_Some _ _ (e) in (subst (λ l. MayShow l cause) (sym is) may, refl, refl)
shown_effect truths seat act limits cause part e may = absurd (cc)

-- ---- where a look leads

-- what a look goes by is what may end the wait that was asked
is_look : {C : Type 0} (act : Act C) (limits : Limits) → looks_at act ≡ Some limits → (again : Bool) × (act ≡ Look limits again)
is_look (Look by again) limits e = let same : by ≡ limits = cc in (again, ap (λ l. Look l again) same)
is_look other limits e = absurd (cc)

pub looks_asked : {C : Type 0} (walk : Walk C) (limits : Limits) → looks_at (want_of walk) ≡ Some limits → (wait : Wait C) × (asked_of walk ≡ Await wait) × (wait.limits ≡ limits)
looks_asked walk limits e = let look = is_look (want_of walk) limits e in let found = looks_by_asked limits look.0 walk look.1 in (found.0, found.1, found.2)

may_show : (shown : Option ℕ) → MayShow at_will (cause_of shown)
may_show None = tt
may_show (Some place) = refl

-- a look by a round may show anything, since what such a wait goes by is for its caller to say
pub round_shows : {C : Type 0} (mode : Mode) (cvs : Cvs) (walk : Walk C) (limits : Limits) (shown : Option ℕ) → looks_at (want_of walk) ≡ Some limits → asked_of walk ≡ Await (waits_for_any mode cvs) → MayShow limits (cause_of shown)
round_shows mode cvs walk limits shown e asked =
    let look = looks_asked walk limits e in
    let for : Await look.0 ≡ Await (waits_for_any mode cvs) = sym look.1 ∙ asked in
    let is : look.0 ≡ waits_for_any mode cvs = cc in
    subst (λ l. MayShow l (cause_of shown)) (sym (ap (λ (w : Wait _). w.limits) is) ∙ look.2) (may_show shown)

-- the lock has stayed
abbrev pub LockStays : {C : Type 0} {N : ℕ} → Whole C N → Whole C N → Type 0
LockStays old new = new ≡ record old { env = new.env; seats = new.seats; objects = new.objects }

pub lock_stays : {C : Type 0} {N : ℕ} (old new : Whole C N) (env : EnvPlain) (objects : ObjectWords) → new ≡ record old { env = env; seats = new.seats; objects = objects } → LockStays old new
lock_stays {C} {N} old new env objects same = same ∙ (λ k. record old { env = sym (ap (λ (w : Whole C N). w.env) same) k; seats = new.seats; objects = sym (ap (λ (w : Whole C N). w.objects) same) k })

-- a step of the seat on the lock, from this place of its walk, which has found this
abbrev pub Acts : {C : Type 0} {N : ℕ} → Whole C N → Whole C N → Seat C N → Seat C N → Step → Walk C → Option AnyWait → Found → Type 0
Acts old new here next step walk wait found = Performs old.truths (part_in old here) here old.history walk wait found (part_in new next) next new.history step

-- what a look shows is a step of the wait
sees_acts : {C : Type 0} {N : ℕ} (old new : Whole C N) (here next : Seat C N) (step : Step) (walk : Walk C) (wait : Option AnyWait) (limits : Limits) (cause : Option Cause) → looks_at (want_of walk) ≡ Some limits → MayShow limits cause → LockStays old new →
    Sees here walk wait cause next step → Acts old new here next step walk wait (Looked cause)
sees_acts {C} {N} old new here next step walk wait limits cause looks may same q = record {
  commits = [];
  effect = subst (λ (part : Part C N). Effect old.truths here.number (want_of walk) (part_in old here) (Looked cause) part []) (sym part) (shown_effect old.truths here.number (want_of walk) limits cause (part_in old here) looks may);
  goes = q.goes ∙ (λ k. record here { doing = doing_after wait (got_of N walk (Looked cause)); held = sym held k; owed = sym owed k });
  grows = ap (λ (w : Whole C N). w.history) same ∙ sym (append-nil old.history);
  answers = q.answers;
} where
  held : next.held ≡ held_after (came_back (want_of walk)) cause here.held
  held = ap (λ (s : Seat C N). s.held) q.goes

  owed : next.owed ≡ here.owed
  owed = ap (λ (s : Seat C N). s.owed) q.goes

  part : part_in new next ≡ record (part_in old here) { held = held_after (came_back (want_of walk)) cause here.held }
  part = λ k. record (part_in (same k) here) { held = held k; owed = (owed k).items }

module _ {C : Type 0} {N : ℕ} (old new : Whole C N) (here next : Seat C N) (step : Step) where
  -- a step of a look at the clock and the notes goes on to a place there, or is one of the wait
  pub look_goes : (p : Looks old new here next step) → (for : LooksAt (want_of p.walk) p.place) →
      ((place : EnvWalk) × (env_got_of p.place p.looks.found ≡ On place) × LookFits for.0 place × (next ≡ record here { doing = LooksByLimits p.walk place }) × (step ≡ Went))
      ⊎ ((cause : Option Cause) × (env_got_of p.place p.looks.found ≡ TheNext.Done (LookOver cause)) × Acts old new here next step p.walk None (Looked cause))
  look_goes p for = by (env_got_of p.place p.looks.found) refl (look_leads for.0 p.place for.2 here.number old.env old.env p.looks.found [] p.looks.effect) p.looks.goes where
    by : (n : Next EnvWalk EnvEnd) → env_got_of p.place p.looks.found ≡ n → LookLeads for.0 n → SeatLooks n here p.walk next step →
        ((place : EnvWalk) × (env_got_of p.place p.looks.found ≡ On place) × LookFits for.0 place × (next ≡ record here { doing = LooksByLimits p.walk place }) × (step ≡ Went))
        ⊎ ((cause : Option Cause) × (env_got_of p.place p.looks.found ≡ TheNext.Done (LookOver cause)) × Acts old new here next step p.walk None (Looked cause))
    by (On place) is fits g = inl (place, is, fits, g.0, g.1)
    by (TheNext.Done (LookOver cause)) is may g = inr (cause, is, sees_acts old new here next step p.walk None for.0 cause for.1 may (lock_stays old new old.env old.objects p.same) g)
    by n is may g = absurd may

  -- so does a step of a round by which a wait looks
  pub round_goes : (p : GoesRound old new here next step) → WaitsFor old.objects.setup old.env.notes (asked_of p.walk) (Some p.wait) → IsSome (looks_at (want_of p.walk)) →
      ((round : ObjectWalk) × (p.leads ≡ On round) × (next ≡ record here { doing = LooksByRound p.walk p.wait round }) × (step ≡ Went))
      ⊎ Acts old new here next step p.walk (Some (record { round = p.wait.round; shown = shown_by p.leads })) (Looked (cause_of (shown_by p.leads)))
  round_goes p for looks = by p.leads refl p.goes where
    over : Sees here p.walk (Some (record { round = p.wait.round; shown = shown_by p.leads })) (cause_of (shown_by p.leads)) next step → Acts old new here next step p.walk (Some (record { round = p.wait.round; shown = shown_by p.leads })) (Looked (cause_of (shown_by p.leads)))
    over q =
        let limits = which (looks_at (want_of p.walk)) looks in
        sees_acts old new here next step p.walk _ limits.0 _ limits.1 (round_shows for.mode for.cvs p.walk limits.0 (shown_by p.leads) limits.1 for.asked) (lock_stays old new old.env new.objects p.same) q

    by : (n : Next ObjectWalk ObjectReply) → p.leads ≡ n → RoundLeads n here p.walk p.wait next step →
        ((round : ObjectWalk) × (p.leads ≡ On round) × (next ≡ record here { doing = LooksByRound p.walk p.wait round }) × (step ≡ Went))
        ⊎ Acts old new here next step p.walk (Some (record { round = p.wait.round; shown = shown_by p.leads })) (Looked (cause_of (shown_by p.leads)))
    by (On round) is g = inl (round, is, g.0, g.1)
    by n is g = inr (over (subst (λ m. Sees here p.walk (Some (record { round = p.wait.round; shown = shown_by m })) (cause_of (shown_by m)) next step) (sym is) g))

-- a call goes on to wait on the lock after a round over objects with variables among them, which it would repeat
pub waits_is : (walk : ObjectWalk) (leads : Next ObjectWalk ObjectReply) (round : Round) → waits_then walk leads ≡ Some round → (place : RoundPlace) × (later : ObjectWalk) × (walk ≡ InRound round place) × (leads ≡ TheNext.Idle later) × (have_variable round.items ≡ true)
waits_is (InRound by place) (TheNext.Idle later) round e = at (have_variable by.items) refl e where
  at : (b : Bool) → have_variable by.items ≡ b → cond b (Some by) None ≡ Some round → (x : RoundPlace) × (y : ObjectWalk) × (InRound by place ≡ InRound round x) × (◌≡◌ {A = Next ObjectWalk ObjectReply} (TheNext.Idle later) (TheNext.Idle y)) × (have_variable round.items ≡ true)
  at true is e = let same : by ≡ round = same_Some _ _ e in (place, later, ap (λ r. InRound r place) same, refl, ap (λ (r : Round). have_variable r.items) (sym same) ∙ is)
  at false is e = absurd (cc)
waits_is walk leads round e = absurd (cc)

-- what a step leaves of what the conditions mean, and of how the objects began
pub makes_means : {C : Type 0} {N : ℕ} (old new : Whole C N) (here next : Seat C N) (step : Step) → SeatMakes old new here next step → (new.truths ≡ old.truths) × (new.objects.setup ≡ old.objects.setup)
makes_means {C} {N} old new here next step (inl p) = (ap (λ (w : Whole C N). w.truths) p.same, ap (λ (w : Whole C N). w.objects.setup) p.same)
makes_means {C} {N} old new here next step (inr (inl p)) = (ap (λ (w : Whole C N). w.truths) p.same, ap (λ (w : Whole C N). w.objects.setup) p.same)
makes_means {C} {N} old new here next step (inr (inr (inl p))) = (ap (λ (w : Whole C N). w.truths) p.same, ap (λ o. o.setup) p.operates.becomes)
makes_means {C} {N} old new here next step (inr (inr (inr (inl p)))) = (ap (λ (w : Whole C N). w.truths) p.same, ap (λ (w : Whole C N). w.objects.setup) p.same)
makes_means {C} {N} old new here next step (inr (inr (inr (inr p)))) = (ap (λ (w : Whole C N). w.truths) p.same, ap (λ o. o.setup) p.operates.becomes)
