-- A step keeps the law: what has happened by it is legal, the clock and the notes are as it leaves them, and its caller and all others have come as far as they say.
use Rattle.std.proofs.Common.{◌≡◌, ◌≢◌, ℕ, ◌+◌, ◌<◌, ◌≤◌, min, max, nat_lt, Bool, true, false, cond, List, [], ◌∷◌, ◌++◌, Some, sym, refl, ap, ◌∙◌, subst, arith, append-nil}
use Rattle.std.proofs.lemmas.Bool.Decides.{nat_tests}
use Rattle.ns_env.specs.Prelude.{Adding, Advance, CanAct, Clock, EnvAct, EnvEvent, EnvFound, EnvPlain, EnvStanding, Every, IsLawful, IsLegalEnv, IsLegalEnvEvent, IsLegalEnvFrom, LoadClock, LoadNext, LoadNote, Making, MakingFits, Meets, MoveClock, New, NextNumber, Note, NoteStanding, Nothing, Notify}
use Rattle.ns_env.specs.Prelude.{NotifyNote, Outcome, StoreNote, Stored, Take, TakeNext, Taken, adds, but_at, env_after, env_from, env_next, env_who, first_env, loaded, made_note, making_after, notified_note, outcome, state_of, takes_in}
use Rattle.ns_model.proofs.Environments.{env_from-append, legal_env_append, by_seats_append, but_cases, but-here, but-there, IsSound, sound_from, sound_after}
use Rattle.ns_env.proofs.Ways.{by_test, either}
use Rattle.ns_env.specs.declared.view.Making.TheVariants as TheMaking

pub adds_most : (making : Making) → adds making ≤ 1
adds_most Nothing = omega arith
adds_most Adding = omega arith
adds_most (TheMaking.Taken note) = omega arith

-- ---- what one event more leaves

pub after_one : (h : List EnvEvent) (e : EnvEvent) → env_after (h ++ e ∷ []) ≡ env_next (env_after h) e
after_one h e = env_from-append first_env h (e ∷ [])

meets_one : (h : List EnvEvent) (e : EnvEvent) (plain : EnvPlain) → IsLegalEnv h → IsLegalEnvEvent (env_after h) e → plain.clock ≡ (env_next (env_after h) e).clock →
    (env_next (env_after h) e).takes ≡ min plain.next 64 → plain.notes ≡ (env_next (env_after h) e).notes → Meets (h ++ e ∷ []) plain
meets_one h e plain legal fits clock takes notes = record {
  legal = legal_env_append first_env h (e ∷ []) legal (fits, tt);
  clock = clock ∙ ap (λ (s : EnvStanding). s.clock) (sym (after_one h e));
  takes = ap (λ (s : EnvStanding). s.takes) (after_one h e) ∙ takes;
  notes = notes ∙ ap (λ (s : EnvStanding). s.notes) (sym (after_one h e));
}

-- ---- how far the others have come

-- a number that a seat has taken, and not made, stays so, whatever another does
making_stays : (now : EnvStanding) (e : EnvEvent) (seat : ℕ) (making : Making) → IsSound now → env_who e ≢ seat → IsLegalEnvEvent now e → MakingFits now seat making → MakingFits (env_next now e) seat making
making_stays now e seat Nothing s apart legal fits = tt
making_stays now e seat Adding s apart legal fits = tt
making_stays now (Take who n) seat (TheMaking.Taken note) s apart legal fits =
    let below = s.taken note seat fits.0 in (but-there n note (Some who) now.takers (λ here. let is = legal.0 in omega (arith, below, is, here)) ∙ fits.0, fits.1)
making_stays now (New who n parent deadline) seat (TheMaking.Taken note) s apart legal fits =
    (fits.0, ap (λ (x : NoteStanding). x.made) (but-there n note (made_note parent deadline) now.notes (λ here. other here)) ∙ fits.1) where
      other : note ≡ n → ⊥
      other here = let same : Some who ≡ Some seat = sym legal.0 ∙ ap now.takers (sym here) ∙ fits.0 in apart cc
making_stays now (Notify who n) seat (TheMaking.Taken note) s apart legal fits =
    (fits.0, but_cases (λ (x : NoteStanding). x.made ≡ false) n note (notified_note (now.notes n)) now.notes (λ here. ap (λ (k : ℕ). (now.notes k).made) (sym here) ∙ fits.1) (λ _. fits.1))
making_stays now (Advance who to) seat (TheMaking.Taken note) s apart legal fits = fits

makings_stay : (now : EnvStanding) (events : List EnvEvent) (who seat : ℕ) (making : Making) → IsSound now → who ≢ seat → Every (λ e. env_who e ≡ who) events → IsLegalEnvFrom now events → MakingFits now seat making → MakingFits (env_from now events) seat making
makings_stay now [] who seat making s apart by legal fits = fits
makings_stay now (e ∷ events) who seat making s apart by legal fits =
    makings_stay (env_next now e) events who seat making (sound_from now (e ∷ []) s (legal.0, tt)) apart by.1 legal.1 (making_stays now e seat making s (λ is. apart (sym by.0 ∙ is)) legal.0 fits)

pub others_make : (h events : List EnvEvent) (who seat : ℕ) (making : Making) → IsLegalEnv h → IsLegalEnvFrom (env_after h) events → who ≢ seat → Every (λ e. env_who e ≡ who) events → MakingFits (env_after h) seat making → MakingFits (env_after (h ++ events)) seat making
others_make h events who seat making legal more apart by fits =
    subst (λ (now : EnvStanding). MakingFits now seat making) (sym (env_from-append first_env h events)) (makings_stay (env_after h) events who seat making (sound_after h legal) apart by more fits)

-- ---- one step

-- what has happened by it is its caller's
pub outcome_by : (seat : ℕ) (act : EnvAct) (plain : EnvPlain) → Every (λ e. env_who e ≡ seat) (outcome seat act plain).events
outcome_by seat TakeNext plain = either (Every (λ e. env_who e ≡ seat)) (nat_lt plain.next 64) (refl, tt) tt
outcome_by seat (StoreNote note parent deadline) plain = (refl, tt)
outcome_by seat (NotifyNote note) plain = (refl, tt)
outcome_by seat (MoveClock moment) plain = (refl, tt)
outcome_by seat other plain = tt

-- what a step keeps that leaves this, and by which its caller has come so far
pub record StepKeeps (seats others seat : ℕ) (h : List EnvEvent) (left : Outcome) (making : Making) : Type 0 where
  pub lawful : IsLawful seats left.plain (others + adds making) (h ++ left.events)
  pub fits : MakingFits (env_after (h ++ left.events)) seat making
  pub more : IsLegalEnvFrom (env_after h) left.events

-- a note whose number isn't taken isn't made
unmade : (now : EnvStanding) (n : ℕ) (b : Bool) → IsSound now → now.takes ≤ n → (now.notes n).made ≡ b → b ≡ false
unmade now n true s past is = let low = s.made n is in absurd (omega (arith, low, past))
unmade now n false s past is = refl

-- Among so many seats the others that go to take a number are so many; this one's law, how far it has come, and that it is one of the seats.
module _ (seats others seat : ℕ) (plain : EnvPlain) (making : Making) (h : List EnvEvent) (few : others < seats) (low : seat < seats) (law : IsLawful seats plain (others + adds making) h) (fits : MakingFits (env_after h) seat making) where
  -- a step by which nothing has happened
  rests : (found : EnvFound) (now : EnvPlain) (next : Making) → Meets h now → MakingFits (env_after h) seat next → now.next + (others + adds next) ≤ 63 + seats → StepKeeps seats others seat h (record { found = found; plain = now; events = [] }) next
  rests found now next meets so room = record {
    lawful = subst (IsLawful seats now (others + adds next)) (sym (append-nil h)) (record { meets = meets; by_seats = law.by_seats; room = room });
    fits = subst (λ (k : List EnvEvent). MakingFits (env_after k) seat next) (sym (append-nil h)) so;
    more = tt;
  }

  -- a step by which one thing has happened
  does : (found : EnvFound) (now : EnvPlain) (e : EnvEvent) (next : Making) → env_who e ≡ seat → IsLegalEnvEvent (env_after h) e → now.clock ≡ (env_next (env_after h) e).clock → (env_next (env_after h) e).takes ≡ min now.next 64 →
      now.notes ≡ (env_next (env_after h) e).notes → MakingFits (env_next (env_after h) e) seat next → now.next + (others + adds next) ≤ 63 + seats → StepKeeps seats others seat h (record { found = found; plain = now; events = e ∷ [] }) next
  does found now e next is legal clock takes notes so room = record {
    lawful = record {
      meets = meets_one h e now law.meets.legal legal clock takes notes;
      by_seats = by_seats_append seats h (e ∷ []) law.by_seats (omega (arith, is, low), tt);
      room = room;
    };
    fits = subst (λ (k : EnvStanding). MakingFits k seat next) (sym (after_one h e)) so;
    more = (legal, tt);
  }

  -- a number is taken, which is one of 64 or not
  taken : making ≡ Adding → (b : Bool) → nat_lt plain.next 64 ≡ b → StepKeeps seats others seat h (record { found = Taken plain.next; plain = record plain { next = plain.next + 1 }; events = cond b (Take seat plain.next ∷ []) [] }) (cond b (TheMaking.Taken plain.next) Nothing)
  taken goes true lt =
      let below : plain.next < 64 = grind (arith, nat_tests) in
      let takes = law.meets.takes in let room = law.room in let one : adds making ≡ 1 = ap adds goes in
      let is : plain.next ≡ takes_in h = omega (arith, below, takes) in
      does (Taken plain.next) (record plain { next = plain.next + 1 }) (Take seat plain.next) (TheMaking.Taken plain.next) refl (is, below) law.meets.clock (omega (arith, below, takes)) law.meets.notes
      (but-here plain.next (Some seat) (env_after h).takers, unmade (env_after h) plain.next ((env_after h).notes plain.next).made (sound_after h law.meets.legal) (omega (arith, is)) refl) (omega (arith, room, one))
  taken goes false lt =
      let past : 64 ≤ plain.next = grind (arith, nat_tests) in
      let takes = law.meets.takes in let room = law.room in let one : adds making ≡ 1 = ap adds goes in
      let meets : Meets h (record plain { next = plain.next + 1 }) = record { legal = law.meets.legal; clock = law.meets.clock; takes = omega (arith, past, takes); notes = law.meets.notes } in
      rests (Taken plain.next) (record plain { next = plain.next + 1 }) Nothing meets tt (omega (arith, room, one))

  -- A step that its caller may make keeps the law.
  pub step_keeps : (act : EnvAct) → CanAct (env_after h) making act → StepKeeps seats others seat h (outcome seat act plain) (making_after act plain making)
  step_keeps LoadNext can = by_test (StepKeeps seats others seat h (loaded (NextNumber plain.next) plain)) (nat_lt plain.next 64)
      (λ lt. let below : plain.next < 64 = grind (arith, nat_tests) in rests (NextNumber plain.next) plain Adding law.meets tt (omega (arith, below, few)))
      (λ _. let room = law.room in rests (NextNumber plain.next) plain Nothing law.meets tt (omega (arith, room)))
  step_keeps TakeNext can = taken can (nat_lt plain.next 64) refl
  step_keeps (StoreNote note parent deadline) can =
      let mine = subst (MakingFits (env_after h) seat) can.0 fits in let room = law.room in
      does Stored (record plain { notes = but_at note (made_note parent deadline) plain.notes }) (New seat note parent deadline) Nothing refl (mine.0, mine.1, can.1) law.meets.clock law.meets.takes (ap (but_at note (made_note parent deadline)) law.meets.notes) tt (omega (arith, room))
  step_keeps (NotifyNote note) can =
      does Stored (record plain { notes = but_at note (notified_note (plain.notes note)) plain.notes }) (Notify seat note) making refl can.1 law.meets.clock law.meets.takes (ap (λ (notes : ℕ → NoteStanding). but_at note (notified_note (notes note)) notes) law.meets.notes)
      (subst (MakingFits (env_next (env_after h) (Notify seat note)) seat) (sym can.0) tt) law.room
  step_keeps (MoveClock moment) can =
      does Stored (record plain { clock = max plain.clock moment }) (Advance seat moment) making refl tt (ap (λ (c : ℕ). max c moment) law.meets.clock) law.meets.takes law.meets.notes
      (subst (MakingFits (env_next (env_after h) (Advance seat moment)) seat) (sym can) tt) law.room
  step_keeps LoadClock can = rests (Clock plain.clock) plain making law.meets fits law.room
  step_keeps (LoadNote note) can = rests (Note (state_of (plain.notes note))) plain making law.meets fits law.room
