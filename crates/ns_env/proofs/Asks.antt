-- A step of one seat keeps the law of a clock and notes that stand as plain data, with the places of seats in their calls.
use Rattle.std.proofs.Common.{IfSome, List, None, Option, Some, [], ap, arith, inl, inr, length, nat_lt, refl, slice_get, slice_set, subst, suc, sym, zero, ℕ, ◌++◌, ◌+◌, ◌<◌, ◌∙◌, ◌∷◌, ◌≡◌, ◌≢◌, ◌≤◌}
use Rattle.std.proofs.lemmas.Bool.{cases_eq}
use Rattle.std.proofs.lemmas.List.{length-set}
use Rattle.std.proofs.lemmas.Option.{slice_get_within}
use Rattle.ns_env.specs.Prelude.{Advancing, AskFits, BeginsWith, CanAct, Chain, ClockLoad, EnvEnd, EnvEvent, EnvFound, EnvPlain, EnvState, EnvStep, EnvWalk, ExpiryLoad, IfMade, IsLawful, IsLawfulEnv, IsLegalEnv, IsMade, MakeNote, Making, MakingFits, Meets, Next, NextLoad, NoteLoad, NoteStanding}
use Rattle.ns_env.specs.Prelude.{Nothing, Notifying, ParentFits, TakeNumber, adders, adds, chain_note, earlier, env_after, env_got_of, env_want_of, expiry_of, is_over, lowered_to, making_after, making_at, making_of, outcome, place_after, up_to}
use Rattle.ns_model.proofs.Beginnings.{begins_itself}
use Rattle.ns_model.proofs.Environments.{expiry_begins, grown_begins, made_begins, sound_after}
use Rattle.ns_model.proofs.Lines.{IsExpiryAt, expiry_goes_on}
use Rattle.ns_env.proofs.Ways.{at_next, at_stop, both, either}
use Rattle.ns_env.proofs.Keeps.{StepKeeps, adds_most, others_make, outcome_by, step_keeps}

-- ---- a list of places, one of them set

pub set_here : {X : Type 0} (xs : List X) (i : ℕ) (x : X) → i < length xs → slice_get (slice_set xs i x) i ≡ Some x
set_here [] i x within = absurd (omega (arith, within))
set_here (y ∷ xs) zero x within = refl
set_here (y ∷ xs) (suc i) x within = set_here xs i x (omega arith)

pub set_there : {X : Type 0} (xs : List X) (i j : ℕ) (x : X) → j ≢ i → slice_get (slice_set xs i x) j ≡ slice_get xs j
set_there [] i j x ne = refl
set_there (y ∷ xs) zero zero x ne = absurd (ne refl)
set_there (y ∷ xs) zero (suc j) x ne = refl
set_there (y ∷ xs) (suc i) zero x ne = refl
set_there (y ∷ xs) (suc i) (suc j) x ne = set_there xs i j x (λ e. ne (ap suc e))

-- what is so of the place that is set, and of each other, is so of each
pub set_each : {X : Type 0} (P : ℕ → X → Type 0) (xs : List (Option X)) (i : ℕ) (o : Option X) → i < length xs → IfSome o (P i) → ((j : ℕ) (x : X) → j ≢ i → slice_get xs j ≡ Some (Some x) → P j x) →
    (j : ℕ) (x : X) → slice_get (slice_set xs i o) j ≡ Some (Some x) → P j x
set_each P xs i o within here there j x at = elim (cases_eq j i) [
  | inl e ↦ let same : Some o ≡ Some (Some x) = sym (set_here xs i o within) ∙ ap (slice_get (slice_set xs i o)) (sym e) ∙ at in let is : o ≡ Some x = cc in subst (λ n. P n x) (sym e) (subst (λ z. IfSome z (P i)) is here)
  | inr ne ↦ there j x ne (sym (set_there xs i j o ne) ∙ at)
]

-- ---- how many of the other seats go to take a number

pub adders_set : (walks : List (Option EnvWalk)) (i : ℕ) (old new : Option EnvWalk) → slice_get walks i ≡ Some old → adders (slice_set walks i new) + adds (making_at old) ≡ adders walks + adds (making_at new)
adders_set [] i old new e = absurd (cc)
adders_set (w ∷ walks) zero old new e = let is : w ≡ old = cc in let same : adds (making_at w) ≡ adds (making_at old) = ap (λ (x : Option EnvWalk). adds (making_at x)) is in omega (arith, same)
adders_set (w ∷ walks) (suc i) old new e = let rest = adders_set walks i old new e in omega (arith, rest)

adders_most : (walks : List (Option EnvWalk)) → adders walks ≤ length walks
adders_most [] = omega arith
adders_most (w ∷ walks) = let rest = adders_most walks in let one = adds_most (making_at w) in omega (arith, rest, one)

-- those beside the seat of this number
abbrev pub others_of : List (Option EnvWalk) → ℕ → ℕ
others_of walks i = adders (slice_set walks i None)

module _ (walks : List (Option EnvWalk)) (i : ℕ) (old : Option EnvWalk) (at : slice_get walks i ≡ Some old) where
  pub adders_are : adders walks ≡ others_of walks i + adds (making_at old)
  adders_are = let set = adders_set walks i old None at in omega (arith, set)

  pub adders_after : (new : Option EnvWalk) → adders (slice_set walks i new) ≡ others_of walks i + adds (making_at new)
  adders_after new = let none = adders_set walks i old None at in let set = adders_set walks i old new at in omega (arith, none, set)

  pub others_few : others_of walks i < length walks
  others_few =
      let none = adders_set walks i old None at in
      let set = adders_set walks i old (Some (TakeNumber None None)) at in
      let most = adders_most (slice_set walks i (Some (TakeNumber None None))) in
      let long = length-set walks i (Some (TakeNumber None None)) in
      omega (arith, none, set, most, long)

-- ---- a place stands for how far its seat has come in making a note

-- what its walk wants next, the seat may do
can_ask : (h : List EnvEvent) (walk : EnvWalk) → AskFits h walk → CanAct (env_after h) (making_of walk) (env_want_of walk)
can_ask h (MakeNote note parent deadline) fits = (refl, fits)
can_ask h (Notifying note) fits = (refl, fits)
can_ask h (ClockLoad chain) fits = tt
can_ask h (NoteLoad chain clock note) fits = tt
can_ask h (ExpiryLoad asked note least) fits = tt
can_ask h other fits = refl

-- how far it has come where a walk goes
abbrev making_next : Next EnvWalk EnvEnd → Making
making_next next = making_at (place_after next)

abbrev MakesNone : Next EnvWalk EnvEnd → Type 0
MakesNone next = making_next next ≡ Nothing

up_makes : (chain : Chain) (clock : ℕ) (note : Option ℕ) → MakesNone (up_to chain clock note)
up_makes chain clock note = at_next MakesNone (λ _. refl) (λ _. refl) chain clock note refl (λ _ _. refl)

lowered_makes : (asked : ℕ) (note least : Option ℕ) → MakesNone (lowered_to asked note least)
lowered_makes asked None least = refl
lowered_makes asked (Some note) least = refl

-- a step takes its walk to where its seat has come as far as the step brings it
goes_making : (seat : ℕ) (plain : EnvPlain) (walk : EnvWalk) → making_next (env_got_of walk (outcome seat (env_want_of walk) plain).found) ≡ making_after (env_want_of walk) plain (making_of walk)
goes_making seat plain (NextLoad parent deadline) = both (λ next making. making_next next ≡ making) (nat_lt plain.next 64) refl refl
goes_making seat plain (TakeNumber parent deadline) = both (λ next making. making_next next ≡ making) (nat_lt plain.next 64) refl refl
goes_making seat plain (ClockLoad chain) = up_makes chain plain.clock (chain_note chain)
goes_making seat plain (NoteLoad chain clock at) = either MakesNone (is_over clock (plain.notes at)) (at_stop MakesNone (λ _. refl) (λ _. refl) chain) (up_makes chain clock (plain.notes at).parent)
goes_making seat plain (ExpiryLoad asked at least) = lowered_makes asked (plain.notes at).parent (earlier least (plain.notes at).deadline)
goes_making seat plain other = refl

-- ---- what places tell beside that

module _ (h k : List EnvEvent) (legal : IsLegalEnv k) (begins : BeginsWith k h) where
  given_later : (given : Option ℕ) → IfMade (env_after h).notes given → IfMade (env_after k).notes given
  given_later None p = tt
  given_later (Some note) p = made_begins k h note legal begins p

  pub parent_later : (note : ℕ) (given : Option ℕ) → ParentFits (env_after h) note given → ParentFits (env_after k) note given
  parent_later note None p = tt
  parent_later note (Some parent) p = (p.0, made_begins k h parent legal begins p.1)

  expiry_later : (asked note : ℕ) (least : Option ℕ) → IsMade h asked → IsMade h note → expiry_of h asked ≡ earlier least (expiry_of h note) → expiry_of k asked ≡ earlier least (expiry_of k note)
  expiry_later asked note least one other is = expiry_begins k h asked legal begins one ∙ is ∙ ap (earlier least) (sym (expiry_begins k h note legal begins other))

  -- it is so later, too
  pub asks_later : (walk : EnvWalk) → AskFits h walk → AskFits k walk
  asks_later (NextLoad parent deadline) p = given_later parent p
  asks_later (TakeNumber parent deadline) p = given_later parent p
  asks_later (MakeNote note parent deadline) p = parent_later note parent p
  asks_later (Notifying note) p = made_begins k h note legal begins p
  asks_later (Advancing moment) p = tt
  asks_later (ClockLoad chain) p = given_later (chain_note chain) p
  asks_later (NoteLoad chain clock note) p = (let on = (grown_begins k h legal begins).clock in let was = p.0 in omega (arith, on, was), made_begins k h note legal begins p.1, given_later (chain_note chain) p.2)
  asks_later (ExpiryLoad asked note least) p = (made_begins k h asked legal begins p.0, made_begins k h note legal begins p.1, expiry_later asked note least p.0 p.1 p.2)

  -- what the place tells where a walk goes
  abbrev NextFits : Next EnvWalk EnvEnd → Type 0
  NextFits next = IfSome (place_after next) (AskFits k)

  up_fits : (chain : Chain) (clock : ℕ) (note : Option ℕ) → clock ≤ (env_after k).clock → IfMade (env_after k).notes (chain_note chain) → IfMade (env_after k).notes note → NextFits (up_to chain clock note)
  up_fits chain clock note past p q = at_next NextFits (λ _. tt) (λ _. tt) chain clock note p (λ above is. (past, subst (IfMade (env_after k).notes) is q, p))

  module _ (plain : EnvPlain) (meets : Meets h plain) where
    -- a parent that is made has a smaller number than one that is taken then
    parent_below : (parent : Option ℕ) → IfMade (env_after h).notes parent → ParentFits (env_after k) plain.next parent
    parent_below None p = tt
    parent_below (Some parent) p = let low = (sound_after h meets.legal).made parent p in let takes = meets.takes in (omega (arith, low, takes), made_begins k h parent legal begins p)

    -- the parent of a note that stands is made
    parent_made : (at : ℕ) (parent : Option ℕ) → (plain.notes at).parent ≡ parent → IfMade (env_after k).notes parent
    parent_made at None e = tt
    parent_made at (Some parent) e = made_begins k h parent legal begins ((sound_after h meets.legal).above at parent (ap (λ (notes : ℕ → NoteStanding). (notes at).parent) (sym meets.notes) ∙ e)).1

    -- one deadline more
    lowered_fits : (asked at : ℕ) (least : Option ℕ) → IsMade h asked → IsMade h at → expiry_of h asked ≡ earlier least (expiry_of h at) → NextFits (lowered_to asked (plain.notes at).parent (earlier least (plain.notes at).deadline))
    lowered_fits asked at least one other so = up (plain.notes at).parent (subst (λ (notes : ℕ → NoteStanding). IsExpiryAt h asked (earlier least (notes at).deadline) (notes at).parent) (sym meets.notes) (expiry_goes_on h h asked at least meets.legal (begins_itself h) (other, so))) where
      up : (parent : Option ℕ) → IsExpiryAt h asked (earlier least (plain.notes at).deadline) parent → NextFits (lowered_to asked parent (earlier least (plain.notes at).deadline))
      up None p = tt
      up (Some parent) p = (made_begins k h asked legal begins one, made_begins k h parent legal begins p.0, expiry_later asked parent (earlier least (plain.notes at).deadline) one p.0 p.1)

    clock_past : plain.clock ≤ (env_after k).clock
    clock_past = let on = (grown_begins k h legal begins).clock in let is = meets.clock in omega (arith, on, is)

    -- it tells that of where the seat's own walk leads
    pub own_fits : (seat : ℕ) (walk : EnvWalk) → AskFits h walk → NextFits (env_got_of walk (outcome seat (env_want_of walk) plain).found)
    own_fits seat (NextLoad parent deadline) p = either NextFits (nat_lt plain.next 64) (given_later parent p) tt
    own_fits seat (TakeNumber parent deadline) p = either NextFits (nat_lt plain.next 64) (parent_below parent p) tt
    own_fits seat (ClockLoad chain) p = up_fits chain plain.clock (chain_note chain) clock_past (given_later (chain_note chain) p) (given_later (chain_note chain) p)
    own_fits seat (NoteLoad chain clock at) p = either NextFits (is_over clock (plain.notes at)) (at_stop NextFits (λ _. tt) (λ _. tt) chain)
        (up_fits chain clock (plain.notes at).parent (let on = (grown_begins k h legal begins).clock in let was = p.0 in omega (arith, on, was)) (given_later (chain_note chain) p.2) (parent_made at (plain.notes at).parent refl))
    own_fits seat (ExpiryLoad asked at least) p = lowered_fits asked at least p.0 p.1 p.2
    own_fits seat other p = tt

-- ---- the step

module _ (h : List EnvEvent) (plain : EnvPlain) (askings : List (Option EnvWalk)) (seat : ℕ) (walk : EnvWalk) (walks : slice_get askings seat ≡ Some (Some walk)) (lawful : IsLawfulEnv h (record { plain = plain; askings = askings })) where
  abbrev left_by : List EnvEvent
  left_by = (outcome seat (env_want_of walk) plain).events

  abbrev goes_to : Next EnvWalk EnvEnd
  goes_to = env_got_of walk (outcome seat (env_want_of walk) plain).found

  abbrev state_after : EnvState
  state_after = record { plain = (outcome seat (env_want_of walk) plain).plain; askings = slice_set askings seat (place_after goes_to) }

  within : seat < length askings
  within = slice_get_within askings seat (Some walk) walks

  keeps : StepKeeps (length askings) (others_of askings seat) seat h (outcome seat (env_want_of walk) plain) (making_after (env_want_of walk) plain (making_of walk))
  keeps = step_keeps (length askings) (others_of askings seat) seat plain (making_of walk) h (others_few askings seat (Some walk) walks) within
      (subst (λ (n : ℕ). IsLawful (length askings) plain n h) (adders_are askings seat (Some walk) walks) lawful.lawful) (lawful.making seat walk walks) (env_want_of walk) (can_ask h walk (lawful.each seat walk walks))

  making_here : (goes : Option EnvWalk) → MakingFits (env_after (h ++ left_by)) seat (making_at goes) → IfSome goes (λ next. MakingFits (env_after (h ++ left_by)) seat (making_of next))
  making_here None fits = tt
  making_here (Some next) fits = fits

  keeps_here : IsLawfulEnv (h ++ left_by) state_after
  keeps_here = record {
    lawful = subst (λ (z : ℕ × ℕ). IsLawful z.0 state_after.plain z.1 (h ++ left_by))
        (λ i. (sym (length-set askings seat (place_after goes_to)) i, (ap (λ (m : Making). others_of askings seat + adds m) (sym (goes_making seat plain walk)) ∙ sym (adders_after askings seat (Some walk) walks (place_after goes_to))) i)) keeps.lawful;
    making = set_each (λ other next. MakingFits (env_after (h ++ left_by)) other (making_of next)) askings seat (place_after goes_to) within
        (making_here (place_after goes_to) (subst (MakingFits (env_after (h ++ left_by)) seat) (sym (goes_making seat plain walk)) keeps.fits))
        (λ other next ne at. others_make h left_by seat other (making_of next) lawful.lawful.meets.legal keeps.more (λ is. ne (sym is)) (outcome_by seat (env_want_of walk) plain) (lawful.making other next at));
    each = set_each (λ other next. AskFits (h ++ left_by) next) askings seat (place_after goes_to) within
        (own_fits h (h ++ left_by) keeps.lawful.meets.legal (left_by, refl) plain lawful.lawful.meets seat walk (lawful.each seat walk walks))
        (λ other next ne at. asks_later h (h ++ left_by) keeps.lawful.meets.legal (left_by, refl) next (lawful.each other next at));
  }

pub keeps_env : (h events : List EnvEvent) (old new : EnvState) (seat : ℕ) (found : EnvFound) → EnvStep old seat found new events → IsLawfulEnv h old → IsLawfulEnv (h ++ events) new
keeps_env h events old new seat found step lawful =
    let e = step.effect in
    let becomes = step.becomes ∙ ap (λ (f : EnvFound). slice_set old.askings seat (place_after (env_got_of step.walk f))) e.found_is in
    subst (λ (z : List EnvEvent × EnvState). IsLawfulEnv z.0 z.1) (λ i. (h ++ sym e.events_are i, record { plain = sym e.leaves i; askings = sym becomes i })) (keeps_here h old.plain old.askings seat step.walk step.walks lawful)
