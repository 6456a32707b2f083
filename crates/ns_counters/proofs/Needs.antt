-- What a step of a call on counters and once cells needs is so, where its seat stands in a lawful state.
use Rattle.std.proofs.Common.{List, Some, ap, refl, sym, true, ℕ, ◌<◌, ◌∙◌, ◌≡◌}
use Rattle.ns_counters.proofs.Prelude.{AtCounter, AtNote, EnvEvent, EnvPlain, FirstClock, InRound, IsInBounds, IsLawfulObjects, Meets, NoteStanding, ObjectAct, ObjectEvent, ObjectState, ObjectWalk, OnCounter, OnNote, OnWord, StepFits, WaitClock, WalkFits, WantFits, made_below, object_want}
use Rattle.ns_counters.proofs.Prelude.{objects_after, walk_in}
use Rattle.ns_counters.proofs.WalkLaw.{in_list, want_below}

module _ (history : List ObjectEvent) (state : ObjectState) (env : EnvPlain) (happened : List EnvEvent) (meets : Meets happened env) (led : IsLawfulObjects history state env.notes) (seat : ℕ) where
  note_low : (note : ℕ) → (env.notes note).made ≡ true → note < 64
  note_low note made = made_below happened note meets.legal (sym (ap (λ (notes : ℕ → NoteStanding). (notes note).made) meets.notes) ∙ made)

  abbrev Fits : ObjectWalk → Type 0
  Fits walk = WalkFits state.setup (objects_after state.setup history) env.notes seat walk

  word_fits : (walk : ObjectWalk) (act : ObjectAct) → Fits walk → object_want walk ≡ OnWord act → WantFits env.next (OnWord act)
  word_fits walk act fits is = want_below state.setup (objects_after state.setup history) env.notes seat walk act led.lawful.room.0 led.lawful.room.1 fits is

  want_fits : (walk : ObjectWalk) → Fits walk → WantFits env.next (object_want walk)
  want_fits (WaitClock counter moment value) fits = (tt, tt)
  want_fits (InRound round FirstClock) fits = (tt, tt)
  want_fits (InRound round (AtNote at clock asked note)) fits = (tt, note_low note fits.1.1)
  want_fits other fits = word_fits other _ fits refl

  bounds : (walk : ObjectWalk) → WalkFits state.setup (objects_after state.setup history) env.notes seat walk → IsInBounds walk
  bounds (InRound round FirstClock) fits = tt
  bounds (InRound round (AtNote at clock asked note)) fits = in_list round.items at (OnNote asked) fits.0.0 fits.1.0
  bounds (InRound round (AtCounter at clock counter)) fits = in_list round.items at (OnCounter counter) fits.0.0 fits.1
  bounds other fits = tt

  pub may_step : (walk : ObjectWalk) → walk_in state.walks seat ≡ Some walk → StepFits env.next walk
  may_step walk walks = let fits = led.each seat walk walks in (want_fits walk fits, bounds walk fits)
