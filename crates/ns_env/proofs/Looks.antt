-- What a chain of notes finds, and where it goes.
use Rattle.std.proofs.Common.{Bool, List, None, Option, Some, ap, arith, cond, false, refl, slice_get, subst, suc, sym, true, zero, ℕ, ◌<◌, ◌||◌, ◌∙◌, ◌≡◌}
use Rattle.ns_env.specs.Prelude.{Chain, Done, EnvEnd, EnvEvent, EnvPlain, EnvState, EnvWalk, Expiry, ExpiryLoad, IsLawfulEnv, IsMade, Meets, Next, Note, NoteLoad, NoteStanding, NoteWord, On, Over, earlier, env_after, env_got_of, expiry_of, is_notified, is_over, looked, lowered_to, notified_in}
use Rattle.ns_env.specs.Prelude.{passed, standing_of, stopped, up_by, up_to}
use Rattle.ns_env.proofs.Ways.{at_end, at_stop}
use Rattle.ns_model.proofs.Beginnings.{begins_itself}
use Rattle.ns_model.proofs.Lines.{IsExpiryAt, expiry_goes_on}
use Rattle.ns_model.proofs.Environments.{notified_in-next, sound_after}

-- ---- in one go

-- a chain that is over isn't followed
abbrev IsLeft : (ℕ → Next EnvWalk EnvEnd) → Next EnvWalk EnvEnd → Type 0
IsLeft follow next = up_by follow next ≡ next

-- one note of a chain: it stops here, or it is as the rest of it finds
one_note : (follow : ℕ → Next EnvWalk EnvEnd) (chain : Chain) (clock : ℕ) (b up all : Bool) (parent : Option ℕ) → all ≡ (b || up) →
    up_by follow (up_to chain clock parent) ≡ cond up (stopped chain) (passed chain clock) → up_by follow (cond b (stopped chain) (up_to chain clock parent)) ≡ cond all (stopped chain) (passed chain clock)
one_note follow chain clock true up all parent is rest = rw is (at_stop (IsLeft follow) (λ _. refl) (λ _. refl) chain)
one_note follow chain clock false up all parent is rest = rw is rest

module _ (h : List EnvEvent) (plain : EnvPlain) (m : Meets h plain) where
  -- the notes and the clock are those of the history
  pub note_is : (note : ℕ) → plain.notes note ≡ (env_after h).notes note
  note_is note = ap (λ (notes : ℕ → NoteStanding). notes note) m.notes

  over_is : (note : ℕ) → is_over plain.clock (plain.notes note) ≡ is_over (env_after h).clock ((env_after h).notes note)
  over_is note = ap (λ (clock : ℕ). is_over clock (plain.notes note)) m.clock ∙ ap (is_over (env_after h).clock) (note_is note)

  go_from : (most : ℕ) (chain : Chain) (note : ℕ) (parent : Option ℕ) → ((p : ℕ) → parent ≡ Some p → looked most plain chain p ≡ cond (notified_in (env_after h) p) (stopped chain) (passed chain plain.clock)) → (plain.notes note).parent ≡ parent →
      up_by (looked most plain chain) (cond (is_over plain.clock (plain.notes note)) (stopped chain) (up_to chain plain.clock parent)) ≡ cond (notified_in (env_after h) note) (stopped chain) (passed chain plain.clock)
  go_from most chain note None rest up =
      one_note (looked most plain chain) chain plain.clock (is_over plain.clock (plain.notes note)) false (notified_in (env_after h) note) None
      (notified_in-next (env_after h) note None (sound_after h m.legal) (ap (λ (s : NoteStanding). s.parent) (sym (note_is note)) ∙ up) ∙ ap (λ b. b || false) (sym (over_is note)))
      (at_end (IsLeft (looked most plain chain)) (λ _. refl) (λ _. refl) chain plain.clock refl)
  go_from most chain note (Some p) rest up =
      one_note (looked most plain chain) chain plain.clock (is_over plain.clock (plain.notes note)) (notified_in (env_after h) p) (notified_in (env_after h) note) (Some p)
      (notified_in-next (env_after h) note (Some p) (sound_after h m.legal) (ap (λ (s : NoteStanding). s.parent) (sym (note_is note)) ∙ up) ∙ ap (λ b. b || notified_in (env_after h) p) (sym (over_is note)))
      (rest p refl)

  in_one_go : (most : ℕ) (chain : Chain) (note : ℕ) → note < most → looked most plain chain note ≡ cond (notified_in (env_after h) note) (stopped chain) (passed chain plain.clock)
  in_one_go zero chain note low = absurd (omega (arith, low))
  in_one_go (suc most) chain note low =
      go_from most chain note (plain.notes note).parent
      (λ p e. let s = sound_after h m.legal in let below = (s.above note p (ap (λ (x : NoteStanding). x.parent) (sym (note_is note)) ∙ e)).0 in in_one_go most chain p (omega (arith, low, below))) refl

  pub finds_notified : (most : ℕ) (chain : Chain) (note : ℕ) → note < most → looked most plain chain note ≡ cond (is_notified h note) (stopped chain) (passed chain plain.clock)
  unfolding is_notified
  finds_notified most chain note low = in_one_go most chain note low

-- ---- the next note of a chain

-- a way to go that isn't to this place
abbrev IsNot : Next EnvWalk EnvEnd → Next EnvWalk EnvEnd → Type 0
IsNot place next = next ≡ place → ⊥

goes_up : (chain chain' : Chain) (clock clock' next : ℕ) (b : Bool) (parent : Option ℕ) → cond b (stopped chain) (up_to chain clock parent) ≡ On (NoteLoad chain' clock' next) → parent ≡ Some next
goes_up chain chain' clock clock' next true parent e = absurd (at_stop (IsNot (On (NoteLoad chain' clock' next))) (λ _ e. absurd (cc)) (λ _ e. absurd (cc)) chain e)
goes_up chain chain' clock clock' next false None e = absurd (at_end (IsNot (On (NoteLoad chain' clock' next))) (λ _ e. absurd (cc)) (λ _ e. absurd (cc)) chain clock (λ e. absurd (cc)) e)
goes_up chain chain' clock clock' next false (Some p) e = cc

pub chain_up : (h : List EnvEvent) (plain : EnvPlain) (chain chain' : Chain) (clock clock' at next : ℕ) (note : NoteWord) → Meets h plain → standing_of note ≡ plain.notes at →
    env_got_of (NoteLoad chain clock at) (Note note) ≡ On (NoteLoad chain' clock' next) → (next < at) × IsMade h next
chain_up h plain chain chain' clock clock' at next note m is e =
    (sound_after h m.legal).above at next (ap (λ (s : NoteStanding). s.parent) (sym (is ∙ note_is h plain m at)) ∙ goes_up chain chain' clock clock' next (is_over clock (standing_of note)) note.parent e)

-- ---- an expiry

lowered_is : (asked : ℕ) (parent least answer : Option ℕ) → lowered_to asked parent least ≡ Done (Over (Expiry answer)) → (parent ≡ None) × (least ≡ answer)
lowered_is asked None least answer e = (refl, cc)
lowered_is asked (Some p) least answer e = absurd (cc)

pub expiry_is : (h : List EnvEvent) (state : EnvState) (seat asked at : ℕ) (least answer : Option ℕ) (note : NoteWord) → IsLawfulEnv h state → slice_get state.askings seat ≡ Some (Some (ExpiryLoad asked at least)) →
    standing_of note ≡ state.plain.notes at → env_got_of (ExpiryLoad asked at least) (Note note) ≡ Done (Over (Expiry answer)) → answer ≡ expiry_of h asked
expiry_is h state seat asked at least answer note lawful walks is e =
    let p = lowered_is asked note.parent (earlier least note.deadline) answer e in
    let meets = lawful.lawful.meets in
    let same : standing_of note ≡ (env_after h).notes at = is ∙ note_is h state.plain meets at in
    let fits = lawful.each seat (ExpiryLoad asked at least) walks in
    let goes = subst (λ (s : NoteStanding). IsExpiryAt h asked (earlier least s.deadline) s.parent) (sym same) (expiry_goes_on h h asked at least meets.legal (begins_itself h) (fits.1, fits.2)) in
    sym (subst (IsExpiryAt h asked (earlier least note.deadline)) p.0 goes ∙ p.1)
