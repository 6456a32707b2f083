-- A walk from a note up to its root, while the history grows.
use Rattle.std.proofs.Common.{Bool, List, None, Option, Some, ap, arith, false, refl, subst, suc, sym, true, true≢false, ℕ, ◌<◌, ◌||◌, ◌∙◌, ◌≡◌}
use Rattle.ns_model.proofs.Prelude.{BeginsWith, EnvEvent, IsLeftAt, IsLegalEnv, IsMade, IsNotified, clock_of, earlier, env_after, expiry_in, expiry_of, is_notified, is_over, notified_in, or_left, or_right}
use Rattle.ns_model.proofs.Environments.{sound_after, grown_begins, legal_begins, over_grown, notified_in-next, expiry_in-next, earlier-none, earlier_assoc}

pub line_starts : (seen : List EnvEvent) (note : ℕ) → IsMade seen note → IsLeftAt seen note (Some note)
line_starts seen note made = (made, (λ e. e), (λ h l b e. e))

-- how far it is to the root at most
abbrev pub height : Option ℕ → ℕ
height None = 0
height (Some place) = suc place

over_is_notified : (h : List EnvEvent) (n : ℕ) → IsLegalEnv h → is_over (clock_of h) ((env_after h).notes n) ≡ true → IsNotified h n
unfolding is_notified
over_is_notified h n l over = notified_in-next (env_after h) n ((env_after h).notes n).parent (sound_after h l) refl ∙ or_left (is_over (clock_of h) ((env_after h).notes n)) _ over

false_of : (b : Bool) → (b ≡ true → ⊥) → b ≡ false
false_of true h = absurd (h refl)
false_of false h = refl

module _ (seen now : List EnvEvent) (legal : IsLegalEnv now) (begins : BeginsWith now seen) where
  -- the clock was loaded first, and the note's word later
  pub line_stops : (note place : ℕ) → IsLeftAt seen note (Some place) → is_over (clock_of seen) ((env_after now).notes place) ≡ true → IsNotified now note
  line_stops note place at over = let grown = grown_begins now seen legal begins in let made = (grown.note place at.0).made in let word = (env_after now).notes place in
      at.2 now legal begins (over_is_notified now place legal (over_grown (clock_of seen) (clock_of now) word word grown.clock (record { made = made; parent = refl; deadline = refl; called = λ h. h }) over))

  not_over : (place : ℕ) → IsMade seen place → is_over (clock_of seen) ((env_after now).notes place) ≡ false → is_over (clock_of seen) ((env_after seen).notes place) ≡ false
  not_over place made e = false_of (is_over (clock_of seen) ((env_after seen).notes place))
      (λ over. true≢false (sym (over_grown (clock_of seen) (clock_of seen) ((env_after seen).notes place) ((env_after now).notes place) (omega arith) ((grown_begins now seen legal begins).note place made) over) ∙ e))

  parent_notified : (place p : ℕ) → IsMade seen place → ((env_after seen).notes place).parent ≡ Some p → (h : List EnvEvent) → IsLegalEnv h → BeginsWith h seen → IsNotified h p → IsNotified h place
  unfolding is_notified
  parent_notified place p made is h l b e = let parent = ((grown_begins h seen l b).note place made).parent in
      notified_in-next (env_after h) place (Some p) (sound_after h l) (parent ∙ is) ∙ or_right (is_over (clock_of h) ((env_after h).notes place)) (notified_in (env_after h) p) e

  unnotified_root : (place : ℕ) → ((env_after seen).notes place).parent ≡ None → is_over (clock_of seen) ((env_after seen).notes place) ≡ false → is_notified seen place ≡ false
  unfolding is_notified
  unnotified_root place is e = notified_in-next (env_after seen) place None (sound_after seen (legal_begins now seen legal begins)) is ∙ ap (λ (b : Bool). b || false) e

  unnotified_up : (place p : ℕ) → ((env_after seen).notes place).parent ≡ Some p → is_over (clock_of seen) ((env_after seen).notes place) ≡ false → is_notified seen p ≡ false → is_notified seen place ≡ false
  unfolding is_notified
  unnotified_up place p is e f = let l = legal_begins now seen legal begins in notified_in-next (env_after seen) place (Some p) (sound_after seen l) is ∙ (λ i. e i || f i)

  line_goes_to : (note place : ℕ) (o : Option ℕ) → ((env_after seen).notes place).parent ≡ o → IsLeftAt seen note (Some place) → is_over (clock_of seen) ((env_after seen).notes place) ≡ false → IsLeftAt seen note o
  line_goes_to note place None is at e = at.1 (unnotified_root place is e)
  line_goes_to note place (Some p) is at e = let l = legal_begins now seen legal begins in (
    ((sound_after seen l).above place p is).1,
    (λ f. at.1 (unnotified_up place p is e f)),
    (λ h lh b f. at.2 h lh b (parent_notified place p at.0 is h lh b f)),
  )

  parent_is : (place : ℕ) → IsMade seen place → ((env_after now).notes place).parent ≡ ((env_after seen).notes place).parent
  parent_is place made = ((grown_begins now seen legal begins).note place made).parent

  -- it goes on to the parent
  pub line_goes_on : (note place : ℕ) → IsLeftAt seen note (Some place) → is_over (clock_of seen) ((env_after now).notes place) ≡ false → IsLeftAt seen note ((env_after now).notes place).parent
  line_goes_on note place at e = subst (IsLeftAt seen note) (sym (parent_is place at.0)) (line_goes_to note place ((env_after seen).notes place).parent refl at (not_over place at.0 e))

-- the parent is nearer to the root
pub line_falls : (now : List EnvEvent) (place : ℕ) → IsLegalEnv now → height ((env_after now).notes place).parent < suc place
line_falls now place legal = falls ((env_after now).notes place).parent (λ p is. ((sound_after now legal).above place p is).0)
  where
    falls : (o : Option ℕ) → ((p : ℕ) → o ≡ Some p → p < place) → height o < suc place
    falls None f = omega arith
    falls (Some p) f = let k = f p refl in omega arith

-- and so is what a walk goes on to
pub nearer : (from to : Option ℕ) (place : ℕ) (parent : Option ℕ) → from ≡ Some place → to ≡ parent → height parent < suc place → height to < height from
nearer from to place parent is same h = subst (λ (z : Option ℕ × Option ℕ). height z.0 < height z.1) (λ i. (sym same i, sym is i)) h

-- ---- the expiry, by a walk that keeps the earliest deadline so far

-- where such a walk stands: what it has kept, and what the place will add, is the expiry of the note
abbrev pub IsExpiryAt : List EnvEvent → ℕ → Option ℕ → Option ℕ → Type 0
IsExpiryAt seen note earliest None = expiry_of seen note ≡ earliest
IsExpiryAt seen note earliest (Some place) = IsMade seen place × (expiry_of seen note ≡ earlier earliest (expiry_of seen place))

pub expiry_starts : (seen : List EnvEvent) (note : ℕ) → IsMade seen note → IsExpiryAt seen note None (Some note)
expiry_starts seen note made = (made, refl)

expiry_goes_to : (seen : List EnvEvent) (note place : ℕ) (earliest o : Option ℕ) → IsLegalEnv seen → ((env_after seen).notes place).parent ≡ o → IsExpiryAt seen note earliest (Some place) → IsExpiryAt seen note (earlier earliest ((env_after seen).notes place).deadline) o
unfolding expiry_of
expiry_goes_to seen note place earliest None l is at = at.1 ∙ ap (earlier earliest) (expiry_in-next (env_after seen) place None (sound_after seen l) is ∙ earlier-none ((env_after seen).notes place).deadline)
expiry_goes_to seen note place earliest (Some p) l is at = (
  ((sound_after seen l).above place p is).1,
  at.1 ∙ (ap (earlier earliest) (expiry_in-next (env_after seen) place (Some p) (sound_after seen l) is) ∙ sym (earlier_assoc earliest ((env_after seen).notes place).deadline (expiry_in (env_after seen) p))),
)

pub expiry_goes_on : (seen now : List EnvEvent) (note place : ℕ) (earliest : Option ℕ) → IsLegalEnv now → BeginsWith now seen → IsExpiryAt seen note earliest (Some place) → IsExpiryAt seen note (earlier earliest ((env_after now).notes place).deadline) ((env_after now).notes place).parent
expiry_goes_on seen now note place earliest legal begins at = let g = (grown_begins now seen legal begins).note place at.0 in
    subst (λ (z : Option ℕ × Option ℕ). IsExpiryAt seen note (earlier earliest z.0) z.1) (λ i. (sym g.deadline i, sym g.parent i)) (expiry_goes_to seen note place earliest ((env_after seen).notes place).parent (legal_begins now seen legal begins) refl at)
