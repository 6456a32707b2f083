-- What calls that look may answer.
use Rattle.std.proofs.Common.{Bool, IfSome, IsSomeAnd, List, None, Option, Some, false, refl, subst, sym, true, ℕ, ◌<◌, ◌∙◌, ◌≡◌, ◌≤◌}
use Rattle.ns_note.proofs.Prelude.{Answer, BeginsWith, Canceled, EnvEvent, Expired, HasLooked, IsBetween, IsLeftAt, IsLegalEnv, IsNotified, IsUnnotified, Limits, LookAnswers, Note, NoteWord, TimedOut, WaitAnswers, begins_itself, begins_through, clock_of, due_is, env_after, is_due, is_notified}
use Rattle.ns_note.proofs.Prelude.{is_over, line_goes_on, line_stops, not_due_is, standing_of, state_of}

-- a true answer is of the last point, a false one of the point at which the clock was loaded
pub notified_at : (answer : Bool) (old middle new : List EnvEvent) (note : ℕ) → BeginsWith middle old → BeginsWith new middle → (answer ≡ true → IsNotified new note) → (answer ≡ false → is_notified middle note ≡ false)
    → (point : List EnvEvent) × IsBetween old point new × (answer ≡ is_notified point note)
notified_at true old middle new note b d over not_yet = (new, (begins_through new middle old d b, begins_itself new), sym (over refl))
notified_at false old middle new note b d over not_yet = (middle, (b, d), sym (not_yet refl))

-- ---- a walk from a note up to its root

-- the word is that of a place of the walk, as these events leave it
pub record IsLoadedAt (seen : List EnvEvent) (note : ℕ) (now : List EnvEvent) (word : NoteWord) : Type 0 where
  pub place : ℕ
  pub left : IsLeftAt seen note (Some place)
  pub loaded : word ≡ state_of ((env_after now).notes place)

module _ (seen now : List EnvEvent) (legal : IsLegalEnv now) (begins : BeginsWith now seen) (note clock : ℕ) (is : clock ≡ clock_of seen) (word : NoteWord) (at : IsLoadedAt seen note now word) where
  -- what the word tells, the place tells
  over_at : (b : Bool) → b ≡ is_over clock (standing_of word) → is_over (clock_of seen) ((env_after now).notes at.place) ≡ b
  over_at b told = sym (told ∙ (λ i. is_over (is i) (standing_of (at.loaded i))))

  -- where it is over, so is the note
  pub over_above : is_over clock (standing_of word) ≡ true → IsNotified now note
  over_above over = line_stops seen now legal begins note at.place at.left (over_at true (sym over))

  -- else the walk goes on to its parent, if it has one
  pub goes_above : is_over clock (standing_of word) ≡ false → IsLeftAt seen note word.parent
  goes_above not = subst (IsLeftAt seen note) (λ i. (sym at.loaded i).parent) (line_goes_on seen now legal begins note at.place at.left (over_at false (sym not)))

-- ---- a look, whose clock was loaded in the middle

module _ (limits : Limits) (old middle new : List EnvEvent) (between : IsBetween old middle new) where
  pub expires : (clock : ℕ) → clock ≡ clock_of middle → is_due clock limits.deadline ≡ true → IsUnnotified middle limits.note → HasLooked limits (Some Expired) old new
  expires clock is due waited = (middle, between, (waited, subst (λ (c : ℕ). IsSomeAnd limits.deadline (λ d. d ≤ c)) is (due_is clock limits.deadline due)))

  pub shows_nothing : (clock : ℕ) → clock ≡ clock_of middle → is_due clock limits.deadline ≡ false → IsUnnotified middle limits.note → HasLooked limits None old new
  shows_nothing clock is early waited = (middle, between, (waited, subst (λ (c : ℕ). IfSome limits.deadline (λ d. c < d)) is (not_due_is clock limits.deadline early)))

-- ---- a wait for a note, for one that began before

module _ (note : Note) (deadline : Option ℕ) (old middle new : List EnvEvent) (begins : BeginsWith middle old) where
  pub waited_since : (answer : Bool) → WaitAnswers note deadline middle new answer → WaitAnswers note deadline old new answer
  waited_since answer waited = (waited.0, (begins_through waited.0 middle old waited.1.0 begins, waited.1.1), waited.2)

  pub canceled_since : (found : Option Answer) → found ≡ Some Canceled → LookAnswers (Some note) deadline middle new found → WaitAnswers note deadline old new true
  canceled_since found is answers = let looked = subst (LookAnswers (Some note) deadline middle new) is answers in
      waited_since true (new, (begins_through new looked.0 middle looked.1.1 looked.1.0, begins_itself new), looked.2)

  pub timed_out_since : (found : Option Answer) → found ≡ Some TimedOut → LookAnswers (Some note) deadline middle new found → WaitAnswers note deadline old new false
  timed_out_since found is answers = waited_since false (subst (LookAnswers (Some note) deadline middle new) is answers)
