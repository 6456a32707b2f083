-- Where the woken go, when a try is busy, and what a shown cause does.
use Rattle.std.proofs.Common.{Bool, Some, ap, arith, cond, eqb, false, inl, inr, lt-ltb, ltb, ne_eqb, not, refl, true, ℕ, ◌&&◌, ◌<◌, ◌||◌, ◌≡◌, ◌≢◌, ◌⊎◌}
use Rattle.ns_word.proofs.Prelude.{AcquireLoad, Aim, Answered, Arrival, AsFresh, AsWoken, AwaitWake, AwaitWakeInWait, AwaitWakeToLeave, Busy, Cause, Done, Flag, ForWait, Found, Idle, InAcquire, InLeaving, InQueuing, InTry, InWait, LeaveLoad, Limits, LoadFlag, Look, LookIn, LookOut, Looked, Made}
use Rattle.ns_word.proofs.Prelude.{Mode, Next, On, Read, Reply, Saw, TryAcquire, TryLoad, TryPlace, Walk, Word, answer_of, arrival_of, cases_eq, cause_kept, got_of, is_from_lock, is_woken, may_acquire, outcome_taken, place_after, rest_or_look, want_of, woken_by, ◌∙◌}
use Rattle.ns_word.proofs.Looks.{flag_here, flag_in, look_here, look_in}

-- ---- tries, and readers

pub busy_why : (C : Type 0) (N : ℕ) (mode : Mode) (place : TryPlace) (found : Found) → got_of {C = C} N (InTry mode place) found ≡ Done Busy → (word : Word) × (found ≡ Saw word) × ((may_acquire mode AsFresh word ≡ false) ⊎ ((last : Word) × (place ≡ TryAcquire last)))
busy_why C N mode TryLoad (Saw word) e = (word, refl, inl (go (may_acquire mode AsFresh word) e)) where
  go : (b : Bool) → cond {A = Next (Walk C) Reply} b (On (InTry mode (TryAcquire word))) (Done Busy) ≡ Done Busy → b ≡ false
  go true e = absurd (cc)
  go false e = refl
busy_why C N mode (TryAcquire last) (Saw word) e = (word, refl, inr (last, refl))
busy_why C N mode (TryAcquire last) Made e = absurd (cc)
busy_why C N mode place found e = absurd (cc)

pub readers_join : (arrival : Arrival) (word : Word) → word.write ≡ false → word.writer_waits ≡ false → word.long ≡ false → may_acquire Read arrival word ≡ true
readers_join AsFresh word w r l = ap (λ b. not b && (false || (not word.writer_waits && not word.long))) w ∙ ap (λ b. not b && not word.long) r ∙ ap not l
readers_join (AsWoken tries) word w r l = ap (λ b. not b && true) w

pub readers_stand_back : (word : Word) → word.writer_waits ≡ true → may_acquire Read AsFresh word ≡ false
readers_stand_back word e = ap (λ b. not word.write && (not b && not word.long)) e ∙ never word.write where
  never : (b : Bool) → (not b && false) ≡ false
  never true = refl
  never false = refl

-- ---- flags, and looks

module _ (C : Type 0) (N : ℕ) where
  abbrev Acquires : ℕ → Next (Walk C) Reply → Type 0
  Acquires v next = (aim : Aim C) × (arrival : Arrival) × (next ≡ On (InAcquire aim (AcquireLoad arrival))) × (is_woken arrival ≡ (eqb v 0 || ltb 5 v))

  as_told : (tries : ℕ) (b : Bool) → is_woken (cond b (AsWoken tries) AsFresh) ≡ b
  as_told tries true = refl
  as_told tries false = refl

  cleared : (v : ℕ) (other : Next (Walk C) Reply) (aim : Aim C) (tries : ℕ) → v ≢ 1 → Acquires v (cond (eqb v 1) other (On (InAcquire aim (AcquireLoad (arrival_of tries v)))))
  cleared v other aim tries ne = (aim, arrival_of tries v, ap (λ b. cond b other (On (InAcquire aim (AcquireLoad (arrival_of tries v))))) (ne_eqb v 1 ne), as_told tries (is_from_lock v))

  tells_so : (v : ℕ) → (v ≡ 0) ⊎ (5 < v) → is_from_lock v ≡ true
  tells_so v (inl e) = ap (λ n. eqb n 0 || ltb 5 n) e
  tells_so v (inr high) = elim (cases_eq v 0) [
    | inl e ↦ ap (λ n. eqb n 0 || ltb 5 n) e
    | inr ne ↦ rw (ne_eqb v 0 ne) (lt-ltb 5 v high)
  ]

  unset : (v : ℕ) → (v ≡ 0) ⊎ (5 < v) → v ≢ 1
  unset v (inl e) is = absurd (omega (arith, e, is))
  unset v (inr high) is = absurd (omega (arith, high, is))

  -- who finds that it was taken from the lock list goes to acquire with the tries that it had
  pub tries_kept : (aim : Aim C) (tries v : ℕ) → (v ≡ 0) ⊎ (5 < v) → got_of N (InAcquire aim (AwaitWake tries)) (Flag v) ≡ On (InAcquire aim (AcquireLoad (AsWoken tries)))
  tries_kept aim tries v told =
      ap (λ b. cond b (Idle (InAcquire aim (AwaitWake tries))) (On (InAcquire aim (AcquireLoad (arrival_of tries v))))) (ne_eqb v 1 (unset v told))
      ∙ ap (λ b. On (InAcquire aim (AcquireLoad (cond b (AsWoken tries) AsFresh)))) (tells_so v told)

  -- who finds its flag cleared goes to acquire
  pub woken_acquires : (walk : Walk C) (v : ℕ) → want_of walk ≡ LoadFlag → v ≢ 1 → Acquires v (got_of N walk (Flag v))
  woken_acquires walk v e ne = found walk (flag_here walk e) where
    found : (walk : Walk C) → flag_in walk ≡ true → Acquires v (got_of N walk (Flag v))
    found (InAcquire aim (AwaitWake tries)) is = cleared v (Idle (InAcquire aim (AwaitWake tries))) aim tries ne
    found (InWait wait AwaitWakeInWait) is = cleared v (rest_or_look wait) (ForWait wait (woken_by wait.on v)) 0 ne
    found (InWait wait (InLeaving cause AwaitWakeToLeave)) is = cleared v (Idle (InWait wait (InLeaving cause AwaitWakeToLeave))) (ForWait wait (outcome_taken wait.on cause v)) 0 ne
    found walk is = absurd (cc)

  -- a look that shows something ends its wait
  abbrev Ends : Cause → Next (Walk C) Reply → Type 0
  Ends cause next = (next ≡ Done (Answered (answer_of cause))) ⊎ ((after : Walk C) × (place_after next ≡ Some after) × (cause_kept after ≡ Some cause))

  pub shown_ends : (walk : Walk C) (limits : Limits) (again : Bool) (cause : Cause) → want_of walk ≡ Look limits again → Ends cause (got_of N walk (Looked (Some cause)))
  shown_ends walk limits again cause e = found walk (look_here walk limits again e) where
    found : (walk : Walk C) → look_in walk ≡ Some (limits, again) → Ends cause (got_of N walk (Looked (Some cause)))
    found (InWait wait (InQueuing flag LookIn)) is = inl refl
    found (InWait wait LookOut) is = inr (InWait wait (InLeaving cause LeaveLoad), refl, refl)
    found walk is = absurd (cc)
