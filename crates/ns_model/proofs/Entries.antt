-- Which entries fit no phase but that of their wait.
use Rattle.std.proofs.Common.{Bool, List, refl, ℕ, ◌≡◌}
use Rattle.ns_model.proofs.Prelude.{AfterCv, Answer, Cond, EntryFits, Idle, Left, Mode, Phase, Plain, Variables, Waited, Woken}

-- a plain entry fits one that waits for nothing
pub plain_at_rest : {C : Type 0} (holds : C → List ℕ → Bool) (before : List ℕ) (mode : Mode) (phase : Phase C) → (phase ≡ Idle → ⊥) → EntryFits holds before mode Plain phase → ⊥
plain_at_rest holds before mode Idle other fits = other refl
plain_at_rest holds before mode phase other fits = fits

-- a return from a condition fits its wait alone
pub waited_at_wait : {C : Type 0} (holds : C → List ℕ → Bool) (before : List ℕ) (mode : Mode) (c : C) (answer : Answer) (phase : Phase C) → ((d : C) (m : Mode) → phase ≡ Cond d m → ⊥) → EntryFits holds before mode (Waited c answer) phase → ⊥
waited_at_wait holds before mode c answer (Cond d m) other fits = other d m refl
waited_at_wait holds before mode c answer phase other fits = fits

-- a return from a variable fits one that is woken or has left
pub after_cv_at_end : {C : Type 0} (holds : C → List ℕ → Bool) (before : List ℕ) (mode : Mode) (k : ℕ) (answer : Answer) (phase : Phase C) → ((j : ℕ) (m : Mode) → phase ≡ Woken j m → ⊥)
    → ((variables : Variables) (m : Mode) → phase ≡ Left variables m → ⊥) → EntryFits holds before mode (AfterCv k answer) phase → ⊥
after_cv_at_end holds before mode k answer (Woken j m) unwoken stayed fits = unwoken j m refl
after_cv_at_end holds before mode k answer (Left variables m) unwoken stayed fits = stayed variables m refl
after_cv_at_end holds before mode k answer phase unwoken stayed fits = fits
