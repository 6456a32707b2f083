-- What is so of each way that a test may pick is so of the one that it picks; and where a chain may go.
use Rattle.std.proofs.Common.{Bool, None, Option, Some, cond, false, refl, true, ℕ, ◌≡◌}
use Rattle.ns_env.specs.Prelude.{Cause, Chain, ClockLoad, Done, EnvEnd, EnvWalk, Expired, ForIsNotified, ForLook, ForNoteWait, Idle, Is, LookOver, Next, NoteLoad, Notified, On, Over, is_due, passed, stopped, up_to}

-- of a way by what the test tells
pub by_test : {A : Type 0} (P : A → Type 0) (b : Bool) {x y : A} → (b ≡ true → P x) → (b ≡ false → P y) → P (cond b x y)
by_test P true p q = p refl
by_test P false p q = q refl

pub either : {A : Type 0} (P : A → Type 0) (b : Bool) {x y : A} → P x → P y → P (cond b x y)
either P b p q = by_test P b (λ _. p) (λ _. q)

-- of two ways that one test picks
pub both : {A B : Type 0} (P : A → B → Type 0) (b : Bool) {x y : A} {z w : B} → P x z → P y w → P (cond b x y) (cond b z w)
both P true p q = p
both P false p q = q

-- a chain is over, or waits on for its note, or goes on to another
module _ (P : Next EnvWalk EnvEnd → Type 0) (over : (cause : Option Cause) → P (Done (LookOver cause))) (answers : (is : Bool) → P (Done (Over (Is is)))) where
  pub at_stop : (chain : Chain) → P (stopped chain)
  at_stop (ForLook limits) = over (Some Notified)
  at_stop other = answers true

  pub at_end : (chain : Chain) (clock : ℕ) → P (Idle (ClockLoad chain)) → P (passed chain clock)
  at_end (ForLook limits) clock again = either P (is_due clock limits.deadline) (over (Some Expired)) (over None)
  at_end (ForIsNotified note) clock again = answers false
  at_end (ForNoteWait note deadline) clock again = either P (is_due clock deadline) (answers false) again

  pub at_next : (chain : Chain) (clock : ℕ) (above : Option ℕ) → P (Idle (ClockLoad chain)) → ((note : ℕ) → above ≡ Some note → P (On (NoteLoad chain clock note))) → P (up_to chain clock above)
  at_next chain clock None again on = at_end chain clock again
  at_next chain clock (Some note) again on = on note refl
