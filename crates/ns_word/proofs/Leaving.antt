-- The event by which a wait for variables is left.
use Rattle.std.proofs.Common.{Bool, List, [], eq-eqb, false, ne_eqb, refl, subst, sym, true, ℕ, ◌<◌, ◌∷◌, ◌≡◌, ◌≢◌}
use Rattle.ns_word.proofs.Prelude.{Any, AtLock, AtVariables, Event, Home, IsLegalEvent, IsLegalLeave, IsLegalLeaveAny, LeaveAny, Mode, Only, Phase, Standing, Variables, Waiting, leave_of, left_phase, standing_next, who_of}
use Rattle.ns_model.specs.declared.event.Event.TheVariants.{Leave}

-- the event
abbrev pub left_event : {C : Type 0} {N : ℕ} → ℕ → Variables → Event C N
left_event who (Only k) = Leave who k
left_event who (Any cvs) = LeaveAny who cvs

module _ (C : Type 0) (N : ℕ) (who : ℕ) where
  -- it is what is committed
  pub left_told : (variables : Variables) → leave_of {C = C} {N = N} who (AtVariables variables) true ≡ left_event who variables ∷ []
  left_told (Only k) = refl
  left_told (Any cvs) = refl

  -- who doesn't stand there any more commits nothing
  pub not_left : (home : Home) → leave_of {C = C} {N = N} who home false ≡ []
  not_left AtLock = refl
  not_left (AtVariables (Only k)) = refl
  not_left (AtVariables (Any cvs)) = refl

  -- The event is its seat's. It leaves the row, and all phases but that of the seat.
  pub left_next : (variables : Variables) (now : Standing C) → let event = left_event {C = C} {N = N} who variables in let next = standing_next now event in
      (who_of event ≡ who) × (next.row ≡ now.row) × ((seat : ℕ) → who ≢ seat → next.phases seat ≡ now.phases seat) × (next.phases who ≡ left_phase (now.phases who))
  left_next (Only k) now = (refl, refl, λ seat ne. rw (ne_eqb who seat ne) refl, rw (eq-eqb who who refl) refl)
  left_next (Any cvs) now = (refl, refl, λ seat ne. rw (ne_eqb who seat ne) refl, rw (eq-eqb who who refl) refl)

  -- who waits for just these may leave
  pub left_is_legal : (holds : C → List ℕ → Bool) (variables : Variables) (mode : Mode) (now : Standing C) → who < 64 → now.phases who ≡ Waiting variables mode → IsLegalEvent {N = N} holds now (left_event who variables)
  left_is_legal holds (Only k) mode now low waits = (low, subst (λ (ph : Phase C). IsLegalLeave k ph) (sym waits) (eq-eqb k k refl))
  left_is_legal holds (Any cvs) mode now low waits = (low, subst (λ (ph : Phase C). IsLegalLeaveAny cvs ph) (sym waits) (eq-eqb cvs.0 cvs.0 refl))
