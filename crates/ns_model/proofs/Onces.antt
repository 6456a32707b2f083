-- What a legal history of a once cell means.
use Rattle.std.proofs.Common.{List, [], ap, fold, inl, inr, refl, ℕ, ◌||◌, ◌∙◌, ◌∷◌, ◌≡◌, ◌⊎◌}
use Rattle.ns_model.proofs.Prelude.{Began, Done, IsCourseOfOnce, IsLegalFrom, IsLegalOnce, IsLegalOnceEvent, OnceEvent, OnceState, Ran, Running, Unused, is_done, is_ran, list_any, once_after, once_next, or-false}

-- nothing comes after the end
ended : (events : List OnceEvent) → IsLegalFrom IsLegalOnceEvent once_next Done events → events ≡ []
ended [] legal = refl
ended (event ∷ events) legal = absurd legal.0

-- only its end comes after a beginning
running : (runner : ℕ) (events : List OnceEvent) → IsLegalFrom IsLegalOnceEvent once_next (Running runner) events → (events ≡ []) ⊎ (events ≡ Ran runner ∷ [])
running runner [] legal = inl refl
running runner (Began who ∷ events) legal = absurd legal.0
running runner (Ran who ∷ events) legal = inr ((λ i. Ran (legal.0 i) ∷ events) ∙ ap (λ rest. Ran runner ∷ rest) (ended events legal.1))

-- The function begins once at most, and has run once at most, behind its own beginning.
pub runs_once : (history : List OnceEvent) → IsLegalOnce history → IsCourseOfOnce history
runs_once [] legal = inl refl
runs_once (Began who ∷ events) legal = elim (running who events legal.1) [
  | inl none ↦ inr (who, inl (ap (λ rest. Began who ∷ rest) none))
  | inr ran ↦ inr (who, inr (ap (λ rest. Began who ∷ rest) ran))
]
runs_once (Ran who ∷ events) legal = absurd legal.0

done_from : (now : OnceState) (events : List OnceEvent) → IsLegalFrom IsLegalOnceEvent once_next now events → is_done (fold once_next now events) ≡ (list_any is_ran events || is_done now)
done_from now [] legal = refl
done_from Unused (Began who ∷ events) legal = done_from (Running who) events legal.1
done_from Unused (Ran who ∷ events) legal = absurd legal.0
done_from (Running runner) (Began who ∷ events) legal = absurd legal.0
done_from (Running runner) (Ran who ∷ []) legal = refl
done_from (Running runner) (Ran who ∷ event ∷ events) legal = absurd legal.1.0
done_from Done (event ∷ events) legal = absurd legal.0

-- A cell is done just where its function has run.
pub done_once_run : (history : List OnceEvent) → IsLegalOnce history → is_done (once_after history) ≡ list_any is_ran history
done_once_run history legal = done_from Unused history legal ∙ or-false (list_any is_ran history)
