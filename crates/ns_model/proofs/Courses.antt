-- A history and its parts.
use Rattle.std.proofs.Common.{List, [], arith, fold, get_or, length, subst, suc, sym, take, zero, ℕ, ◌++◌, ◌+◌, ◌<◌, ◌∷◌, ◌≡◌}
use Rattle.ns_model.proofs.Prelude.{IsLegalFrom, fold_more, take_more}

module _ {S E : Type 0} (IsLegalEvent : S → E → Type 0) (next : S → E → S) where
  pub legal_append : (now : S) (g h : List E) → IsLegalFrom IsLegalEvent next now g → IsLegalFrom IsLegalEvent next (fold next now g) h → IsLegalFrom IsLegalEvent next now (g ++ h)
  legal_append now [] h p q = q
  legal_append now (e ∷ g) h p q = (p.0, legal_append (next now e) g h p.1 q)

  pub legal_parts : (now : S) (g h : List E) → IsLegalFrom IsLegalEvent next now (g ++ h) → IsLegalFrom IsLegalEvent next now g × IsLegalFrom IsLegalEvent next (fold next now g) h
  legal_parts now [] h p = (tt, p)
  legal_parts now (e ∷ g) h p = let rest = legal_parts (next now e) g h p.1 in ((p.0, rest.0), rest.1)

  -- one event more
  pub legal_more : (now : S) (h : List E) (i : ℕ) (d : E) → i < length h → IsLegalFrom IsLegalEvent next now (take i h) → IsLegalEvent (fold next now (take i h)) (get_or h i d) → IsLegalFrom IsLegalEvent next now (take (i + 1) h)
  legal_more now h i d within p q = rw (take_more h i d within) (legal_append now (take i h) (get_or h i d ∷ []) p (q, tt))

  -- each event of a legal history is legal after those before it
  pub legal_at : (now : S) (h : List E) (i : ℕ) (d : E) → i < length h → IsLegalFrom IsLegalEvent next now h → IsLegalEvent (fold next now (take i h)) (get_or h i d)
  legal_at now [] i d within p = absurd (omega (arith, within))
  legal_at now (e ∷ h) zero d within p = p.0
  legal_at now (e ∷ h) (suc i) d within p = legal_at (next now e) h i d (omega arith) p.1

  -- the same of a state that is what the events before left
  pub legal_step : (first now : S) (h : List E) (i : ℕ) (d : E) → i < length h → (now ≡ fold next first (take i h)) × IsLegalFrom IsLegalEvent next first (take i h) → IsLegalEvent now (get_or h i d)
      → (next now (get_or h i d) ≡ fold next first (take (i + 1) h)) × IsLegalFrom IsLegalEvent next first (take (i + 1) h)
  legal_step first now h i d within before fits = (
    subst (λ (s : S). next s (get_or h i d) ≡ fold next first (take (i + 1) h)) (sym before.0) (sym (fold_more next first h i d within)),
    legal_more first h i d within before.1 (subst (λ (s : S). IsLegalEvent s (get_or h i d)) before.0 fits),
  )
