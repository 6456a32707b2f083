-- Seats that are joined and cut: neither changes a sum over all seats, nor what holds of each.
use Rattle.std.proofs.Common.{◌≡◌, ◌≢◌, ℕ, List, [], ◌∷◌, ◌++◌, set, refl, ap, sym, ◌∙◌, subst, arith, ⊎_elim}
use Rattle.std.proofs.lemmas.List.{set-get_or}
use mathlib.Core.Option.{Option, some}
use lib.ListN.{get_elem?}
use Rattle.atomic_table.specs.Table.{State as TableState, Me, keeps as keeps_slots, Allows, Splits, Joins}
use Rattle.atomic_table.proofs.Lists.{at_set}
use Rattle.ns_model.specs.Tallies.{total, Every}
use Rattle.ns_model.proofs.Tallies.{total_set, total-append, every_at, others_of, every_put, every-append}
use Rattle.ns_seats.specs.Views.{Views, tally, the_or, the_second_or, IsOne, ArePair, first_of, rest_of}
use Rattle.ns_seats.specs.Meetings.{Ruling, Holds, IsBySums, HaveLearned}
use Rattle.ns_seats.proofs.Views.{one_is, two_are, cut_total, cut_every}

module _ {S V B K : Type 0} {key : V → K} {Fits : B → V → Type 0} {Ruled : Ruling S V B} (by : IsBySums key Fits Ruled) where
  -- ---- a seat is cut

  cut_sums : (views : Views V) (id : ℕ) (vs : List V) → get_elem? views id ≡ some vs → (f : V → ℕ) → tally f (set views id (rest_of vs) ++ first_of vs ∷ []) ≡ tally f views
  cut_sums views id vs at f =
      let a = total-append (total f) (set views id (rest_of vs)) (first_of vs ∷ []) in
      let b = total_set (total f) views id vs (rest_of vs) at in
      let d = cut_total f vs in omega (arith, a, b, d)

  -- the first seat of a view may go to a seat of its own
  pub cuts : (id : ℕ) (vs : List V) → Splits (Holds Ruled) id vs (rest_of vs) (first_of vs)
  cuts id vs s h at =
      let P = Fits h.0 in
      let each = by.each s.words s.homes s.views h.0 h.1 in
      let own = cut_every P vs (every_at (Every P) s.views id vs each at) in (
        h.0,
        by.same s.words s.homes s.views (set s.views id (rest_of vs) ++ first_of vs ∷ []) h.0 h.1 (λ f. cut_sums s.views id vs at (λ view. f (key view)))
            (every-append (Every P) (set s.views id (rest_of vs)) (first_of vs ∷ []) (every_put (Every P) s.views id (rest_of vs) (others_of (Every P) s.views id each) own.0) (own.1, tt)),
      )

  -- ---- two seats are joined

  join_sums : (views : Views V) (id other : ℕ) (vs us : List V) → get_elem? views id ≡ some vs → get_elem? (set views id (vs ++ us)) other ≡ some us → (f : V → ℕ) → tally f (set (set views id (vs ++ us)) other []) ≡ tally f views
  join_sums views id other vs us at there f =
      let a = total-append f vs us in
      let b = total_set (total f) views id vs (vs ++ us) at in
      let d = total_set (total f) (set views id (vs ++ us)) other us [] there in omega (arith, a, b, d)

  -- two seats may be joined
  pub glues : (id other : ℕ) (vs us : List V) → Joins (Holds Ruled) id vs other us (vs ++ us) []
  glues id other vs us s h at apart there =
      let P = Fits h.0 in
      let one = set s.views id (vs ++ us) in
      let each = by.each s.words s.homes s.views h.0 h.1 in
      let theirs = every_at (Every P) s.views other us each (⊎_elim (λ (t : (other ≡ id) × (vs ++ us ≡ us)). absurd (apart t.0)) (λ (t : (other ≢ id) × (get_elem? s.views other ≡ some us)). t.1) (at_set s.views id other (vs ++ us) us there)) in
      let mine = every_at (Every P) s.views id vs each at in (
        h.0,
        by.same s.words s.homes s.views (set one other []) h.0 h.1 (λ f. join_sums s.views id other vs us at there (λ view. f (key view)))
            (every_put (Every P) one other [] (others_of (Every P) one other (every_put (Every P) s.views id (vs ++ us) (others_of (Every P) s.views id each) (every-append P vs us mine theirs))) tt),
      )

  -- ---- and both learn what stands behind the table

  module _ (none : V) (HaveMet : V → V → V → V → Type 0) (learn : B → V → V) (same_key : (behind : B) (v : V) → key (learn behind v) ≡ key v)
      (fits : (words : List ℕ) (homes : List (Option S)) (views : Views V) (behind : B) → Ruled words homes views behind → (v : V) → Fits behind v → Fits behind (learn behind v))
      (have_met : (id : ℕ) (words : List ℕ) (homes : List (Option S)) (views : Views V) (behind : B) → Ruled words homes views behind → (v u : V) → get_elem? views id ≡ some (v ∷ u ∷ []) → Fits behind v → Fits behind u → HaveMet v u (learn behind v) (learn behind u))
    where
      abbrev both : B → V → V → List V
      both behind v u = learn behind v ∷ learn behind u ∷ []

      learned_sums : (views : Views V) (id : ℕ) (behind : B) (v u : V) → get_elem? views id ≡ some (v ∷ u ∷ []) → (f : K → ℕ) → tally (λ view. f (key view)) (set views id (both behind v u)) ≡ tally (λ view. f (key view)) views
      learned_sums views id behind v u at f =
          let a = total_set (total (λ view. f (key view))) views id (v ∷ u ∷ []) (both behind v u) at in
          let first = ap f (same_key behind v) in
          let second = ap f (same_key behind u) in omega (arith, a, first, second)

      learn_at : (id : ℕ) (s : TableState S (List V)) (h : Holds Ruled s) (vs : List V) (cs : List (ℕ × S)) → ArePair vs → get_elem? s.views id ≡ some vs
          → (ws : List V) × Ruled s.words s.homes (set s.views id ws) h.0 × HaveLearned none HaveMet (vs, cs) (ws, cs)
      learn_at id s h vs cs two at =
          let P = Fits h.0 in
          let each = by.each s.words s.homes s.views h.0 h.1 in
          let p = two_are vs two in
          let there : get_elem? s.views id ≡ some (p.0 ∷ p.1 ∷ []) = at ∙ ap some p.2 in
          let own = every_at (Every P) s.views id (p.0 ∷ p.1 ∷ []) each there in
          let now = both h.0 p.0 p.1 in (
            now,
            by.same s.words s.homes s.views (set s.views id now) h.0 h.1 (learned_sums s.views id h.0 p.0 p.1 there)
                (every_put (Every P) s.views id now (others_of (Every P) s.views id each) (fits s.words s.homes s.views h.0 h.1 p.0 own.0, (fits s.words s.homes s.views h.0 h.1 p.1 own.1.0, tt))),
            subst (λ us. HaveLearned none HaveMet (us, cs) (now, cs)) (sym p.2) (record { pair = tt; carried = refl; met = have_met id s.words s.homes s.views h.0 h.1 p.0 p.1 there own.0 own.1.0 }),
          )

      -- two seats that are joined may learn
      pub learns : (slots id : ℕ) (me : Me S (List V)) → ArePair me.0 → Allows (Holds Ruled) slots id me 0 (λ n. n) (λ found now. HaveLearned none HaveMet me now)
      learns slots id me two s h _ at _ = let t = learn_at id s h me.0 me.1 two at in (t.0, keeps_slots, tt, (h.0, subst (λ ws. Ruled ws s.homes (set s.views id t.0) h.0) (sym (set-get_or s.words 0 0)) t.1), t.2)

-- what two seats know once they were joined, have learned and are split again
pub meets : {V : Type 0} (none : V) (HaveMet : V → V → V → V → Type 0) (vs us ws xs a b : List V) → IsOne vs → IsOne us → ws ≡ vs ++ us → ArePair xs → HaveMet (the_or none ws) (the_second_or none ws) (the_or none xs) (the_second_or none xs)
    → a ≡ first_of xs → b ≡ rest_of xs → IsOne a × IsOne b × HaveMet (the_or none vs) (the_or none us) (the_or none a) (the_or none b)
meets {V} none HaveMet vs us ws xs a b one two e pair h x y =
    let v = one_is vs one in let u = one_is us two in let p = two_are xs pair in
    subst (λ (z : List V × List V × List V × List V). IsOne z.2 × IsOne z.3 × HaveMet (the_or none z.0) (the_or none z.1) (the_or none z.2) (the_or none z.3)) (λ i. (sym v.1 i, sym u.1 i, sym (x ∙ ap first_of p.2) i, sym (y ∙ ap rest_of p.2) i))
    (tt, tt, subst (λ (z : List V × List V). HaveMet (the_or none z.0) (the_second_or none z.0) (the_or none z.1) (the_second_or none z.1)) (λ i. ((e ∙ (λ j. v.1 j ++ u.1 j)) i, p.2 i)) h)
