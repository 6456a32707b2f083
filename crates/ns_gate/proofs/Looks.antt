-- A look changes no word of the table: any load may be told what it has shown.
use Rattle.std.proofs.Common.{Bool, List, None, Option, Some, [], ap, inl, refl, set, subst, sym, ℕ, ◌<◌, ◌∙◌, ◌∷◌, ◌≡◌}
use Rattle.ns_gate.proofs.Prelude.{Act, Allows, CanStep, Cause, Effect, GateView, HasLooked, HasStepped, Holds, Homes, IsOne, IsRuled, Limits, Lists, Look, Looked, MayShow, Me, Part, Performed, QuietKeeps, Truths, Underlying, Views, Walk, carried_after, get_elem?, held_after, keeps_slots, part_of}
use Rattle.ns_gate.proofs.Prelude.{set-get_or, some, the, want_of}
use Rattle.ns_gate.proofs.Keeps.{now, later, did, ruled}
use Rattle.ns_gate.proofs.Findings.{meant_by, walk_is}

module _ {C : Type 0} {N : ℕ} (truths : Truths C) (cells : 0 < N) (quiet : QuietKeeps N truths) (seat_count id slots : ℕ) (limits : Limits) (again : Bool) (cause : Option Cause) (may : MayShow limits cause) where
  module _ (v : GateView C N) (walk : Walk C) (walks : v.at.walk ≡ Some walk) (wants : want_of walk ≡ Look limits again) (words : List ℕ) (homes : Homes C) (views : Views C N) (g : Underlying C N) (r : IsRuled truths seat_count words homes views g) (at : get_elem? views id ≡ some (v ∷ [])) where
    abbrev part : Part C N
    part = record (part_of g.state v.at.held v.at.owed) { held = held_after again cause v.at.held }

    effect : Effect truths v.at.seat (want_of walk) (part_of g.state v.at.held v.at.owed) (Looked cause) part []
    effect = subst (λ (a : Act C). Effect truths v.at.seat a (part_of g.state v.at.held v.at.owed) (Looked cause) part []) (sym wants) (may, refl, refl)

    -- the table as it stands, where the seat's call has been told what its look showed
    silent : (w : GateView C N) × ((g' : Underlying C N) × IsRuled truths seat_count words homes (set views id (w ∷ [])) g') × ((d : HasStepped truths None (Looked cause) v w) × (want_of d.made.step.walk ≡ Look limits again))
    silent =
        let d = did truths cells quiet seat_count words homes views g r id v at None tt walk walks (Looked cause) part [] effect in (
          now truths cells quiet seat_count words homes views g r id v at None tt walk walks (Looked cause) part [] effect,
          (later truths cells quiet seat_count words homes views g r id v at None tt walk walks (Looked cause) part [] effect, ruled truths cells quiet seat_count words homes views g r id v at None tt walk walks (Looked cause) part [] effect words homes r.shows r.home (inl refl)),
          (d, ap want_of (walk_is truths None (Looked cause) walk v (now truths cells quiet seat_count words homes views g r id v at None tt walk walks (Looked cause) part [] effect) d walks) ∙ wants),
        )

  looks_at : (i : ℕ) (vs : List (GateView C N)) (cs : List (ℕ × Lists C)) → IsOne vs → (walk : Walk C) → (the vs).at.walk ≡ Some walk → want_of walk ≡ Look limits again →
      Allows (Holds truths seat_count) slots id (vs, cs) i (λ n. n) (λ k now. Performed truths None (Look limits again) (Looked cause) (vs, cs) now)
  looks_at i [] cs one walk walks wants s h _ at _ = absurd one
  looks_at i (v ∷ x ∷ xs) cs one walk walks wants s h _ at _ = absurd one
  looks_at i (v ∷ []) cs one walk walks wants s h _ at _ = let t = silent v walk walks wants s.words s.homes s.views h.0 h.1 at in
      (t.0 ∷ [], keeps_slots, tt, (t.1.0, subst (λ ws. IsRuled truths seat_count ws s.homes (set s.views id (t.0 ∷ [])) t.1.0) (sym (set-get_or s.words i 0)) t.1.1), record { one = tt; carried = refl; did = t.2.0; act_is = t.2.1; finds = λ other. absurd (other tt) })

  pub may_look : (i : ℕ) (me : Me (Lists C) (List (GateView C N))) → CanStep truths None (Look limits again) me → Allows (Holds truths seat_count) slots id me i (λ n. n) (λ k now. HasLooked truths cause me now)
  may_look i me can s h e at l = let t = looks_at i me.0 me.1 can.one can.walk can.walks can.wants s h e at l in
      (t.0, t.1, t.2, t.3, record { made = subst (λ (a : Act C). Performed truths None a (Looked cause) me (t.0, carried_after me.1 t.1)) (sym (meant_by truths None (Look limits again) me can)) t.4 })

  pub has_looked : (me now : Me (Lists C) (List (GateView C N))) → CanStep truths None (Look limits again) me → HasLooked truths cause me now → Performed truths None (Look limits again) (Looked cause) me now
  has_looked me now can p = subst (λ (a : Act C). Performed truths None a (Looked cause) me now) (meant_by truths None (Look limits again) me can) p.made
