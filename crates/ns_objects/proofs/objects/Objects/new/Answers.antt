use Rattle.std.proofs.Common.{List, [], ap, arith, length, length-append, refl, rules, subst, sym, ℕ, ◌+◌, ◌<◌, ◌∙◌, ◌∷◌, ◌≡◌}
use Rattle.ns_objects.proofs.Prelude.{AreNew, IsAtRest, IsRuled, Me, ObjectEvent, ObjectView, ObjectsKnown, Setup, TableId, all_new, cuts, first_of, first_words, fresh, fresh_seat, known, known_of, new_lawful, new_more, numbered_first, numbered_rest, padded, rest_of, setup_of, the}
use Rattle.ns_objects.proofs.Seats.{begins, by_sums}
use Rattle.ns_objects.proofs.objects.Objects.new.Goals as goal

abbrev Seated : Type 0
Seated = Me (Unit {0}) (List ObjectView)

pub of_words-requires : goal.of_words-requires
of_words-requires c = let values = c.args.counters.now in
    subst (λ (z : Setup × List ℕ). (h : List ObjectEvent) × IsRuled z.0 z.1 (fresh z.0 0 z.0.seats ∷ []) h) (λ i. (sym c.new-setup.ensures i, sym (c.words.ensures ∙ ap (λ (s : Setup). first_words s.starts) c.new-setup.ensures) i))
    (begins (setup_of c.args.seats values c.args.onces) (first_words (padded values))
    (new_lawful c.args.seats values c.args.onces c.if-seats-gt64.false c.requires.counters c.requires.onces (λ k. let f = c.type_inv.counters k in omega (arith, f))))

pub split_seat-seat-requires : goal.split_seat-seat-requires
split_seat-seat-requires c = (search rules, search rules, cuts (by_sums _ _) _ _)

pub seated-requires : goal.seated-requires
seated-requires c = let n = c.args.seats in let setup = setup_of n c.args.counters.now c.args.onces in let i = c.loop-number._number in let lt : i < n = omega arith in
    let is = c.split_seat-seat.ensures.4 ∙ ap (λ (vs : List ObjectView). (vs, [])) (ap first_of c.loop-number.invariant.1 ∙ numbered_first (fresh_seat setup) n i lt) in
    subst (λ (m : Seated). IsAtRest c.split_seat-seat.result.table_id m) (sym is) (record { one = tt; empty = refl; free = refl; true_to = record { room = (c.requires.counters, c.requires.onces); legal = tt; by_seats = tt; own = refl } })

pub loop-number-preserved : goal.loop-number-preserved
loop-number-preserved c = let v = c.loop-number.invariant in let n = c.args.seats in let setup = setup_of n c.args.counters.now c.args.onces in let i = c.loop-number._number in
    let lt : i < n = omega arith in let s = c.split_seat-seat.ensures in let p = c.in_ok-add.ensures in let t = c.in_ok-table.rest.table_id in
    let is = ap (λ (m : Seated). the m.0) (s.4 ∙ ap (λ (vs : List ObjectView). (vs, [])) (ap first_of v.1 ∙ numbered_first (fresh_seat setup) n i lt)) in
    let k : c.seated.result ≡ known t setup i [] [] = c.seated.ensures ∙ (λ j. known_of ((s.3 ∙ v.0) j) (is j)) in
    let e : i ≡ 0 + length c.loop-number.given.items = omega arith in (
      s.0 ∙ v.0,
      ap (λ (m : Seated). m.0) s.2 ∙ (ap rest_of v.1 ∙ numbered_rest (fresh_seat setup) n i lt),
      omega (arith, ap length p, length-append c.loop-number.given.items (c.seated.result ∷ [])),
      subst (AreNew t setup 0) (sym p) (new_more (λ seat. known t setup seat [] []) 0 c.loop-number.given.items c.seated.result v.3 (k ∙ ap (λ (j : ℕ). known t setup j [] []) e)),
    )

pub returns-clause-seats : goal.returns-clause-seats
returns-clause-seats c = let e = c.in_ok-table in let setup = setup_of c.args.seats c.args.counters.now c.args.onces in
    all_new (λ seat. known e.table.shared.table_id setup seat [] []) (λ (k : ObjectsKnown). (k.objects ≡ e.table.shared.table_id) × (k.setup ≡ setup))
    (λ seat. (refl, refl)) 0 c.loop-number.given.items (subst (λ (t : TableId). AreNew t setup 0 c.loop-number.given.items) e.ensures.2 c.loop-number.invariant.3)
