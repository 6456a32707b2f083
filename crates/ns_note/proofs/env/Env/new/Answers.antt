use Rattle.std.proofs.Common.{List, [], ap, arith, length, length-append, refl, rules, subst, sym, ℕ, ◌+◌, ◌<◌, ◌∙◌, ◌∷◌, ◌≡◌}
use Rattle.ns_note.proofs.Prelude.{AreNew, EnvKnown, EnvView, IsAtRest, IsNumberOf, Me, TableId, all_new, cuts, first_of, fresh_seat, known, known_of, new_more, numbered_first, numbered_rest, rest_of, the}
use Rattle.ns_note.proofs.Seats.{begins_with, by_sums}
use Rattle.ns_note.proofs.env.Env.new.Goals as goal

abbrev Seated : Type 0
Seated = Me (Unit {0}) (List EnvView)

pub of_words-requires : goal.of_words-requires
of_words-requires c = begins_with c.args.seats _ (omega arith) refl

pub split_seat-seat-requires : goal.split_seat-seat-requires
split_seat-seat-requires c = (search rules, search rules, cuts (by_sums _ _) _ _)

pub seated-requires : goal.seated-requires
seated-requires c = let n = c.args.seats in let i = c.loop-number.number in let lt : i < n = omega arith in
    let is = c.split_seat-seat.ensures.4 ∙ ap (λ (vs : List EnvView). (vs, [])) (ap first_of c.loop-number.invariant.1 ∙ numbered_first (fresh_seat n) n i lt) in
    let low : i < 64 = omega arith in
    subst (λ (m : Seated). IsAtRest c.split_seat-seat.result.table_id m × IsNumberOf i m) (sym is) (record { one = tt; empty = refl; idle = refl; true_to = record { legal = tt; by_seats = tt; own = refl } }, (refl, low))

pub loop-number-preserved : goal.loop-number-preserved
loop-number-preserved c = let v = c.loop-number.invariant in let n = c.args.seats in let i = c.loop-number.number in let lt : i < n = omega arith in let s = c.split_seat-seat.ensures in let p = c.in_ok-add.ensures in let t = c.in_ok-table.rest.table_id in
    let is = ap (λ (m : Seated). the m.0) (s.4 ∙ ap (λ (vs : List EnvView). (vs, [])) (ap first_of v.1 ∙ numbered_first (fresh_seat n) n i lt)) in
    let k : c.seated.result ≡ known t n i [] [] = c.seated.ensures ∙ (λ j. known_of ((s.3 ∙ v.0) j) (is j)) in
    let e : i ≡ 0 + length c.loop-number.given.items = omega arith in (
      s.0 ∙ v.0,
      ap (λ (m : Seated). m.0) s.2 ∙ (ap rest_of v.1 ∙ numbered_rest (fresh_seat n) n i lt),
      omega (arith, ap length p, length-append c.loop-number.given.items (c.seated.result ∷ [])),
      subst (AreNew t n 0) (sym p) (new_more (λ seat. known t n seat [] []) 0 c.loop-number.given.items c.seated.result v.3 (k ∙ ap (λ (j : ℕ). known t n j [] []) e)),
    )

pub returns-clause-seats : goal.returns-clause-seats
returns-clause-seats c = let e = c.in_ok-table in all_new (λ seat. known e.table.shared.table_id c.args.seats seat [] []) (λ (k : EnvKnown). k.env ≡ e.table.shared.table_id)
    (λ seat. refl) 0 c.loop-number.given.items (subst (λ (t : TableId). AreNew t c.args.seats 0 c.loop-number.given.items) e.ensures.2 c.loop-number.invariant.3)
