use Rattle.std.proofs.Common.{List, [], ap, arith, length, length-append, refl, rules, subst, sym, ℕ, ◌+◌, ◌<◌, ◌∙◌, ◌∷◌, ◌≡◌}
use Rattle.ns_monitor.proofs.Prelude.{AreNew, GateView, IsNumberOf, Known, SeatOf, TableId, all_new, first_of, fresh_seat, known_of, new_more, new_seat, numbered_first, numbered_rest, rest_of, the}
use Rattle.ns_monitor.proofs.Made.{new_rests}
use Rattle.ns_monitor.proofs.monitor.Monitor.new.Goals as goal

pub seated-requires : goal.seated-requires
seated-requires g c = let few = c.in_ok-gate.ensures.2 in let n = c.args.seats in let i = c.loop-number.number in let lt : i < n = omega arith in
    let is = c.part-seat.ensures.part.1 ∙ ap (λ (vs : List (GateView g.row.C.Denot g.row.N)). (vs, [])) (ap first_of c.loop-number.invariant.1 ∙ numbered_first (fresh_seat {C = g.row.C.Denot} {N = g.row.N} n) n i lt) in
    let number : IsNumberOf i c.part-seat.result.me = (ap (λ (m : SeatOf g.row.C.Denot g.row.N). (the m.0).at.seat) (sym is), omega (arith, lt, few)) in
    let rests = new_rests g.row.C.Denot g.row.N g.C.Condition.means n i c.part-seat.result.me is in
    (omega arith, (search rules, (search rules, (rests.0, number, rests.1))))

pub loop-number-preserved : goal.loop-number-preserved
loop-number-preserved g c = let v = c.loop-number.invariant in let n = c.args.seats in let i = c.loop-number.number in let lt : i < n = omega arith in let p = c.in_ok-add.ensures in let t = c.in_ok-gate.all.table_id in
    let is = c.part-seat.ensures.part.1 ∙ ap (λ (vs : List (GateView g.row.C.Denot g.row.N)). (vs, [])) (ap first_of v.1 ∙ numbered_first (fresh_seat {C = g.row.C.Denot} {N = g.row.N} n) n i lt) in
    let k : c.seated.result ≡ known_of t (fresh_seat n i ∷ [], []) = c.seated.ensures ∙ (λ j. known_of ((c.part-seat.ensures.part.0 ∙ v.0) j) (is j)) in
    let e : i ≡ 0 + length c.loop-number.given.items = omega arith in (
      c.part-seat.ensures.all.0 ∙ v.0,
      c.part-seat.ensures.all.1 ∙ (ap rest_of v.1 ∙ numbered_rest (fresh_seat {C = g.row.C.Denot} {N = g.row.N} n) n i lt),
      omega (arith, ap length p, length-append c.loop-number.given.items (c.seated.result ∷ [])),
      subst (AreNew n t 0) (sym p) (new_more (new_seat {C = g.row.C.Denot} {N = g.row.N} t n) 0 c.loop-number.given.items c.seated.result v.3 (k ∙ ap (λ (j : ℕ). known_of t (fresh_seat n j ∷ [], [])) e)),
    )

pub returns : goal.returns
returns g c = record {
  made = search rules;
  seats = all_new (new_seat {C = g.row.C.Denot} {N = g.row.N} c.in_ok-gate.gate c.args.seats) (λ (seat : Known g.row.C.Denot g.row.N). seat.monitor ≡ c.in_ok-gate.gate)
      (λ seat. refl) 0 c.loop-number.given.items (subst (λ (t : TableId). AreNew c.args.seats t 0 c.loop-number.given.items) c.in_ok-gate.ensures.0 c.loop-number.invariant.3);
  refused = search rules;
}

pub new-requires : goal.new-requires
new-requires g c = (omega arith, (omega arith, (omega arith, c.requires)))

pub part-seat-requires : goal.part-seat-requires
part-seat-requires g c = (omega arith, (omega arith, (omega arith, ◌∙◌ {A = TableId} c.loop-number.invariant.0 c.in_ok-gate.ensures.0)))
