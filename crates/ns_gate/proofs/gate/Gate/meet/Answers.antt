use Rattle.std.proofs.Common.{ap, arith, sym, ◌∙◌}
use Rattle.ns_gate.proofs.Prelude.{SeatOf, TableId, cuts, glues, pair_of}
use Rattle.ns_gate.proofs.Meets.{by_sums, learns, met_at}
use Rattle.ns_gate.proofs.gate.Gate.meet.Goals as goal

pub join_seat-requires : goal.join_seat-requires
join_seat-requires g c = let wide = c.self.invariant.0 in (◌∙◌ {A = TableId} c.requires.first.0 (sym c.self.view_is), ◌∙◌ {A = TableId} c.requires.second.0 (sym c.self.view_is), c.requires.second.1.empty, omega (arith, wide), glues (by_sums _ _) _ _ _ _)

pub load-requires : goal.load-requires
load-requires g c = let wide = c.self.invariant.0 in
    let learned = learns _ _ _ _ c.join_seat.new.seat.me (pair_of c.args.first.me.0 c.args.second.me.0 _ c.requires.first.1.one c.requires.second.1.one (ap (λ (m : SeatOf _ _). m.0) c.join_seat.ensures.2)) in
    (◌∙◌ {A = TableId} c.join_seat.ensures.0 (◌∙◌ {A = TableId} c.requires.first.0 (sym c.self.view_is)), omega (arith, wide), learned)

pub split_seat-first-requires : goal.split_seat-first-requires
split_seat-first-requires g c = let wide = c.self.invariant.0 in (◌∙◌ {A = TableId} c.load.ensures.0 (◌∙◌ {A = TableId} c.join_seat.ensures.0 (◌∙◌ {A = TableId} c.requires.first.0 (sym c.self.view_is))), omega (arith, wide), cuts (by_sums _ _) _ _)

pub returns : goal.returns
returns g c = record {
  seats = let s = c.split_seat-first.ensures in
      let m = met_at _ c.args.first.me c.args.second.me _ _ _ _ c.requires.first.1 c.requires.second.1 c.join_seat.ensures.2 c.load.ensures.2 s.4 s.2 in
      let kept = c.load.ensures.0 ∙ (c.join_seat.ensures.0 ∙ c.requires.first.0) in (s.3 ∙ kept, m.0, s.0 ∙ kept, m.1);
  met = let s = c.split_seat-first.ensures in (met_at _ c.args.first.me c.args.second.me _ _ _ _ c.requires.first.1 c.requires.second.1 c.join_seat.ensures.2 c.load.ensures.2 s.4 s.2).2;
}
