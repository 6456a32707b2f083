use Rattle.std.proofs.Common.{arith, refl, subst, sym, ◌<◌, ◌≤◌}
use Rattle.ns_world.proofs.Prelude.{IsCounted, Progress, err_from_is_err_and, lists_of, number, progressed, so_far, whole_of}
use Rattle.ns_world.specs.Seen.{seen_as}
use Rattle.ns_world.proofs.Sizes.{among_as_many, call_lives, world_fits, world_lives}
use Rattle.ns_world.proofs.Schedules.{refused_stops, stops_now, turn_stops, untold_stops}
use Rattle.ns_world.proofs.Counted.{turn_counted, calls_fit, counts_progress}
use Rattle.ns_world.proofs.Turns.{seats_stay}
use Rattle.ns_world.proofs.world.World.counted_turn.Goals as goal

pub returns-then-seat-seats : goal.returns-then-seat-seats
returns-then-seat-seats g c = record {
  err = λ whole.
      stops_now _ c.requires.turns (refl, subst (λ n. n ≤ c.args.seat) c.seats.ensures.count c.if-seat-seats.true);
  ok = tt;
  told = tt;
}

pub returns-then-tally-limit : goal.returns-then-tally-limit
returns-then-tally-limit g c = record {
  err = λ whole.
      stops_now _ c.requires.turns (refl, c.if-tally-limit.true, subst (λ n. c.args.seat < n) c.seats.ensures.count c.if-seat-seats.false);
  ok = tt;
  told = tt;
}

pub returns-in_err-step : goal.returns-in_err-step
returns-in_err-step g c = record {
  err = let p = err_from_is_err_and c.from_residual.result c.from_residual.ensures.1 in
      rw (p.1, p.2) (λ whole. turn_stops _ c.requires.turns c.in_err-step.ensures.err);
  told = let p = err_from_is_err_and c.from_residual.result c.from_residual.ensures.1 in rw p.1 tt;
  ok = let p = err_from_is_err_and c.from_residual.result c.from_residual.ensures.1 in rw p.1 tt;
}

pub tests-requires : goal.tests-requires
tests-requires g c =
    let before = so_far g.C.Condition.means c.args.self.now c.args.tally.now in
    let turn = c.in_ok-step.ensures.ok _ c.args.tally.now.over c.args.tally.now.lines.items refl in
    let same = seats_stay _ before c.args.seat c.in_ok-step.step (whole_of g.C.Condition.means c.turn.new.self) turn in
    (world_fits g.row.C (number g.row.N) g.met.C.Condition.has_room g.C.Condition, among_as_many c.if-seat-seats.false c.seats.ensures.count same)

pub returns-in_err-count : goal.returns-in_err-count
returns-in_err-count g c = record {
  err = let p = err_from_is_err_and c.from_residual-in_err-count.result c.from_residual-in_err-count.ensures.1 in
      let before = so_far g.C.Condition.means c.args.self.now c.args.tally.now in
      let turn = c.in_ok-step.ensures.ok _ c.args.tally.now.over c.args.tally.now.lines.items refl in
      rw (p.1, p.2) (λ whole. untold_stops c.in_ok-step.step turn (omega arith) c.in_err-count.ensures.err c.count.ensures.turns);
  told = let p = err_from_is_err_and c.from_residual-in_err-count.result c.from_residual-in_err-count.ensures.1 in rw p.1 tt;
  ok = let p = err_from_is_err_and c.from_residual-in_err-count.result c.from_residual-in_err-count.ensures.1 in rw p.1 tt;
}

pub returns-in_err-see : goal.returns-in_err-see
returns-in_err-see g c = record {
  err = let p = err_from_is_err_and c.from_residual-in_err-see.result c.from_residual-in_err-see.ensures.1 in
      let counted = counts_progress (whole_of g.C.Condition.means c.args.self.now) (whole_of g.C.Condition.means c.turn.new.self) c.args.tally.now.over c.count.new.tally.over c.args.tally.now.lines.items c.count.new.tally.lines.items c.args.seat c.tests.result c.in_ok-step.step
      c.tests.ensures c.in_ok-count.ensures.ok in
      let turn = c.in_ok-step.ensures.ok (lists_of c.args.lists.now) c.args.tally.now.over c.args.tally.now.lines.items refl in
      rw (p.1, p.2) (λ whole. refused_stops c.in_ok-step.step c.in_err-see.ensures.err (rw counted turn) (omega arith) c.count.ensures.turns);
  ok = let p = err_from_is_err_and c.from_residual-in_err-see.result c.from_residual-in_err-see.ensures.1 in rw p.1 tt;
  told = let p = err_from_is_err_and c.from_residual-in_err-see.result c.from_residual-in_err-see.ensures.1 in rw p.1 tt;
}

pub returns : goal.returns
returns g c = record {
  ok = let before = so_far g.C.Condition.means c.args.self.now c.args.tally.now in
      let counted = counts_progress (whole_of g.C.Condition.means c.args.self.now) (whole_of g.C.Condition.means c.turn.new.self) c.args.tally.now.over c.count.new.tally.over c.args.tally.now.lines.items c.count.new.tally.lines.items c.args.seat c.tests.result c.in_ok-step.step
      c.tests.ensures c.in_ok-count.ensures.ok in
      let calls = lists_of c.args.lists.now in
      let turn = c.in_ok-step.ensures.ok calls c.args.tally.now.over c.args.tally.now.lines.items refl in
      let few = (calls_fit g.row.N c.args.lists.now c.args.seat c.requires.lists).0 in
      record {
        turn = rw counted turn;
        counted = subst (λ (q : Progress _ _). IsCounted q.world q.over) (sym counted)
            (turn_counted calls before (progressed before c.args.seat c.in_ok-step.step (whole_of g.C.Condition.means c.turn.new.self)) c.args.seat c.in_ok-step.step few (omega arith) turn c.requires.counted);
        turns = (let turns = c.count.ensures.turns in let within = c.requires.turns in let other = c.if-tally-limit.false in (turns, omega (arith, turns, within, other)));
      };
  told = subst (λ call. g.O.Observer.sees c.args.observer.now (seen_as c.count.new.tally.turns c.args.seat call c.args.self.now c.turn.new.self c.in_ok-step.step) c.see.new.self)
      c.next_call.ensures (c.in_ok-see.ensures.ok c.args.self.now);
  err = tt;
}

pub count-requires-clause-over : goal.count-requires-clause-over
count-requires-clause-over g c = let most = c.requires.counted.most c.args.seat in omega (arith, most)

pub count-requires-clause-seat : goal.count-requires-clause-seat
count-requires-clause-seat g c = let few = c.seats.ensures.few in let below = c.if-seat-seats.false in omega (arith, few, below)

pub count-requires-clause-turns : goal.count-requires-clause-turns
count-requires-clause-turns g c = let within = c.requires.turns in let other = c.if-tally-limit.false in let fits = c.ranges.limit.fits in omega (arith, within, other, fits)

pub seats-requires : goal.seats-requires
seats-requires g c = world_fits g.row.C (number g.row.N) g.met.C.Condition.has_room g.C.Condition

pub bounds-tally-seat : goal.bounds-tally-seat
bounds-tally-seat g c = let few = c.seats.ensures.few in let below = c.if-seat-seats.false in omega (arith, few, below)

pub turn-requires : goal.turn-requires
turn-requires g c = (world_fits g.row.C (number g.row.N) g.met.C.Condition.has_room g.C.Condition, (c.requires.lists, subst (λ n. c.args.seat < n) c.seats.ensures.count c.if-seat-seats.false))

pub see-requires : goal.see-requires
see-requires g c = λ κs lives. (lives.0, (world_lives g.row.C g.row.N g.C.Condition _ lives.1.0, call_lives g.row.C _ lives.1.1))
