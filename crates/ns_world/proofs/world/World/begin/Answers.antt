use Rattle.std.proofs.Common.{refl, subst, sym, ◌∙◌, ◌≤◌}
use Rattle.ns_world.proofs.Prelude.{set_same, whole_of}
use Rattle.ns_world.proofs.Mapped.{found_at}
use Rattle.ns_world.proofs.Laws.{start_keeps}
use Rattle.ns_world.proofs.world.World.begin.Goals as goal

pub returns-then-at-len : goal.returns-then-at-len
returns-then-at-len g c = record { err = rw (← c.self.view_is) (refl, subst (λ n. n ≤ c.args.seat) (c.len.ensures ∙ c.self.inside.seats.ok.0) c.if-at-len.true); ok = tt; lawful = rw (← c.self.view_is) c.self.invariant }

pub invariant_of-self : goal.invariant_of-self
invariant_of-self g c =
    let at = found_at c.self.inside.seats.items c.args.seat c.index_mut-here.result.now c.if-at-len.false (c.len.ensures ∙ c.self.inside.seats.ok.0) c.index_mut-here.ensures.value in
    rw (set_same c.self.inside.seats.items c.args.seat c.index_mut-here.result.now at) c.self.invariant

pub returns-then-is_call : goal.returns-then-is_call
returns-then-is_call g c = record {
  lawful = invariant_of-self g c;
  ok = let at = found_at c.self.inside.seats.items c.args.seat c.index_mut-here.result.now c.if-at-len.false (c.len.ensures ∙ c.self.inside.seats.ok.0) c.index_mut-here.ensures.value in
      rw (← c.self.view_is, set_same c.self.inside.seats.items c.args.seat c.index_mut-here.result.now at) (refl, (c.index_mut-here.result.now, at, sym c.is_call.ensures ∙ c.if-is_call.true));
  err = tt;
}

pub invariant_of-self-in_default : goal.invariant_of-self-in_default
invariant_of-self-in_default g c =
    let at = found_at c.self.inside.seats.items c.args.seat c.index_mut-here.result.now c.if-at-len.false (c.len.ensures ∙ c.self.inside.seats.ok.0) c.index_mut-here.ensures.value in
    rw (set_same c.self.inside.seats.items c.args.seat c.index_mut-here.result.now at) c.self.invariant

pub returns-in_default : goal.returns-in_default
returns-in_default g c = record {
  lawful = invariant_of-self-in_default g c;
  ok = let at = found_at c.self.inside.seats.items c.args.seat c.index_mut-here.result.now c.if-at-len.false (c.len.ensures ∙ c.self.inside.seats.ok.0) c.index_mut-here.ensures.value in
      rw (← c.self.view_is, set_same c.self.inside.seats.items c.args.seat c.index_mut-here.result.now at)
      (refl, record { here = c.index_mut-here.result.now; at = at; idle = sym c.is_call.ensures ∙ c.if-is_call.false; unfit = rw (c.in_default.is, c.mode_of-mode.ensures) at c.start.ensures });
  err = tt;
}

pub returns-clause-ok : goal.returns-clause-ok
returns-clause-ok g c =
    let at = found_at c.self.inside.seats.items c.args.seat c.index_mut-here.result.now c.if-at-len.false (c.len.ensures ∙ c.self.inside.seats.ok.0) c.index_mut-here.ensures.value in
    rw (← c.self.view_is) (record {
      here = c.index_mut-here.result.now;
      at = at;
      idle = sym c.is_call.ensures ∙ c.if-is_call.false;
      fits = rw c.mode_of-mode.ensures at c.in-Some.ensures.1;
      begins = rw (c.place.ensures, rw c.mode_of-mode.ensures at c.in-Some.ensures.0) refl;
    })

pub returns-clause-err : goal.returns-clause-err
returns-clause-err g c = tt

pub invariant_of-self-2 : goal.invariant_of-self-2
invariant_of-self-2 g c = start_keeps (whole_of g.C.Condition.means c.args.self.now) _ (rw (← c.self.view_is) c.self.invariant) c.args.seat c.args.call (returns-clause-ok g c) g.met.C.Condition.has_cells.0 c.requires

pub returns-clause-lawful : goal.returns-clause-lawful
returns-clause-lawful g c = invariant_of-self-2 g c

pub place-requires : goal.place-requires
place-requires g c = g.met.C.Seated.seat_fits

pub mode_of-mode-requires : goal.mode_of-mode-requires
mode_of-mode-requires g c = g.met.C.Seated.held_fits

pub index_mut-here-requires : goal.index_mut-here-requires
index_mut-here-requires g c = rw (← c.len.ensures) c.if-at-len.false

pub start-requires-clause-range : goal.start-requires-clause-range
start-requires-clause-range g c = c.requires

pub start-requires-clause-row : goal.start-requires-clause-row
start-requires-clause-row g c = g.met.C.Condition.has_cells.1
