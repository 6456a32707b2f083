use Rattle.std.proofs.Common.{Some, ap, inl, inr, refl, slice_get, slice_set, subst, ◌∙◌, ◌≡◌, ◌≤◌}
use Rattle.ns_world.proofs.Prelude.{LooksByLimits, LooksByRound, OnNotes, Seat, SeatMakes, Step, Whole, WholeStep, asking_of, doing_after, err_from_is_err_and, is_call, kept, operating_of, set_same, step_of, tests_after, walk_of, whole_of}
use Rattle.ns_world.proofs.Laws.{step_keeps}
use Rattle.ns_world.proofs.Mapped.{found_at}
use Rattle.ns_world.proofs.Tells.{act_here, ask_here, few_there, may_go_on, no_look_here, operates_fit, refused_here, stands_here}
use Rattle.ns_world.proofs.world.World.step.Given.{Over}
use Rattle.ns_world.proofs.world.World.step.Goals.{After-index_mut-here}
use Rattle.ns_world.proofs.world.World.step.Goals as goal

-- the seat that steps
at_here : (g : Over) (c : After-index_mut-here g) → slice_get c.self.inside.seats.items c.args.seat ≡ Some c.index_mut-here.result.now
at_here g c = found_at c.self.inside.seats.items c.args.seat c.index_mut-here.result.now c.if-at-len.false (c.len.ensures ∙ c.self.inside.seats.ok.0) c.index_mut-here.ensures.value

abbrev whole : (g : Over) → After-index_mut-here g → Whole g.row.C.Denot g.row.N
whole g c = whole_of g.C.Condition.means (kept c.self.inside.lock c.self.inside.env c.self.inside.seats.items c.self.inside.objects)

-- what it makes, the world makes
moves : (g : Over) (c : After-index_mut-here g) (new : Whole g.row.C.Denot g.row.N) (next : Seat g.row.C.Denot g.row.N) (step : Step) → new.seats ≡ slice_set c.self.inside.seats.items c.args.seat next → SeatMakes (whole g c) new c.index_mut-here.result.now next step → WholeStep (whole g c) new c.args.seat step
moves g c new next step seats makes = inr (record { here = c.index_mut-here.result.now; next = next; at = at_here g c; seats = seats; makes = makes })

pub returns-then-at-len-clause-err : goal.returns-then-at-len-clause-err
returns-then-at-len-clause-err g c = rw (← c.self.view_is) (refl, subst (λ n. n ≤ c.args.seat) (c.len.ensures ∙ c.self.inside.seats.ok.0) c.if-at-len.true)

-- ---- no step

pub invariant_of-self : goal.invariant_of-self
invariant_of-self g c =
    rw (set_same c.self.inside.seats.items c.args.seat c.index_mut-here.result.now (at_here g (goal.at.invariant_of-self g c).After-index_mut-here)) c.self.invariant

pub returns-in-AtRest-clause-lawful : goal.returns-in-AtRest-clause-lawful
returns-in-AtRest-clause-lawful g c = invariant_of-self g c

pub returns-in-AtRest-clause-ok : goal.returns-in-AtRest-clause-ok
returns-in-AtRest-clause-ok g c =
    rw (← c.self.view_is, set_same c.self.inside.seats.items c.args.seat c.index_mut-here.result.now (at_here g (goal.at.returns-in-AtRest-clause-ok g c).After-index_mut-here)) (inl (refl, refl, (c.index_mut-here.result.now, at_here g (goal.at.returns-in-AtRest-clause-ok g c).After-index_mut-here, ap is_call c.in-AtRest.is)))

-- ---- a call on the clock and the notes

pub ask-requires : goal.ask-requires
ask-requires g c = (
  g.met.C.Seated.seat_fits,
  (stands_here _ c.self.invariant c.args.seat c.index_mut-here.result.now (at_here g (goal.at.ask-requires g c).After-index_mut-here) (OnNotes c.in-OnNotes.walk) c.in-OnNotes.is, ask_here _ c.self.invariant c.args.seat c.index_mut-here.result.now (at_here g (goal.at.ask-requires g c).After-index_mut-here) c.in-OnNotes.walk (ap asking_of c.in-OnNotes.is)),
)

pub returns-in-OnNotes-clause-ok : goal.returns-in-OnNotes-clause-ok
returns-in-OnNotes-clause-ok g c =
    rw (← c.self.view_is) (moves g (goal.at.returns-in-OnNotes-clause-ok g c).After-index_mut-here _ c.ask.new.seat _ refl (inr (inr (inr (inl (record { walk = c.in-OnNotes.walk; stands = c.in-OnNotes.is; asks = c.ask.ensures; same = refl }))))))

pub invariant_of-self-in-OnNotes : goal.invariant_of-self-in-OnNotes
invariant_of-self-in-OnNotes g c = step_keeps (whole_of g.C.Condition.means c.args.self.now) _ (rw (← c.self.view_is) c.self.invariant) c.args.seat g.met.C.Condition.has_cells.0 g.met.C.Condition.quiet_keeps c.ask.result (returns-in-OnNotes-clause-ok g c)

pub returns-in-OnNotes-clause-lawful : goal.returns-in-OnNotes-clause-lawful
returns-in-OnNotes-clause-lawful g c = invariant_of-self-in-OnNotes g c

-- ---- a call on counters and once cells

pub step_objects-requires : goal.step_objects-requires
step_objects-requires g c = (
  g.met.C.Seated.seat_fits,
  (g.met.C.Condition.has_cells.1, (operates_fit _ c.self.invariant c.args.seat c.index_mut-here.result.now (at_here g (goal.at.step_objects-requires g c).After-index_mut-here) c.in-OnObjects.walk (ap operating_of c.in-OnObjects.is), may_go_on _ c.self.invariant c.args.seat c.index_mut-here.result.now (at_here g (goal.at.step_objects-requires g c).After-index_mut-here) c.in-OnObjects.walk c.in-OnObjects.is)),
)

pub returns-in-OnObjects-clause-ok : goal.returns-in-OnObjects-clause-ok
returns-in-OnObjects-clause-ok g c =
    rw (← c.self.view_is) (moves g (goal.at.returns-in-OnObjects-clause-ok g c).After-index_mut-here _ c.step_objects.new.seat _ refl (let made = c.step_objects.ensures in inr (inr (inr (inr (record { walk = c.in-OnObjects.walk; stands = c.in-OnObjects.is; leads = made.0; operates = made.1; goes = made.2; same = refl }))))))

pub invariant_of-self-in-OnObjects : goal.invariant_of-self-in-OnObjects
invariant_of-self-in-OnObjects g c = step_keeps (whole_of g.C.Condition.means c.args.self.now) _ (rw (← c.self.view_is) c.self.invariant) c.args.seat g.met.C.Condition.has_cells.0 g.met.C.Condition.quiet_keeps c.step_objects.result (returns-in-OnObjects-clause-ok g c)

pub returns-in-OnObjects-clause-lawful : goal.returns-in-OnObjects-clause-lawful
returns-in-OnObjects-clause-lawful g c = invariant_of-self-in-OnObjects g c

-- ---- a look at the clock and the notes

pub look-requires : goal.look-requires
look-requires g c = (
  g.met.C.Seated.seat_fits,
  (
    (stands_here _ c.self.invariant c.args.seat c.index_mut-here.result.now (at_here g (goal.at.look-requires g c).After-index_mut-here) (LooksByLimits c.in-LooksByLimits.walk c.in-LooksByLimits.place) c.in-LooksByLimits.is).1,
    ask_here _ c.self.invariant c.args.seat c.index_mut-here.result.now (at_here g (goal.at.look-requires g c).After-index_mut-here) c.in-LooksByLimits.place (ap asking_of c.in-LooksByLimits.is),
  ),
)

pub returns-in-LooksByLimits-clause-ok : goal.returns-in-LooksByLimits-clause-ok
returns-in-LooksByLimits-clause-ok g c =
    rw (← c.self.view_is) (moves g (goal.at.returns-in-LooksByLimits-clause-ok g c).After-index_mut-here _ c.look.new.seat _ refl (inr (inl (record { walk = c.in-LooksByLimits.walk; place = c.in-LooksByLimits.place; stands = c.in-LooksByLimits.is; looks = c.look.ensures; same = refl }))))

pub invariant_of-self-in-LooksByLimits : goal.invariant_of-self-in-LooksByLimits
invariant_of-self-in-LooksByLimits g c = step_keeps (whole_of g.C.Condition.means c.args.self.now) _ (rw (← c.self.view_is) c.self.invariant) c.args.seat g.met.C.Condition.has_cells.0 g.met.C.Condition.quiet_keeps c.look.result (returns-in-LooksByLimits-clause-ok g c)

pub returns-in-LooksByLimits-clause-lawful : goal.returns-in-LooksByLimits-clause-lawful
returns-in-LooksByLimits-clause-lawful g c = invariant_of-self-in-LooksByLimits g c

-- ---- a look by a round

pub operate-next-requires : goal.operate-next-requires
operate-next-requires g c =
    operates_fit _ c.self.invariant c.args.seat c.index_mut-here.result.now (at_here g (goal.at.operate-next-requires g c).After-index_mut-here) c.in-LooksByRound.round (ap operating_of c.in-LooksByRound.is)

pub go_round-requires : goal.go_round-requires
go_round-requires g c =
    (g.met.C.Seated.seat_fits, (stands_here _ c.self.invariant c.args.seat c.index_mut-here.result.now (at_here g (goal.at.go_round-requires g c).After-index_mut-here) (LooksByRound c.in-LooksByRound.walk c.in-LooksByRound.wait c.in-LooksByRound.round) c.in-LooksByRound.is).0.there.0)

pub returns-in-LooksByRound-clause-ok : goal.returns-in-LooksByRound-clause-ok
returns-in-LooksByRound-clause-ok g c =
    rw (← c.self.view_is) (moves g (goal.at.returns-in-LooksByRound-clause-ok g c).After-index_mut-here _ c.go_round.new.seat _ refl (inr (inr (inl (record { walk = c.in-LooksByRound.walk; wait = c.in-LooksByRound.wait; round = c.in-LooksByRound.round; stands = c.in-LooksByRound.is; leads = c.operate-next.result; operates = c.operate-next.ensures c.index_mut-here.result.now.number; goes = c.go_round.ensures; same = refl })))))

pub invariant_of-self-in-LooksByRound : goal.invariant_of-self-in-LooksByRound
invariant_of-self-in-LooksByRound g c = step_keeps (whole_of g.C.Condition.means c.args.self.now) _ (rw (← c.self.view_is) c.self.invariant) c.args.seat g.met.C.Condition.has_cells.0 g.met.C.Condition.quiet_keeps c.go_round.result (returns-in-LooksByRound-clause-ok g c)

pub returns-in-LooksByRound-clause-lawful : goal.returns-in-LooksByRound-clause-lawful
returns-in-LooksByRound-clause-lawful g c = invariant_of-self-in-LooksByRound g c

-- ---- a step on the lock

pub make-requires : goal.make-requires
make-requires g c =
    let act = act_here _ c.self.invariant c.args.seat c.index_mut-here.result.now (at_here g (goal.at.make-requires g c).After-index_mut-here) c.in-OnLock.walk (ap walk_of c.in-OnLock.is) in
    let no_look = no_look_here _ c.self.invariant c.args.seat c.index_mut-here.result.now (at_here g (goal.at.make-requires g c).After-index_mut-here) c.in-OnLock.walk c.in-OnLock.wait c.in-OnLock.is in
    (g.met.C.Seated.lock_fits, (g.met.C.Seated.seat_fits, (rw c.want.ensures act, rw c.want.ensures no_look)))

pub settle-requires : goal.settle-requires
settle-requires g c =
    (g.met.C.Seated.seat_fits, few_there _ c.self.invariant c.args.seat c.index_mut-here.result.now (at_here g (goal.at.settle-requires g c).After-index_mut-here) c.in-OnLock.walk c.in-OnLock.wait c.in-OnLock.is)

pub returns-in_ok-found-in-OnLock-clause-ok : goal.returns-in_ok-found-in-OnLock-clause-ok
returns-in_ok-found-in-OnLock-clause-ok g c =
    let made = c.in_ok-found-in-OnLock.ensures in let found = c.in_ok-found-in-OnLock.found in
    rw (← c.self.view_is) (moves g (goal.at.returns-in_ok-found-in-OnLock-clause-ok g c).After-index_mut-here _ c.settle.new.seat _ refl (inl (record {
      walk = c.in-OnLock.walk;
      wait = c.in-OnLock.wait;
      stands = c.in-OnLock.is;
      is_no_look = no_look_here _ c.self.invariant c.args.seat c.index_mut-here.result.now (at_here g (goal.at.returns-in_ok-found-in-OnLock-clause-ok g c).After-index_mut-here) c.in-OnLock.walk c.in-OnLock.wait c.in-OnLock.is;
      found = found;
      performs = rw c.settle.ensures.seat record {
        commits = made.commits;
        effect = rw (← c.want.ensures) made.effect;
        goes = λ i. record (made.stays i) { doing = doing_after c.in-OnLock.wait (c.got.ensures i); tests = (c.tests_after-here.ensures ∙ ap (λ (s : Seat _ _). tests_after found s.tests) made.stays) i };
        grows = made.grows;
        answers = c.settle.ensures.step ∙ ap (step_of c.in-OnLock.wait) c.got.ensures;
      };
      same = refl;
    })))

pub invariant_of-self-in-OnLock : goal.invariant_of-self-in-OnLock
invariant_of-self-in-OnLock g c = step_keeps (whole_of g.C.Condition.means c.args.self.now) _ (rw (← c.self.view_is) c.self.invariant) c.args.seat g.met.C.Condition.has_cells.0 g.met.C.Condition.quiet_keeps c.settle.result (returns-in_ok-found-in-OnLock-clause-ok g c)

pub returns-in_ok-found-in-OnLock-clause-lawful : goal.returns-in_ok-found-in-OnLock-clause-lawful
returns-in_ok-found-in-OnLock-clause-lawful g c = invariant_of-self-in-OnLock g c

pub invariant_of-self-in_err-found-in-OnLock : goal.invariant_of-self-in_err-found-in-OnLock
invariant_of-self-in_err-found-in-OnLock g c =
    let err = c.in_err-found-in-OnLock.ensures in
    rw (err.lock, err.history, err.seat, set_same c.self.inside.seats.items c.args.seat c.index_mut-here.result.now (at_here g (goal.at.invariant_of-self-in_err-found-in-OnLock g c).After-index_mut-here)) c.self.invariant

pub returns-in_err-found-in-OnLock-clause-lawful : goal.returns-in_err-found-in-OnLock-clause-lawful
returns-in_err-found-in-OnLock-clause-lawful g c = invariant_of-self-in_err-found-in-OnLock g c

pub returns-in_err-found-in-OnLock-clause-err : goal.returns-in_err-found-in-OnLock-clause-err
returns-in_err-found-in-OnLock-clause-err g c =
    let p = err_from_is_err_and c.from_residual.result c.from_residual.ensures.1 in
    let err = c.in_err-found-in-OnLock.ensures in
    let refused = refused_here _ c.self.invariant c.args.seat c.index_mut-here.result.now (at_here g (goal.at.returns-in_err-found-in-OnLock-clause-err g c).After-index_mut-here) c.in-OnLock.walk (ap walk_of c.in-OnLock.is) (rw c.want.ensures at err.commits) in
    rw (p.1, p.2) (rw (← c.self.view_is) (rw (err.lock, err.history, err.seat, set_same c.self.inside.seats.items c.args.seat c.index_mut-here.result.now (at_here g (goal.at.returns-in_err-found-in-OnLock-clause-err g c).After-index_mut-here)) refl, refused))
