use Rattle.std.proofs.Common.{ap, arith, map, refl, rules, ◌∙◌}
use Rattle.ns_world.proofs.Prelude.{Lists, each_shown, number, shown_of}
use Rattle.ns_world.proofs.Sizes.{world_fits}
use Rattle.ns_world.proofs.States.{shown_fit, wakes_few}
use Rattle.ns_world.proofs.world.World.state.Goals as goal

pub shown_queues-queues-requires : goal.shown_queues-queues-requires
shown_queues-queues-requires g c =
    let fit = shown_fit g.C.Condition.means c.self.inside c.self.invariant in
    (g.met.C.Queueable.parts_fit.queues, (g.met.C.Seated.seat_fits, (search rules, rw c.deref.ensures.value ((λ i seat at. fit.0 i seat at), ((λ i seat at. fit.1 i seat at), (λ i seat at. fit.2 i seat at))))))

pub owed_wakes-requires : goal.owed_wakes-requires
owed_wakes-requires g c = (g.met.C.Seated.seat_fits, rw c.deref-2.ensures.value (wakes_few _ c.self.invariant))

pub all_of-requires : goal.all_of-requires
all_of-requires g c = (g.met.C.Seated.seat_fits, rw c.deref-3.ensures.value c.self.invariant.few)

pub all_of-requires-2 : goal.all_of-requires-2
all_of-requires-2 g c = (g.met.C.Seated.seat_fits, rw c.deref-4.ensures.value c.self.invariant.few)

pub all_of-requires-3 : goal.all_of-requires-3
all_of-requires-3 g c = (g.met.C.Seated.seat_fits, rw c.deref-5.ensures.value c.self.invariant.few)

pub returns : goal.returns
returns g c = record {
  busy = λ seat. rw (← c.self.view_is) (rw c.deref-3.ensures.value at (c.all_of.ensures seat));
  readers = λ seat. rw (← c.self.view_is) (rw c.deref-4.ensures.value at (c.all_of-2.ensures seat));
  writers = λ seat. rw (← c.self.view_is) (rw c.deref-5.ensures.value at (c.all_of-3.ensures seat));
  variables = let queues = c.shown_queues-queues.result in
      let all = each_shown queues.cvs _ _ _ _ c.shown.ensures.orderly.four c.shown-2.ensures.shown c.shown-3.ensures.shown c.shown-4.ensures.shown c.shown-5.ensures.shown in
      rw (← c.self.view_is) (all ∙ ap (λ (lists : Lists _). map (map shown_of) lists.cvs) (rw c.deref.ensures.value at c.shown_queues-queues.ensures));
  word = c.word.ensures;
  lock = rw (← c.self.view_is) (c.shown.ensures.shown ∙ ap (λ (lists : Lists _). map shown_of lists.lock) (rw c.deref.ensures.value at c.shown_queues-queues.ensures));
  owed = rw (← c.self.view_is) (rw c.deref-2.ensures.value at c.owed_wakes.ensures);
  lawful = rw (← c.self.view_is) c.self.invariant;
  row = rw (← c.self.view_is) refl;
}

pub shown-requires : goal.shown-requires
shown-requires g c = (g.met.C.Queueable.parts_fit.queues, tt)

pub shown-requires-2 : goal.shown-requires-2
shown-requires-2 g c = (g.met.C.Queueable.parts_fit.queues, omega arith)

pub shown-requires-3 : goal.shown-requires-3
shown-requires-3 g c = (g.met.C.Queueable.parts_fit.queues, omega arith)

pub shown-requires-4 : goal.shown-requires-4
shown-requires-4 g c = (g.met.C.Queueable.parts_fit.queues, omega arith)

pub shown-requires-5 : goal.shown-requires-5
shown-requires-5 g c = (g.met.C.Queueable.parts_fit.queues, omega arith)

pub word-requires : goal.word-requires
word-requires g c = world_fits g.row.C (number g.row.N) g.met.C.Condition.has_room g.C.Condition
