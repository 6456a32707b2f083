use Rattle.std.proofs.Common.{IfSome, subst, sym, ◌∙◌}
use Rattle.ns_world.proofs.Prelude.{CallInRange, number, whole_of}
use Rattle.ns_world.proofs.Sizes.{world_fits}
use Rattle.ns_world.proofs.Counted.{calls_fit, next_fits}
use Rattle.ns_world.proofs.Turns.{map_ok, turns_idle, turns_on}
use Rattle.ns_world.proofs.world.World.turn.Goals as goal

pub is_busy-requires : goal.is_busy-requires
is_busy-requires g c = world_fits g.row.C (number g.row.N) g.met.C.Condition.has_room g.C.Condition

pub step-requires : goal.step-requires
step-requires g c = world_fits g.row.C (number g.row.N) g.met.C.Condition.has_room g.C.Condition

pub returns-then-is_busy-clause-ok : goal.returns-then-is_busy-clause-ok
returns-then-is_busy-clause-ok g c =
    map_ok c.step.result (λ step made. turns_on _ (whole_of g.C.Condition.means c.args.self.now) (whole_of g.C.Condition.means c.step.new.self) c.args.seat step (sym c.is_busy.ensures ∙ c.if-is_busy.true) made) c.step.ensures.ok

pub first_turn-requires : goal.first_turn-requires
first_turn-requires g c =
    (world_fits g.row.C (number g.row.N) g.met.C.Condition.has_room g.C.Condition, subst (λ next. IfSome next (CallInRange g.row.N)) (sym c.next_call.ensures ∙ c.in-Some.is) (next_fits g.row.N _ c.args.over (calls_fit g.row.N c.args.lists.now c.args.seat c.requires.lists)))

pub returns-in-Some-clause-ok : goal.returns-in-Some-clause-ok
returns-in-Some-clause-ok g c = rw (sym c.next_call.ensures ∙ c.in-Some.is) c.first_turn.ensures.ok

pub returns-in-None-clause-ok : goal.returns-in-None-clause-ok
returns-in-None-clause-ok g c = rw (sym c.next_call.ensures ∙ c.in-None.is) (turns_idle (whole_of g.C.Condition.means c.args.self.now) c.args.seat c.requires.seat (sym c.is_busy.ensures ∙ c.if-is_busy.false))
