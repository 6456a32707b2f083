use Rattle.std.proofs.Common.{arith, refl, sym, ◌∙◌}
use Rattle.ns_gate.proofs.Prelude.{TableId}
use Rattle.ns_gate.proofs.Guesses.{may_guess, guess_packs, came_so}
use Rattle.ns_gate.proofs.bound.Bound.exchange_guessing.Goals as goal

pub exchange_saying-found-requires-clause-allows : goal.exchange_saying-found-requires-clause-allows
exchange_saying-found-requires-clause-allows g c = may_guess _ g.met.C.Condition.has_cells.0 g.met.C.Condition.quiet_keeps _ _ _ _ c.args.first c.args.guess c.args.new _ _ (rw (← c.self.view_is) at c.requires.can) c.requires.may c.number-content.ensures c.number.ensures

pub came_to-requires : goal.came_to-requires
came_to-requires g c = guess_packs _ c.args.first _ _ _ _ (rw (← c.self.view_is) at c.requires.can) c.exchange_saying-found.ensures.2

pub exchange_saying-found-requires-clause-of : goal.exchange_saying-found-requires-clause-of
exchange_saying-found-requires-clause-of g c = ◌∙◌ {A = TableId} c.self.invariant.0 (sym c.gate.view_is)

pub exchange_saying-found-requires-clause-word : goal.exchange_saying-found-requires-clause-word
exchange_saying-found-requires-clause-word g c = let wide = c.gate.invariant.0 in omega (arith, wide)

pub returns : goal.returns
returns g c = λ act wants. rw (← c.self.view_is) record {
  word = c.came_to.ensures.word;
  came = record { gate = c.exchange_saying-found.ensures.0; lent = refl; by = came_so _ c.args.first c.args.guess c.args.new _ _ _ _ _ c.number-content.ensures c.requires.may (rw (← c.self.view_is) at c.requires.can) c.came_to.ensures.tried c.exchange_saying-found.ensures.2 act wants };
}
