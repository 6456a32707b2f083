use Rattle.std.proofs.Common.{ap, arith, not, ◌∙◌}
use Rattle.ns_gate.proofs.Prelude.{is_held}
use Rattle.ns_gate.proofs.Endings.{last_packs, ends}
use Rattle.ns_gate.proofs.gate.Gate.close.Goals as goal

pub unpacked-word-requires : goal.unpacked-word-requires
unpacked-word-requires g c = last_packs g.C.Condition.means _ _ _ _ _ _ c.close_with-closed.ensures.values.2 c.word.ensures

pub cells-row-requires : goal.cells-row-requires
cells-row-requires g c =
    let few = g.met.C.Condition.has_cells.1 in
    let wide = c.self.invariant.0 in
    let counted = c.close_with-closed.ensures.counts.0 in (omega (arith, few), (c.close_with-closed.ensures.values.0, omega (arith, wide, counted)))

pub returns : goal.returns
returns g c = ends g.C.Condition.means _ _ _ _ _ _ _ _ c.close_with-closed.ensures.values.2 c.requires.1 c.word.ensures c.cells-row.ensures.0 c.cells-row.ensures.1 (ap not (c.is_held.ensures ∙ ap is_held c.unpacked-word.ensures))
