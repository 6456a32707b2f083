use Rattle.std.proofs.Common.{codes, flat_map, string_bytes, take, ◌++◌, ◌≡◌}
use Rattle.ns_replay.proofs.Prelude.{cell_text}
use Rattle.ns_replay.proofs.text.push_row.Given as goal

abbrev pub invariant-loop-cell : goal.invariant-loop-cell
invariant-loop-cell l = string_bytes l.out ≡ string_bytes l.fn.out ++ codes "row" ++ flat_map cell_text (take l.cell-index l.row)
