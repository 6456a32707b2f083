use Rattle.std.proofs.Common.{flat_map, map, string_bytes, take, ◌++◌, ◌≡◌}
use Rattle.ns_replay.proofs.Prelude.{line_text}
use Rattle.ns_replay.proofs.text.push_lines.Given as goal

abbrev pub invariant-loop-line : goal.invariant-loop-line
invariant-loop-line l = string_bytes l.out ≡ string_bytes l.fn.out ++ flat_map (line_text l.tests (map (λ v. v.items) l.threads)) (take l.line-index l.lines)
