use Rattle.std.proofs.Common.{drop, map, string_bytes, ◌++◌, ◌≡◌}
use Rattle.ns_replay.proofs.Prelude.{variables_text}
use Rattle.ns_replay.proofs.text.push_variables.Given as goal

abbrev pub invariant-loop-k : goal.invariant-loop-k
invariant-loop-k l = string_bytes l.out ++ variables_text l.cvs l.k (map (λ list. list.items) (drop l.k l.lists)) ≡ string_bytes l.fn.out ++ variables_text l.cvs 0 (map (λ list. list.items) l.lists)
