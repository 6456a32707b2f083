use Rattle.std.proofs.Common.{false, length, ◌≡◌, ◌≤◌}
use Rattle.ns_replay.proofs.Prelude.{Consumes, Counts}
use Rattle.ns_replay.proofs.transfer.collect_bytes.Given as goal

abbrev pub invariant-loop : goal.invariant-loop
invariant-loop g l = record {
  gave : Consumes (g.S.Source.to_come l.fn.source) (g.S.Source.to_come l.source) l.bytes.items;
  fine : g.S.Source.has_failed l.source ≡ false;
  few : length l.bytes.items ≤ 1048576;
  count : Counts (g.S.Source.asked l.fn.source) (g.S.Source.asked l.source) l.counter;
  goes_on : Counts (g.S.Source.ends l.fn.source) (g.S.Source.ends l.source) 0;
}
