use Rattle.std.proofs.Common.{arith, refl, rules, ◌≡◌}
use Rattle.ns_gate.specs.Prelude.{lists_scanned, meets_at, row_in, the, times}
use Rattle.ns_word.proofs.Hands.{free_scanned}
use Rattle.ns_walk_tests.proofs.scans.enter.Goals as goal

pub enter_in_hand-bits-requires : goal.enter_in_hand-bits-requires
enter_in_hand-bits-requires g c = let t = g.C.Condition.means in let s = c.scan-scanned.ensures in let view = the c.scan-scanned.new.seat.me.0 in
    let free : times view.at.seat view.stood ≡ 0 = search rules in
    (omega arith, ((lists_scanned t (row_in view.at.held) view.stood, s.made.turned.carries, free_scanned view.at.seat (meets_at t (row_in view.at.held)) view.stood _ refl free), c.requires.range))
