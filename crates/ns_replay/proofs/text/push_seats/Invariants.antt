use Rattle.std.proofs.Common.{string_bytes, ◌++◌, ◌≡◌}
use Rattle.ns_replay.proofs.Prelude.{numbers_text, seats_below}
use Rattle.ns_replay.proofs.Texts.{is_any}
use Rattle.ns_replay.proofs.text.push_seats.Given as goal

abbrev pub invariant-loop-seat : goal.invariant-loop-seat
invariant-loop-seat l = record {
  text : string_bytes l.out ≡ string_bytes l.fn.out ++ numbers_text (seats_below l.seat l.seats);
  any : l.any ≡ is_any (seats_below l.seat l.seats);
}
