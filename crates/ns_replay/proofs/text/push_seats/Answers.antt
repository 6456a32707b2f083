use Rattle.ns_replay.proofs.Prelude.{append-nil, is_in, numbers_text, refl, seat_text, seats_below, string_bytes, sym}
use Rattle.ns_replay.proofs.Texts.{grows, none_below, is_any, numbers_text-below, is_any-below}
use Rattle.ns_replay.proofs.text.push_seats.Goals as goal

pub loop-seat-init : goal.loop-seat-init
loop-seat-init c = rw (none_below c.args.seats) (record { text = sym (append-nil _); any = refl })

pub loop-seat-preserved : goal.loop-seat-preserved
loop-seat-preserved c =
    let seat = c.loop-seat.seat in
    let seats = c.args.seats in
    let before = c.loop-seat.invariant in
    record {
      text = rw (numbers_text-below seats seat)
          (grows (string_bytes c.args.out.now) (string_bytes c.loop-seat.out) (string_bytes c.push_seat.new.out) (numbers_text (seats_below seat seats)) (seat_text (is_any (seats_below seat seats)) (is_in seats seat) seat)
          before.text (rw (← before.any) c.in_ok-any.ensures.text));
      any = rw (is_any-below seats seat, ← before.any) c.in_ok-any.ensures.any;
    }
