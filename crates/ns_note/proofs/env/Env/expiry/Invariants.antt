use Rattle.std.proofs.Common.{◌≡◌}
use Rattle.ns_note.proofs.Prelude.{Grows, IsExpiryAt, height}
use Rattle.ns_note.proofs.env.Env.expiry.Given as goal

abbrev pub invariant-loop-next : goal.invariant-loop-next
invariant-loop-next l = Grows l.fn.seat l.seat × (l.seat.mine ≡ l.fn.seat.mine) × IsExpiryAt l.fn.seat.seen l.fn.note.index l.earliest l.next

abbrev pub decreases-loop-next : goal.decreases-loop-next
decreases-loop-next l = height l.next
