use Rattle.std.proofs.Common.{◌≡◌}
use Rattle.ns_note.proofs.Prelude.{Grows, height}
use Rattle.ns_note.proofs.Looks.{IsLoadedAt}
use Rattle.ns_note.proofs.env.Env.stops.Given as goal

abbrev pub invariant-loop-word : goal.invariant-loop-word
invariant-loop-word l = Grows l.fn.seat l.seat × (l.seat.mine ≡ l.fn.seat.mine) × IsLoadedAt l.fn.seat.seen l.fn.note l.seat.seen l.word

abbrev pub decreases-loop-word : goal.decreases-loop-word
decreases-loop-word l = height l.word.parent
