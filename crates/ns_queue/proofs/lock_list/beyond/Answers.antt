use Rattle.ns_queue.proofs.Prelude.{arith}
use Rattle.ns_queue.proofs.Bases.{places_low, seated_low, standing}
use Rattle.ns_queue.proofs.Running.{next_begins, next_run}
use Rattle.ns_queue.proofs.lock_list.beyond.Goals as goal

pub bounds-heads-next : goal.bounds-heads-next
bounds-heads-next g c = rw c.next-next.ensures.place (places_low c.args.seat c.args.ring.now c.requires.row c.requires.stands).1

pub returns-then-heads-next : goal.returns-then-heads-next
returns-then-heads-next g c =
    let s = standing c.args.seat c.args.ring.now c.requires.stands in
    next_begins g.C.Condition.means.same c.args.heads.now c.args.lasts.now c.args.seat c.next-next.result c.args.ring.now s.w c.requires.row s.is c.requires.runs c.next-next.ensures.place c.if-heads-next.true

pub bounds-lasts-seat : goal.bounds-lasts-seat
bounds-lasts-seat g c = let s = standing c.args.seat c.args.ring.now c.requires.stands in let low = seated_low c.args.seat c.args.ring.now s.w c.requires.row s.is in omega (arith, low)

pub next-requires : goal.next-requires
next-requires g c =
    let s = standing c.args.seat c.args.ring.now c.requires.stands in
    (g.met.C.Queueable.parts_fit.ring, (next_run g.C.Condition.means.same c.args.heads.now c.args.lasts.now c.args.seat c.args.ring.now s.w c.requires.row s.is c.requires.runs).stands)
