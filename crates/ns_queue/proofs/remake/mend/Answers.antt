use Rattle.std.proofs.Common.{ap, arith, get_or, sym, ◌∙◌}
use Rattle.ns_queue.proofs.Making.{dropped, inner}
use Rattle.ns_queue.proofs.Bases.{places_low, stands_low}
use Rattle.ns_queue.proofs.remake.mend.Goals as goal

pub bounds-heads-seat : goal.bounds-heads-seat
bounds-heads-seat g c = let low = stands_low c.args.seat c.requires.was c.requires.row.below c.requires.stood in omega (arith, low)

pub bounds-heads-before : goal.bounds-heads-before
bounds-heads-before g c = rw c.requires.before_is (places_low c.args.seat c.requires.was c.requires.row c.requires.stood).0

pub bounds-heads-behind : goal.bounds-heads-behind
bounds-heads-behind g c = rw c.requires.next_is (places_low c.args.seat c.requires.was c.requires.row c.requires.stood).1

pub bounds-lasts-first : goal.bounds-lasts-first
bounds-lasts-first g c =
    (inner g.C.Condition.means.same c.args.heads.now c.args.lasts.now c.args.seat c.args.before c.requires.was c.requires.row c.requires.stood c.if-first-seat.false c.requires.before_is c.requires.runs).low

pub remake-requires : goal.remake-requires
remake-requires g c = (
  g.met.C.Queueable.parts_fit.ring,
  rw c.requires.left (dropped g.C.Condition.means.same c.args.heads.now c.args.lasts.now c.args.seat c.args.before c.args.behind c.requires.was c.requires.row c.requires.stood c.if-first-seat.true c.requires.before_is c.requires.next_is c.requires.runs),
)

pub returns-then-heads-behind : goal.returns-then-heads-behind
returns-then-heads-behind g c =
    let i = inner g.C.Condition.means.same c.args.heads.now c.args.lasts.now c.args.seat c.args.before c.requires.was c.requires.row c.requires.stood c.if-first-seat.false c.requires.before_is c.requires.runs in
    rw c.requires.left (i.last (λ e. c.if-heads-behind.true (ap (λ k. get_or c.args.heads.now k 0) c.requires.next_is ∙ e)))

pub returns-else-heads-behind : goal.returns-else-heads-behind
returns-else-heads-behind g c =
    let i = inner g.C.Condition.means.same c.args.heads.now c.args.lasts.now c.args.seat c.args.before c.requires.was c.requires.row c.requires.stood c.if-first-seat.false c.requires.before_is c.requires.runs in
    rw c.requires.left (i.inner (ap (λ k. get_or c.args.heads.now k 0) (sym c.requires.next_is) ∙ c.if-heads-behind.false))
