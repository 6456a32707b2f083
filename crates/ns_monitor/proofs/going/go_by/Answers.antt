use Rattle.std.proofs.Common.{None, refl, subst, sym, true, ◌≡◌}
use Rattle.ns_monitor.proofs.Prelude.{CanStep, IsAtPlace, Made, Performed, Saw, going_act, going_at, going_of, in_room, may_go}
use Rattle.ns_monitor.proofs.Bounds.{gone_by, gone_itself}
use Rattle.ns_monitor.proofs.Standing.{can_go_by, decided, goes_alone, goes_by, may_by, misses}
use Rattle.ns_monitor.proofs.going.go_by.Given.{Over}
use Rattle.ns_monitor.proofs.going.go_by.Goals.{After-may_go}
use Rattle.ns_monitor.proofs.going.go_by.Goals as goal

-- the word lets it go
at : (g : Over) (c : After-may_go g) → may_go (going_of c.args._walk) c.args.word ≡ true → IsAtPlace g.C.Condition.means (going_at c.args._walk c.args.word) c.args.seat.now.me
at g c may = decided g.C.Condition.means c.args._walk c.args.word true _ c.args.seat.now.me c.requires.decides may refl c.requires.at

pub returns-then-not-may_go : goal.returns-then-not-may_go
returns-then-not-may_go g c = record {
  since = gone_itself c.args.seat.now;
  so = (c.requires.packs, c.requires.at);
}

pub exchange_to_go-requires : goal.exchange_to_go-requires
exchange_to_go-requires g c = let t = g.C.Condition.means in let walk = c.args._walk in let word = c.args.word in let me = c.args.seat.now.me in let is = c.requires.is in
    let may = may_by c.args.going walk word c.may_go.result true is c.may_go.ensures c.if-not-may_go.false in
    in_room (c.requires.packs, (may.0, subst (λ x. CanStep t None (going_act x word) me) (sym is) (can_go_by t walk word me c.requires.decides may.1 (at g (goal.at.exchange_to_go-requires g c).After-may_go may.1))))

pub returns-in-Ok : goal.returns-in-Ok
returns-in-Ok g c = record {
  since = gone_by c.in-Ok.ensures.did;
  so = let t = g.C.Condition.means in let walk = c.args._walk in let word = c.args.word in let me = c.args.seat.now.me in let now = c.exchange_to_go.new.seat.me in let is = c.requires.is in
      let may = (may_by c.args.going walk word c.may_go.result true is c.may_go.ensures c.if-not-may_go.false).1 in
      (goes_alone _ word may, goes_by t walk word me now c.requires.decides may (at g (goal.at.returns-in-Ok g c).After-may_go may) (subst (λ x. Performed t None (going_act x word) Made me now) is c.in-Ok.ensures.did.by));
}

-- another step came between
pub returns-in-Err : goal.returns-in-Err
returns-in-Err g c = record {
  since = gone_by c.in-Err.ensures.did;
  so = let t = g.C.Condition.means in let walk = c.args._walk in let word = c.args.word in let other = c.in-Err.other in let me = c.args.seat.now.me in let now = c.exchange_to_go.new.seat.me in let is = c.requires.is in
      let may = (may_by c.args.going walk word c.may_go.result true is c.may_go.ensures c.if-not-may_go.false).1 in
      (c.in-Err.ensures.word, misses t walk word other me now c.requires.decides may (at g (goal.at.returns-in-Err g c).After-may_go may) (subst (λ x. Performed t None (going_act x word) (Saw other) me now) is c.in-Err.ensures.did.by));
}
