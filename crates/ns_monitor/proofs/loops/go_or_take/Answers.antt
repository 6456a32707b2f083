use Rattle.std.proofs.Common.{None, ap, false, refl, subst, sym, true, ◌∙◌}
use Rattle.ns_monitor.proofs.Prelude.{CanStep, HasTakenAt, LoadWord, Made, Performed, Saw, TakeQueues, going_act, in_room, taking_for, word_taken}
use Rattle.ns_monitor.proofs.Bounds.{gone_by, gone_itself, gone_then}
use Rattle.ns_monitor.proofs.Standing.{can_go_by, can_load, can_take, decided, goes_alone, goes_by, loads, may_by, misses, misses_taking, saw_held, took}
use Rattle.ns_monitor.proofs.loops.go_or_take.Goals as goal

pub loop-init : goal.loop-init
loop-init g c = (tt, tt, c.requires.packs, gone_itself c.args.seat.now, refl, c.requires.at)

pub exchange_to_go-requires : goal.exchange_to_go-requires
exchange_to_go-requires g c = let t = g.C.Condition.means in let inv = c.loop.invariant in let walk = c.args._walk in let is = c.requires.is in let d = c.requires.decides in
    let may = may_by c.args.going walk c.loop.word c.may_go.result true is c.may_go.ensures c.if-may_go.true in
    let by = subst (λ x. CanStep t None (going_act x c.loop.word) c.loop.seat.me) (sym is) (can_go_by t walk c.loop.word c.loop.seat.me d may.1 (decided t walk c.loop.word true _ c.loop.seat.me d may.1 refl inv.5)) in
    in_room (inv.2, (may.0, by))

pub returns-in-Ok : goal.returns-in-Ok
returns-in-Ok g c = record {
  since = gone_then None _ _ _ c.loop.invariant.3 (gone_by c.in-Ok.ensures.did);
  so = let t = g.C.Condition.means in let inv = c.loop.invariant in let walk = c.args._walk in let is = c.requires.is in let d = c.requires.decides in let now = c.exchange_to_go.new.seat.me in
      let may = (may_by c.args.going walk c.loop.word c.may_go.result true is c.may_go.ensures c.if-may_go.true).1 in
      (goes_alone _ c.loop.word may, goes_by t walk c.loop.word c.loop.seat.me now d may (decided t walk c.loop.word true _ c.loop.seat.me d may refl inv.5) (subst (λ x. Performed t None (going_act x c.loop.word) Made c.loop.seat.me now) is c.in-Ok.ensures.did.by));
}

pub loop-preserved-in-Err : goal.loop-preserved-in-Err
loop-preserved-in-Err g c = let t = g.C.Condition.means in let inv = c.loop.invariant in let walk = c.args._walk in let is = c.requires.is in let d = c.requires.decides in let me = c.loop.seat.me in let now = c.exchange_to_go.new.seat.me in let other = c.in-Err.other in
    let may = (may_by c.args.going walk c.loop.word c.may_go.result true is c.may_go.ensures c.if-may_go.true).1 in
    let did = c.in-Err.ensures.did.by in (
      tt,
      tt,
      c.in-Err.ensures.word,
      gone_then None _ _ _ inv.3 (gone_by c.in-Err.ensures.did),
      saw_held t (going_act c.args.going c.loop.word) other me now did ∙ inv.4,
      misses t walk c.loop.word other me now d may (decided t walk c.loop.word true _ me d may refl inv.5) (subst (λ x. Performed t None (going_act x c.loop.word) (Saw other) me now) is did),
    )

pub load-word-requires : goal.load-word-requires
load-word-requires g c = let t = g.C.Condition.means in let inv = c.loop.invariant in let walk = c.args._walk in let d = c.requires.decides in
    let may = (may_by c.args.going walk c.loop.word c.may_go.result false c.requires.is c.may_go.ensures c.if-may_go.false).1 in
    in_room (can_load t walk c.loop.seat.me d (decided t walk c.loop.word false true c.loop.seat.me d may (sym c.spin.ensures ∙ c.if-spin.true) inv.5))

pub loop-preserved-then-spin : goal.loop-preserved-then-spin
loop-preserved-then-spin g c = let t = g.C.Condition.means in let inv = c.loop.invariant in let walk = c.args._walk in let d = c.requires.decides in let me = c.loop.seat.me in let now = c.load-word.new.self.me in let word = c.load-word.result in
    let may = (may_by c.args.going walk c.loop.word c.may_go.result false c.requires.is c.may_go.ensures c.if-may_go.false).1 in
    let did = c.load-word.ensures.did.by in (
      tt,
      tt,
      c.load-word.ensures.word,
      gone_then None _ _ _ inv.3 (gone_by c.load-word.ensures.did),
      saw_held t LoadWord word me now did ∙ inv.4,
      loads t walk word me now d (decided t walk c.loop.word false true me d may (sym c.spin.ensures ∙ c.if-spin.true) inv.5) did,
    )

pub exchange_to_take-requires : goal.exchange_to_take-requires
exchange_to_take-requires g c = let t = g.C.Condition.means in let inv = c.loop.invariant in let walk = c.args._walk in let is = c.requires.is in let d = c.requires.decides in
    let may = (may_by c.args.going walk c.loop.word c.may_go.result false is c.may_go.ensures c.if-may_go.false).1 in
    let by = subst (λ x. CanStep t None (TakeQueues x c.loop.word) c.loop.seat.me) (ap taking_for (sym is) ∙ sym c.taking-taking.ensures) (can_take t walk c.loop.word c.loop.seat.me d (decided t walk c.loop.word false false c.loop.seat.me d may (sym c.spin.ensures ∙ c.if-spin.false) inv.5)) in
    in_room (inv.2, by)

pub returns-in-Ok-exchange_to_take : goal.returns-in-Ok-exchange_to_take
returns-in-Ok-exchange_to_take g c = record {
  since = gone_then None _ _ _ c.loop.invariant.3 (gone_by c.in-Ok-exchange_to_take.ensures.did);
  so = let t = g.C.Condition.means in let inv = c.loop.invariant in let walk = c.args._walk in let is = c.requires.is in let d = c.requires.decides in let me = c.loop.seat.me in let now = c.exchange_to_take.new.self.me in
      let may = (may_by c.args.going walk c.loop.word c.may_go.result false is c.may_go.ensures c.if-may_go.false).1 in
      let taking = c.taking-taking.ensures ∙ ap taking_for is in
      subst (λ w. HasTakenAt t walk w c.args.seat.now.me now) (sym (c.taken.ensures ∙ ap (λ x. word_taken x c.loop.word) taking))
      (took t walk c.loop.word c.args.seat.now.me me now d inv.2 inv.4 (decided t walk c.loop.word false false me d may (sym c.spin.ensures ∙ c.if-spin.false) inv.5) (subst (λ x. Performed t None (TakeQueues x c.loop.word) Made me now) taking c.in-Ok-exchange_to_take.ensures.did.by));
}

pub loop-preserved : goal.loop-preserved
loop-preserved g c = let t = g.C.Condition.means in let inv = c.loop.invariant in let walk = c.args._walk in let is = c.requires.is in let d = c.requires.decides in let me = c.loop.seat.me in let now = c.exchange_to_take.new.self.me in let other = c.in-Err-exchange_to_take.other in
    let may = (may_by c.args.going walk c.loop.word c.may_go.result false is c.may_go.ensures c.if-may_go.false).1 in
    let taking = c.taking-taking.ensures ∙ ap taking_for is in
    let did = c.in-Err-exchange_to_take.ensures.did.by in (
      tt,
      tt,
      c.in-Err-exchange_to_take.ensures.word,
      gone_then None _ _ _ inv.3 (gone_by c.in-Err-exchange_to_take.ensures.did),
      saw_held t (TakeQueues c.taking-taking.result c.loop.word) other me now did ∙ inv.4,
      misses_taking t walk c.loop.word other me now d (decided t walk c.loop.word false false me d may (sym c.spin.ensures ∙ c.if-spin.false) inv.5) (subst (λ x. Performed t None (TakeQueues x c.loop.word) (Saw other) me now) taking did),
    )
