use Rattle.std.proofs.Common.{[], ap, inl, inr, sym, ◌++◌, ◌∙◌, ◌∷◌}
use Rattle.ns_queue.proofs.Prelude.{Sought, bytes_72, option_copied, reads}
use Rattle.ns_queue.proofs.Asking.{Enters}
use Rattle.ns_queue.proofs.Reading.{look_fits, none_taken, reads_end, reads_few, reads_on, reads_start, writer_taken}
use Rattle.ns_queue.proofs.scan.choose.Goals.{then-not-is_alike, else-not-is_alike}
use Rattle.ns_queue.proofs.scan.choose.Goals as goal

pub returns-in_default : goal.returns-in_default
returns-in_default g c =
    let meets = λ (d : g.row.C.Denot). g.C.Condition.means.holds d c.args.row.now in
    let none = none_taken g.C.Condition.means.same meets c.args.sought.seat c.args.sought.tests c.args.ring.now c.get.ensures.orderly (ap (λ (o : Sought). o.seat) c.requires) (sym c.in_default.ensures.waiter) (ap (λ (o : Sought). o.tests) c.requires) in
    record { woken = c.new-woken.ensures ∙ none.0; tests = none.1; orderly = c.get.ensures.orderly }

pub returns-then-is_write : goal.returns-then-is_write
returns-then-is_write g c =
    let meets = λ (d : g.row.C.Denot). g.C.Condition.means.holds d c.args.row.now in
    let got = c.push.ensures.items ∙ ap (λ vs. vs ++ c.args.sought.seat ∷ []) c.new-woken.ensures in
    let one = writer_taken g.C.Condition.means.same meets (λ d e is. g.met.C.Condition.same_agrees d e c.args.row.now c.told-row is) c.args.sought.seat c.args.sought.tests _ c.args.ring.now c.in-Some.found.now
    c.get.ensures.orderly (ap (λ (o : Sought). o.seat) c.requires) (sym c.in-Some.ensures.waiter) (ap (λ (o : Sought). o.tests) c.requires) (sym c.is_write.ensures ∙ c.if-is_write.true) got in
    record { woken = one.0; tests = one.1; orderly = c.get.ensures.orderly }

pub loop-waiter-init : goal.loop-waiter-init
loop-waiter-init g c =
    let meets = λ (d : g.row.C.Denot). g.C.Condition.means.holds d c.args.row.now in
    let got = c.push.ensures.items ∙ ap (λ vs. vs ++ c.args.sought.seat ∷ []) c.new-woken.ensures in
    reads_start g.C.Condition.means.same meets (λ d e is. g.met.C.Condition.same_agrees d e c.args.row.now c.told-row is) c.args.sought.seat c.args.sought.tests c.next-at.result _ (option_copied c.as_ref-first.result) c.args.ring.now c.in-Some.found.now
    c.get.ensures.orderly (ap (λ (o : Sought). o.seat) c.requires) (sym c.in-Some.ensures.waiter) (ap (λ (o : Sought). o.tests) c.requires) (sym c.is_write.ensures ∙ c.if-is_write.false) got c.as_ref-first.ensures.value c.next-at.ensures.place

pub overflow_add-tests : goal.overflow_add-tests
overflow_add-tests g c =
    let meets = λ (d : g.row.C.Denot). g.C.Condition.means.holds d c.args.row.now in
    let same = g.C.Condition.means.same in
    let low = reads_few same meets (option_copied c.loop-waiter.first) c.loop-waiter.truth c.loop-waiter.at c.loop-waiter.tests c.loop-waiter.woken.items c.args.ring.now c.in-Some-get.waiter.now c.get.ensures.orderly (sym c.in-Some-get.ensures.waiter) c.loop-waiter.invariant in
    look_fits same meets c.loop-waiter.tests c.look_at-seen.result.tests (reads c.in-Some-get.waiter.now) (option_copied c.if-not-is_alike.first) c.if-not-is_alike.truth low.0 c.look_at-seen.ensures.tests

pub push_if-requires : goal.push_if-requires
push_if-requires g c =
    let meets = λ (d : g.row.C.Denot). g.C.Condition.means.holds d c.args.row.now in
    (reads_few g.C.Condition.means.same meets (option_copied c.loop-waiter.first) c.loop-waiter.truth c.loop-waiter.at c.loop-waiter.tests c.loop-waiter.woken.items c.args.ring.now c.in-Some-get.waiter.now c.get.ensures.orderly (sym c.in-Some-get.ensures.waiter) c.loop-waiter.invariant).1

pub loop-waiter-preserved : goal.loop-waiter-preserved
loop-waiter-preserved g c =
    let meets = λ (d : g.row.C.Denot). g.C.Condition.means.holds d c.args.row.now in
    let same = g.C.Condition.means.same in
    let w = c.in-Some-get.waiter.now in
    let enters : Enters same meets w.cond (option_copied c.loop-waiter.first) c.loop-waiter.truth (option_copied c.if-not-is_alike.first) c.if-not-is_alike.truth = elim c.if-not-is_alike.branch [
      | then-not-is_alike u ↦ inr (sym c.is_alike.ensures ∙ u.if-not-is_alike.true, ap option_copied u.first-is ∙ u.as_ref-first-then-not-is_alike.ensures.value, u.truth-is)
      | else-not-is_alike u ↦ inl (sym c.is_alike.ensures ∙ u.if-not-is_alike.false, ap option_copied u.first-is, u.truth-is)
    ] in
    reads_on same meets (λ d e is. g.met.C.Condition.same_agrees d e c.args.row.now c.told-row is) (option_copied c.loop-waiter.first) (option_copied c.if-not-is_alike.first) c.loop-waiter.truth c.if-not-is_alike.truth c.look_at-seen.result.truth
    c.loop-waiter.at c.next-at-in-Some-get.result c.loop-waiter.tests c.look_at-seen.result.tests c.look_at-seen.result.taken c.loop-waiter.woken.items c.push_if.new.woken.items c.args.ring.now w
    c.get.ensures.orderly (sym c.in-Some-get.ensures.waiter) c.next-at-in-Some-get.ensures.place enters c.look_at-seen.ensures.truth c.look_at-seen.ensures.tests c.look_at-seen.ensures.taken c.push_if.ensures c.loop-waiter.invariant

pub returns : goal.returns
returns g c =
    let meets = λ (d : g.row.C.Denot). g.C.Condition.means.holds d c.args.row.now in
    let all = reads_end g.C.Condition.means.same meets (option_copied c.loop-waiter.first) c.loop-waiter.truth c.loop-waiter.at c.loop-waiter.tests c.loop-waiter.woken.items c.args.ring.now (sym c.in_default-get.ensures.waiter) c.loop-waiter.invariant in
    record { woken = all.0; tests = all.1; orderly = c.get.ensures.orderly }

pub new-woken-requires : goal.new-woken-requires
new-woken-requires g c = bytes_72

pub is_write-requires : goal.is_write-requires
is_write-requires g c = tt
