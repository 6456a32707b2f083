use Rattle.ns_outcomes.proofs.Prelude.{Turn, arith, false, inl, inr, nil_from_length, refl, sym}
use Rattle.ns_outcomes.proofs.Draws.{fewest_first, fewest_longer, fewest_next, not_whole}
use Rattle.ns_outcomes.proofs.drawing.push_word.Goals.{in-Some+then-last-thread+then-not-last+then-last-lt1000000, in-Some+else-last-thread+in_ok-push, else-last-thread-via-then-last-thread+then-not-last+else-last-lt1000000}
use Rattle.ns_outcomes.proofs.drawing.push_word.Goals.{else-last-thread-via-then-last-thread+else-not-last, else-last-thread-via-else-last-thread, in_default}
use Rattle.ns_outcomes.proofs.drawing.push_word.Goals as goal

pub returns-clause-fewest : goal.returns-clause-fewest
returns-clause-fewest c =
    let front = c.pop.new.self.items in
    let word : Turn = record { thread = c.args.thread; whole = false; times = c.match-pop.times } in
    elim c.match-pop.branch [
      | in-Some+then-last-thread+then-not-last+then-last-lt1000000 w ↦ fewest_longer _ front _ w.in-Some.last word w.in-Some.ensures.items (rw w.words-is at c.in_ok-push-2.ensures.items) (sym w.if-last-thread.true) refl w.times-is w.if-last-lt1000000.true
      | in-Some+else-last-thread+in_ok-push w ↦ fewest_next _ front _ w.in-Some.last word w.in-Some.ensures.items (rw (w.words-is, w.in_ok-push.ensures.items) at c.in_ok-push-2.ensures.items) refl w.times-is (λ is.
          elim w.else-last-thread.branch [
            | else-last-thread-via-then-last-thread+then-not-last+else-last-lt1000000 v ↦ inr (let few = is.few in omega (arith, few, v.if-last-lt1000000.false))
            | else-last-thread-via-then-last-thread+else-not-last v ↦ absurd (not_whole _ v.if-not-last.false is.plain)
            | else-last-thread-via-else-last-thread v ↦ inl v.if-last-thread.false
          ])
      | in_default w ↦ let none = w.in_default.ensures.cases.1 in
          λ old. fewest_first _ front word (nil_from_length front (omega (arith, none, c.pop.new.self.ok.0))) (rw w.words-is at c.in_ok-push-2.ensures.items) refl w.times-is
    ]
