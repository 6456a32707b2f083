use Rattle.std.proofs.Common.{Bool, IsTrue, arith, cond, false, ltb-true, sym, true, ℕ, ◌<◌, ◌↔◌, ◌≡◌, ◌≤◌}
use Rattle.ns_word.proofs.Prelude.{AtLock, AtVariables, Home, Lists, OnTrue, number, queues_fit, stands_at, times, without, ◌∙◌}
use Rattle.ns_word.proofs.hand.leave_self.Goals as goal

-- who stands there stands in the lists
stands_somewhere : {C : Type 0} (lists : Lists C) (home : Home) (seat : ℕ) → stands_at seat home lists ≡ true → 1 ≤ times seat lists
stands_somewhere lists AtLock seat stands = let here = ltb-true 0 _ stands in omega (arith, here)
stands_somewhere lists (AtVariables variables) seat stands = let here = ltb-true 0 _ stands in omega (arith, here)

-- and is taken out of all of them
left_it : {C : Type 0} (lists new : Lists C) (home : Home) (seat : ℕ) (gone : Bool) → stands_at seat home lists ≡ true → (IsTrue gone ↔ (0 < times seat lists)) → OnTrue gone (new ≡ without seat lists) → new ≡ cond (stands_at seat home lists) (without seat lists) lists
left_it lists new home seat true stands stood out = rw stands out
left_it lists new home seat false stands stood out = let bad = stood.1 (omega (arith, stands_somewhere lists home seat stands)) in absurd (cc)

pub returns-then-stands-clause-left : goal.returns-then-stands-clause-left
returns-then-stands-clause-left g c = λ last. left_it c.args.queues.now c.remove.new.self c.args.home c.args.seat c.remove.result (sym c.stands_at-stands.ensures ∙ c.if-stands.true) c.remove.ensures.stood c.remove.ensures.removed

pub stands_at-stands-requires : goal.stands_at-stands-requires
stands_at-stands-requires g c = queues_fit g.row.C (number g.row.N) g.met.C.Condition.has_room g.C.Condition

pub remove-requires : goal.remove-requires
remove-requires g c = queues_fit g.row.C (number g.row.N) g.met.C.Condition.has_room g.C.Condition
