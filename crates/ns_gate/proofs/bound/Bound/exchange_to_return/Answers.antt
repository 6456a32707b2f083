use Rattle.std.proofs.Common.{List, arith, refl, ℕ, ◌∙◌}
use Rattle.ns_gate.proofs.Prelude.{Changed, GateView, IsExchange, Lists, PutsBack, Released, Returning, Truths, Waited, Word, act_returning, word_returning}
use Rattle.ns_gate.proofs.Bounds.{come_by}
use Rattle.ns_gate.proofs.Findings.{returned_so}
use Rattle.ns_gate.proofs.bound.Bound.exchange_to_return.Goals as goal

-- the act with which the queues are put back so is an exchange
puts_back : {C : Type 0} {N : ℕ} (truths : Truths C) (returning : Returning C) (last new : Word) (view : GateView C N) (slots : List (ℕ × Lists C)) → PutsBack truths returning last new view slots → IsExchange truths (act_returning returning last) last new view slots
puts_back truths (Changed change) last new view slots p = (refl, p)
puts_back truths (Released releasing) last new view slots p = (refl, p)
puts_back truths (Waited wait again) last new view slots p = (refl, p)

pub exchange-requires : goal.exchange-requires
exchange-requires g c = let returning = c.args.returning in let last = c.args.last in let hand = c.requires.hand in
    let new = c.word.ensures ∙ (λ i. word_returning returning (hand.some i) (hand.bits i) last) in
    (omega arith, (c.requires.last, record { act = act_returning returning last; can = c.requires.can; exchanges = puts_back g.C.Condition.means returning last _ _ _ (record { carries = hand.carries; word = new }) }))

pub returns : goal.returns
returns g c = let tried = c.exchange.ensures (act_returning c.args.returning c.args.last) c.requires.can in record { word = tried.word; did = come_by _ _ tried.did (returned_so _ c.args.returning c.args.last _ _ _) }
