use Rattle.std.proofs.Common.{refl, ℕ, ◌≡◌}
use Rattle.ns_word.proofs.Prelude.{Lists, SignalPlace, WakeAndReturn, Waking, Word, number, queues_fit, signal_hand}
use Rattle.ns_word.proofs.hand.change_signaling.Goals as goal

pub returns-in-WakeAndReturn : goal.returns-in-WakeAndReturn
returns-in-WakeAndReturn g c = λ seat. rw c.in-WakeAndReturn.is (rw c.is_held.ensures at c.wake_waiters.ensures.lists)

pub wake_waiters-requires : goal.wake_waiters-requires
wake_waiters-requires g c = (queues_fit g.row.C (number g.row.N) g.met.C.Condition.has_room g.C.Condition, c.requires)

-- a call that has taken nobody leaves the lists as they are
takes_nobody : {C : Type 0} (seat : ℕ) (waking : Waking) (k : ℕ) (place : SignalPlace) (lists : Lists C) → ((last : Word) → place ≡ WakeAndReturn last → ⊥) → lists ≡ signal_hand seat waking k place lists
takes_nobody seat waking k (WakeAndReturn last) lists other = absurd (other last refl)
takes_nobody seat waking k place lists other = refl

pub returns-in_default : goal.returns-in_default
returns-in_default g c = λ seat. takes_nobody seat c.args.waking c.args.k c.args.place c.args.queues.now c.in_default.not-WakeAndReturn

pub is_held-requires : goal.is_held-requires
is_held-requires g c = tt
