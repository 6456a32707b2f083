use Rattle.std.proofs.Common.{[], refl, ℕ, ◌≡◌}
use Rattle.ns_word.proofs.Prelude.{Cause, InLeaving, Leave, LeavePlace, Lists, Truths, Wait, Word, number, queues_fit, wait_hand}
use Rattle.ns_word.proofs.hand.change_leaving.Goals as goal

-- at no other place does it change the lists
left_there : {C : Type 0} (truths : Truths C) (seat : ℕ) (wait : Wait C) (cause : Cause) (place : LeavePlace) (lists : Lists C) → ((last : Word) → place ≡ Leave last → ⊥) → lists ≡ wait_hand truths seat wait (InLeaving cause place) [] lists
left_there truths seat wait cause (Leave last) lists other = absurd (other last refl)
left_there truths seat wait cause any lists other = refl

pub returns-in-Leave : goal.returns-in-Leave
returns-in-Leave g c = rw c.in-Leave.is (rw c.home.ensures at (c.leave_self.ensures.left c.in-Leave.field-0))

pub returns-in_default : goal.returns-in_default
returns-in_default g c = left_there g.C.Condition.means c.args.seat c.args.wait c.args.cause c.args.place c.args.queues.now c.in_default.not-Leave

pub leave_self-requires : goal.leave_self-requires
leave_self-requires g c = queues_fit g.row.C (number g.row.N) g.met.C.Condition.has_room g.C.Condition
